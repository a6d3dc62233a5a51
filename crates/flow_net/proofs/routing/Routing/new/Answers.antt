use Rattle.flow_net.proofs.StandingLemmas.{Stands-none, Stands-same}
use Rattle.std.proofs.Common.{ap, pos, refl, replicate, ◌∙◌}
use Rattle.flow_net.proofs.routing.Routing.new.Goals as goal

pub returns : goal.returns
returns c =
    Stands-same c.args.problem.now _ _ _ _ _ _ _
    (c.in_ok-vec.ensures.items_if_clones_equal (λ y h. h) ∙ ap (λ n. replicate n (pos 0)) c.len.ensures)
    c.in_ok-from_slice.ensures.items refl (Stands-none c.args.problem.now _ c.requires c.in_ok-residuals_of.ensures)
