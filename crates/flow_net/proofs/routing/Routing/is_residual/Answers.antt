use Rattle.flow_net.proofs.ResidualLemmas.{no_residual, place-open, place-within}
use Rattle.flow_net.proofs.Words.{Residual, get_or_read, residual_at}
use Rattle.std.proofs.Common.{IsTrue, ap, arith, subst, sym, ◌∙◌}
use Rattle.flow_net.proofs.routing.Routing.is_residual.Goals as goal

pub index-requires : goal.index-requires
index-requires c =
    let p = c.args.problem.now in
    let standing = c.requires.standing in
    let within =
    place-within p.net.now.nodes p.net.now.links p.adjacency standing.problem.adjacency c.args.arc.now c.requires.arc in
    omega (arith, c.place_of.ensures, within, standing.opened.one_each)

pub returns : goal.returns
returns c =
    let p = c.args.problem.now in
    let r = c.args.self.now in
    let a = c.args.arc.now in
    let standing = c.requires.standing in
    let within = place-within p.net.now.nodes p.net.now.links p.adjacency standing.problem.adjacency a c.requires.arc in
    let read = get_or_read r.residuals.items c.place_of.result c.index.result.now
    (omega (arith, c.place_of.ensures, within, standing.opened.one_each)) c.index.ensures no_residual in
    let same = read ∙ ap (residual_at r.residuals.items) c.place_of.ensures in
    let opens =
    place-open p.net.now.nodes p.net.now.links p.adjacency standing.problem.adjacency r.flow.items r.residuals.items
    standing.opened a c.requires.arc in (
      λ h. record { arc = c.requires.arc; residual = opens.0 (subst (λ (w : Residual). IsTrue w.is_open) same h) },
      λ is. subst (λ (w : Residual). IsTrue w.is_open) (sym same) (opens.1 is.residual),
    )
