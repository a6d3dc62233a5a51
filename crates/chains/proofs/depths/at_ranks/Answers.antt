use Rattle.chains.proofs.Words.{map-append, take_more}
use Rattle.std.proofs.Common.{[], ap, get_or, map, sym, take, ℕ, ◌++◌, ◌∙◌, ◌∷◌}
use Rattle.chains.proofs.depths.at_ranks.Goals as goal

pub loop-rank-preserved : goal.loop-rank-preserved
loop-rank-preserved c =
    let found = λ (rank : ℕ). get_or c.args.above.now rank 0 in
    let ranks = c.args.ranks.now in
    let i = c.loop-rank.rank-index in
    let more = ap (map found) (take_more ranks i 0 c.loop-rank-test.true)
    ∙ map-append found (take i ranks) (get_or ranks i 0 ∷ []) in
    c.in_ok-push.ensures.items ∙ ap (λ xs. xs ++ found (get_or ranks i 0) ∷ []) c.loop-rank.invariant ∙ sym more
