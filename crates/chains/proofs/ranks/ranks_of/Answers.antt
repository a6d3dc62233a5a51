use Rattle.chains.proofs.Words.{All, All-push, MOST_PLACES, blank, map-append, rank_of, take_more}
use Rattle.std.proofs.Common.{[], ap, ap₂, arith, get_or, map, subst, sym, take, ◌*◌, ◌++◌, ◌+◌, ◌∙◌, ◌∷◌, ◌≤◌}
use Rattle.chains.proofs.ranks.ranks_of.Goals as goal

pub loop-part-preserved : goal.loop-part-preserved
loop-part-preserved c =
    let parts = c.args.parts.now in
    let rank = rank_of c.args.places.now in
    let i = c.loop-part.part-index in
    let ranks = c.loop-part.ranks.items in
    let more = ap (map rank) (take_more parts i blank c.loop-part-test.true)
    ∙ map-append rank (take i parts) (get_or parts i blank ∷ []) in
    let grown = c.in_ok-push.ensures.items in
    record {
      value = grown ∙ (ap₂ (λ xs r. xs ++ r ∷ []) c.loop-part.invariant.value c.rank_of.ensures.value ∙ sym more);
      within = subst (All (λ r. r ≤ 2 * MOST_PLACES + 1)) (sym grown)
          (All-push (λ r. r ≤ 2 * MOST_PLACES + 1) ranks c.rank_of.result c.loop-part.invariant.within
          (let within = c.rank_of.ensures.within in let few = c.requires.few in omega (arith, within, few)));
    }
