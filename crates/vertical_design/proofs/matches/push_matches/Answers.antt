use Rattle.vertical_design.proofs.Words.{Exchange, IsMet, ListsOverlaps, Pair, amounts_in, get_or_default, int_sum_by, match_of, matches_in, scaled, side_flow}
use Rattle.vertical_design.proofs.Words.{take_all, to_z-of_z}
use Rattle.std.proofs.Common.{All, List, [], ap, append_assoc, get_or, map, of_z, pos, rules, subst, subst₂, sym, take, to_z, w64, ℤ, ◌++◌, ◌∙◌, ◌∷◌, ◌≡◌}
use Rattle.vertical_design.proofs.OverlapLists.{pairs_are}
use Rattle.vertical_design.proofs.FlowLimits.{map_more}
use Rattle.vertical_design.proofs.matches.push_matches.Goals.{In_ok-pairs}
use Rattle.vertical_design.proofs.matches.push_matches.Goals as goal

-- the cuts as the code has them
abbrev low_of : In_ok-pairs → ℤ
low_of c = to_z w64 (of_z w64 c.args.low)

abbrev high_of : In_ok-pairs → ℤ
high_of c = to_z w64 (of_z w64 c.args.high)

-- the pairs are those of what the sources of both sides offer and ask for
overlaps : (c : In_ok-pairs) → ListsOverlaps (amounts_in (low_of c) (high_of c) c.args.hot.now c.args.cold.now)
    (amounts_in (low_of c) (high_of c) c.args.cold.now c.args.hot.now) c.in_ok-pairs.pairs.items
overlaps c =
    let hots = c.deref-3.ensures.value ∙ c.in_ok-hot_flows.ensures.flows in
    let hot_side : to_z w64 (of_z w64 c.sum_of.result) ≡ side_flow (low_of c) (high_of c) c.args.hot.now =
    to_z-of_z w64 c.sum_of.result (search rules) ∙ c.sum_of.ensures.sum
    ∙ ap (int_sum_by (λ f. f)) (c.deref.ensures.value ∙ c.in_ok-hot_flows.ensures.flows) in
    let cold_side : to_z w64 (of_z w64 c.sum_of-2.result) ≡ side_flow (low_of c) (high_of c) c.args.cold.now =
    to_z-of_z w64 c.sum_of-2.result (search rules) ∙ c.sum_of-2.ensures.sum
    ∙ ap (int_sum_by (λ f. f)) (c.deref-2.ensures.value ∙ c.in_ok-cold_flows.ensures.flows) in
    subst₂ (λ (xs ys : List ℤ). ListsOverlaps xs ys c.in_ok-pairs.pairs.items) (λ i. scaled (cold_side i) (hots i))
    (λ i. scaled (hot_side i) ((c.deref-4.ensures.value ∙ c.in_ok-cold_flows.ensures.flows) i)) c.in_ok-pairs.ensures

pub match_of-requires-clause-pair : goal.match_of-requires-clause-pair
match_of-requires-clause-pair c =
    let none : Pair = record { first = 0; second = 0; amount = pos 0 } in
    let at = (goal.at.match_of-requires-clause-pair c).In_ok-pairs in
    let each = subst (All (IsMet (low_of at) (high_of at) c.args.hot.now c.args.cold.now))
    (sym c.deref-pair-items.ensures.value) (overlaps at).each in
    each c.loop-pair.pair-index none c.loop-pair-test.true

pub loop-pair-preserved : goal.loop-pair-preserved
loop-pair-preserved c =
    let f = match_of c.args.number (to_z w64 (of_z w64 c.args.low)) (to_z w64 (of_z w64 c.args.high)) c.args.hot.now
    c.args.cold.now in
    let items = c.deref-pair-items.result.now in
    let i = c.loop-pair.pair-index in
    let none : Pair = record { first = 0; second = 0; amount = pos 0 } in
    let p = get_or items i none in
    let before = c.loop-pair.exchanges.items in
    let given = c.args.exchanges.now.items in
    let added : c.push.new.self.items ≡ before ++ c.match_of.result ∷ [] = cc c.in_ok-push.ensures.items in
    let more = map_more f items i p c.loop-pair-test.true (get_or_default items i none p c.loop-pair-test.true) in
    added ∙ ap (λ (e : Exchange). before ++ e ∷ []) c.match_of.ensures
    ∙ ap (λ (es : List Exchange). es ++ f p ∷ []) c.loop-pair.invariant
    ∙ append_assoc given (map f (take i items)) (f p ∷ []) ∙ ap (λ (es : List Exchange). given ++ es) (sym more)

pub returns : goal.returns
unfolding matches_in
returns c =
    let at = (goal.at.returns c).In_ok-pairs in
    let hot = c.args.hot.now in
    let cold = c.args.cold.now in
    let given = c.args.exchanges.now.items in
    let pairs = pairs_are (amounts_in (low_of at) (high_of at) hot cold) (amounts_in (low_of at) (high_of at) cold hot)
    c.in_ok-pairs.pairs.items (overlaps at) in
    c.loop-pair.invariant
    ∙ ap (λ ps. given ++ map (match_of c.args.number (low_of at) (high_of at) hot cold) ps)
    ((take_all c.loop-pair.pair-index c.deref-pair-items.result.now c.loop-pair-test.false)
    ∙ c.deref-pair-items.ensures.value ∙ pairs)
    ∙ (λ i.
    given
    ++ matches_in c.args.number ((to_z-of_z w64 c.args.low (search rules)) i)
    ((to_z-of_z w64 c.args.high (search rules)) i) hot cold)
