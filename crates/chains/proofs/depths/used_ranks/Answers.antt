-- The ranks of the hot parts and then those of the cold parts are marked.
use Rattle.chains.proofs.DepthLemmas.{overwritten}
use Rattle.chains.proofs.Words.{get_or-replicate, length-replicate, list_any, list_any-append}
use Rattle.std.proofs.Common.{Bool, List, ap, arith, drop, eqb, false, get_or, length, subst, sym, take, ℕ, ◌++◌, ◌<◌, ◌∙◌, ◌≡◌, ◌||◌}
use Rattle.chains.proofs.depths.used_ranks.Goals as goal

pub returns-clause-each : goal.returns-clause-each
returns-clause-each c =
    let n = c.in_ok-used.used.len in
    let start = c.in_ok-used.used.items in
    let hots = c.mark.new.used in
    let both = c.mark-2.new.used in
    let none = c.in_ok-used.ensures.items_if_clones_equal (λ y e. e) in
    let count : length start ≡ n
    = omega (arith, ap length none, length-replicate c.args.ranks false, c.in_ok-used.ensures.len) in
    let hots_in : length hots ≡ n = omega (arith, c.mark.auto.used, c.deref_mut.ensures.len, count) in
    let first = overwritten start hots n count hots_in in
    let both_in : length both ≡ n
    = omega (arith, c.mark-2.auto.used, c.deref_mut-2.ensures.len, ap length first, hots_in) in
    let second = overwritten (take n (hots ++ drop (length hots) start)) both n (ap length first ∙ hots_in) both_in in
    λ k within.
    let k_in : k < length both = subst (λ xs. k < length xs) second within in
    let k_hot : k < length hots = omega (arith, k_in, both_in, hots_in) in
    let stands = λ (ranks : List ℕ). list_any (λ r. eqb r k) ranks in
    let at = λ (used : List Bool). get_or used k false in
    let unmarked = ap at none
    ∙ get_or-replicate c.args.ranks k false false (omega (arith, k_in, both_in, c.in_ok-used.ensures.len)) in
    let of_hot = c.mark.ensures k k_hot
    ∙ ap (λ b. b || stands c.args.hot.now) (ap at c.deref_mut.ensures.value ∙ unmarked) in
    let of_both = c.mark-2.ensures k k_in
    ∙ ap (λ b. b || stands c.args.cold.now) (ap at (c.deref_mut-2.ensures.value ∙ first) ∙ of_hot) in
    ap at second ∙ of_both ∙ sym (list_any-append (λ r. eqb r k) c.args.hot.now c.args.cold.now)
