-- No valid network costs less than the value of supporting prices: each part costs at least its value beyond what its use is worth.
use Rattle.fractions.proofs.Comparisons.{at_most-plus_plus, at_most-ratio, at_most-times_left, at_most-whole}
use Rattle.fractions.proofs.Comparisons.{at_most_from_ratio, at_most_refl, at_most_trans, times-turned}
use Rattle.price_floor.proofs.Words.{All-contains, All-head, All-tail, AllPairs, AllPairs-head, AllPairs-tail}
use Rattle.price_floor.proofs.Words.{AreCaseParts, AreParts, Case, Contains, Contains-cons, IsAtMost, IsInRange}
use Rattle.price_floor.proofs.Words.{IsPartOf, IsValidNetwork, Network, NoNetworkCostsLess, Part, Rational, Side}
use Rattle.price_floor.proofs.Words.{Source, UsesAreOrdered, Utility, all_at, at_most-enumerated, by_four, cases_eq}
use Rattle.price_floor.proofs.Words.{clamps, comes_before, comes_before_source, cost_of, enumerate_from, excess_price}
use Rattle.price_floor.proofs.Words.{false_from_ne_true, heat_price, heat_with, int_sum_from, ints, least_product}
use Rattle.price_floor.proofs.Words.{minus, negsuc, one_denominator, own_side, plus, plus-times, plus-zero, pos}
use Rattle.price_floor.proofs.Words.{price_at, rational_sum_by, rational_sum_by-minus, rational_sum_by-plus}
use Rattle.price_floor.proofs.Words.{rational_sum_by-same, rational_sum_by-swap, rational_sum_by-zero, rational_zero}
use Rattle.price_floor.proofs.Words.{same_Some, same_side, same_side-true, same_source, same_source-same}
use Rattle.price_floor.proofs.Words.{same_source-true, side_value, slice_get_within, sum-enumerated, sum-items}
use Rattle.price_floor.proofs.Words.{sum-picked, times, times-minus, times_comm, true≢false, use_worth, used_heat}
use Rattle.price_floor.proofs.Words.{utility_part, value_of, whole, whole-minus, whole-plus, whole-times, worth_of_uses}
use Rattle.price_floor.proofs.Words.{zero-plus, zero-times, ℤ, ◌*ℤ◌, ◌+ℤ◌, ◌-ℤ◌}
use Rattle.std.proofs.Common.{All, Bool, List, Some, [], ap, ap₂, arith, false, get_or, if◌then◌else◌, inl, inr, ne_eqb}
use Rattle.std.proofs.Common.{refl, slice_get, subst, subst₂, suc, sym, true, ℕ, ⊎_elim, ◌+◌, ◌==◌, ◌∙◌, ◌∷◌, ◌≡◌}
use Rattle.stream_case.specs.declared.source.Side.TheVariants as side
use Rattle.stream_case.specs.declared.source.Source.TheVariants as source

-- ---- the least product of a heat that is no whole number

pub least_product-at_most : (c low high : ℤ) (x : Rational) → IsAtMost (whole low) x → IsAtMost x (whole high)
    → IsAtMost (whole (least_product c low high)) (times (whole c) x)
least_product-at_most (pos n) low high x from upto =
    at_most_trans (whole (least_product (pos n) low high)) (whole (pos n *ℤ low)) (times (whole (pos n)) x)
    (at_most-whole (least_product (pos n) low high) (pos n *ℤ low) (omega (arith, ints, clamps)))
    (subst (λ y. IsAtMost y (times (whole (pos n)) x)) (whole-times (pos n) low)
    (at_most-times_left (whole (pos n)) (whole low) x (at_most-whole (pos 0) (pos n) (omega (arith, ints))) from))
least_product-at_most (negsuc n) low high x from upto =
    at_most_trans (whole (least_product (negsuc n) low high)) (whole (negsuc n *ℤ high)) (times (whole (negsuc n)) x)
    (at_most-whole (least_product (negsuc n) low high) (negsuc n *ℤ high) (omega (arith, ints, clamps)))
    (subst₂ IsAtMost (times_comm (whole high) (whole (negsuc n)) ∙ whole-times (negsuc n) high) (times_comm x (whole (negsuc n)))
    (times-turned x (whole high) (whole (negsuc n)) upto (at_most-whole (negsuc n) (pos 0) (omega (arith, ints)))))

-- ---- what is used of the parts lies within their ranges

pub record IsUsedWithin (network : Network) (p : Part) : Type 0 where
  pub least : IsAtMost (whole p.least) (used_heat network p)
  pub most : IsAtMost (used_heat network p) (whole p.most)

pub used-within : (case : Case) (network : Network) (places : List ℤ) (on : Side) (p : Part)
    → IsValidNetwork case network
    → IsPartOf case.streams case.utilities places on p → IsUsedWithin network p
used-within case network places on p valid (inl (i, s, is)) =
    subst (IsUsedWithin network) (sym is.is) (record { least = at_most_refl _; most = at_most_refl _ })
used-within case network places on p valid (inr (i, u, is)) =
    let range : IsInRange u (heat_with network i) = valid.ranges i u is.utility in
    subst (IsUsedWithin network) (sym is.is) (record { least = range.least; most = range.most })

pub uses-within : (case : Case) (network : Network) (places : List ℤ) (on : Side) (parts : List Part)
    → IsValidNetwork case network
    → AreParts case.streams case.utilities places on parts → (a : ℕ) (p : Part) → slice_get parts a ≡ Some p
    → IsUsedWithin network p
uses-within case network places on parts valid are a p at =
    used-within case network places on p valid (all_at (IsPartOf case.streams case.utilities places on) parts a p are.each at)

-- ---- a side costs at least its value beyond what its uses are worth

pub whole-int_sum_from : {X : Type 0} (f : ℕ → X → ℤ) (n : ℕ) (xs : List X)
    → whole (int_sum_from f n xs) ≡ rational_sum_by (λ (p : ℕ × X). whole (f p.0 p.1)) (enumerate_from n xs)
whole-int_sum_from f n [] = refl
whole-int_sum_from f n (x ∷ xs) =
    let next : suc n ≡ n + 1 = omega arith in
    let rest = whole-int_sum_from f (suc n) xs
    ∙ ap (λ k. rational_sum_by (λ p. whole (f p.0 p.1)) (enumerate_from k xs)) next in
    sym (whole-plus (f n x) (int_sum_from f (suc n) xs)) ∙ ap (plus (whole (f n x))) rest

-- what a part is used for costs
abbrev part_cost : Network → Part → Rational
part_cost network p = times (whole p.price) (used_heat network p)

abbrev excess_rational : Side → Rational → Rational → Rational
excess_rational side.Hot = minus
excess_rational side.Cold = plus

pub minus-times : (a b c : Rational) → times (minus a b) c ≡ minus (times a c) (times b c)
minus-times a b c = times_comm (minus a b) c ∙ times-minus c a b ∙ ap₂ minus (times_comm c a) (times_comm c b)

excess-times : (on : Side) (price y : ℤ) (x : Rational)
    → times (whole (excess_price on price y)) x ≡ excess_rational on (times (whole price) x) (times (whole y) x)
excess-times side.Hot price y x =
    ap (λ w. times w x) (sym (whole-minus price y)) ∙ minus-times (whole price) (whole y) x
excess-times side.Cold price y x = ap (λ w. times w x) (sym (whole-plus price y)) ∙ plus-times (whole price) (whole y) x

excess-sum : {X : Type 0} (on : Side) (f g : X → Rational) (xs : List X)
    → rational_sum_by (λ x. excess_rational on (f x) (g x)) xs
    ≡ excess_rational on (rational_sum_by f xs) (rational_sum_by g xs)
excess-sum side.Hot f g xs = rational_sum_by-minus f g xs
excess-sum side.Cold f g xs = rational_sum_by-plus f g xs

side_value-at_most : (network : Network) (on : Side) (parts : List Part) (prices : List ℤ)
    → ((a : ℕ) (p : Part) → slice_get parts a ≡ Some p → IsUsedWithin network p)
    → IsAtMost (whole (side_value on parts prices))
    (excess_rational on (rational_sum_by (part_cost network) parts) (worth_of_uses network prices parts))
unfolding worth_of_uses
side_value-at_most network on parts prices within =
    subst₂ IsAtMost (sym (whole-int_sum_from value 0 parts)) split (at_most-enumerated _ _ parts (λ a p at.
    let used = within a p at in
    least_product-at_most (excess_price_at a p) p.least p.most (used_heat network p) used.least used.most))
  where
    excess_price_at : ℕ → Part → ℤ
    excess_price_at a p = excess_price on p.price (price_at prices a)

    value : ℕ → Part → ℤ
    value a p = least_product (excess_price_at a p) p.least p.most

    split : rational_sum_by (λ (e : ℕ × Part). times (whole (excess_price_at e.0 e.1)) (used_heat network e.1))
        (enumerate_from 0 parts)
        ≡ excess_rational on (rational_sum_by (part_cost network) parts)
        (rational_sum_by (use_worth network prices) (enumerate_from 0 parts))
    split = sum-enumerated _ _ parts (λ a p at. excess-times on p.price (price_at prices a) (used_heat network p))
        ∙ excess-sum on (λ (e : ℕ × Part). part_cost network e.1) (use_worth network prices) (enumerate_from 0 parts)
        ∙ ap (λ c. excess_rational on c (rational_sum_by (use_worth network prices) (enumerate_from 0 parts)))
        (sum-items (λ (e : ℕ × Part). part_cost network e.1) (part_cost network) parts (λ a p at. refl))

-- ---- the cost of a network, part by part

-- the one member that has a number
numbered-one : {X : Type 0} (f : ℕ × X → Rational) (i : ℕ) (xs : List X) (x : X) → slice_get xs i ≡ Some x
    → rational_sum_by (λ e. if i == e.0 then f e else rational_zero) (enumerate_from 0 xs) ≡ f (i, x)
numbered-one {X} f i xs x here =
    sum-enumerated (λ e. if i == e.0 then f e else rational_zero) (λ e. if i == e.0 then f (i, x) else rational_zero) xs same
    ∙ sum-picked i (f (i, x)) xs (slice_get_within xs i x here)
  where
    same : (k : ℕ) (y : X) → slice_get xs k ≡ Some y
        → (if i == k then f (k, y) else rational_zero) ≡ (if i == k then f (i, x) else rational_zero)
    same k y at = ⊎_elim (λ is. ap₂ (λ n z. if i == k then f (n, z) else rational_zero) (sym is)
        (same_Some y x (sym at ∙ ap (slice_get xs) (sym is) ∙ here))) (λ other. rw (ne_eqb i k other) refl) (cases_eq i k)

-- the cost of a utility where it is this source
abbrev own_price : Network → Source → ℕ × Utility → Rational
own_price network a e = if same_source a (source.Utility e.0) then heat_price network e else rational_zero

part_cost-is : (case : Case) (network : Network) (places : List ℤ) (on : Side) (p : Part)
    → IsPartOf case.streams case.utilities places on p
    → part_cost network p ≡ rational_sum_by (own_price network p.source) (enumerate_from 0 case.utilities)
part_cost-is case network places on p (inl (i, s, is)) =
    let us = enumerate_from 0 case.utilities in
    let nothing = rational_sum_by-zero (own_price network (source.Stream i)) us (λ k d inside. refl) in
    subst (λ (q : Part). part_cost network q ≡ rational_sum_by (own_price network q.source) us) (sym is.is)
    (zero-times (whole _) ∙ sym nothing)
part_cost-is case network places on p (inr (i, u, is)) =
    let us = enumerate_from 0 case.utilities in
    subst (λ (q : Part). part_cost network q ≡ rational_sum_by (own_price network q.source) us) (sym is.is)
    (sym (numbered-one (heat_price network) i case.utilities u is.utility))

not_before_itself : (p : Part) → comes_before p p → ⊥
not_before_itself p (inl less) = omega (arith, ints, less)
not_before_itself p (inr (inl same)) = omega (arith, ints)
not_before_itself p (inr (inr same)) = by p.source same.2
  where
    by : (a : Source) → comes_before_source a a → ⊥
    by (source.Stream i) less = omega (arith, less)
    by (source.Utility i) less = omega (arith, less)

-- in a list in order, the one member that passes a test
module _ {X : Type 0} (before : X → X → Type 0) (one_way : (x : X) → before x x → ⊥) (test : X → Bool) (c : Rational) where
  abbrev passed : X → Rational
  passed x = if test x then c else rational_zero

  passed-none : (xs : List X) → All (λ x. test x ≡ false) xs → rational_sum_by passed xs ≡ rational_zero
  passed-none xs none =
      rational_sum_by-zero passed xs (λ k d inside. ap (λ b. if b then c else rational_zero) (none k d inside))

  passed-one : (x : X) (xs : List X) → test x ≡ true → All (λ y. test y ≡ true → y ≡ x) xs
      → AllPairs before xs → Contains xs x → rational_sum_by passed xs ≡ c
  passed-one x [] passes only ordered (k, inside, is) = absurd (omega arith)
  passed-one x (y ∷ xs) passes only ordered found =
      ⊎_elim (λ same. let none : All (λ z. test z ≡ false) xs = λ k d inside.
      false_from_ne_true (test (get_or xs k d)) (λ holds. one_way y (subst (before y) (tail_only k d inside holds ∙ sym same) (later k d inside))) in
      ap₂ plus (ap (λ b. if b then c else rational_zero) (ap test same ∙ passes)) (passed-none xs none)
      ∙ plus-zero c) (λ inside. let other : test y ≡ false =
      false_from_ne_true (test y)
      (λ holds. one_way y (subst (before y) (sym (All-head (λ z. test z ≡ true → z ≡ x) y xs only holds)) (All-contains (before y) xs x later inside))) in
      ap₂ plus (ap (λ b. if b then c else rational_zero) other) (passed-one x xs passes tail_only (AllPairs-tail before y xs ordered) inside)
      ∙ zero-plus c)
      (Contains-cons y xs x found)
    where
      later : All (before y) xs
      later = AllPairs-head before y xs ordered

      tail_only : All (λ z. test z ≡ true → z ≡ x) xs
      tail_only = All-tail (λ z. test z ≡ true → z ≡ x) y xs only

-- a part of utility number i is its part
its_part : (case : Case) (places : List ℤ) (on : Side) (i : ℕ) (u : Utility) (p : Part)
    → slice_get case.utilities i ≡ Some u
    → IsPartOf case.streams case.utilities places on p → same_source p.source (source.Utility i) ≡ true
    → (p ≡ utility_part i u) × (u.side ≡ on)
its_part case places on i u p here (inl (k, s, is)) same =
    let clash : source.Stream k ≡ source.Utility i
    = sym (ap (λ (q : Part). q.source) is.is) ∙ same_source-true p.source (source.Utility i) same in
    absurd (cc clash)
its_part case places on i u p here (inr (k, v, is)) same =
    let both : source.Utility k ≡ source.Utility i
    = sym (ap (λ (q : Part). q.source) is.is) ∙ same_source-true p.source (source.Utility i) same in
    let number : k ≡ i = cc both in
    let one : v ≡ u = same_Some v u (sym is.utility ∙ ap (slice_get case.utilities) number ∙ here) in
    (is.is ∙ (λ j. utility_part (number j) (one j)), sym (ap (λ (w : Utility). w.side) one) ∙ is.side_is)

-- the cost of a utility if it is on the side
abbrev side_price : Network → Side → ℕ × Utility → Rational
side_price network on e = if same_side e.1.side on then heat_price network e else rational_zero

its_cost : (case : Case) (places : List ℤ) (on : Side) (parts : List Part) (i : ℕ) (u : Utility) (c : Rational)
    → AreParts case.streams case.utilities places on parts → slice_get case.utilities i ≡ Some u
    → rational_sum_by (λ (p : Part). if same_source p.source (source.Utility i) then c else rational_zero) parts
    ≡ (if same_side u.side on then c else rational_zero)
its_cost case places on parts i u c are here = by (same_side u.side on) refl
  where
    is_its : Part → Bool
    is_its p = same_source p.source (source.Utility i)

    by : (b : Bool) → same_side u.side on ≡ b
        → rational_sum_by (λ (p : Part). if same_source p.source (source.Utility i) then c else rational_zero) parts
        ≡ (if b then c else rational_zero)
    by true own =
        passed-one comes_before not_before_itself is_its c (utility_part i u) parts (same_source-same (source.Utility i))
        (λ k d inside same. (its_part case places on i u (get_or parts k d) here (are.each k d inside) same).0) are.ordered
        (are.every (utility_part i u) (inr (i, u, record { utility = here; side_is = same_side-true u.side on own; is = refl })))
    by false other =
        passed-none comes_before not_before_itself is_its c parts (λ k d inside. false_from_ne_true (is_its (get_or parts k d)) (λ same.
        let side_is = (its_part case places on i u (get_or parts k d) here (are.each k d inside) same).1 in
        true≢false (sym (own_side on) ∙ ap (λ s. same_side s on) (sym side_is) ∙ other)))

side_cost-is : (case : Case) (network : Network) (places : List ℤ) (on : Side) (parts : List Part)
    → AreParts case.streams case.utilities places on parts
    → rational_sum_by (part_cost network) parts
    ≡ rational_sum_by (side_price network on) (enumerate_from 0 case.utilities)
side_cost-is case network places on parts are =
    let us = enumerate_from 0 case.utilities in
    rational_sum_by-same (part_cost network) (λ (p : Part). rational_sum_by (own_price network p.source) us) parts
    (λ k d inside. part_cost-is case network places on (get_or parts k d) (are.each k d inside))
    ∙ rational_sum_by-swap (λ (p : Part). own_price network p.source) parts us
    ∙ sum-enumerated _ (side_price network on) case.utilities (λ i u at. its_cost case places on parts i u (heat_price network (i, u)) are at)

both_sides : (network : Network) (e : ℕ × Utility)
    → plus (side_price network side.Hot e) (side_price network side.Cold e) ≡ heat_price network e
both_sides network e = by e.1.side
  where
    by : (s : Side)
        → plus (if same_side s side.Hot then heat_price network e else rational_zero)
        (if same_side s side.Cold then heat_price network e else rational_zero)
        ≡ heat_price network e
    by side.Hot = plus-zero (heat_price network e)
    by side.Cold = zero-plus (heat_price network e)

cost-is : (case : Case) (network : Network) (hot cold : List Part) → AreCaseParts case hot cold
    → plus (rational_sum_by (part_cost network) hot) (rational_sum_by (part_cost network) cold) ≡ cost_of case network
unfolding cost_of
cost-is case network hot cold parts =
    let us = enumerate_from 0 case.utilities in
    let hots = side_cost-is case network parts.grid side.Hot hot parts.hot_parts in
    let colds = side_cost-is case network parts.grid side.Cold cold parts.cold_parts in
    ap₂ plus hots colds
    ∙ sym (rational_sum_by-plus (side_price network side.Hot) (side_price network side.Cold) us)
    ∙ rational_sum_by-same (λ e. plus (side_price network side.Hot e) (side_price network side.Cold e)) (heat_price network) us
    (λ k d inside. both_sides network (get_or us k d))

-- ---- the floor

-- what is taken from one sum is at least what is added to the other
less_on_both : (a b w v : Rational) → IsAtMost v w → IsAtMost (plus (minus a w) (plus b v)) (plus a b)
less_on_both = by_four _ (λ n m l k d some h. let x = at_most_from_ratio k l d some h in
    simp one_denominator (at_most-ratio ((n -ℤ l) +ℤ (m +ℤ k)) (n +ℤ m) d some (omega (arith, ints, x))))

pub no_network-costs_less : UsesAreOrdered → NoNetworkCostsLess
no_network-costs_less uses case network hot cold y z complete shape valid parts supporting =
    let hot_uses = uses-within case network parts.grid side.Hot hot valid parts.hot_parts in
    let cold_uses = uses-within case network parts.grid side.Cold cold valid parts.cold_parts in
    let given = side_value-at_most network side.Hot hot y hot_uses in
    let taken = side_value-at_most network side.Cold cold z cold_uses in
    let ordered = uses case network hot cold y z complete shape valid parts supporting in
    let hot_cost = rational_sum_by (part_cost network) hot in
    let cold_cost = rational_sum_by (part_cost network) cold in
    let hot_worth = worth_of_uses network y hot in
    let cold_worth = worth_of_uses network z cold in
    let both = plus (minus hot_cost hot_worth) (plus cold_cost cold_worth) in
    let sides = at_most-plus_plus (whole (side_value side.Hot hot y)) (minus hot_cost hot_worth)
    (whole (side_value side.Cold cold z)) (plus cold_cost cold_worth) given taken in
    at_most_trans (whole (value_of hot cold y z)) both (cost_of case network)
    (subst (λ v. IsAtMost v both) (whole-plus (side_value side.Hot hot y) (side_value side.Cold cold z)) sides)
    (subst (IsAtMost both) (cost-is case network hot cold parts) (less_on_both hot_cost cold_cost hot_worth cold_worth ordered))
