-- Beside a valid network no cut stands: its members would have to use more than the parts that meet them can.
use Rattle.fractions.proofs.Comparisons.{at_most_from_minus_turned, at_most_from_same, at_most_trans}
use Rattle.price_floor.proofs.Words.{AllPairs, Any-from_list_any, AreCaseParts, Case, HasShape, IsAtMost, IsComplete}
use Rattle.price_floor.proofs.Words.{IsSupporting, IsValidNetwork, Network, NoCutStands, Part, Rational, Side}
use Rattle.price_floor.proofs.Words.{UsesAreOrdered, at_most-enumerated, both_reach, cases_lt, enumerate_from, eqb-true}
use Rattle.price_floor.proofs.Words.{get_or-map-range_with_len, int_sum_by, ints, left_of, list_any, list_any-from_Any}
use Rattle.price_floor.proofs.Words.{minus, minus-plus, minus-self, minus-zero, option_map_or, pos, price_at}
use Rattle.price_floor.proofs.Words.{range_with_len, rational_sum_by, rational_sum_by-minus, rational_sum_by-same}
use Rattle.price_floor.proofs.Words.{rational_sum_by-whole, rational_sum_by-zero, rational_zero, reach_between}
use Rattle.price_floor.proofs.Words.{slice_get_past, slice_get_within, sum-enumerate, sum-enumerated, sum_over_used}
use Rattle.price_floor.proofs.Words.{times, times-one, times_comm, use_worth, used_heat, whole, whole-minus}
use Rattle.price_floor.proofs.Words.{worth_of_uses, zero-times, ℤ, ◌-ℤ◌, ◌<ℤ◌, ◌≤ℤ◌}
use Rattle.heat_flow.specs.Cuts.{cut_side, joins, least_at, meets, need_of, offer_of, opposite, parts_of}
use Rattle.price_floor.proofs.FloorLemmas.{IsUsedWithin, minus-times, uses-within, whole-int_sum_from}
use Rattle.std.proofs.Common.{All, Bool, List, None, Option, Some, ap, arith, false, get_or, if◌then◌else◌, length, map}
use Rattle.std.proofs.Common.{refl, slice_get, subst, subst₂, sym, true, ℕ, ⊎_elim, ◌<◌, ◌==◌, ◌∙◌, ◌≡◌}
use Rattle.stream_case.specs.declared.source.Side.TheVariants as side

-- ---- prices that are made for each index

abbrev listed : (ℕ → ℤ) → ℕ → List ℤ
listed f n = map f (range_with_len 0 n)

price-listed : (f : ℕ → ℤ) (n a : ℕ) → a < n → price_at (listed f n) a ≡ f a
price-listed f n a within = get_or-map-range_with_len f 0 n a a (pos 0) within (omega arith)

-- what is used of the parts of a side at such prices
abbrev use_at : Network → (ℕ → ℤ) → List Part → Rational
use_at network f parts =
    rational_sum_by (λ (e : ℕ × Part). times (whole (f e.0)) (used_heat network e.1)) (enumerate_from 0 parts)

worth-listed : (network : Network) (f : ℕ → ℤ) (parts : List Part)
    → worth_of_uses network (listed f (length parts)) parts ≡ use_at network f parts
unfolding worth_of_uses
worth-listed network f parts =
    let term = λ (e : ℕ × Part). times (whole (f e.0)) (used_heat network e.1) in
    sum-enumerated (use_worth network (listed f (length parts))) term parts
    (λ i p at. ap (λ c. times (whole c) (used_heat network p)) (price-listed f (length parts) i (slice_get_within parts i p at)))

-- prices below 0
use-turned : (network : Network) (f : ℕ → ℤ) (parts : List Part)
    → use_at network (λ a. pos 0 -ℤ f a) parts ≡ minus rational_zero (use_at network f parts)
use-turned network f parts =
    let es = enumerate_from 0 parts in
    let term = λ (e : ℕ × Part). times (whole (f e.0)) (used_heat network e.1) in
    let below = λ (e : ℕ × Part). times (whole (pos 0 -ℤ f e.0)) (used_heat network e.1) in
    let nothing = λ (e : ℕ × Part). rational_zero in
    rational_sum_by-same below (λ e. minus rational_zero (term e)) es
    (λ k d inside. let e = get_or es k d in turned (f e.0) (used_heat network e.1))
    ∙ rational_sum_by-minus nothing term es
    ∙ ap (λ none. minus none (use_at network f parts)) (rational_sum_by-zero nothing es (λ k d inside. refl))
  where
    turned : (c : ℤ) (x : Rational) → times (whole (pos 0 -ℤ c)) x ≡ minus rational_zero (times (whole c) x)
    turned c x =
        ap (λ w. times w x) (sym (whole-minus (pos 0) c)) ∙ minus-times rational_zero (whole c) x
        ∙ ap (λ none. minus none (times (whole c) x)) (zero-times x)

-- ---- the prices of a cut

abbrev one_if : Bool → ℤ
one_if b = if b then pos 1 else pos 0

one_if-le : (x b : Bool) → (x ≡ true → b ≡ true) → one_if x ≤ℤ one_if b
one_if-le true b h = rw (h refl) (omega (arith, ints))
one_if-le false true h = omega (arith, ints)
one_if-le false false h = omega (arith, ints)

abbrev is_member : List ℕ → ℕ → Bool
is_member members i = list_any (λ k. i == k) members

meets-member : (of : Side) (reach : ℕ → ℕ → Bool) (members : List ℕ) (i j : ℕ) → joins of reach i j ≡ true
    → is_member members i ≡ true
    → meets of reach members j ≡ true
meets-member of reach members i j joined is =
    let (n, k, inside, at, same) = Any-from_list_any (λ k. i == k) members is in
    let joins_there = subst (λ m. joins of reach m j ≡ true) (eqb-true i k same) joined in
    list_any-from_Any (λ k. joins of reach k j) members (n, k, inside, at, joins_there)

reach-within : (case : Case) (hot cold : List Part) (a b : ℕ) → reach_between case hot cold a b ≡ true
    → (a < length hot) × (b < length cold)
reach-within case hot cold a b reached = by (slice_get hot a) (slice_get cold b) refl refl reached
  where
    by : (o q : Option Part) → slice_get hot a ≡ o → slice_get cold b ≡ q → both_reach case o q ≡ true
        → (a < length hot) × (b < length cold)
    by None q one other is = cc is
    by (Some p) None one other is = cc is
    by (Some p) (Some q) one other is = (slice_get_within hot a p one, slice_get_within cold b q other)

module _ (uses : UsesAreOrdered) (case : Case) (network : Network) (hot cold : List Part) (complete : IsComplete case)
    (shape : HasShape case network) (valid : IsValidNetwork case network) (parts : AreCaseParts case hot cold)
    (members : List ℕ) where
  abbrev reach : ℕ → ℕ → Bool
  reach = reach_between case hot cold

  -- 1 at a member, and at a part that meets one
  abbrev own : ℕ → ℤ
  own i = one_if (is_member members i)

  abbrev met : Side → ℕ → ℤ
  met of j = one_if (meets of reach members j)

  -- the members use no more than the parts that meet them
  members-at_most : (of : Side)
      → IsAtMost (use_at network own (parts_of of hot cold)) (use_at network (met of) (parts_of (opposite of) hot cold))
  members-at_most side.Cold =
      let hot_prices = listed (met side.Cold) (length hot) in
      let cold_prices = listed own (length cold) in
      subst₂ IsAtMost (worth-listed network own cold) (worth-listed network (met side.Cold) hot)
      (uses case network hot cold hot_prices cold_prices complete shape valid parts supporting)
    where
      supporting : IsSupporting reach (listed (met side.Cold) (length hot)) (listed own (length cold))
      supporting a b reached =
          let within = reach-within case hot cold a b reached in
          let of_cold = sym (price-listed own (length cold) b within.1) in
          let of_hot = sym (price-listed (met side.Cold) (length hot) a within.0) in
          let met_by = meets-member side.Cold reach members b a reached in
          subst₂ (λ p q. p ≤ℤ q) of_cold of_hot (one_if-le (is_member members b) (meets side.Cold reach members a) met_by)
  members-at_most side.Hot =
      let cold_worth = worth-listed network cold_price cold ∙ use-turned network (met side.Hot) cold in
      let hot_worth = worth-listed network hot_price hot ∙ use-turned network own hot in
      let hot_prices = listed hot_price (length hot) in
      let cold_prices = listed cold_price (length cold) in
      at_most_from_minus_turned (use_at network own hot) (use_at network (met side.Hot) cold) rational_zero
      (subst₂ IsAtMost cold_worth hot_worth
      (uses case network hot cold hot_prices cold_prices complete shape valid parts supporting))
    where
      hot_price : ℕ → ℤ
      hot_price a = pos 0 -ℤ own a

      cold_price : ℕ → ℤ
      cold_price b = pos 0 -ℤ met side.Hot b

      supporting : IsSupporting reach (listed hot_price (length hot)) (listed cold_price (length cold))
      supporting a b reached =
          let within = reach-within case hot cold a b reached in
          let met_by = meets-member side.Hot reach members a b reached in
          let less = one_if-le (is_member members a) (meets side.Hot reach members b) met_by in
          let at_cold = price-listed cold_price (length cold) b within.1 in
          let at_hot = price-listed hot_price (length hot) a within.0 in
          subst₂ (λ p q. p ≤ℤ q) (sym at_cold) (sym at_hot) (omega (arith, ints, less))

  used_of : (of : Side) (a : ℕ) (p : Part) → slice_get (parts_of of hot cold) a ≡ Some p → IsUsedWithin network p
  used_of side.Hot = uses-within case network parts.grid side.Hot hot valid parts.hot_parts
  used_of side.Cold = uses-within case network parts.grid side.Cold cold valid parts.cold_parts

-- ---- the need and the offer

members-within : (parts : List Part) (members : List ℕ) → All (λ i. pos 0 <ℤ least_at parts i) members
    → All (λ i. i < length parts) members
members-within parts members needing k d inside =
    let i = get_or members k d in
    let some = needing k d inside in
    ⊎_elim (λ within. within) (λ past.
    let none : least_at parts i ≡ pos 0 = rw (slice_get_past parts i past) refl in
    absurd (omega (arith, ints, some, none))) (cases_lt i (length parts))

need-at_most : (network : Network) (parts : List Part) (members : List ℕ)
    → ((a : ℕ) (p : Part) → slice_get parts a ≡ Some p → IsUsedWithin network p)
    → AllPairs (λ i j. i < j) members → All (λ i. pos 0 <ℤ least_at parts i) members
    → IsAtMost (whole (need_of parts members)) (use_at network (λ i. one_if (is_member members i)) parts)
need-at_most network parts members used ordered needing =
    subst (λ n. IsAtMost n (use_at network (λ i. one_if (is_member members i)) parts)) (sym need)
    (at_most-enumerated (λ (e : ℕ × Part). taken e.0) _ parts each)
  where
    least : ℕ → Rational
    least i = whole (least_at parts i)

    taken : ℕ → Rational
    taken i = minus (least i) (left_of least members i)

    need : whole (need_of parts members) ≡ rational_sum_by (λ (e : ℕ × Part). taken e.0) (enumerate_from 0 parts)
    need =
        let numbers = range_with_len 0 (length parts) in
        let left = rational_sum_by (left_of least members) numbers in
        let inside = members-within parts members needing in
        let split = sum_over_used least members (length parts) (λ i j d less within same.
        let rises = ordered i j d less within in
        omega (arith, rises, same)) inside in
        sym (rational_sum_by-whole (least_at parts) (int_sum_by (least_at parts)) refl (λ i is. refl) members)
        ∙ sym (minus-plus (rational_sum_by least members) left) ∙ ap (λ all. minus all left) (sym split)
        ∙ sym (rational_sum_by-minus least (left_of least members) numbers)
        ∙ sym (sum-enumerate (λ (e : ℕ × Part). taken e.0) taken parts (λ i p at. refl))

    each : (i : ℕ) (p : Part) → slice_get parts i ≡ Some p
        → IsAtMost (taken i) (times (whole (one_if (is_member members i))) (used_heat network p))
    each i p at = by (is_member members i)
      where
        by : (b : Bool)
            → IsAtMost (minus (least i) (if b then rational_zero else least i)) (times (whole (one_if b)) (used_heat network p))
        by true =
            let own = ap (λ o. whole (option_map_or (λ (q : Part). q.least) o (pos 0))) (sym at) in
            let once = times_comm (whole (pos 1)) (used_heat network p) ∙ times-one (used_heat network p) in
            subst₂ IsAtMost (own ∙ sym (minus-zero (least i))) (sym once) (used i p at).least
        by false = at_most_from_same _ _ (minus-self (least i) ∙ sym (zero-times (used_heat network p)))

offer-at_most : (network : Network) (of : Side) (reach : ℕ → ℕ → Bool) (others : List Part) (members : List ℕ)
    → ((a : ℕ) (p : Part) → slice_get others a ≡ Some p → IsUsedWithin network p)
    → IsAtMost (use_at network (λ j. one_if (meets of reach members j)) others) (whole (offer_of of reach others members))
offer-at_most network of reach others members used =
    subst (IsAtMost (use_at network (λ j. one_if (meets of reach members j)) others)) (sym (whole-int_sum_from offered 0 others))
    (at_most-enumerated _ _ others (λ j p at. each (meets of reach members j) p (used j p at)))
  where
    offered : ℕ → Part → ℤ
    offered j p = if meets of reach members j then p.most else pos 0

    each : (b : Bool) (p : Part) → IsUsedWithin network p
        → IsAtMost (times (whole (one_if b)) (used_heat network p)) (whole (if b then p.most else pos 0))
    each true p within =
        let once = times_comm (whole (pos 1)) (used_heat network p) ∙ times-one (used_heat network p) in
        subst (λ x. IsAtMost x (whole p.most)) (sym once) within.most
    each false p within = at_most_from_same _ _ (zero-times (used_heat network p))

pub no_cut-stands : UsesAreOrdered → NoCutStands
no_cut-stands uses case network hot cold cut complete shape valid parts is_cut =
    let of = cut_side cut.kind in
    let reach = reach_between case hot cold in
    let cut_parts = is_cut.parts in
    let own = use_at network (λ i. one_if (is_member cut.parts i)) (parts_of of hot cold) in
    let met = use_at network (λ j. one_if (meets of reach cut.parts j)) (parts_of (opposite of) hot cold) in
    let used = used_of uses case network hot cold complete shape valid parts cut.parts in
    let need = need-at_most network (parts_of of hot cold) cut.parts (used of) cut_parts.ordered cut_parts.needing in
    let offer = offer-at_most network of reach (parts_of (opposite of) hot cold) cut.parts (used (opposite of)) in
    let between = members-at_most uses case network hot cold complete shape valid parts cut.parts of in
    let bound = at_most_trans _ own _ need (at_most_trans own met _ between offer) in
    omega (arith, ints)
