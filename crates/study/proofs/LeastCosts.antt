-- A case has one least cost, or no heat flow whatever the price of a utility is, and its least cost over that price.
use Rattle.study.proofs.Words.{*ℤ_comm, Case, CostsWith, HasFlowWith, HasNoFlow, HasNoFlowAt, HoldsOfParts}
use Rattle.study.proofs.Words.{Chord, HoldsOfParts-some, IsBetween, IsChord, IsChordEnd, IsLeastCost, MatchOption, Part}
use Rattle.study.proofs.Words.{RisesFall, case_prices, chord_at, ints, length-map, pos, priced, prices_with}
use Rattle.study.proofs.Words.{reach_between, ℤ, ◌+ℤ◌, ◌-ℤ◌, ◌≤ℤ◌}
use Rattle.std.proofs.Common.{List, None, Option, Some, ap, arith, length, refl, subst, sym, ℕ, ◌<◌, ◌≡◌}
use Rattle.study.proofs.CostLines.{between, none-moves, rises-fall}

module _ (c : Case) (as_priced : List Part → List Part) where
  abbrev pub LeastAs : ℤ → Type 0
  LeastAs cost =
      HoldsOfParts c (λ hot cold. IsLeastCost (reach_between c hot cold) (as_priced hot) (as_priced cold) cost)

  abbrev pub NoFlowAs : Type 0
  NoFlowAs = HoldsOfParts c (λ hot cold. HasNoFlow (reach_between c hot cold) (as_priced hot) (as_priced cold))

  pub one_cost : (cost other : ℤ) → LeastAs cost → LeastAs other → cost ≡ other
  one_cost cost other one two =
      let (hot, cold, parts) = one.some in
      let first = one.each hot cold parts in
      let second = two.each hot cold parts in
      let up = first.least second.transfers second.flow in
      let down = second.least first.transfers first.flow in
      omega (arith, ints, up, down, first.costs, second.costs)

  pub never_both : (cost : ℤ) → LeastAs cost → NoFlowAs → ⊥
  never_both cost one none =
      let (hot, cold, parts) = one.some in
      let first = one.each hot cold parts in
      none.each hot cold parts first.transfers first.flow

  pub one_option : (cost other : Option ℤ) → MatchOption cost NoFlowAs LeastAs
      → MatchOption other NoFlowAs LeastAs → cost ≡ other
  one_option None None one two = refl
  one_option None (Some y) one two = absurd (never_both y two one)
  one_option (Some x) None one two = absurd (never_both x one two)
  one_option (Some x) (Some y) one two = ap Some (one_cost x y one two)

module _ (c : Case) (i : ℕ) (there : i < length c.utilities) where
  utility_there : i < length (case_prices c)
  utility_there = subst (λ n. i < n) (sym (length-map c.utilities (λ u. u.price))) there

  -- no heat flow at one price, none at any
  pub no_flow-moves : (p q : ℤ) → HasNoFlowAt c (prices_with c i p) → HasNoFlowAt c (prices_with c i q)
  no_flow-moves p q none = record {
    some = none.some;
    each =
        λ hot cold parts. none-moves (case_prices c) i utility_there (reach_between c hot cold) hot cold p q (none.each hot cold parts);
  }

  pub has_flow : (p cost : ℤ) → CostsWith c i p cost → HasFlowWith c i
  has_flow p cost least q none = never_both c (priced (prices_with c i p)) cost least (no_flow-moves q p none)

  rises-fall_with : (p first middle last : ℤ) → CostsWith c i p first → CostsWith c i (p +ℤ pos 1) middle
      → CostsWith c i (p +ℤ pos 2) last
      → (last -ℤ middle) ≤ℤ (middle -ℤ first)
  rises-fall_with p first middle last one two three =
      let (hot, cold, parts) = one.some in
      rises-fall (case_prices c) i utility_there (reach_between c hot cold) hot cold p first middle last
      (one.each hot cold parts) (two.each hot cold parts) (three.each hot cold parts)

  -- the least cost is on the chord at each price up to its end
  pub on_chord-between : (chord : Chord) (to end : ℤ) → IsChord c i chord → IsChordEnd c i chord to end → (p : ℤ)
      → IsBetween chord.from end p
      → CostsWith c i p (chord_at chord p)
  on_chord-between chord to end is ends p within =
      let (hot, cold, parts) = is.first.some in
      let turn = λ (r : ℤ). ap (λ z. chord.cost +ℤ z) (*ℤ_comm chord.slope (r -ℤ chord.from)) in
      let costs = λ (r cost : ℤ) (h k : List Part).
      IsLeastCost (reach_between c h k) (priced (prices_with c i r) h) (priced (prices_with c i r) k) cost in
      let first = is.first.each hot cold parts in
      let next = is.next.each hot cold parts in
      let at_end = subst (λ z. costs end z hot cold) (sym (turn end)) (ends.on.each hot cold parts) in
      let least = between (case_prices c) i utility_there
      (reach_between c hot cold) hot cold chord.from end chord.cost chord.slope
      first next at_end p (omega (arith, ints)) within.from within.upto in
      HoldsOfParts-some c (costs p (chord_at chord p)) hot cold parts (subst (λ z. costs p z hot cold) (turn p) least)

pub rises_fall : (c : Case) → RisesFall c
rises_fall c i p first middle last there one two three = rises-fall_with c i there p first middle last one two three
