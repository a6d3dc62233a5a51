-- The network that the pieces of the intervals draw is vertical, and has the targets of the case.
use Rattle.vertical_design.proofs.Words.{AreFacing, Case, Exchange, HasShape, IsLedNetwork, IsVertical, IsVerticalAt, LedPiecesDrawLedNetworks}
use Rattle.vertical_design.proofs.Words.{Network, Rational, Side, Source, Utility, all_at, balance_of, cold_heat-is, cold_target, contribution_of}
use Rattle.vertical_design.proofs.Words.{cost_of, duties_with, duty_with, entry, enumerate_from, excess_of, exchanger_of, exchangers_for}
use Rattle.vertical_design.proofs.Words.{exchangers_of, exit, filter_map, heat_price, heat_with, hot_heat-is, hot_target, ints, minus, minus-self}
use Rattle.vertical_design.proofs.Words.{numbered-item, on_scale, piece_on, plus, plus-zero, rational_sum, rational_sum_by, rational_zero, source_at}
use Rattle.vertical_design.proofs.Words.{source_at-piece, standard_utility, target_balance, times, utility_from, utility_to, whole, whole-plus}
use Rattle.vertical_design.proofs.Words.{whole-times}
use Rattle.std.proofs.Common.{List, Some, [], ap, ap₂, arith, length, pos, slice_get, subst, subst₂, sym, ℕ, ℤ, ⊎_elim, ◌*ℤ◌, ◌*◌, ◌+ℤ◌, ◌+◌, ◌-ℤ◌}
use Rattle.std.proofs.Common.{◌∙◌, ◌∷◌, ◌≡◌, ◌≤◌}
use Rattle.vertical_design.proofs.Exchanges.{IsMatch, are_matches, exchanges, match_faces, piece_of}
use Rattle.vertical_design.proofs.Intervals.{pieces, sources_are}
use Rattle.vertical_design.proofs.CaseAxis.{Axis}
use Rattle.network_audit.specs.AllItems.{heat_on, heats_on}
use Rattle.vertical_design.proofs.UtilityHeats.{heat_total}
use Rattle.vertical_design.proofs.LedPieces.{sources, own_piece}
use Rattle.stream_case.specs.declared.source.Side.TheVariants as side
use Rattle.pieces.specs.Pieces as led

-- ---- the network

module _ (axis : Axis) where
  -- ---- the network is vertical

  -- the source of an exchange on a side
  source_there : (of : Side) (e : Exchange) (m : IsMatch axis e)
      → source_at (sources axis of) (piece_on of e) ≡ (own_piece axis of e m).source
  source_there of e m =
      ap (λ ss. source_at ss (piece_on of e)) (sym (sources_are axis of))
      ∙ source_at-piece (pieces axis of) (piece_on of e) (own_piece axis of e m) (piece_of axis of e m)

  module _ (network : Network)
      (made : exchangers_of network.lines
      ≡ exchangers_for (sources axis side.Hot) (sources axis side.Cold) (exchanges axis)) where
    -- ---- its utilities give and take the targets, so that it has no excess and costs the hot target

    -- what a utility gives or takes in all
    abbrev target_on : Side → ℤ
    target_on of = utility_to of axis.case.streams -ℤ utility_from of axis.case.streams

    heat_is : (index : ℕ) (u : Utility) → slice_get axis.case.utilities index ≡ Some u
        → heat_with network index ≡ whole (target_on u.side)
    unfolding duties_with
    heat_is index u here =
        ap (λ es. rational_sum (filter_map (duty_with index) es))
        (made
        ∙ (λ i.
        exchangers_for (sym (sources_are axis side.Hot) i) (sym (sources_are axis side.Cold) i) (exchanges axis)))
        ∙ heat_total axis index u here

    both_heats : (a b : Utility) → axis.case.utilities ≡ a ∷ b ∷ []
        → (heat_with network 0 ≡ whole (target_on a.side)) × (heat_with network 1 ≡ whole (target_on b.side))
    both_heats a b order =
        let first = ap (λ (us : List Utility). slice_get us 0) order in
        let second = ap (λ (us : List Utility). slice_get us 1) order in
        (heat_is 0 a first, heat_is 1 b second)

    abbrev hot_utility : Utility
    hot_utility = standard_utility side.Hot axis.case

    abbrev cold_utility : Utility
    cold_utility = standard_utility side.Cold axis.case

    -- the heats of a side are those of its utility
    side_heat : (of : Side) → rational_sum (heats_on of axis.case network) ≡ whole (target_on of)
    unfolding heats_on
    side_heat of = ⊎_elim (by of) (turned of) axis.standard.utilities
      where
        heat : Side → List Utility → Rational
        heat on us = rational_sum (filter_map (heat_on on network) (enumerate_from 0 us))

        by : (on : Side) → axis.case.utilities ≡ hot_utility ∷ cold_utility ∷ []
            → heat on axis.case.utilities ≡ whole (target_on on)
        by side.Hot order =
            ap (heat side.Hot) order ∙ plus-zero (heat_with network 0) ∙ (both_heats hot_utility cold_utility order).0
        by side.Cold order =
            ap (heat side.Cold) order ∙ plus-zero (heat_with network 1) ∙ (both_heats hot_utility cold_utility order).1

        turned : (on : Side) → axis.case.utilities ≡ cold_utility ∷ hot_utility ∷ []
            → heat on axis.case.utilities ≡ whole (target_on on)
        turned side.Hot order =
            ap (heat side.Hot) order ∙ plus-zero (heat_with network 1) ∙ (both_heats cold_utility hot_utility order).1
        turned side.Cold order =
            ap (heat side.Cold) order ∙ plus-zero (heat_with network 0) ∙ (both_heats cold_utility hot_utility order).0

    -- the targets of the utilities are those of the case
    hot_is : target_on side.Hot ≡ hot_target axis.case.streams
    hot_is = omega (arith, ints)

    cold_is : target_on side.Cold ≡ cold_target axis.case.streams
    cold_is = omega (arith, ints)

    -- ---- the cost

    -- what two utilities cost, by their prices and heats
    two_prices : (a b : Utility) (x y : ℤ) → axis.case.utilities ≡ a ∷ b ∷ [] → heat_with network 0 ≡ whole x
        → heat_with network 1 ≡ whole y
        → cost_of axis.case network ≡ whole (a.price *ℤ x +ℤ b.price *ℤ y)
    unfolding cost_of
    two_prices a b x y are_two first second =
        let first_price = ap (times (whole a.price)) first ∙ whole-times a.price x in
        let second_price = plus-zero (times (whole b.price) (heat_with network 1)) ∙ ap (times (whole b.price)) second
        ∙ whole-times b.price y in
        ap (λ (us : List Utility). rational_sum_by (heat_price network) (enumerate_from 0 us)) are_two
        ∙ ap₂ plus first_price second_price ∙ whole-plus (a.price *ℤ x) (b.price *ℤ y)

    cost_is : cost_of axis.case network ≡ whole (hot_target axis.case.streams)
    cost_is =
        ⊎_elim (λ order.
        let heats = both_heats hot_utility cold_utility order in
        two_prices hot_utility cold_utility (target_on side.Hot) (target_on side.Cold) order heats.0 heats.1
        ∙ ap whole (one_and_nothing (target_on side.Hot) (target_on side.Cold) ∙ hot_is)) (λ order.
        let heats = both_heats cold_utility hot_utility order in
        two_prices cold_utility hot_utility (target_on side.Cold) (target_on side.Hot) order heats.0 heats.1
        ∙ ap whole (nothing_and_one (target_on side.Cold) (target_on side.Hot) ∙ hot_is))
        axis.standard.utilities
      where
        one_and_nothing : (x y : ℤ) → pos 1 *ℤ x +ℤ pos 0 *ℤ y ≡ x
        one_and_nothing x y = omega (arith, ints)

        nothing_and_one : (x y : ℤ) → pos 0 *ℤ x +ℤ pos 1 *ℤ y ≡ y
        nothing_and_one x y = omega (arith, ints)

    -- ---- the balance

    pub balance-network : HasShape axis.case network → balance_of axis.case network ≡ target_balance axis.case
    balance-network shape =
        let gives = sym (hot_heat-is axis.case network shape) ∙ side_heat side.Hot ∙ ap whole hot_is in
        let takes = sym (cold_heat-is axis.case network shape) ∙ side_heat side.Cold ∙ ap whole cold_is in
        let beyond : excess_of axis.case network ≡ rational_zero
        = ap (λ x. minus x (whole (hot_target axis.case.streams))) gives
        ∙ minus-self (whole (hot_target axis.case.streams)) in
        λ i. record { hot = gives i; cold = takes i; excess = beyond i; cost = cost_is i }

    -- ---- it is vertical

    module _
        (led : IsLedNetwork axis.case (pieces axis side.Hot) (pieces axis side.Cold) (exchanges axis) network) where
      match_vertical : (number : ℕ) (x : Exchange) → slice_get (exchanges axis) number ≡ Some x
          → IsVerticalAt axis.case network led.values number
          (exchanger_of (sources axis side.Hot) (sources axis side.Cold) (number, x))
      match_vertical number x there =
          let m = all_at (IsMatch axis) (exchanges axis) number x (are_matches axis) there in
          let p = own_piece axis side.Hot x m in
          let q = own_piece axis side.Cold x m in
          let hot_runs = led.hot_runs number x p there (piece_of axis side.Hot x m) in
          let cold_runs = led.cold_runs number x q there (piece_of axis side.Cold x m) in
          let hot_shift : Rational → Rational = λ t. on_scale side.Hot t (contribution_of axis.case p.source) in
          let cold_shift : Rational → Rational = λ t. on_scale side.Cold t (contribution_of axis.case q.source) in
          let faces = match_faces axis x m in
          let hot_is = sym (source_there side.Hot x m) in
          let cold_is = sym (source_there side.Cold x m) in
          record {
            hot_end =
                subst₂ (λ a b. AreFacing axis.case.streams a b (entry axis.case network led.values number side.Hot a)
                (exit axis.case network led.values number side.Cold b)) hot_is cold_is
                (subst₂ (AreFacing axis.case.streams p.source q.source) (sym (ap hot_shift hot_runs.enters))
                (sym (ap cold_shift cold_runs.leaves)) faces.hot_end);
            cold_end =
                subst₂ (λ a b. AreFacing axis.case.streams a b (exit axis.case network led.values number side.Hot a)
                (entry axis.case network led.values number side.Cold b)) hot_is cold_is
                (subst₂ (AreFacing axis.case.streams p.source q.source) (sym (ap hot_shift hot_runs.leaves))
                (sym (ap cold_shift cold_runs.enters)) faces.cold_end);
          }

      pub is_vertical : IsVertical axis.case network
      is_vertical = record {
        values = led.values;
        valuation = led.valuation;
        each = λ number e at.
            let declared = ap (λ es. slice_get es number) (sym made) ∙ at in
            let (x, there, is) = numbered-item (exchanger_of (sources axis side.Hot) (sources axis side.Cold)) 0
            (exchanges axis) number e declared in
            let count : 0 + number ≡ number = omega arith in
            let exchanger_is =
            ap (λ n. exchanger_of (sources axis side.Hot) (sources axis side.Cold) (n, x)) (sym count) ∙ is in
            subst (IsVerticalAt axis.case network led.values number) exchanger_is (match_vertical number x there);
      }

-- what leading some pieces gives
pub record IsLed (case : Case) (hot cold : List Source) (es : List Exchange) (network : Network) : Type 0 where
  pub drawn : network ≡ led.network_of case hot cold es
  pub exchangers : exchangers_of network.lines ≡ exchangers_for hot cold es
  pub few_lines : length network.lines ≤ 7 * length es + length case.streams
  pub law : LedPiecesDrawLedNetworks case hot cold es network

-- what holds of three lists holds of three that are the same
pub moved : (P : List Source → List Source → List Exchange → Type 0) {a b x y : List Source} {es fs : List Exchange}
    → a ≡ x → b ≡ y → es ≡ fs → P a b es
    → P x y fs
moved P {a} {b} {x} {y} {es} {fs} p q r is = subst (P x y) r (subst (λ u. P x u es) q (subst (λ u. P u b es) p is))
