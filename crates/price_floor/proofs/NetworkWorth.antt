-- The worths of a network are ordered.
use Rattle.price_floor.proofs.Words.{AreEnded, Between, Case, Exchanger, HasDuty, HasShape, IsAtMost, IsBelow}
use Rattle.price_floor.proofs.Words.{IsExchanger, IsOrderedTariff, IsPermitted, IsWholeValuation, KeepApproaches, Level}
use Rattle.price_floor.proofs.Words.{Network, Rational, Side, SideRun, Source, Stream, Tariff, Utility, Valuation, View}
use Rattle.price_floor.proofs.Words.{WorthsAreOrdered, all_at, all_solved, at_most-enumerated, branch_worth, cold_worth}
use Rattle.price_floor.proofs.Words.{comes_below, enumerate_from, exchangers_of, hot_shares_lead, hot_worth, ints}
use Rattle.price_floor.proofs.Words.{is_above, minus, mix_loss, not_negative-rational_sum_by, pass_loss, passes_by_side}
use Rattle.price_floor.proofs.Words.{plus, plus-zero, plus_swap_right, rational_sum_by, rational_sum_by-plus}
use Rattle.price_floor.proofs.Words.{rational_zero, run_on_scale, seen_from, share, share_in, shares_parts, shares_rise}
use Rattle.price_floor.proofs.Words.{shifted_run, side_of, side_taken, sides_taken, stream_loss, subst₂, used_there}
use Rattle.price_floor.proofs.Words.{utility_worth, weight_balance, whole, zero-plus}
use Rattle.std.proofs.Common.{All, AllPairs, Bool, Some, ap, ap₂, arith, false, get_or, if◌then◌else◌, inl, inr, refl}
use Rattle.std.proofs.Common.{slice_get, subst, sym, true, ℕ, ℤ, ◌<ℤ◌, ◌<◌, ◌∙◌, ◌≡◌}
use Rattle.price_floor.proofs.StepLemmas.{AreRising, step_worth-at_most, step_worth-ordered}
use Rattle.fractions.proofs.Comparisons.{Decides-is_below, Decides-is_le, at_most-plus_plus, at_most-plus_right}
use Rattle.fractions.proofs.Comparisons.{at_most-whole, at_most_from_not_negative, at_most_from_same, at_most_refl}
use Rattle.fractions.proofs.Comparisons.{at_most_trans, below-whole, below_at_most_trans, positive-minus}
use Rattle.stream_case.specs.declared.source.Side.TheVariants as side
use Rattle.stream_case.specs.declared.source.Source.TheVariants as source
use Rattle.price_floor.proofs.BranchWorth.{branch_worth-additive, cold_taken, hot_taken, mix_worth, side_worth, worth}

-- ---- the shares of a side

-- where it lies above a place or at it, it lies above a lower place
higher_distance : (at : Rational) (v w : ℤ) → w <ℤ v → IsAtMost rational_zero (minus at (whole v))
    → IsBelow rational_zero (minus at (whole w))
higher_distance at v w lower above =
    let at_least = at_most_from_not_negative (whole v) at above in
    positive-minus (whole w) at (below_at_most_trans (whole w) (whole v) at (below-whole w v lower) at_least)

-- from a lower place a share is no less, whatever of the places counts from itself
share-strictly_lower : (v w : ℤ) (duty : Rational) (run : SideRun) → IsBelow rational_zero duty
    → HasDuty duty run → w <ℤ v
    → IsAtMost (share true duty (seen_from (whole v) run)) (share false duty (seen_from (whole w) run))
share-strictly_lower v w duty (Between size low high) positive has lower =
    let under = at_most-whole w v (omega (arith, ints, lower)) in
    shares_rise.lower false (whole v) (whole w) duty (Between size low high) positive has under
share-strictly_lower v w duty (Level at) positive has lower = by (is_above true (minus at (whole v))) refl
  where
    by : (b : Bool) → is_above true (minus at (whole v)) ≡ b
        → IsAtMost (if b then duty else rational_zero) (share false duty (Level (minus at (whole w))))
    by true above =
        let more = higher_distance at v w lower ((Decides-is_le rational_zero (minus at (whole v))).0 above) in
        let is = (Decides-is_below rational_zero (minus at (whole w))).1 more in
        at_most_from_same _ _ (ap (λ b. if b then duty else rational_zero) (sym is))
    by false other = (shares_parts false (whole w) duty (Level at) positive tt).least

share-itself_least : (from_itself : Bool) (duty : Rational) (run : SideRun) → IsBelow rational_zero duty
    → IsAtMost (share from_itself duty run) (share true duty run)
share-itself_least true duty run positive = at_most_refl (share true duty run)
share-itself_least false duty run positive = shares_rise.itself duty run positive

share-above_least : (from_itself : Bool) (duty : Rational) (run : SideRun) → IsBelow rational_zero duty
    → IsAtMost (share false duty run) (share from_itself duty run)
share-above_least true duty run positive = shares_rise.itself duty run positive
share-above_least false duty run positive = at_most_refl (share false duty run)

-- shares are no less in views that see more
shares_rising : (duty : Rational) (run : SideRun) → IsBelow rational_zero duty → HasDuty duty run
    → AreRising (λ v. share_in v duty run)
shares_rising duty run positive has v w (inl lower) =
    let upto_itself = share-itself_least v.from_itself duty (seen_from (whole v.place) run) positive in
    let less = share-strictly_lower v.place w.place duty run positive has lower in
    let from_above = share-above_least w.from_itself duty (seen_from (whole w.place) run) positive in
    at_most_trans _ _ _ upto_itself (at_most_trans _ _ _ less from_above)
shares_rising duty run positive has v w (inr (same, above, itself)) =
    let from_above = ap (λ b. share b duty (seen_from (whole v.place) run)) (sym above) in
    let from_itself = ap₂ (λ b place. share b duty (seen_from (whole place) run)) (sym itself) (sym same) in
    subst₂ IsAtMost from_above from_itself (shares_rise.itself duty (seen_from (whole v.place) run) positive)

-- ---- the exchangers

module _ (case : Case) (network : Network) (values : Valuation) (tariff : Tariff)
    (shape : HasShape case network) (whole_values : IsWholeValuation case network values) where
  abbrev sold : Side → ℕ → Rational → Source → Rational
  sold = side_worth case tariff shape whole_values

  abbrev lost : ℕ → Source → Rational
  lost = side_taken (worth case tariff shape whole_values) network

  abbrev bought : Side → ℕ → Rational → Source → Rational
  bought on number = utility_worth (shifted_run on case network values number) tariff on

  -- what a hot stream loses of its worth, or a hot utility gives
  hot_given : (number : ℕ) (e : Exchanger) → slice_get (exchangers_of network.lines) number ≡ Some e
      → (s : Source) → e.hot ≡ s
      → side_of case s ≡ Some side.Hot
      → plus (lost number s) (bought side.Hot number e.duty s) ≡ sold side.Hot number e.duty s
  hot_given number e at (source.Stream i) is on =
      plus-zero (lost number (source.Stream i))
      ∙ hot_taken case tariff shape whole_values number i e at is on
  hot_given number e at (source.Utility i) is on = zero-plus (sold side.Hot number e.duty (source.Utility i))

  -- what a cold utility takes, and what a cold stream gains
  cold_given : (number : ℕ) (e : Exchanger) → slice_get (exchangers_of network.lines) number ≡ Some e
      → (s : Source) → e.cold ≡ s
      → side_of case s ≡ Some side.Cold
      → bought side.Cold number e.duty s ≡ plus (sold side.Cold number e.duty s) (lost number s)
  cold_given number e at (source.Stream i) is on =
      sym (cold_taken case tariff shape whole_values number i e at is on)
  cold_given number e at (source.Utility i) is on = sym (plus-zero (sold side.Cold number e.duty (source.Utility i)))

  module _ (apart : KeepApproaches case network values) (permitted : All (IsPermitted case) (exchangers_of network.lines))
      (pairs : AllPairs comes_below tariff.views) (ordered : IsOrderedTariff case tariff) where
    -- the cold side is worth no more than the hot one
    sides_ordered : (number : ℕ) (e : Exchanger) → slice_get (exchangers_of network.lines) number ≡ Some e
        → IsAtMost (sold side.Cold number e.duty e.cold) (sold side.Hot number e.duty e.hot)
    sides_ordered number e at =
        let runs = run_on_scale shape whole_values number e at in
        let hot = shifted_run side.Hot case network values number e.hot in
        let cold = shifted_run side.Cold case network values number e.cold in
        let open_match = all_at (IsPermitted case) (exchangers_of network.lines) number e permitted at in
        let p = tariff.prices side.Cold e.cold in
        let q = tariff.prices side.Hot e.hot in
        let p_falls = ordered.falls side.Cold e.cold in
        let q_falls = ordered.falls side.Hot e.hot in
        let given = λ (v : View). share_in v e.duty hot in
        let taken = λ (v : View). share_in v e.duty cold in
        let leads = runs.apart (apart number e at) in
        let dearer = step_worth-ordered tariff.least tariff.views p q p_falls q_falls
        (ordered.ordered e.hot e.cold open_match) pairs e.duty taken (shares_rising e.duty cold runs.positive runs.cold_duty)
        (λ v. (shares_parts v.from_itself (whole v.place) e.duty cold runs.positive runs.cold_duty).least) in
        let more = step_worth-at_most tariff.least tariff.views q q_falls e.duty taken given (λ v.
        hot_shares_lead v.from_itself (whole v.place) e.duty hot cold runs.positive runs.hot_duty runs.cold_duty leads) in
        at_most_trans _ _ _ dearer more

    abbrev taken : ℕ × Exchanger → Rational
    taken = sides_taken (worth case tariff shape whole_values) network

    abbrev hot_bought : ℕ × Exchanger → Rational
    hot_bought = hot_worth case network values tariff

    abbrev cold_bought : ℕ × Exchanger → Rational
    cold_bought = cold_worth case network values tariff

    exchanger_ordered : (number : ℕ) (e : Exchanger) → slice_get (exchangers_of network.lines) number ≡ Some e
        → IsAtMost (cold_bought (number, e)) (plus (taken (number, e)) (hot_bought (number, e)))
    exchanger_ordered number e at =
        let valid = all_at (IsExchanger case) (exchangers_of network.lines) number e shape.exchangers.each at in
        let all_hot = hot_given number e at e.hot refl valid.hot in
        let all_cold = cold_given number e at e.cold refl valid.cold in
        let sides = plus_swap_right (lost number e.hot) (lost number e.cold) (hot_bought (number, e))
        ∙ ap (λ x. plus x (lost number e.cold)) all_hot in
        let both = at_most-plus_plus _ _ _ _ (sides_ordered number e at) (at_most_refl (lost number e.cold)) in
        subst₂ IsAtMost (sym all_cold) (sym sides) both

    -- ---- the network

    abbrev weigh : ℕ → Rational
    weigh = worth case tariff shape whole_values

    mixes_lose_worth : IsAtMost rational_zero (rational_sum_by (mix_loss weigh) network.lines)
    mixes_lose_worth = not_negative-rational_sum_by (mix_loss weigh) network.lines
        (λ k d within. mix_worth case tariff shape whole_values ordered.falls (get_or network.lines k d)
        (used_there shape.made_once shape.made_first k d within) (shape.one_stream k d within) (all_solved whole_values k d within))

    worths-ordered : AreEnded case network values
        → IsAtMost (rational_sum_by cold_bought (enumerate_from 0 (exchangers_of network.lines)))
        (plus (rational_sum_by (stream_loss (branch_worth case tariff)) (enumerate_from 0 case.streams))
        (rational_sum_by hot_bought (enumerate_from 0 (exchangers_of network.lines))))
    worths-ordered ended =
        let es = enumerate_from 0 (exchangers_of network.lines) in
        let passes = rational_sum_by (pass_loss weigh) network.lines in
        let mixes = rational_sum_by (mix_loss weigh) network.lines in
        let hot = rational_sum_by hot_bought es in
        let balance = weight_balance case network values (branch_worth case tariff) shape whole_values ended
        (branch_worth-additive case tariff) in
        let each =
        at_most-enumerated cold_bought (λ p. plus (taken p) (hot_bought p)) (exchangers_of network.lines) exchanger_ordered in
        let sum = rational_sum_by-plus taken hot_bought es
        ∙ ap (λ x. plus x hot) (sym (passes_by_side weigh case network shape)) in
        at_most_trans _ _ _ (subst (IsAtMost (rational_sum_by cold_bought es)) sum each) (at_most-plus_plus _ _ _ _
        (subst (IsAtMost passes) (sym balance) (at_most-plus_right passes mixes mixes_lose_worth)) (at_most_refl hot))

pub worths_ordered : WorthsAreOrdered
worths_ordered case network values tariff shape whole_values ended apart permitted pairs ordered =
    worths-ordered case network values tariff shape whole_values apart permitted pairs ordered ended
