-- What a stream loses of its worth is what its parts are worth: of a hot stream's, and of a cold one's taken away.
use Rattle.price_floor.proofs.Words.{*ℤ--ℤ, Case, HoldsPlaces, IsLatent, IsSensible, IsValidStream, Network, Part}
use Rattle.price_floor.proofs.Words.{Rational, Side, Source, StepPrices, Stream, Tariff, View, branch_worth, clamps}
use Rattle.price_floor.proofs.Words.{first_part_of_load, first_value, full_size, full_size-latent, full_size-sensible}
use Rattle.price_floor.proofs.Words.{given_by, heat_over, heat_over-latent, heat_over-sensible, height_in, high_end}
use Rattle.price_floor.proofs.Words.{int_le-from, int_sum_by, int_sum_by-same, ints, is_latent, is_latent-latent}
use Rattle.price_floor.proofs.Words.{is_latent-sensible, last_part_of_load, last_value, length_above, level-latent}
use Rattle.price_floor.proofs.Words.{load_over, low_end, made_parts, minus, minus-zero, order-sensible, pos}
use Rattle.price_floor.proofs.Words.{rational_sum_by, rational_sum_by-same, rational_sum_by-whole, rational_zero}
use Rattle.price_floor.proofs.Words.{same_side, same_source, same_source-true, sensible_above, step_worth, stream_loss}
use Rattle.price_floor.proofs.Words.{times, used_by, value_worth, views_of, whole, whole-minus, whole-times, ◌*ℤ◌, ◌+ℤ◌}
use Rattle.price_floor.proofs.Words.{◌-ℤ◌, ◌≤ℤ◌}
use Rattle.std.proofs.Common.{All, Bool, Contains, List, Some, ap, ap₂, arith, false, get_or, if◌then◌else◌, refl}
use Rattle.std.proofs.Common.{slice_get, sym, true, ℕ, ℤ, ⊎_elim, ◌∙◌, ◌≡◌}
use Rattle.price_floor.proofs.ViewLemmas.{HasEnds, IsLowest, from_place, stands, stands_lowest, views-places}
use Rattle.price_floor.proofs.StreamParts.{own_over, stream_parts-are}
use Rattle.price_floor.proofs.SourceSums.{own_worth, part_worth}
use Rattle.price_floor.proofs.StepLemmas.{step-none, step-same, step-sum, step_worth-minus, stood}
use Rattle.network_values.proofs.PenaltyLemmas.{stream_given}
use Rattle.stream_case.specs.declared.source.Side.TheVariants as side
use Rattle.stream_case.specs.declared.source.Source.TheVariants as source

-- ---- the size of a stream times the change of its state

-- by whether it is latent, and by its size
abbrev change_of : Stream → Bool → Rational → Rational
change_of s latent size =
    minus (times size (if latent then first_part_of_load s.side else whole s.supply)) (times size (if latent then last_part_of_load s.side else whole s.target))

product_lost : (a b c : ℤ) → minus (times (whole a) (whole b)) (times (whole a) (whole c)) ≡ whole (a *ℤ (b -ℤ c))
product_lost a b c =
    ap₂ minus (whole-times a b) (whole-times a c) ∙ whole-minus (a *ℤ b) (a *ℤ c) ∙ ap whole (sym (*ℤ--ℤ a b c))

sensible_change : (s : Stream) (x : ℤ) → x ≤ℤ low_end s → low_end s ≤ℤ high_end s
    → change_of s false (whole s.cp) ≡ whole (given_by s.side (sensible_above x s))
sensible_change s x = by s.side
  where
    by : (on : Side) → x ≤ℤ low_end (record s { side = on })
        → low_end (record s { side = on }) ≤ℤ high_end (record s { side = on })
        → minus (times (whole s.cp) (whole s.supply)) (times (whole s.cp) (whole s.target))
        ≡ whole (given_by on (sensible_above x (record s { side = on })))
    by side.Hot under order =
        let range : s.supply -ℤ s.target ≡ length_above (s.target -ℤ s.contribution) (s.supply -ℤ s.contribution) x
        = omega (arith, ints, clamps) in
        product_lost s.cp s.supply s.target ∙ ap (λ l. whole (s.cp *ℤ l)) range
    by side.Cold under order =
        let range : s.target -ℤ s.supply ≡ length_above (s.supply +ℤ s.contribution) (s.target +ℤ s.contribution) x
        = omega (arith, ints, clamps) in
        let one = *ℤ--ℤ s.cp s.supply s.target in
        let two = *ℤ--ℤ s.cp s.target s.supply in
        let turned : s.cp *ℤ (s.supply -ℤ s.target) ≡ pos 0 -ℤ s.cp *ℤ (s.target -ℤ s.supply) = omega (arith, ints) in
        product_lost s.cp s.supply s.target ∙ ap whole turned ∙ ap (λ l. whole (pos 0 -ℤ s.cp *ℤ l)) range

latent_change : (s : Stream) (x : ℤ) → x ≤ℤ high_end s
    → change_of s true (whole s.load) ≡ whole (given_by s.side (load_over true x s))
latent_change s x under =
    by s.side ∙ ap (λ b. whole (given_by s.side (if b then s.load else pos 0))) (sym (int_le-from x (high_end s) under))
  where
    by : (on : Side)
        → minus (times (whole s.load) (first_part_of_load on)) (times (whole s.load) (last_part_of_load on))
        ≡ whole (given_by on s.load)
    by side.Hot =
        let heat : s.load *ℤ (pos 1 -ℤ pos 0) ≡ s.load = omega (arith, ints) in
        product_lost s.load (pos 1) (pos 0) ∙ ap whole heat
    by side.Cold =
        ap₂ minus (whole-times s.load (pos 0)) (whole-times s.load (pos 1))
        ∙ whole-minus (s.load *ℤ pos 0) (s.load *ℤ pos 1) ∙ ap whole (omega (arith, ints))

-- is all its heat, given away, where a place is not above the stream
change_given : (s : Stream) (x : ℤ) → IsValidStream s → x ≤ℤ low_end s
    → change_of s (is_latent s) (full_size s) ≡ whole (given_by s.side (heat_over true x s))
change_given s x valid under = ⊎_elim sensible latent valid.heat
  where
    sensible : IsSensible s → change_of s (is_latent s) (full_size s) ≡ whole (given_by s.side (heat_over true x s))
    sensible h =
        let order = order-sensible s h in
        ap₂ (change_of s) (is_latent-sensible s h) (full_size-sensible s h)
        ∙ sensible_change s x under (omega (arith, ints))
        ∙ ap (λ heat. whole (given_by s.side heat)) (sym (heat_over-sensible true x s h))

    latent : IsLatent s → change_of s (is_latent s) (full_size s) ≡ whole (given_by s.side (heat_over true x s))
    latent h =
        let level = level-latent s h in
        ap₂ (change_of s) (is_latent-latent s h) (full_size-latent s h) ∙ latent_change s x (omega (arith, ints))
        ∙ ap (λ heat. whole (given_by s.side heat)) (sym (heat_over-latent true x s h))

-- ---- heats on a side

module _ (tariff : Tariff) (of : Source) where
  -- heats of a stream of one side, at the prices of another
  abbrev side_heat : Side → ℤ → (View → ℤ) → Side → Rational
  side_heat of_side all heat on =
      step_worth tariff.least tariff.views (tariff.prices on of) (whole (if same_side of_side on then all else pos 0))
      (λ v. whole (if same_side of_side on then heat v else pos 0))

  sides_given : (of_side : Side) (all : ℤ) (heat : View → ℤ)
      → step_worth tariff.least tariff.views (tariff.prices of_side of) (whole (given_by of_side all))
      (λ v. whole (given_by of_side (heat v)))
      ≡ minus (side_heat of_side all heat side.Hot) (side_heat of_side all heat side.Cold)
  sides_given side.Hot all heat =
      let worth = side_heat side.Hot all heat side.Hot in
      sym (minus-zero worth) ∙ ap (minus worth) (sym (step-none tariff.least tariff.views (tariff.prices side.Cold of)))
  sides_given side.Cold all heat =
      let q = tariff.prices side.Cold of in
      let taken = λ (v : View). minus rational_zero (whole (heat v)) in
      step-same tariff.least tariff.views q (whole (pos 0 -ℤ all)) (minus rational_zero (whole all)) (λ v. whole (pos 0 -ℤ heat v))
      taken (sym (whole-minus (pos 0) all)) (λ k d within. sym (whole-minus (pos 0) (heat (get_or tariff.views k d))))
      ∙ step_worth-minus tariff.least tariff.views q rational_zero (whole all) (λ v. rational_zero) (λ v. whole (heat v))
      ∙ ap (λ none. minus none (step_worth tariff.least tariff.views q (whole all) (λ v. whole (heat v))))
      (step-none tariff.least tariff.views q ∙ sym (step-none tariff.least tariff.views (tariff.prices side.Hot of)))

-- ---- the parts of a stream

abbrev own_least : ℕ → Part → ℤ
own_least i p = if same_source p.source (source.Stream i) then p.least else pos 0

module _ (network : Network) (tariff : Tariff) (on : Side) (i : ℕ) where
  -- heats at the stream's prices
  abbrev priced_heat : ℤ → (View → ℤ) → Rational
  priced_heat all above =
      step_worth tariff.least tariff.views (tariff.prices on (source.Stream i)) (whole all) (λ v. whole (above v))

  abbrev over : View → Part → ℤ
  over v = own_over i v.from_itself v.place

  own-heat : (p : Part) → own_worth tariff network on (source.Stream i) p
      ≡ priced_heat (own_least i p) (λ v. over v p)
  own-heat p = by (same_source p.source (source.Stream i)) (same_source-true p.source (source.Stream i))
    where
      if_whole : (b : Bool) → (if b then whole p.least else rational_zero) ≡ whole (if b then p.least else pos 0)
      if_whole true = refl
      if_whole false = refl

      by : (b : Bool) → (b ≡ true → p.source ≡ source.Stream i)
          → (if b then part_worth tariff network on p else rational_zero)
          ≡ priced_heat (if b then p.least else pos 0) (λ v. if b then (if stands p v then p.least else pos 0) else pos 0)
      by true same =
          let worth = λ (s : Source) (heat : Rational). step_worth tariff.least tariff.views (tariff.prices on s) heat (stood p heat) in
          let q = tariff.prices on (source.Stream i) in
          ap (λ s. worth s (used_by network p.least s)) (same refl)
          ∙ step-same tariff.least tariff.views q (whole p.least) (whole p.least) (stood p (whole p.least))
          (λ v. whole (if stands p v then p.least else pos 0)) refl (λ k d within. if_whole (stands p (get_or tariff.views k d)))
      by false same = sym (step-none tariff.least tariff.views (tariff.prices on (source.Stream i)))

  own-sum : (parts : List Part) → rational_sum_by (own_worth tariff network on (source.Stream i)) parts
      ≡ priced_heat (int_sum_by (own_least i) parts) (λ v. int_sum_by (over v) parts)
  own-sum parts =
      let q = tariff.prices on (source.Stream i) in
      let each = λ (p : Part). priced_heat (own_least i p) (λ v. over v p) in
      let all = rational_sum_by (λ (p : Part). whole (own_least i p)) parts in
      rational_sum_by-same (own_worth tariff network on (source.Stream i)) each parts (λ k d within. own-heat (get_or parts k d))
      ∙ step-sum tariff.least tariff.views q (λ p. whole (own_least i p)) (λ p v. whole (over v p)) parts
      ∙ step-same tariff.least tariff.views q all (whole (int_sum_by (own_least i) parts))
      (λ v. rational_sum_by (λ p. whole (over v p)) parts) (λ v. whole (int_sum_by (over v) parts))
      (rational_sum_by-whole (own_least i) (int_sum_by (own_least i)) refl (λ p ps. refl) parts)
      (λ k d within.
      let v = get_or tariff.views k d in
      rational_sum_by-whole (over v) (int_sum_by (over v)) refl (λ p ps. refl) parts)

-- ---- a stream of a case

module _ (case : Case) (network : Network) (least : ℤ) (grid : List ℤ) (prices : Side → Source → StepPrices)
    (holds : HoldsPlaces case.streams case.utilities grid) (lowest : ℤ) (low : IsLowest grid lowest)
    (i : ℕ) (s : Stream) (at : slice_get case.streams i ≡ Some s) (valid : IsValidStream s) where
  abbrev tariff : Tariff
  tariff = record { least = least; views = views_of grid; prices = prices }

  -- the heat of the stream in a view
  abbrev seen : View → ℤ
  seen v = heat_over v.from_itself v.place s

  -- its parts on a side
  parts_given : (on : Side) (parts : List Part) → parts ≡ made_parts case.streams case.utilities on grid
      → All (HasEnds grid) parts
      → rational_sum_by (own_worth tariff network on (source.Stream i)) parts
      ≡ side_heat tariff (source.Stream i) s.side (seen (from_place lowest)) seen on
  parts_given on parts made ends = own-sum network tariff on i parts
      ∙ step-same least (views_of grid) (prices on (source.Stream i)) (whole (int_sum_by (own_least i) parts))
      (whole (if same_side s.side on then seen (from_place lowest) else pos 0))
      (λ v. whole (int_sum_by (own_over i v.from_itself v.place) parts)) (λ v. whole (if same_side s.side on then seen v else pos 0))
      (ap whole (int_sum_by-same (own_least i) (own_over i true lowest) parts (λ k d within. all_over (get_or parts k d) (ends k d within))
      ∙ over true lowest low.place)) (λ k d within.
      let v = get_or (views_of grid) k d in
      ap whole (over v.from_itself v.place (views-places grid k d within)))
    where
      all_over : (p : Part) → HasEnds grid p → own_least i p ≡ own_over i true lowest p
      all_over p own =
          let above = stands_lowest grid p lowest own low in
          ap (λ b. if same_source p.source (source.Stream i) then (if b then p.least else pos 0) else pos 0) (sym above)

      over : (from_itself : Bool) (place : ℤ) → Contains grid place
          → int_sum_by (own_over i from_itself place) parts
          ≡ (if same_side s.side on then heat_over from_itself place s else pos 0)
      over from_itself place found =
          ap (int_sum_by (own_over i from_itself place)) made
          ∙ stream_parts-are i from_itself place case.streams case.utilities on s grid at valid holds found

  -- what it loses
  loss_given : lowest ≤ℤ low_end s → stream_loss (branch_worth case tariff) (i, s)
      ≡ step_worth least (views_of grid) (prices s.side (source.Stream i)) (whole (given_by s.side (seen (from_place lowest))))
      (λ v. whole (given_by s.side (seen v)))
  unfolding branch_worth
  loss_given under =
      let views = views_of grid in
      let q = prices s.side (source.Stream i) in
      let first = first_value s in
      let last = last_value s in
      let had = times first.cp first.t in
      let left = times last.cp last.t in
      let lost = λ (v : View). minus (height_in v s first) (height_in v s last) in
      ap (λ o. minus (value_worth tariff i o first) (value_worth tariff i o last)) at
      ∙ sym (step_worth-minus least views q had left (λ v. height_in v s first) (λ v. height_in v s last))
      ∙ step-same least views q (minus had left) (whole (given_by s.side (seen (from_place lowest)))) lost
      (λ v. whole (given_by s.side (seen v))) (change_given s lowest valid under)
      (λ k d within. stream_given (get_or views k d) s valid)

  pub stream_worth-is : lowest ≤ℤ low_end s → (hot cold : List Part)
      → hot ≡ made_parts case.streams case.utilities side.Hot grid → All (HasEnds grid) hot
      → cold ≡ made_parts case.streams case.utilities side.Cold grid → All (HasEnds grid) cold
      → stream_loss (branch_worth case tariff) (i, s)
      ≡ minus (rational_sum_by (own_worth tariff network side.Hot (source.Stream i)) hot)
      (rational_sum_by (own_worth tariff network side.Cold (source.Stream i)) cold)
  stream_worth-is under hot cold hot_made hot_ends cold_made cold_ends =
      loss_given under ∙ sides_given tariff (source.Stream i) s.side (seen (from_place lowest)) seen
      ∙ ap₂ minus (sym (parts_given side.Hot hot hot_made hot_ends)) (sym (parts_given side.Cold cold cold_made cold_ends))
