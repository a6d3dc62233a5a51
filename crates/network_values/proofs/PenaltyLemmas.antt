-- The sum of all penalties.
use Rattle.fractions.proofs.RationalSums.{rational_sum_by-plus, rational_sum_by-whole, sum-enumerated, sum-items}
use Rattle.network_values.proofs.Words.{*ℤ--ℤ, Case, CountsFromItself, Exchanger, HasShape, HasTightDeficit, IsAdditive, IsLatent, IsTrue}
use Rattle.network_values.proofs.Words.{IsValidStream, Latent, Network, Rational, Sensible, Side, Source, Stream, View, all_at, by_lt_z, by_three}
use Rattle.network_values.proofs.Words.{counts_above, deficit_above, deficit_over, enumerate_from, exchangers_of, first_part_of_load, first_value}
use Rattle.network_values.proofs.Words.{heat_over-latent, heat_over-sensible, height_on, high_end, hot_target, hot_target-bound, inlet_height, int_max}
use Rattle.network_values.proofs.Words.{int_sum_by, int_sum_by-sub, ints, is_latent-latent, is_latent-sensible, last_part_of_load, last_value}
use Rattle.network_values.proofs.Words.{minus, minus-self, minus-zero, one_denominator, outlet_height, pass_loss, pass_of, plus, plus-zero, plus_assoc, ratio}
use Rattle.network_values.proofs.Words.{rational_sum_by, rational_zero, same_side, stream_loss, sum_side, times, whole, whole-minus, whole-times, zero-plus}
use Rattle.network_values.proofs.CourseLemmas.{height_on-additive}
use Rattle.network_values.proofs.PassLemmas.{passes_by_side, side_taken, sides_taken}
use Rattle.network_values.proofs.StreamStates.{full_size-latent, full_size-sensible}
use Rattle.network_values.proofs.WeightLemmas.{weight_balance}
use Rattle.network_values.proofs.WholeHeights.{height_lost, level_counts}
use Rattle.network_values.specs.Penalties.{IsReferenceView, PenaltiesAddUp, PenaltiesAreTheExcess, StreamsGiveTheirHeat, absorbed_heat, base_of}
use Rattle.network_values.specs.Penalties.{given_by, height_at, heights, hot_duty, hot_heat, mix_penalties, penalty, released_heat, stream_height}
use Rattle.network_values.specs.Penalties.{utility_part}
use Rattle.std.proofs.Common.{Bool, List, ap, ap₂, arith, false, if◌then◌else◌, inl, inr, pos, refl, sym, true, ℕ, ℤ, ⊎_elim}
use Rattle.std.proofs.Common.{◌*ℤ◌, ◌+ℤ◌, ◌-ℤ◌, ◌↔◌, ◌∙◌, ◌≡◌}
use Rattle.stream_case.specs.Stream.{AreStreams, heat_over, load_over, sensible_above}
use Rattle.stream_case.specs.declared.source.Side.TheVariants as side
use Rattle.stream_case.specs.declared.source.Source.TheVariants as source

-- ---- what streams give away

-- by whether it is latent, and by its size
abbrev given_back : View → Stream → Bool → Rational → Rational
given_back view s latent size =
    let course = if latent then Latent (minus (whole s.supply) (base_of view.place s)) else Sensible (base_of view.place s) in
    minus (height_on view.from_itself course (record { cp = size; t = if latent then first_part_of_load s.side else whole s.supply }))
    (height_on view.from_itself course (record { cp = size; t = if latent then last_part_of_load s.side else whole s.target }))

-- a flow's heat between two distances, as far as they are above 0
abbrev lost : ℤ → ℤ → ℤ → ℤ
lost cp x y = cp *ℤ (int_max x (pos 0) -ℤ int_max y (pos 0))

lost_turned : (cp x y : ℤ) → lost cp x y ≡ pos 0 -ℤ lost cp y x
lost_turned cp x y =
    omega (arith, ints, *ℤ--ℤ cp (int_max x (pos 0)) (int_max y (pos 0)), *ℤ--ℤ cp (int_max y (pos 0)) (int_max x (pos 0)))

sensible_given : (view : View) (s : Stream)
    → given_back view s false (whole s.cp) ≡ whole (given_by s.side (sensible_above view.place s))
sensible_given view s = by s.side
  where
    by : (on : Side) → given_back view (record s { side = on }) false (whole s.cp)
        ≡ whole (given_by on (sensible_above view.place (record s { side = on })))
    by side.Hot =
        let base = view.place +ℤ s.contribution in
        let high : s.supply -ℤ base ≡ (s.supply -ℤ s.contribution) -ℤ view.place = omega (arith, ints) in
        let low : s.target -ℤ base ≡ (s.target -ℤ s.contribution) -ℤ view.place = omega (arith, ints) in
        height_lost s.cp s.supply s.target base ∙ ap whole (ap₂ (lost s.cp) high low)
    by side.Cold =
        let base = view.place -ℤ s.contribution in
        let low : s.supply -ℤ base ≡ (s.supply +ℤ s.contribution) -ℤ view.place = omega (arith, ints) in
        let high : s.target -ℤ base ≡ (s.target +ℤ s.contribution) -ℤ view.place = omega (arith, ints) in
        height_lost s.cp s.supply s.target base ∙ ap whole (ap₂ (lost s.cp) low high)
        ∙ ap whole (lost_turned s.cp ((s.supply +ℤ s.contribution) -ℤ view.place)
        ((s.target +ℤ s.contribution) -ℤ view.place))

-- a load is given away, or taken, where its level counts
abbrev load_lost : Side → ℤ → Bool → Rational
load_lost on load counts =
    minus (if counts then times (whole load) (first_part_of_load on) else rational_zero) (if counts then times (whole load)
    (last_part_of_load on) else rational_zero)

load_given : (on : Side) (counts : Bool) (load : ℤ)
    → load_lost on load counts ≡ whole (given_by on (if counts then load else pos 0))
load_given side.Hot true load =
    ap₂ minus (whole-times load (pos 1)) (whole-times load (pos 0)) ∙ whole-minus _ _ ∙ ap whole (omega (arith, ints))
load_given side.Cold true load =
    ap₂ minus (whole-times load (pos 0)) (whole-times load (pos 1)) ∙ whole-minus _ _ ∙ ap whole (omega (arith, ints))
load_given on counts load = minus-self rational_zero

latent_given : (view : View) (s : Stream) → IsLatent s
    → given_back view s true (whole s.load) ≡ whole (given_by s.side (load_over view.from_itself view.place s))
latent_given view s latent =
    ap (load_lost s.side s.load) (level_counts view.from_itself view.place s latent) ∙ load_given s.side
    (counts_above view.from_itself view.place (high_end s)) s.load

pub stream_given : StreamsGiveTheirHeat
stream_given view s valid =
    ⊎_elim (λ h. ap₂ (given_back view s) (is_latent-sensible s h) (full_size-sensible s h) ∙ sensible_given view s
    ∙ ap (λ heat. whole (given_by s.side heat)) (sym (heat_over-sensible view.from_itself view.place s h)))
    (λ h. ap₂ (given_back view s) (is_latent-latent s h) (full_size-latent s h) ∙ latent_given view s h
    ∙ ap (λ heat. whole (given_by s.side heat)) (sym (heat_over-latent view.from_itself view.place s h))) valid.heat

-- the heat of a stream in a view, where it is on a side
abbrev heat_beside : Side → View → Stream → ℤ
heat_beside on view s = if same_side s.side on then heat_over view.from_itself view.place s else pos 0

given_by-sides : (on : Side) (heat : ℤ)
    → given_by on heat ≡ (if same_side on side.Hot then heat else pos 0) -ℤ (if same_side on side.Cold then heat else pos 0)
given_by-sides side.Hot heat = omega (arith, ints)
given_by-sides side.Cold heat = refl

pub streams_given : (case : Case) (view : View) → AreStreams case.streams
    → rational_sum_by (stream_loss (heights case view)) (enumerate_from 0 case.streams)
    ≡ whole (sum_side side.Hot (heat_over view.from_itself view.place) case.streams -ℤ sum_side side.Cold (heat_over view.from_itself view.place) case.streams)
unfolding heights
streams_given case view streams =
    let hot = heat_beside side.Hot view in
    let cold = heat_beside side.Cold view in
    let less = λ (s : Stream). hot s -ℤ cold s in
    sum-items (stream_loss (heights case view)) (λ s. whole (less s)) case.streams (λ i s at. ap₂ minus (ap (λ o. stream_height view o (first_value s)) at)
    (ap (λ o. stream_height view o (last_value s)) at)
    ∙ stream_given view s (all_at IsValidStream case.streams i s streams.each at) ∙ ap whole
    (given_by-sides s.side (heat_over view.from_itself view.place s)))
    ∙ rational_sum_by-whole less (int_sum_by less) refl (λ s ss. refl) case.streams
    ∙ ap whole (int_sum_by-sub hot cold case.streams)

pub heights-additive : (case : Case) (view : View) → IsAdditive (heights case view)
unfolding heights
heights-additive case view i f g t = grind (arith, plus-zero rational_zero, height_on-additive)

-- ---- penalties by the two sides

-- what a difference takes away, it gives turned round
minus_turned : (x a b : Rational) → minus x (minus a b) ≡ plus x (minus b a)
minus_turned = by_three _ (λ n m l d some. simp one_denominator (ap (λ k. ratio k d) (omega (arith, ints))))

less_deficit : (used : Rational) (hot cold : ℤ) → plus used (whole (hot -ℤ cold)) ≡ minus used (whole (cold -ℤ hot))
less_deficit used hot cold =
    ap (plus used) (sym (whole-minus hot cold)) ∙ sym (minus_turned used (whole cold) (whole hot))
    ∙ ap (minus used) (whole-minus cold hot)

module _ (weight : ℕ → Rational) (case : Case) (network : Network) (shape : HasShape case network) where
  by_parts : (number : ℕ) (duty : Rational) (hot cold : Source)
      → minus (released_heat weight network number duty hot) (absorbed_heat weight network number cold)
      ≡ plus (utility_part duty hot) (plus (side_taken weight network number hot) (side_taken weight network number cold))
  by_parts number duty (source.Stream i) (source.Stream j) =
      let taken = side_taken weight network number (source.Stream i) in
      minus_turned taken (outlet_height weight (pass_of network number j)) (inlet_height weight (pass_of network number j))
      ∙ sym (zero-plus (plus taken (side_taken weight network number (source.Stream j))))
  by_parts number duty (source.Stream i) (source.Utility j) =
      let taken = side_taken weight network number (source.Stream i) in
      minus-zero taken ∙ sym (zero-plus (plus taken rational_zero) ∙ plus-zero taken)
  by_parts number duty (source.Utility i) (source.Stream j) =
      minus_turned duty (outlet_height weight (pass_of network number j)) (inlet_height weight
      (pass_of network number j))
      ∙ ap (plus duty) (sym (zero-plus (side_taken weight network number (source.Stream j))))
  by_parts number duty (source.Utility i) (source.Utility j) =
      minus-zero duty ∙ sym (ap (plus duty) (plus-zero rational_zero) ∙ plus-zero duty)

  -- all exchangers: the hot utilities, and what the passes take
  pub exchangers_add_up : rational_sum_by (penalty weight network) (enumerate_from 0 (exchangers_of network.lines))
      ≡ plus (hot_heat network) (rational_sum_by (pass_loss weight) network.lines)
  exchangers_add_up =
      let es = exchangers_of network.lines in
      let given = λ (p : ℕ × Exchanger). hot_duty p.1 in
      sum-enumerated (penalty weight network) (λ p. plus (given p) (sides_taken weight network p)) es (λ number e at. by_parts number e.duty e.hot e.cold)
      ∙ rational_sum_by-plus given (sides_taken weight network) (enumerate_from 0 es)
      ∙ ap₂ plus (sum-items given hot_duty es (λ number e at. refl)) (sym (passes_by_side weight case network shape))

pub penalties_sum : PenaltiesAddUp
penalties_sum case network values view streams shape whole_values ended =
    let height = height_at case view network values in
    let passes = rational_sum_by (pass_loss height) network.lines in
    let mixes = mix_penalties case view network values in
    let cold = sum_side side.Cold (heat_over view.from_itself view.place) case.streams in
    ap (λ x. plus x mixes) (exchangers_add_up height case network shape)
    ∙ plus_assoc (hot_heat network) passes mixes ∙ ap (plus (hot_heat network))
    (sym (weight_balance case network values (heights case view) shape whole_values ended (heights-additive case view)) ∙ streams_given case view streams)
    ∙ less_deficit (hot_heat network) (sum_side side.Hot (heat_over view.from_itself view.place) case.streams) cold

-- ---- the view from the reference place

-- in it the deficit is the hot target
pub reference_tight : (streams : List Stream) (view : View) → IsReferenceView streams view
    → deficit_over view.from_itself streams view.place ≡ hot_target streams
reference_tight streams view reference = by view.from_itself reference.from_itself reference.place.at.tight
  where
    by : (b : Bool) → (IsTrue b ↔ CountsFromItself streams view.place) → HasTightDeficit streams view.place
        → deficit_over b streams view.place ≡ hot_target streams
    by false counts (inl above) = above
    by false counts (inr from) =
        let bound = hot_target-bound streams view.place reference.place.at.end in
        by_lt_z (deficit_above streams view.place) (hot_target streams) (λ less. cc (counts.1 (λ e. omega (arith, ints)))) (λ most. omega (arith, ints))
    by true counts (inl above) = absurd (counts.0 refl above)
    by true counts (inr from) = from

pub penalties_excess : PenaltiesAreTheExcess
penalties_excess case network values view streams shape whole_values ended reference =
    penalties_sum case network values view streams shape whole_values ended
    ∙ ap (λ d. minus (hot_heat network) (whole d)) (reference_tight case.streams view reference)
