-- What a branch is worth at step prices: additive in its size, changed at a pass by the share, and no more behind a mix.
use Rattle.price_floor.proofs.Words.{BranchValue, Case, Exchanger, FallTo, HasShape, IsAdditive, IsAtMost}
use Rattle.price_floor.proofs.Words.{IsOfOneStream, IsWholeValuation, Line, Network, Rational, Side, Solves, Source}
use Rattle.price_floor.proofs.Words.{Stream, Tariff, Valuation, View, absorbed_heat, branch_above, branch_height}
use Rattle.price_floor.proofs.Words.{branch_worth, course_of, exchangers_of, height_at, height_in, height_on-additive}
use Rattle.price_floor.proofs.Words.{height_on-mixed, inlet_height, item_at, minus, mix_loss, outlet_height, plus}
use Rattle.price_floor.proofs.Words.{plus-times, plus-zero, rational_zero, released_heat, run_of, run_on_scale}
use Rattle.price_floor.proofs.Words.{share_in, shifted_run, side_of, side_taken, step_worth, stream_at, stream_within}
use Rattle.price_floor.proofs.Words.{subst₂, there_and_back, times, times-minus, uses, value_at, value_worth, weight_at}
use Rattle.std.proofs.Common.{All, None, Option, Some, ap, ap₂, arith, inl, inr, length, refl, slice_get}
use Rattle.std.proofs.Common.{sym, ℕ, ◌<◌, ◌∙◌, ◌≡◌}
use Rattle.price_floor.proofs.StepLemmas.{step_worth-at_most, step_worth-minus, step_worth-plus, step_worth-same}
use Rattle.fractions.proofs.Comparisons.{at_most_refl, not_negative-minus}
use Rattle.networks.specs.declared.network.Line.TheVariants as line
use Rattle.stream_case.specs.declared.source.Side.TheVariants as side
use Rattle.stream_case.specs.declared.source.Source.TheVariants as source

module _ (case : Case) (tariff : Tariff) where
  pub branch_worth-additive : IsAdditive (branch_worth case tariff)
  unfolding branch_worth
  branch_worth-additive i f g t = by (slice_get case.streams i)
    where
      by : (o : Option Stream) → value_worth tariff i o (record { cp = plus f g; t = t })
          ≡ plus (value_worth tariff i o (record { cp = f; t = t })) (value_worth tariff i o (record { cp = g; t = t }))
      by None = sym (plus-zero rational_zero)
      by (Some s) =
          let p = tariff.prices s.side (source.Stream i) in
          let height = λ (size : Rational) (v : View). height_in v s (record { cp = size; t = t }) in
          step_worth-same tariff.least tariff.views p _ (plus (times f t) (times g t)) _ (λ v. plus (height f v) (height g v)) (plus-times f g t)
          (λ v. height_on-additive v.from_itself (course_of v.place s) f g t)
          ∙ step_worth-plus tariff.least tariff.views p (times f t) (times g t) (height f) (height g)

  module _ {network : Network} {values : Valuation} (shape : HasShape case network) (whole_values : IsWholeValuation case network values) where
    abbrev pub worth : ℕ → Rational
    worth = weight_at (branch_worth case tariff) network values

    abbrev branch : ℕ → BranchValue
    branch b = value_at values b

    abbrev heat : ℕ → Rational
    heat b = times (branch b).cp (branch b).t

    abbrev height : ℕ → View → Rational
    height b v = height_at case v network values b

    -- what a branch of a stream is worth, by its heights
    worth-of : (i : ℕ) (s : Stream) (b : ℕ) → slice_get case.streams i ≡ Some s → stream_at network.branches b ≡ i
        → worth b ≡ step_worth tariff.least tariff.views (tariff.prices s.side (source.Stream i)) (heat b) (height b)
    unfolding branch_worth
    worth-of i s b at of_stream =
        let p = tariff.prices s.side (source.Stream i) in
        let seen = λ (v : View). sym (branch_height shape whole_values v i s b at of_stream) in
        ap (λ j. value_worth tariff j (slice_get case.streams j) (branch b)) of_stream
        ∙ ap (λ o. value_worth tariff i o (branch b)) at
        ∙ step_worth-same tariff.least tariff.views p _ _ _ _ refl seen

    -- ---- mixes

    pub mix_worth : ((on : Side) (s : Source) → FallTo tariff.least tariff.views (tariff.prices on s)) → (l : Line)
        → All (λ b. b < length network.branches) (uses l)
        → IsOfOneStream network.branches l → Solves case network values l → IsAtMost rational_zero (mix_loss worth l)
    mix_worth falls (line.Mix first second to) within one solves =
        let first_within = within 0 0 (omega arith) in
        let second_within = within 1 0 (omega arith) in
        let i = stream_at network.branches first in
        let (s, at) = item_at case.streams i (stream_within shape first first_within) in
        let p = tariff.prices s.side (source.Stream i) in
        let seen =
        λ (b : ℕ) (same : stream_at network.branches b ≡ i) (v : View). branch_height shape whole_values v i s b at same in
        let mixed =
        λ (v : View). height_on-mixed v.from_itself (course_of v.place s) (branch first) (branch second) (branch to)
        (branch_above whole_values shape first first_within) (branch_above whole_values shape second second_within) solves in
        let lower =
        λ (v : View). subst₂ IsAtMost (sym (seen to one.1 v)) (sym (ap₂ plus (seen first refl v) (seen second one.0 v))) (mixed v) in
        let before = λ (v : View). plus (height first v) (height second v) in
        let both : step_worth tariff.least tariff.views p (heat to) before ≡ plus (worth first) (worth second)
        =
        step_worth-same tariff.least tariff.views p _ (plus (heat first) (heat second)) _ before solves.heat (λ v. refl)
        ∙ step_worth-plus tariff.least tariff.views p (heat first) (heat second) (height first) (height second)
        ∙ sym (ap₂ plus (worth-of i s first at refl) (worth-of i s second at one.0)) in
        let lost =
        step_worth-at_most tariff.least tariff.views p (falls s.side (source.Stream i)) (heat to) (height to) before lower in
        not_negative-minus (worth to) (plus (worth first) (worth second))
        (subst₂ IsAtMost (sym (worth-of i s to at one.1)) both lost)
    mix_worth falls other within one solves = at_most_refl rational_zero

    -- ---- passes

    -- what a side takes of the duty in each view is worth
    abbrev pub side_worth : Side → ℕ → Rational → Source → Rational
    side_worth on number duty s =
        step_worth tariff.least tariff.views (tariff.prices on s) duty (λ v. share_in v duty (shifted_run on case network values number s))

    -- two branches of a stream differ by what the difference of their heat is worth
    worth-between : (i : ℕ) (s : Stream) (on : Side) (high low : ℕ) (duty : Rational) (taken : View → Rational)
        → slice_get case.streams i ≡ Some s
        → s.side ≡ on → stream_at network.branches high ≡ i → stream_at network.branches low ≡ i
        → minus (heat high) (heat low) ≡ duty → ((v : View) → minus (height high v) (height low v) ≡ taken v)
        → minus (worth high) (worth low)
        ≡ step_worth tariff.least tariff.views (tariff.prices on (source.Stream i)) duty taken
    worth-between i s on high low duty taken at is_on of_high of_low gives takes =
        let p = tariff.prices s.side (source.Stream i) in
        ap₂ minus (worth-of i s high at of_high) (worth-of i s low at of_low)
        ∙ sym (step_worth-minus tariff.least tariff.views p (heat high) (heat low) (height high) (height low))
        ∙ step_worth-same tariff.least tariff.views p _ duty _ taken gives takes
        ∙ ap (λ o. step_worth tariff.least tariff.views (tariff.prices o (source.Stream i)) duty taken) is_on

    -- a hot stream loses what its side is worth
    pub hot_taken : (number i : ℕ) (e : Exchanger) → slice_get (exchangers_of network.lines) number ≡ Some e
        → e.hot ≡ source.Stream i
        → side_of case (source.Stream i) ≡ Some side.Hot
        → side_taken worth network number (source.Stream i) ≡ side_worth side.Hot number e.duty (source.Stream i)
    hot_taken number i e at is on =
        let (s, from, to, pass) = run_of shape whole_values number i e side.Hot at (inl is) on in
        let runs = run_on_scale shape whole_values number e at in
        let gives = ap (λ size. minus (heat from) (times size (branch to).t)) pass.size
        ∙ sym (times-minus (branch from).cp (branch from).t (branch to).t) ∙ pass.heat in
        let takes =
        λ (v : View). sym (ap (λ o. minus (inlet_height (λ b. height b v) o) (outlet_height (λ b. height b v) o)) pass.found)
        ∙ ap (λ x. released_heat (λ b. height b v) network number e.duty x) (sym is) ∙ runs.released v i is
        ∙ ap (λ x. share_in v e.duty (shifted_run side.Hot case network values number x)) is in
        ap (λ o. minus (inlet_height worth o) (outlet_height worth o)) pass.found
        ∙ worth-between i s side.Hot from to e.duty _ pass.at pass.is_on pass.of_from pass.of_to gives takes

    -- and a cold one gains it
    pub cold_taken : (number i : ℕ) (e : Exchanger) → slice_get (exchangers_of network.lines) number ≡ Some e
        → e.cold ≡ source.Stream i
        → side_of case (source.Stream i) ≡ Some side.Cold
        → plus (side_worth side.Cold number e.duty (source.Stream i)) (side_taken worth network number (source.Stream i))
        ≡ rational_zero
    cold_taken number i e at is on =
        let (s, from, to, pass) = run_of shape whole_values number i e side.Cold at (inr is) on in
        let runs = run_on_scale shape whole_values number e at in
        let gives = ap (λ size. minus (times size (branch to).t) (heat from)) pass.size
        ∙ sym (times-minus (branch from).cp (branch to).t (branch from).t) ∙ pass.heat in
        let takes =
        λ (v : View). sym (ap (λ o. minus (outlet_height (λ b. height b v) o) (inlet_height (λ b. height b v) o)) pass.found)
        ∙ ap (λ x. absorbed_heat (λ b. height b v) network number x) (sym is) ∙ runs.absorbed v i is
        ∙ ap (λ x. share_in v e.duty (shifted_run side.Cold case network values number x)) is in
        let gained =
        worth-between i s side.Cold to from e.duty _ pass.at pass.is_on pass.of_to pass.of_from gives takes in
        ap₂ plus (sym gained) (ap (λ o. minus (inlet_height worth o) (outlet_height worth o)) pass.found)
        ∙ there_and_back (worth from) (worth to)
