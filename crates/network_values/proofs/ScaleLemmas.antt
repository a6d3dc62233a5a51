-- The two sides of an exchanger on the shifted scale, with the heights that streams lose and gain there.
use Rattle.network_values.proofs.Words.{Between, BranchValue, Case, Exchanger, ExchangersRunOnOneScale, HasDuty, HasShape, IsAtMost, IsBelow, IsBetweenValues}
use Rattle.network_values.proofs.Words.{IsExchanger, IsOfOneStream, IsWholeValuation, Joins, Latent, Level, Network, Rational, RunsOnOneScale, Sensible, Side}
use Rattle.network_values.proofs.Words.{SideRun, Solves, Source, Stream, Valuation, View, all_at, at_most-minus_right, at_most-minus_swap, branch_side}
use Rattle.network_values.proofs.Words.{by_three, change, contribution_of, duty_at, duty_of, exchangers_of, inlet_height, ints, is_latent, level_or, minus}
use Rattle.network_values.proofs.Words.{one_denominator, option_map_or, outlet_height, pass_of, pass_run, plus, plus_comm, positive-is, ratio, rational_zero}
use Rattle.network_values.proofs.Words.{run_between, same_Some, seen_from, share, share_in, shifted_run, side_of, side_on, side_run, stream_at, stream_level}
use Rattle.network_values.proofs.Words.{subst₂, the_pass_of, times, used_there, uses, value_at, whole, whole-minus, whole-plus}
use Rattle.network_values.proofs.CourseLemmas.{passes_take}
use Rattle.network_values.proofs.ShareLemmas.{high_of-seen, low_of-seen}
use Rattle.network_values.proofs.WholeLemmas.{all_solved, branch_above}
use Rattle.network_values.specs.Penalties.{absorbed_heat, base_of, course_of, height_at, height_in, heights, released_heat, stream_height, unshifted}
use Rattle.std.proofs.Common.{All, Bool, None, Option, Some, ap, ap₂, arith, false, if◌then◌else◌, inl, inr, length, option_map, pos, refl, slice_get, subst}
use Rattle.std.proofs.Common.{sym, true, unwrap_or, ℕ, ℤ, ◌+ℤ◌, ◌-ℤ◌, ◌<◌, ◌∙◌, ◌≡◌}
use Rattle.networks.specs.declared.network.Line.TheVariants as line
use Rattle.stream_case.specs.declared.source.Side.TheVariants as side
use Rattle.stream_case.specs.declared.source.Source.TheVariants as source

-- ---- ends with the approach between them, as distances from a place

approach_seen : (h c : Rational) (place a b : ℤ) → IsAtMost (plus c (whole (a +ℤ b))) h
    → IsAtMost (minus c (whole (place -ℤ b))) (minus h (whole (place +ℤ a)))
approach_seen h c place a b apart =
    let between : (place +ℤ a) -ℤ (place -ℤ b) ≡ a +ℤ b = omega (arith, ints) in
    at_most-minus_swap h c (whole (place -ℤ b)) (whole (place +ℤ a))
    (subst (λ x. IsAtMost x (minus h c)) (sym (whole-minus (place +ℤ a) (place -ℤ b) ∙ ap whole between))
    (at_most-minus_right (whole (a +ℤ b)) h c (subst (λ x. IsAtMost x h) (plus_comm c (whole (a +ℤ b))) apart)))

-- ---- the stream of a side

stream_on : (case : Case) (i : ℕ) (on : Side) → side_of case (source.Stream i) ≡ Some on
    → (s : Stream) × (slice_get case.streams i ≡ Some s) × (s.side ≡ on)
stream_on case i on is = by (slice_get case.streams i) refl is
  where
    by : (o : Option Stream) → slice_get case.streams i ≡ o → option_map (λ s. s.side) o ≡ Some on
        → (s : Stream) × (slice_get case.streams i ≡ Some s) × (s.side ≡ on)
    by None at none = cc none
    by (Some s) at some = (s, at, same_Some s.side on some)

-- ---- the shifted scale

minus_twice : (t b p : Rational) → minus (minus t b) p ≡ minus t (plus p b)
minus_twice = by_three _ (λ n m l d some. simp one_denominator (ap (λ k. ratio k d) (omega (arith, ints))))

unshifted-once : (on : Side) (place c : ℤ) → place +ℤ unshifted on (pos 0) c ≡ unshifted on place c
unshifted-once side.Hot place c = omega (arith, ints)
unshifted-once side.Cold place c = omega (arith, ints)

seen_at : (on : Side) (place c : ℤ) (t : Rational)
    → minus (minus t (whole (unshifted on (pos 0) c))) (whole place) ≡ minus t (whole (unshifted on place c))
seen_at on place c t = minus_twice t (whole (unshifted on (pos 0) c)) (whole place)
    ∙ ap (minus t) (whole-plus place (unshifted on (pos 0) c) ∙ ap whole (unshifted-once on place c))

-- from a place of the shifted scale a source is seen less the place unshifted
seen-again : (on : Side) (place c : ℤ) (run : SideRun)
    → seen_from (whole place) (seen_from (whole (unshifted on (pos 0) c)) run)
    ≡ seen_from (whole (unshifted on place c)) run
seen-again on place c (Between size low high) =
    ap₂ (λ a b. Between size a b) (seen_at on place c low) (seen_at on place c high)
seen-again on place c (Level t) = ap Level (seen_at on place c t)

-- ---- the values before and behind a pass

-- a hot branch passes from the higher state to the lower, a cold one the other way round
abbrev lower : Side → BranchValue → BranchValue → BranchValue
lower side.Hot from to = to
lower side.Cold from to = from

abbrev higher : Side → BranchValue → BranchValue → BranchValue
higher side.Hot from to = from
higher side.Cold from to = to

abbrev between_both : Side → BranchValue → BranchValue → SideRun
between_both on from to = Between (higher on from to).cp (lower on from to).t (higher on from to).t

values_between : (on : Side) (duty : Rational) (from to : BranchValue) → IsBelow rational_zero from.cp → to.cp ≡ from.cp
    → times from.cp (change on from.t to.t) ≡ duty → IsBetweenValues duty (lower on from to) (higher on from to)
values_between side.Hot duty from to some size heat = record { some = some; size = size; gives = heat }
values_between side.Cold duty from to some size heat =
    record { some = subst (IsBelow rational_zero) (sym size) some; size = sym size; gives = ap (λ f. times f (minus to.t from.t)) size ∙ heat }

run_between-both : (on : Side) (from to : BranchValue) → to.cp ≡ from.cp
    → run_between on from to ≡ between_both on from to
run_between-both side.Hot from to size = refl
run_between-both side.Cold from to size = ap (λ f. Between f from.t to.t) (sym size)

-- the level of a latent stream, or else the range between the states, less the base
level_or-seen : (base : Rational) (level : ℤ) (low high : BranchValue) (latent : Bool)
    → seen_from base (level_or (Between high.cp low.t high.t) (if latent then Some level else None))
    ≡ side_on (if latent then Latent (minus (whole level) base) else Sensible base) low high
level_or-seen base level low high true = refl
level_or-seen base level low high false = refl

module _ {case : Case} {network : Network} {values : Valuation} (shape : HasShape case network) (whole_values : IsWholeValuation case network values) where
  pub branch_height : (view : View) (i : ℕ) (s : Stream) (branch : ℕ) → slice_get case.streams i ≡ Some s
      → stream_at network.branches branch ≡ i
      → height_at case view network values branch ≡ height_in view s (value_at values branch)
  unfolding heights
  branch_height view i s branch at of_stream =
      ap (λ o. stream_height view o (value_at values branch)) (ap (slice_get case.streams) of_stream ∙ at)

  -- the side of a stream: the one pass of its branches
  pub record IsRun (number i : ℕ) (on : Side) (duty : Rational) (s : Stream) (from to : ℕ) : Type 0 where
    pub at : slice_get case.streams i ≡ Some s
    pub is_on : s.side ≡ on
    pub of_from : stream_at network.branches from ≡ i
    pub of_to : stream_at network.branches to ≡ i
    pub found : pass_of network number i ≡ Some (line.Pass from number to)
    pub size : (value_at values to).cp ≡ (value_at values from).cp
    pub heat : times (value_at values from).cp (change on (value_at values from).t (value_at values to).t) ≡ duty
    between : IsBetweenValues duty (lower on (value_at values from) (value_at values to)) (higher on (value_at values from) (value_at values to))
    run : side_run case network values number (source.Stream i)
        ≡ level_or (between_both on (value_at values from) (value_at values to)) (stream_level (Some s))

  pub run_of : (number i : ℕ) (e : Exchanger) (on : Side)
      → slice_get (exchangers_of network.lines) number ≡ Some e → Joins e i
      → side_of case (source.Stream i) ≡ Some on
      → (s : Stream) × (from : ℕ) × (to : ℕ) × IsRun number i on e.duty s from to
  unfolding side_run branch_side duty_at
  run_of number i e on at joins is =
      let (s, of_case, is_on) = stream_on case i on is in
      let (from, to, index, pass) = the_pass_of shape number i e at joins in
      let l = line.Pass from number to in
      let solves = all_at (Solves case network values) network.lines index l (all_solved whole_values) pass.here in
      let used = all_at (λ x. All (λ b. b < length network.branches) (uses x)) network.lines index l (used_there shape.made_once shape.made_first) pass.here in
      let of_side : branch_side case network from ≡ on
      = ap (λ n. unwrap_or (side_of case (source.Stream n)) side.Hot) pass.of_stream
      ∙ ap (λ o. unwrap_or o side.Hot) is in
      let duty : duty_at network number ≡ e.duty = ap duty_of at in
      let some = branch_above whole_values shape from (used 0 0 (omega arith)) in
      let heat = ap (λ o. times (value_at values from).cp (change o (value_at values from).t (value_at values to).t)) (sym of_side)
      ∙ solves.heat ∙ duty in
      let passed = ap (pass_run case network values) pass.found
      ∙ ap (λ o. run_between o (value_at values from) (value_at values to)) of_side in (
        s,
        from,
        to,
        record {
          at = of_case;
          is_on = is_on;
          of_from = pass.of_stream;
          of_to =
              (all_at (IsOfOneStream network.branches) network.lines index l shape.one_stream pass.here)
              ∙ pass.of_stream;
          found = pass.found;
          size = solves.size;
          heat = heat;
          between = values_between on e.duty (value_at values from) (value_at values to) some solves.size heat;
          run =
              ap₂ level_or (passed ∙ run_between-both on (value_at values from) (value_at values to) solves.size) (ap stream_level of_case);
        },
      )

  contribution-of : (i : ℕ) (s : Stream) → slice_get case.streams i ≡ Some s
      → contribution_of case (source.Stream i) ≡ s.contribution
  contribution-of i s at = ap (λ o. option_map_or (λ (t : Stream). t.contribution) o (pos 0)) at

  -- the side of a stream, seen from a place of the shifted scale, is the side on its course
  module _ (number i : ℕ) (on : Side) (duty : Rational) (s : Stream) (from to : ℕ) (r : IsRun number i on duty s from to) where
    abbrev low : BranchValue
    low = lower on (value_at values from) (value_at values to)

    abbrev high : BranchValue
    high = higher on (value_at values from) (value_at values to)

    run-on_course : (place : ℤ)
        → seen_from (whole (unshifted on place (contribution_of case (source.Stream i)))) (side_run case network values number (source.Stream i))
        ≡ side_on (course_of place s) low high
    run-on_course place =
        ap₂ seen_from (ap₂ (λ o c. whole (unshifted o place c)) (sym r.is_on) (contribution-of i s r.at)) r.run
        ∙ level_or-seen (base_of place s) s.supply low high (is_latent s)

    run-has_duty : HasDuty duty (shifted_run on case network values number (source.Stream i))
    run-has_duty =
        subst (HasDuty duty) (sym (run-on_course (pos 0))) (passes_take.has_duty (course_of (pos 0) s) duty low high r.between)

    -- and the height that the pass takes is its share
    run-takes : (view : View)
        → minus (height_in view s high) (height_in view s low)
        ≡ share_in view duty (shifted_run on case network values number (source.Stream i))
    run-takes view =
        let c = contribution_of case (source.Stream i) in
        let run = side_run case network values number (source.Stream i) in
        passes_take.takes view.from_itself (course_of view.place s) duty low high r.between
        ∙ ap (share view.from_itself duty) (sym (seen-again on view.place c run ∙ run-on_course view.place))

  -- what a side has on the shifted scale: the duty, and of a stream the share in each view
  record IsSide (on : Side) (number : ℕ) (duty : Rational) (s : Source) (taken : View → Rational) : Type 0 where
    has_duty : HasDuty duty (shifted_run on case network values number s)
    is_share : (view : View) (i : ℕ) → s ≡ source.Stream i
        → taken view ≡ share_in view duty (shifted_run on case network values number s)

  hot_side : (number : ℕ) (e : Exchanger) → slice_get (exchangers_of network.lines) number ≡ Some e → (s : Source)
      → side_of case s ≡ Some side.Hot → ((i : ℕ) → s ≡ source.Stream i → Joins e i)
      → IsSide side.Hot number e.duty s (λ view. released_heat (height_at case view network values) network number e.duty s)
  unfolding side_run
  hot_side number e at (source.Stream i) is joins =
      let (s, from, to, r) = run_of number i e side.Hot at (joins i refl) is in record {
        has_duty = run-has_duty number i side.Hot e.duty s from to r;
        is_share = λ view j same.
            ap (λ o. minus (inlet_height (height_at case view network values) o) (outlet_height (height_at case view network values) o)) r.found
            ∙ ap₂ minus (branch_height view i s from r.at r.of_from) (branch_height view i s to r.at r.of_to)
            ∙ run-takes number i side.Hot e.duty s from to r view;
      }
  hot_side number e at (source.Utility i) is joins = record { has_duty = tt; is_share = λ view j same. cc same }

  cold_side : (number : ℕ) (e : Exchanger) → slice_get (exchangers_of network.lines) number ≡ Some e → (s : Source)
      → side_of case s ≡ Some side.Cold → ((i : ℕ) → s ≡ source.Stream i → Joins e i)
      → IsSide side.Cold number e.duty s (λ view. absorbed_heat (height_at case view network values) network number s)
  unfolding side_run
  cold_side number e at (source.Stream i) is joins =
      let (s, from, to, r) = run_of number i e side.Cold at (joins i refl) is in record {
        has_duty = run-has_duty number i side.Cold e.duty s from to r;
        is_share = λ view j same.
            ap (λ o. minus (outlet_height (height_at case view network values) o) (inlet_height (height_at case view network values) o)) r.found
            ∙ ap₂ minus (branch_height view i s to r.at r.of_to) (branch_height view i s from r.at r.of_from)
            ∙ run-takes number i side.Cold e.duty s from to r view;
      }
  cold_side number e at (source.Utility i) is joins = record { has_duty = tt; is_share = λ view j same. cc same }

  pub run_on_scale : (number : ℕ) (e : Exchanger) → slice_get (exchangers_of network.lines) number ≡ Some e
      → RunsOnOneScale case network values number e
  run_on_scale number e at =
      let valid = all_at (IsExchanger case) (exchangers_of network.lines) number e shape.exchangers.each at in
      let hot = hot_side number e at e.hot valid.hot (λ i same. inl same) in
      let cold = cold_side number e at e.cold valid.cold (λ i same. inr same) in
      let high = λ (on : Side) (s : Source). high_of-seen (whole (unshifted on (pos 0) (contribution_of case s))) (side_run case network values number s) in
      let low = λ (on : Side) (s : Source). low_of-seen (whole (unshifted on (pos 0) (contribution_of case s))) (side_run case network values number s) in
      record {
        positive = positive-is e.duty valid.duty.above;
        hot_duty = hot.has_duty;
        cold_duty = cold.has_duty;
        apart = λ apart. record {
          high = subst₂ IsAtMost (sym (high side.Cold e.cold)) (sym (high side.Hot e.hot))
              (approach_seen _ _ (pos 0) (contribution_of case e.hot) (contribution_of case e.cold) apart.hot_end);
          low = subst₂ IsAtMost (sym (low side.Cold e.cold)) (sym (low side.Hot e.hot))
              (approach_seen _ _ (pos 0) (contribution_of case e.hot) (contribution_of case e.cold) apart.cold_end);
        };
        released = hot.is_share;
        absorbed = cold.is_share;
      }

pub exchangers_run : ExchangersRunOnOneScale
exchangers_run case network values number e shape whole_values at = run_on_scale shape whole_values number e at
