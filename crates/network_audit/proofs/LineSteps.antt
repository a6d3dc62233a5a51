-- The numbers that statements and exchangers form are within the limits where what the branches carry leaves room.
use Rattle.network_audit.proofs.ItemLemmas.{all-if}
use Rattle.network_audit.proofs.Words.{All-from_recursion, BranchValue, Case, Exchanger, HasShape, HasValidStreams-IsComplete, IsBelow, IsBetween, IsComplete}
use Rattle.network_audit.proofs.Words.{IsContribution, IsFormed, IsLevel, IsMix, IsPass, IsSplit, IsTemperature, IsUtility, IsValidStream, IsWholeValuation}
use Rattle.network_audit.proofs.Words.{IsWithinLimits, Line, MOST_CONTRIBUTION, Network, Place, Rational, Side, Solves, Source, StaysValid-IsComplete}
use Rattle.network_audit.proofs.Words.{Step, Stream, Utility, Valuation, all_at, all_solved, branch_above, branch_side, cases_lt, change, duty_at, end_items}
use Rattle.network_audit.proofs.Words.{ends_of, exchanger_items_at, fixed_level, get_or_past, ints, is_latent, is_latent_branch, level_or, line_items}
use Rattle.network_audit.proofs.Words.{load_items, mean_items, minus, mix_determined, mix_items, mixed_positive, moved, mul-le-mul, mul-pos, names-known}
use Rattle.network_audit.proofs.Words.{no_value, option_map_or, over, over_from_times, pass_determined, pass_items, pass_of, pass_run, passed_run, plus}
use Rattle.network_audit.proofs.Words.{positive-nonzero, rational_eq, rational_zero, run_between, same_Some, side_items, side_run, split_determined}
use Rattle.network_audit.proofs.Words.{split_items, stream_at, times, times-zero, times_comm, value_at, whole, whole-plus, within-whole, zero-plus}
use Rattle.network_audit.proofs.FormedLemmas.{AreFormed, formed-none, formed-step}
use Rattle.network_audit.proofs.Sized.{IsSized, most_den, sized-minus, sized-plus, sized-times, sized-whole, sized-within}
use Rattle.network_values.specs.Sides.{approach_of, contribution_of, high_of, low_of, stream_level}
use Rattle.std.proofs.Common.{All, Bool, None, Option, Some, ap, arith, false, if◌then◌else◌, length, pos, refl, slice_get, subst, sym, true, ℕ, ℤ}
use Rattle.std.proofs.Common.{⊎_elim, ◌*◌, ◌+ℤ◌, ◌+◌, ◌<◌, ◌∙◌, ◌∷◌, ◌≡◌, ◌≤◌}
pub use Rattle.network_audit.specs.Sized.{AreSmall, most_approach}
use Rattle.network_audit.specs.declared.findings.Place.TheVariants as place
use Rattle.networks.specs.declared.network.Line.TheVariants as line
use Rattle.stream_case.specs.declared.source.Side.TheVariants as side
use Rattle.stream_case.specs.declared.source.Source.TheVariants as source

-- ---- what a branch carries

-- an approach of two sources
abbrev pub IsApproach : ℤ → Type 0
IsApproach approach = IsBetween (pos 0) (MOST_CONTRIBUTION +ℤ MOST_CONTRIBUTION) approach

-- a size, a state, their product, and the state with an approach added are within the limits
pub record IsRoomy (v : BranchValue) : Type 0 where
  pub size : IsWithinLimits v.cp
  pub state : IsWithinLimits v.t
  pub heat : IsWithinLimits (times v.cp v.t)
  pub wanted : (approach : ℤ) → IsApproach approach → IsWithinLimits (plus v.t (whole approach))

pub within-zero : IsWithinLimits rational_zero
within-zero = within-whole (pos 0) (omega arith)

roomy_none : IsRoomy no_value
roomy_none = record {
  size = within-zero;
  state = within-zero;
  heat = subst IsWithinLimits (sym (times-zero rational_zero)) within-zero;
  wanted =
      λ approach is. subst IsWithinLimits (sym (zero-plus (whole approach))) (within-whole approach (omega (arith, ints, is.from, is.upto)));
}

factors : (d e most : ℕ) → 0 < d → 0 < e → d * e ≤ most → (d ≤ most) × (e ≤ most)
factors d e most some_d some_e both =
    let one : d * 1 ≤ d * e = mul-le-mul (omega arith) some_e in
    let other : 1 * e ≤ d * e = mul-le-mul some_d (omega arith) in
    (omega (arith, one, both), omega (arith, other, both))

-- they leave room
pub sized_roomy : (d m e n : ℕ) (v : BranchValue) → AreSmall d m e n → IsSized d m v.cp → IsSized e n v.t → IsRoomy v
sized_roomy d m e n v small size state =
    let dens = factors d e (most_den) small.size_den small.state_den small.dens in
    let most = small.state in
    record {
      size = sized-within d m v.cp small.size_den dens.0 small.size size;
      state = sized-within e n v.t small.state_den dens.1 (omega (arith, most)) state;
      heat = sized-within (d * e) (m * n) (times v.cp v.t) (mul-pos small.size_den small.state_den) small.dens small.heat
          (sized-times d e m n v.cp v.t small.size_den small.state_den size state);
      wanted = λ approach asked. let from = asked.from in
          let upto = asked.upto in
          let added = sized-plus e n most_approach v.t (whole approach) state
          (sized-whole e most_approach approach small.state_den (omega (arith, ints, from, upto))) in
          sized-within e (n + most_approach) (plus v.t (whole approach)) small.state_den dens.1 (omega (arith, most)) added;
    }

-- and so does the change from one state to another
pub sized_change : (d m e n : ℕ) (of : Side) (before after : Rational) → AreSmall d m e n
    → IsSized e n before → IsSized e n after
    → IsWithinLimits (change of before after)
sized_change d m e n of before after small one two =
    let dens = factors d e (most_den) small.size_den small.state_den small.dens in
    by of (sized-within e (n + n) (minus before after) small.state_den dens.1 (omega arith) (sized-minus e n n before after one two))
    (sized-within e (n + n) (minus after before) small.state_den dens.1 (omega arith) (sized-minus e n n after before two one))
  where
    by : (of : Side) → IsWithinLimits (minus before after) → IsWithinLimits (minus after before)
        → IsWithinLimits (change of before after)
    by side.Hot falls rises = falls
    by side.Cold falls rises = rises

-- what holds of nothing and of each value holds of a branch with any number
pub each_value : (P : BranchValue → Type 0) → P no_value → (values : Valuation) → All P values → (branch : ℕ)
    → P (value_at values branch)
each_value P none values each branch =
    ⊎_elim (λ inside. each branch no_value inside) (λ past. subst P (sym (get_or_past values branch no_value past)) none) (cases_lt branch (length values))

roomy_at : (values : Valuation) → All IsRoomy values → (branch : ℕ) → IsRoomy (value_at values branch)
roomy_at values roomy branch = each_value IsRoomy roomy_none values roomy branch

-- what the branches of a network carry leaves room, and so does the change of the state in each pass
pub record HasRoom (case : Case) (network : Network) (values : Valuation) : Type 0 where
  pub branches : All IsRoomy values
  pub changes : (k from exchanger to : ℕ) → slice_get network.lines k ≡ Some (line.Pass from exchanger to)
      → IsWithinLimits (change (branch_side case network from) (value_at values from).t (value_at values to).t)

-- ---- statements

-- the rest of a split is the size of its second branch
pub split_formed : (at : Place) (from first second : BranchValue) (cp : Rational)
    → IsSplit from first second cp → IsRoomy second
    → AreFormed (split_items at from cp)
split_formed at from first second cp split roomy =
    let rest = ap (λ (v : BranchValue). v.cp) (split_determined from first second cp split).second_is in
    All-from_recursion IsFormed (split_items at from cp) (tt, (subst IsWithinLimits rest roomy.size, tt))

load_formed : (at : Place) (latent : Bool) (state : Rational) → AreFormed (load_items at latent state)
load_formed at false state = formed-none
load_formed at true state = All-from_recursion IsFormed (load_items at true state) (tt, (tt, tt))

-- a pass forms the change of the state, and the state behind it
pub pass_formed : (at : Place) (of : Side) (latent : Bool) (duty : Rational) (from to : BranchValue)
    → IsBelow rational_zero from.cp → IsPass of duty from to
    → IsRoomy to → IsWithinLimits (change of from.t to.t) → AreFormed (pass_items at of latent from duty)
pass_formed at of latent duty from to positive pass roomy change_within =
    let by = change of from.t to.t in
    let after = moved of from.t (over duty from.cp) in
    let over_size = over_from_times by duty from.cp (positive-nonzero from.cp positive) (times_comm by from.cp ∙ pass.heat) in
    let state = ap (λ (v : BranchValue). v.t) (pass_determined of from to duty positive pass) in
    formed-step at 1 (over duty from.cp) (Step at 2 after ∷ load_items at latent after) (subst IsWithinLimits over_size change_within)
    (formed-step at 2 after (load_items at latent after) (subst IsWithinLimits state roomy.state) (load_formed at latent after))

-- a mix forms the size, the two products, that of the mixed branch, and its state
pub mix_formed : (at : Place) (first second to : BranchValue)
    → IsBelow rational_zero (plus first.cp second.cp) → IsMix first second to → IsRoomy first
    → IsRoomy second → IsRoomy to → AreFormed (mix_items at first second)
mix_formed at first second to positive mix one two both =
    let state = subst IsWithinLimits (ap (λ (v : BranchValue). v.t) (mix_determined first second to positive mix)) both.state in
    let means = mean_items at first second (plus first.cp second.cp) in
    let rest : AreFormed means
    = All-from_recursion IsFormed means (one.heat, (two.heat, ((subst IsWithinLimits mix.heat both.heat), (state, tt)))) in
    formed-step _ _ _ _ (subst IsWithinLimits mix.size both.size) (all-if IsFormed (rational_eq first.t second.t) means rest)

end_formed : (at : Place) (value : BranchValue) (o : Option Stream) → AreFormed (end_items at value o)
end_formed at value None = formed-none
end_formed at value (Some s) = All-from_recursion IsFormed (end_items at value (Some s)) (tt, (tt, tt))

pub lines_formed : (case : Case) (network : Network) (values : Valuation) → HasShape case network
    → IsWholeValuation case network values
    → HasRoom case network values → (k : ℕ) (l : Line) → slice_get network.lines k ≡ Some l
    → AreFormed (line_items case network values (place.Line (k + 1)) l)
lines_formed case network values shape valuation room k (line.Exchanger name hot cold duty) here = formed-none
lines_formed case network values shape valuation room k (line.Split from first cp second) here =
    split_formed (place.Line (k + 1)) (value_at values from) (value_at values first) (value_at values second) cp
    (all_at (Solves case network values) network.lines k (line.Split from first cp second) (all_solved valuation) here) (roomy_at values room.branches second)
lines_formed case network values shape valuation room k (line.Pass from exchanger to) here =
    let known = names-known case network shape k (line.Pass from exchanger to) here in
    pass_formed (place.Line (k + 1)) (branch_side case network from) (is_latent_branch case network from) (duty_at network exchanger)
    (value_at values from) (value_at values to) (branch_above valuation shape from known.0)
    (all_at (Solves case network values) network.lines k (line.Pass from exchanger to) (all_solved valuation) here) (roomy_at values room.branches to)
    (room.changes k from exchanger to here)
lines_formed case network values shape valuation room k (line.Mix first second to) here =
    let known = names-known case network shape k (line.Mix first second to) here in
    let positive = mixed_positive (value_at values first) (value_at values second) (branch_above valuation shape first known.0)
    (branch_above valuation shape second known.1) in
    mix_formed (place.Line (k + 1)) (value_at values first) (value_at values second) (value_at values to) positive
    (all_at (Solves case network values) network.lines k (line.Mix first second to) (all_solved valuation) here)
    (roomy_at values room.branches first) (roomy_at values room.branches second) (roomy_at values room.branches to)
lines_formed case network values shape valuation room k (line.End branch) here =
    end_formed (place.Line (k + 1)) (value_at values branch) (slice_get case.streams (stream_at network.branches branch))

-- ---- exchangers

contribution-within : (case : Case) → IsComplete case → (of : Source) → IsContribution (contribution_of case of)
contribution-within case complete (source.Stream number) = by (slice_get case.streams number) refl
  where
    by : (o : Option Stream) → slice_get case.streams number ≡ o
        → IsContribution (option_map_or (λ s. s.contribution) o (pos 0))
    by None at = record { from = omega (arith, ints); upto = omega (arith, ints) }
    by (Some s) at =
        (all_at IsValidStream case.streams number s (HasValidStreams-IsComplete case complete).are_streams.each at).contribution
contribution-within case complete (source.Utility number) = by (slice_get case.utilities number) refl
  where
    by : (o : Option Utility) → slice_get case.utilities number ≡ o
        → IsContribution (option_map_or (λ u. u.contribution) o (pos 0))
    by None at = record { from = omega (arith, ints); upto = omega (arith, ints) }
    by (Some u) at =
        (all_at IsUtility case.utilities number u (StaysValid-IsComplete case complete).utilities at).contribution

pub approach-within : (case : Case) → IsComplete case → (hot cold : Source) → IsApproach (approach_of case hot cold)
approach-within case complete hot cold =
    let one = contribution-within case complete hot in
    let two = contribution-within case complete cold in
    record { from = omega (arith, ints); upto = omega (arith, ints) }

-- a level that a source has is one of a case
supply-level : (latent : Bool) (supply level : ℤ) → IsTemperature supply
    → (if latent then Some supply else None) ≡ Some level → IsLevel level
supply-level false supply level is found = cc found
supply-level true supply level is found =
    subst IsLevel (same_Some supply level found) (record { from = omega (arith, ints); upto = omega (arith, ints) })

level-within : (case : Case) → IsComplete case → (s : Source) (level : ℤ) → fixed_level case s ≡ Some level
    → IsLevel level
level-within case complete (source.Stream number) level is = by (slice_get case.streams number) refl is
  where
    by : (o : Option Stream) → slice_get case.streams number ≡ o → stream_level o ≡ Some level → IsLevel level
    by None at found = cc found
    by (Some s) at found =
        let valid = all_at IsValidStream case.streams number s (HasValidStreams-IsComplete case complete).are_streams.each at in
        supply-level (is_latent s) s.supply level valid.supply found
level-within case complete (source.Utility number) level is =
    subst IsLevel (same_Some _ level is) (by (slice_get case.utilities number) refl)
  where
    by : (o : Option Utility) → slice_get case.utilities number ≡ o → IsLevel (option_map_or (λ u. u.level) o (pos 0))
    by None at = record { from = omega (arith, ints); upto = omega (arith, ints) }
    by (Some u) at = (all_at IsUtility case.utilities number u (StaysValid-IsComplete case complete).utilities at).level

-- a level with an approach added
wanted-level : (level approach : ℤ) → IsLevel level → IsApproach approach
    → IsWithinLimits (plus (whole level) (whole approach))
wanted-level level approach is asked =
    let from = asked.from in
    subst IsWithinLimits (sym (whole-plus level approach)) (within-whole (level +ℤ approach) (omega (arith, ints, from)))

-- what holds of the states of all branches and of all levels holds of both ends of a side
module _
    (P : Rational → Type 0) (case : Case) (network : Network) (values : Valuation) (each : (branch : ℕ) → P (value_at values branch).t)
    (levels : (s : Source) (level : ℤ) → fixed_level case s ≡ Some level → P (whole level)) (none : P rational_zero)
  where
    between_keeps : (of : Side) (from to : ℕ)
        → P (low_of (run_between of (value_at values from) (value_at values to))) × P (high_of (run_between of (value_at values from) (value_at values to)))
    between_keeps side.Hot from to = (each to, each from)
    between_keeps side.Cold from to = (each from, each to)

    pass_keeps : (o : Option Line)
        → P (low_of (pass_run case network values o)) × P (high_of (pass_run case network values o))
    pass_keeps (Some (line.Pass from exchanger to)) = between_keeps (branch_side case network from) from to
    pass_keeps other = (none, none)

    passed_keeps : (number : ℕ) (of : Source)
        → P (low_of (passed_run case network values number of)) × P (high_of (passed_run case network values number of))
    passed_keeps number (source.Stream stream) = pass_keeps (pass_of network number stream)
    passed_keeps number (source.Utility index) = (none, none)

    side_keeps : (number : ℕ) (of : Source)
        → P (low_of (side_run case network values number of)) × P (high_of (side_run case network values number of))
    unfolding side_run
    side_keeps number of = by (fixed_level case of) refl
      where
        by : (o : Option ℤ) → fixed_level case of ≡ o
            → P (low_of (level_or (passed_run case network values number of) o)) × P (high_of (level_or (passed_run case network values number of) o))
        by None at = passed_keeps number of
        by (Some level) at = let here = levels of level at in (here, here)

-- an exchanger forms the temperatures that its cold side asks for
pub exchanger_formed : (case : Case) (network : Network) (values : Valuation) → IsComplete case
    → All IsRoomy values → (number : ℕ) (e : Exchanger)
    → AreFormed (exchanger_items_at case network values (number, e))
exchanger_formed case network values complete roomy number e =
    let approach = approach_of case e.hot e.cold in
    let asked = approach-within case complete e.hot e.cold in
    let given = ends_of side.Hot (side_run case network values number e.hot) in
    let taken = ends_of side.Cold (side_run case network values number e.cold) in
    let both = side_keeps (λ t. IsWithinLimits (plus t (whole approach))) case network values (λ branch. (roomy_at values roomy branch).wanted approach asked)
    (λ s level at. wanted-level level approach (level-within case complete s level at) asked) (roomy_none.wanted approach asked) number e.cold in
    All-from_recursion IsFormed (side_items case (place.Exchanger number) e.hot e.cold given taken) (tt, (both.1, (tt, (both.0, (tt, tt)))))
