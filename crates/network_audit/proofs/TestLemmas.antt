-- Each test of an audit is passed exactly where its part of a valid network holds: a lemma for each kind, used both ways.
use Rattle.network_audit.proofs.BehindPass.{behind_latent, behind_state, state_behind}
use Rattle.network_audit.proofs.EndLemmas.{contains-ended, ended-contains}
use Rattle.network_audit.proofs.ItemLemmas.{all-if, found-item, passed-item, passed-rest}
use Rattle.network_audit.proofs.PartLemmas.{ArePassed}
use Rattle.network_audit.proofs.Words.{All-append, All-back, All-cons, All-from_recursion, All-head, All-nil}
use Rattle.network_audit.proofs.Words.{All-tail, Balance, BranchValue, Case, Decides-is_below, Decides-not_below}
use Rattle.network_audit.proofs.Words.{Decides-rational_eq, Exchanger, HasShape, IsFullEnd, IsInRange, IsPartOfLoad}
use Rattle.network_audit.proofs.Words.{IsPermitted, IsWholeValuation, Item, KeepsApproach, LeavesRoom, Line, Network}
use Rattle.network_audit.proofs.Words.{PassKeepsLoad, Place, Rational, Reason, Step, Stream, Test, Utility, Valuation}
use Rattle.network_audit.proofs.Words.{balance_items, cost_steps, duties_with, duty_at, end_items, ended_by}
use Rattle.network_audit.proofs.Words.{ended_streams, ends, enumerate_from, exchanger_items_at, false≢true}
use Rattle.network_audit.proofs.Words.{finding_of, first_finding, full_size, heat_price, heat_with, heats_on}
use Rattle.network_audit.proofs.Words.{is_ended, is_forbidden, is_latent_branch, is_passed, items, last_state}
use Rattle.network_audit.proofs.Words.{last_value, line_items, load_items, mean_items, none-some, over, plus}
use Rattle.network_audit.proofs.Words.{range_items, rational_eq, rational_zero, same_Some, same_value, split_items}
use Rattle.network_audit.proofs.Words.{stream_at, stream_items_at, sum_steps, utility_items_at, value_at, whole}
use Rattle.std.proofs.Common.{All, Bool, Contains, List, None, Option, Some, [], ap, false, length, map, not, pos}
use Rattle.std.proofs.Common.{refl, slice_get, subst, sym, true, ℕ, ◌+◌, ◌↔◌, ◌∙◌, ◌∷◌, ◌≡◌}
use Rattle.std.proofs.lemmas.List.Elements.{recursion_from_All}
use Rattle.network_audit.specs.declared.findings.Finding.TheVariants as finding
use Rattle.network_audit.specs.declared.findings.Place.TheVariants as place
use Rattle.networks.specs.declared.network.Line.TheVariants as line
use Rattle.stream_case.specs.declared.source.Side.TheVariants as side

-- ---- items without a test that fails

-- a test is passed; a step is no test
abbrev pub IsSound : Item → Type 0
IsSound (Test at passed because) = passed ≡ true
IsSound (Step at number value) = Unit {0}

abbrev pub AreSound : List Item → Type 0
AreSound items = All IsSound items

sound-none : AreSound []
sound-none = All-nil IsSound

sound-step : (at : Place) (number : ℕ) (value : Rational) (items : List Item) → AreSound items
    → AreSound (Step at number value ∷ items)
sound-step at number value items sound = All-cons IsSound (Step at number value) items tt sound

-- no test fails among items that are passed
pub sound-passed : (items : List Item) → ArePassed items → AreSound items
sound-passed [] none = sound-none
sound-passed (item ∷ items) none =
    All-cons IsSound item items (by item (passed-item item items none)) (sound-passed items (passed-rest item items none))
  where
    by : (item : Item) → is_passed item ≡ true → IsSound item
    by (Test at passed because) is = is
    by (Step at number value) is = tt

-- a failed test is not found among those that are sound
pub sound-no_test : (items : List Item) (at : Place) (because : Reason) → AreSound items
    → first_finding items ≡ Some (finding.Failed at because) → ⊥
sound-no_test items at because sound found =
    let (item, is, failed, same) = found-item IsSound items (finding.Failed at because) sound found in
    by item is failed same
  where
    by : (item : Item) → IsSound item → is_passed item ≡ false → finding_of item ≡ finding.Failed at because → ⊥
    by (Test here passed why) is failed same = false≢true (sym failed ∙ is)
    by (Step here number value) is failed same = cc same

-- sums and costs have steps alone
sound-sums : (at : Place) (before : ℕ) (total : Rational) (numbers : List Rational)
    → AreSound (sum_steps at before total numbers)
sound-sums at before total [] = sound-none
sound-sums at before total (a ∷ numbers) = sound-step _ _ _ _ (sound-sums at (before + 1) (plus total a) numbers)

sound-costs : (at : Place) (before : ℕ) (cost : Rational) (prices : List Rational)
    → AreSound (cost_steps at before cost prices)
sound-costs at before cost [] = sound-none
sound-costs at before cost (a ∷ prices) =
    let next = cost_steps at (before + 2) (plus cost a) prices in
    sound-step at (before + 1) a (Step at (before + 2) (plus cost a) ∷ next)
    (sound-step at (before + 2) (plus cost a) next (sound-costs at (before + 2) (plus cost a) prices))

-- ---- statements

-- an end is full: the branch carries its whole stream in its last state
sound_end : (at : Place) (value : BranchValue) (o : Option Stream)
    → AreSound (end_items at value o) ↔ ((s : Stream) → o ≡ Some s → value ≡ last_value s)
sound_end at value None = ((λ sound s is. absurd (none-some s is)), (λ full. sound-none))
sound_end at value (Some s) =
    let items = end_items at value (Some s) in
    let size = Decides-rational_eq value.cp (full_size s) in
    let state = Decides-rational_eq value.t (last_state s) in (
      (λ sound other is.
          let tests = recursion_from_All IsSound items sound in
          let full = same_value value (last_value s) (size.0 tests.0) (state.0 tests.1.0) in
          subst (λ stream. value ≡ last_value stream) (same_Some s other is) full),
      (λ full.
          let is = full s refl in
          All-from_recursion IsSound items (size.1 (ap (λ v. v.cp) is), (state.1 (ap (λ v. v.t) is), tt))),
    )

-- the state of a latent branch is a part of the load
sound_load : (at : Place) (latent : Bool) (state : Rational)
    → AreSound (load_items at latent state) ↔ (latent ≡ true → IsPartOfLoad state)
sound_load at false state = ((λ sound is. cc is), (λ keeps. sound-none))
sound_load at true state =
    let items = load_items at true state in
    let least = Decides-not_below state rational_zero in
    let most = Decides-not_below (whole (pos 1)) state in (
      (λ sound is.
          let tests = recursion_from_All IsSound items sound in
          record { least = least.0 tests.0; most = most.0 tests.1.0 }),
      (λ keeps.
          let part = keeps refl in
          All-from_recursion IsSound items (least.1 part.least, (most.1 part.most, tt))),
    )

-- what a valid network keeps at a line: a split leaves room, the state behind a pass is a part of the load, an end is full
pub record IsKept (case : Case) (network : Network) (values : Valuation) (l : Line) : Type 0 where
  pub room : LeavesRoom values l
  pub load : PassKeepsLoad case network values l
  pub full : All (IsFullEnd case network values) (ends l)

module _ (case : Case) (network : Network) (values : Valuation) (shape : HasShape case network)
    (valuation : IsWholeValuation case network values) where
  -- a line without a test keeps it all
  nothing_kept : (l : Line) → LeavesRoom values l → PassKeepsLoad case network values l → ends l ≡ [] → IsKept case network values l
  nothing_kept l room load none = record {
    room = room;
    load = load;
    full = subst (All (IsFullEnd case network values)) (sym none) (All-nil (IsFullEnd case network values));
  }

  pub sound_line : (k : ℕ) (l : Line) → slice_get network.lines k ≡ Some l
      → AreSound (line_items case network values (place.Line (k + 1)) l) ↔ IsKept case network values l
  sound_line k (line.Exchanger name hot cold duty) at =
      ((λ sound. nothing_kept (line.Exchanger name hot cold duty) tt tt refl), (λ kept. sound-none))
  sound_line k (line.Split from first size second) at =
      let items = split_items (place.Line (k + 1)) (value_at values from) size in
      let leaves = Decides-is_below size (value_at values from).cp in (
        (λ sound.
            let tests = recursion_from_All IsSound items sound in
            nothing_kept (line.Split from first size second) (leaves.0 tests.0) tt refl),
        (λ kept. All-from_recursion IsSound items (leaves.1 kept.room, (tt, tt))),
      )
  sound_line k (line.Pass from exchanger to) at =
      let here = place.Line (k + 1) in
      let latent = is_latent_branch case network from in
      let state = state_behind case network values from exchanger in
      let tests = sound_load here latent state in
      let same_state = behind_state shape valuation k at in
      let same_latent = behind_latent shape valuation k at in
      let one = Step here 1 (over (duty_at network exchanger) (value_at values from).cp) in
      let two = Step here 2 state in
      let items = load_items here latent state in (
        (λ sound.
            let loads = All-tail IsSound two items (All-tail IsSound one (two ∷ items) sound) in
            let part : PassKeepsLoad case network values (line.Pass from exchanger to)
            = λ is. subst IsPartOfLoad (sym same_state) (tests.0 loads (sym same_latent ∙ is)) in
            nothing_kept (line.Pass from exchanger to) tt part refl),
        (λ kept.
            let part : latent ≡ true → IsPartOfLoad state
            = λ is. subst IsPartOfLoad same_state (kept.load (same_latent ∙ is)) in
            All-cons IsSound one (two ∷ items) tt (All-cons IsSound two items tt (tests.1 part))),
      )
  sound_line k (line.Mix first second to) at =
      let one = value_at values first in
      let two = value_at values second in
      let means = mean_items (place.Line (k + 1)) one two (plus one.cp two.cp) in
      let sound_means = All-from_recursion IsSound means (tt, (tt, (tt, (tt, tt)))) in (
        (λ sound. nothing_kept (line.Mix first second to) tt tt refl),
        (λ kept. sound-step _ _ _ _ (all-if IsSound (rational_eq one.t two.t) means sound_means)),
      )
  sound_line k (line.End branch) at =
      let stream = slice_get case.streams (stream_at network.branches branch) in
      let IsFull = IsFullEnd case network values in
      let tests = sound_end (place.Line (k + 1)) (value_at values branch) stream in (
        (λ sound. record { room = tt; load = tt; full = All-cons IsFull branch [] (tests.0 sound) (All-nil IsFull) }),
        (λ kept. tests.1 (All-head IsFull branch [] kept.full)),
      )

-- ---- what follows the statements

-- a stream ends
pub sound_stream : (network : Network) (index : ℕ) (s : Stream)
    → AreSound (stream_items_at network (index, s)) ↔ Contains (ended_streams network) index
unfolding is_ended ended_streams ended_by
sound_stream network index s =
    let items = stream_items_at network (index, s) in (
      (λ sound. ended-contains network.branches index network.lines (recursion_from_All IsSound items sound).0),
      (λ ended. All-from_recursion IsSound items (contains-ended network.branches index network.lines ended, tt)),
    )

-- an exchanger may stand, and keeps its approach at both ends
pub record MayStand (case : Case) (network : Network) (values : Valuation) (number : ℕ) (e : Exchanger) : Type 0 where
  pub permitted : IsPermitted case e
  pub approach : KeepsApproach case network values number e

false_from_not : (b : Bool) → not b ≡ true → b ≡ false
false_from_not true is = cc is
false_from_not false is = refl

pub sound_exchanger : (case : Case) (network : Network) (values : Valuation) (number : ℕ) (e : Exchanger)
    → AreSound (exchanger_items_at case network values (number, e)) ↔ MayStand case network values number e
sound_exchanger case network values number e =
    let items = exchanger_items_at case network values (number, e) in (
      (λ sound.
          let tests = recursion_from_All IsSound items sound in
          record {
            permitted = false_from_not (is_forbidden case.forbids e.hot e.cold) tests.0;
            approach = record {
              hot_end = (Decides-not_below _ _).0 tests.1.1.0;
              cold_end = (Decides-not_below _ _).0 tests.1.1.1.1.0;
            };
          }),
      (λ stands.
          let hot = (Decides-not_below _ _).1 stands.approach.hot_end in
          let cold = (Decides-not_below _ _).1 stands.approach.cold_end in
          All-from_recursion IsSound items (ap not stands.permitted, (tt, (hot, (tt, (cold, tt)))))),
    )

-- the heat of a utility is in its range
pub sound_utility : (network : Network) (index : ℕ) (u : Utility)
    → AreSound (utility_items_at network (index, u)) ↔ IsInRange u (heat_with network index)
sound_utility network index u =
    let at = place.Utility index in
    let heat = heat_with network index in
    let duties = duties_with network index in
    let sums = sum_steps at 0 rational_zero duties in
    let items = range_items at u heat in
    let least = Decides-not_below heat (whole u.least) in
    let most = Decides-not_below (whole u.most) heat in (
      (λ sound.
          let tests = recursion_from_All IsSound items (All-back IsSound sums items sound) in
          record { least = least.0 tests.0; most = most.0 tests.1.0 }),
      (λ range.
          let tests = All-from_recursion IsSound items (least.1 range.least, (most.1 range.most, tt)) in
          All-append IsSound sums items (sound-sums at 0 rational_zero duties) tests),
    )

-- the balance has steps alone
pub sound_balance : (case : Case) (network : Network) → AreSound (balance_items case network)
unfolding balance_items
sound_balance case network =
    let hot = heats_on side.Hot case network in
    let cold = heats_on side.Cold case network in
    let prices = map (heat_price network) (enumerate_from 0 case.utilities) in
    let costs = sound-costs place.Balance (length hot + length cold + 1) rational_zero prices in
    let colds = sound-sums place.Balance (length hot) rational_zero cold in
    All-append IsSound _ _ (sound-sums place.Balance 0 rational_zero hot)
    (All-append IsSound _ _ colds (sound-step _ _ _ _ costs))
