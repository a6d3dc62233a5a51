-- The table of the exchangers: as it is filled, and what it holds.
use Rattle.network_audit.proofs.Words.{All-enumerated, Branch, BranchValue, Case, Crossing, Exchanger, HasShape, IsBelow, IsExchanger, Joint, Line, NamesKnown}
use Rattle.network_audit.proofs.Words.{Network, PassesBelow, Rational, Side, SideRun, Source, Utility, Valuation, all_at, all_heat_items, balance_items}
use Rattle.network_audit.proofs.Words.{branch_side, cons_option, crossing_among, crossing_by, duties_in, duties_with, duty_at, duty_of, duty_with, ends_of}
use Rattle.network_audit.proofs.Words.{enumerate_from, enumerate_from-append, exchanger_items, exchanger_items_at, exchanger_of, exchangers_of}
use Rattle.network_audit.proofs.Words.{filter_map-append, find-append, first-none, first_finding, fixed_level, get_or_default, heat_items, heat_of_both}
use Rattle.network_audit.proofs.Words.{heats_in, is_pass_of, items, items_before, items_behind, joint_among, joint_duty, joint_items, joint_items_at}
use Rattle.network_audit.proofs.Words.{joints_among, joints_of, length-enumerate_from, length-map, level_or, map-append, names-known, no_value, none-some}
use Rattle.network_audit.proofs.Words.{noted, option_or, over, over_from_times, pass_of, pass_run, passed_joint, passed_run, plus, positive-nonzero}
use Rattle.network_audit.proofs.Words.{range_items, rational_sum, rational_zero, run_between, same_Some, side_items, side_of, side_run, slice_get-get_or}
use Rattle.network_audit.proofs.Words.{statement_items, stream_at, stream_items, sum_steps, take_more, the_pass_of, times, times-plus, times_comm}
use Rattle.network_audit.proofs.Words.{utility_items, utility_items_at, value_at}
use Rattle.std.proofs.Common.{All, Bool, List, None, Option, Some, [], ap, append-nil, ap₂, arith, cond, eq-eqb, false, filter_map, find, flat_map, get_or}
use Rattle.std.proofs.Common.{if◌then◌else◌, inl, inr, length, length-take, map, ne_eqb, refl, set, slice_get, suc, sym, take, true, unwrap_or, zero, ℕ, ℤ}
use Rattle.std.proofs.Common.{◌&&◌, ◌++◌, ◌+◌, ◌<◌, ◌==◌, ◌∙◌, ◌∷◌, ◌≡◌, ◌≢◌, ◌⊎◌}
use Rattle.network_audit.proofs.ItemLemmas.{flat_map-same, found-append, found-behind}
use Rattle.network_audit.proofs.PartLemmas.{items-whole}
use Rattle.network_audit.specs.Table.{ends_at, level_ends, passed_ends}
use Rattle.networks.specs.declared.network.Line.TheVariants as line
use Rattle.stream_case.specs.declared.source.Source.TheVariants as source
use Rattle.network_audit.specs.declared.findings.Place.TheVariants as place
use Rattle.stream_case.specs.declared.source.Side.TheVariants as side

-- ---- lists made of members with their indices

module _ {X Y : Type 0} where
  pub get_or-made : (f : ℕ × X → Y) (m : ℕ) (xs : List X) (i : ℕ) (x : X) (d : Y) → slice_get xs i ≡ Some x
      → get_or (map f (enumerate_from m xs)) i d ≡ f (m + i, x)
  get_or-made f m [] i x d at = absurd (none-some x at)
  get_or-made f m (y ∷ ys) zero x d at = ap₂ (λ n z. f (n, z)) (omega arith) (same_Some y x at)
  get_or-made f m (y ∷ ys) (suc i) x d at = get_or-made f (m + 1) ys i x d at ∙ ap (λ n. f (n, x)) (omega arith)

-- ---- exchangers without passes

abbrev pub unpassed : Exchanger → Joint
unpassed e = record { hot = e.hot; cold = e.cold; duty = e.duty; given = None; taken = None }

none_among : (branches : List Branch) (n : ℕ) (of : Source) → crossing_among branches [] n of ≡ None
none_among branches n (source.Stream stream) = refl
none_among branches n (source.Utility index) = refl

joint-unpassed : (branches : List Branch) (n : ℕ) (e : Exchanger) → joint_among branches [] (n, e) ≡ unpassed e
joint-unpassed branches n e =
    λ i. record { hot = e.hot; cold = e.cold; duty = e.duty; given = none_among branches n e.hot i; taken = none_among branches n e.cold i }

-- one exchanger more
pub joints-push : (branches : List Branch) (es : List Exchanger) (e : Exchanger)
    → joints_among branches [] (es ++ e ∷ []) ≡ joints_among branches [] es ++ unpassed e ∷ []
unfolding joints_among
joints-push branches es e = ap (map (joint_among branches [])) (enumerate_from-append 0 es (e ∷ []))
    ∙ map-append (joint_among branches []) (enumerate_from 0 es) (enumerate_from (0 + length es) (e ∷ []))
    ∙ ap (λ j. map (joint_among branches []) (enumerate_from 0 es) ++ j ∷ []) (joint-unpassed branches (0 + length es) e)

pub joints-none : (branches : List Branch) → joints_among branches [] [] ≡ []
unfolding joints_among
joints-none branches = refl

pub length-joints : (branches : List Branch) (lines : List Line) (es : List Exchanger)
    → length (joints_among branches lines es) ≡ length es
unfolding joints_among
length-joints branches lines es =
    length-map (enumerate_from 0 es) (joint_among branches lines) ∙ length-enumerate_from 0 es

-- ---- one line more

find_holds : {X : Type 0} (p : X → Bool) (xs : List X) (x : X) → find p xs ≡ Some x → p x ≡ true
find_holds p [] x found = cc found
find_holds p (y ∷ ys) x found = by (p y) refl (find_holds p ys x) found
  where
    by : (b : Bool) → p y ≡ b → (find p ys ≡ Some x → p x ≡ true) → cond b (Some y) (find p ys) ≡ Some x → p x ≡ true
    by true is later found = let same : y ≡ x = cc found in ap p (sym same) ∙ is
    by false is later found = later found

-- a pass that was found is kept
kept : (branches : List Branch) (n stream : ℕ) (l : Line) (more : ℕ) (crossing : Crossing)
    → is_pass_of branches n stream l ≡ true
    → noted (source.Stream stream) more crossing (crossing_by (Some l)) ≡ crossing_by (Some l)
kept branches n stream (line.Pass from through to) more crossing is = refl
kept branches n stream other more crossing is = cc is

-- the pass on the side of a source of the exchanger that one line more passes
crossing-here : (branches : List Branch) (lines : List Line) (from n to : ℕ) (of : Source)
    → crossing_among branches (lines ++ line.Pass from n to ∷ []) n of
    ≡ noted of (stream_at branches from) (record { from = from; to = to })
    (crossing_among branches lines n of)
crossing-here branches lines from n to (source.Utility index) = refl
crossing-here branches lines from n to (source.Stream stream) =
    ap crossing_by (find-append (is_pass_of branches n stream) lines (line.Pass from n to ∷ []))
    ∙ by (find (is_pass_of branches n stream) lines) refl
  where
    one : (b c : Bool) → b ≡ true
        → crossing_by (cond (b && c) (Some (line.Pass from n to)) None)
        ≡ (if c then Some (record { from = from; to = to }) else None)
    one true true is = refl
    one true false is = refl
    one false c is = cc is

    by : (o : Option Line) → find (is_pass_of branches n stream) lines ≡ o
        → crossing_by (option_or o (find (is_pass_of branches n stream) (line.Pass from n to ∷ [])))
        ≡ noted (source.Stream stream) (stream_at branches from)
        (record { from = from; to = to }) (crossing_by o)
    by None is = one (n == n) (stream == stream_at branches from) (eq-eqb n n refl)
    by (Some l) is = sym (kept branches n stream l (stream_at branches from) (record { from = from; to = to })
        (find_holds (is_pass_of branches n stream) lines l is))

-- a line that does not pass an exchanger on the side of a stream changes nothing there
found_same : (branches : List Branch) (lines : List Line) (l : Line) (n stream : ℕ)
    → is_pass_of branches n stream l ≡ false
    → find (is_pass_of branches n stream) (lines ++ l ∷ []) ≡ find (is_pass_of branches n stream) lines
found_same branches lines l n stream other =
    find-append (is_pass_of branches n stream) lines (l ∷ []) ∙ by (find (is_pass_of branches n stream) lines)
  where
    none : find (is_pass_of branches n stream) (l ∷ []) ≡ None
    none = ap (λ b. cond b (Some l) None) other

    by : (o : Option Line) → option_or o (find (is_pass_of branches n stream) (l ∷ [])) ≡ o
    by None = none
    by (Some m) = refl

crossing-other : (branches : List Branch) (lines : List Line) (l : Line) (n : ℕ) (of : Source)
    → ((stream : ℕ) → is_pass_of branches n stream l ≡ false)
    → crossing_among branches (lines ++ l ∷ []) n of ≡ crossing_among branches lines n of
crossing-other branches lines l n (source.Stream stream) other =
    ap crossing_by (found_same branches lines l n stream (other stream))
crossing-other branches lines l n (source.Utility index) other = refl

joint-other : (branches : List Branch) (lines : List Line) (l : Line) (n : ℕ) (e : Exchanger)
    → ((stream : ℕ) → is_pass_of branches n stream l ≡ false)
    → joint_among branches (lines ++ l ∷ []) (n, e) ≡ joint_among branches lines (n, e)
joint-other branches lines l n e other =
    let crossed = λ (side : Source). crossing-other branches lines l n side other in
    λ i. record { hot = e.hot; cold = e.cold; duty = e.duty; given = crossed e.hot i; taken = crossed e.cold i }

joint-here : (branches : List Branch) (lines : List Line) (from n to : ℕ) (e : Exchanger)
    → joint_among branches (lines ++ line.Pass from n to ∷ []) (n, e)
    ≡ passed_joint (stream_at branches from) (record { from = from; to = to })
    (joint_among branches lines (n, e))
joint-here branches lines from n to e =
    let crossed = λ (side : Source). crossing-here branches lines from n to side in
    λ i. record { hot = e.hot; cold = e.cold; duty = e.duty; given = crossed e.hot i; taken = crossed e.cold i }

passes-other : (branches : List Branch) (from k to n stream : ℕ) → n ≢ k
    → is_pass_of branches n stream (line.Pass from k to) ≡ false
passes-other branches from k to n stream other = ap (λ b. b && (stream == stream_at branches from)) (ne_eqb n k other)

-- ---- lists with one member changed

module _ {X Y : Type 0} (f g : ℕ × X → Y) where
  map-unchanged : (k m : ℕ) (xs : List X) → ((n : ℕ) (x : X) → n ≢ k → g (n, x) ≡ f (n, x)) → k < m
      → map g (enumerate_from m xs) ≡ map f (enumerate_from m xs)
  map-unchanged k m [] same before = refl
  map-unchanged k m (x ∷ xs) same before = ap₂ (λ y ys. y ∷ ys) (same m x (λ is. omega (arith, is, before)))
      (map-unchanged k (m + 1) xs same (omega (arith, before)))

  map-changed : (change : Y → Y) (k m : ℕ) (xs : List X) (j : ℕ) (d : Y) → ((x : X) → g (k, x) ≡ change (f (k, x)))
      → ((n : ℕ) (x : X) → n ≢ k → g (n, x) ≡ f (n, x))
      → k ≡ m + j → j < length xs
      → map g (enumerate_from m xs)
      ≡ set (map f (enumerate_from m xs)) j (change (get_or (map f (enumerate_from m xs)) j d))
  map-changed change k m [] j d here same at within = absurd (omega (arith, within))
  map-changed change k m (x ∷ xs) zero d here same at within =
      let first : m ≡ k = omega (arith, at) in
      ap₂ (λ y ys. y ∷ ys) (ap (λ n. g (n, x)) first ∙ here x ∙ ap (λ n. change (f (n, x))) (sym first)) (map-unchanged k (m + 1) xs same (omega (arith, at)))
  map-changed change k m (x ∷ xs) (suc j) d here same at within =
      ap₂ (λ y ys. y ∷ ys) (same m x (λ is. omega (arith, is, at))) (map-changed change k (m + 1) xs j d here same (omega (arith, at)) (omega (arith, within)))

-- the table behind a line that passes an exchanger
pub joints-passed : (branches : List Branch) (lines : List Line) (es : List Exchanger) (from k to : ℕ) (d : Joint)
    → k < length es
    → joints_among branches (lines ++ line.Pass from k to ∷ []) es
    ≡ set (joints_among branches lines es) k (passed_joint (stream_at branches from) (record { from = from; to = to })
    (get_or (joints_among branches lines es) k d))
unfolding joints_among
joints-passed branches lines es from k to d within =
    map-changed (joint_among branches lines) (joint_among branches (lines ++ line.Pass from k to ∷ []))
    (passed_joint (stream_at branches from) (record { from = from; to = to })) k 0 es k d (λ e. joint-here branches lines from k to e)
    (λ n e other. joint-other branches lines (line.Pass from k to) n e (λ stream. passes-other branches from k to n stream other)) (omega arith) within

-- the table behind a line that passes none
abbrev pub PassesNone : Line → Type 0
PassesNone l = (branches : List Branch) (n stream : ℕ) → is_pass_of branches n stream l ≡ false

pub joints-same : (branches : List Branch) (lines : List Line) (es : List Exchanger) (l : Line) → PassesNone l
    → joints_among branches (lines ++ l ∷ []) es ≡ joints_among branches lines es
unfolding joints_among
joints-same branches lines es l none =
    let same : (p : ℕ × Exchanger) → joint_among branches (lines ++ l ∷ []) p ≡ joint_among branches lines p
    = λ p. joint-other branches lines l p.0 p.1
    (none branches p.0) in λ i. map (λ p. same p i) (enumerate_from 0 es)

-- ---- line by line

no_exchanger : (l : Line)
    → ((name : List ℕ) (hot cold : Source) (duty : Rational) → l ≡ line.Exchanger name hot cold duty → ⊥)
    → exchanger_of l ≡ None
no_exchanger (line.Exchanger name hot cold duty) other = absurd (other name hot cold duty refl)
no_exchanger l other = refl

pub no_pass : (l : Line) → ((from exchanger to : ℕ) → l ≡ line.Pass from exchanger to → ⊥) → PassesNone l
no_pass (line.Pass from exchanger to) other branches n stream = absurd (other from exchanger to refl)
no_pass l other branches n stream = refl

-- what the first lines declare, and the next one
declared-next : (lines : List Line) (n : ℕ) (l : Line) → n < length lines → l ≡ get_or lines n l
    → exchangers_of (take (n + 1) lines) ≡ exchangers_of (take n lines) ++ exchangers_of (l ∷ [])
unfolding exchangers_of
declared-next lines n l within read =
    ap (filter_map exchanger_of) (take_more lines n l within)
    ∙ filter_map-append exchanger_of (take n lines) (get_or lines n l ∷ [])
    ∙ ap (λ m. filter_map exchanger_of (take n lines) ++ filter_map exchanger_of (m ∷ [])) (sym read)

pub declared-some : (branches : List Branch) (lines : List Line) (n : ℕ) (l : Line) (name : List ℕ) (hot cold : Source) (duty : Rational)
    → n < length lines
    → l ≡ get_or lines n l → l ≡ line.Exchanger name hot cold duty
    → joints_among branches [] (exchangers_of (take (n + 1) lines)) ≡ joints_among branches []
    (exchangers_of (take n lines)) ++ record { hot = hot; cold = cold; duty = duty; given = None; taken = None } ∷ []
unfolding exchangers_of
declared-some branches lines n l name hot cold duty within read is =
    ap (joints_among branches []) (declared-next lines n l within read ∙ ap (λ m. exchangers_of (take n lines) ++ exchangers_of (m ∷ [])) is)
    ∙ joints-push branches (exchangers_of (take n lines)) (record { name = name; hot = hot; cold = cold; duty = duty })

pub declared-other : (branches : List Branch) (lines : List Line) (n : ℕ) (l : Line) → n < length lines
    → l ≡ get_or lines n l
    → ((name : List ℕ) (hot cold : Source) (duty : Rational) → l ≡ line.Exchanger name hot cold duty → ⊥)
    → joints_among branches [] (exchangers_of (take (n + 1) lines))
    ≡ joints_among branches [] (exchangers_of (take n lines))
unfolding exchangers_of
declared-other branches lines n l within read other =
    ap (joints_among branches []) (declared-next lines n l within read ∙ ap (λ o. exchangers_of (take n lines) ++ cons_option o []) (no_exchanger l other)
    ∙ append-nil (exchangers_of (take n lines)))

-- ---- passes of exchangers that are there

module _ (case : Case) (network : Network) where
  below_from_known : (l : Line) → NamesKnown case network l → PassesBelow (length (exchangers_of network.lines)) l
  below_from_known (line.Pass from exchanger to) known = known.1
  below_from_known other known = tt

  pub passes_below : HasShape case network → All (PassesBelow (length (exchangers_of network.lines))) network.lines
  passes_below shape k d within =
      below_from_known (get_or network.lines k d) (names-known case network shape k (get_or network.lines k d) (slice_get-get_or network.lines k d within))

  -- What the audit reads of the table of exchangers is what the items say: the ends of the sides, and the duties of the utilities.

  -- ---- the ends of the sides

  -- the side that a stream's branches have
  branch_side-is : (from stream : ℕ) (on : Side) → stream_at network.branches from ≡ stream
      → side_of case (source.Stream stream) ≡ Some on → branch_side case network from ≡ on
  unfolding branch_side
  branch_side-is from stream on of_stream is =
      ap (λ s. unwrap_or (side_of case (source.Stream s)) side.Hot) of_stream ∙ ap (λ o. unwrap_or o side.Hot) is

  -- where a stream's pass is found, its ends are those of the branches
  stream_run : (values : Valuation) (number stream from to : ℕ) (on : Side)
      → pass_of network number stream ≡ Some (line.Pass from number to) → branch_side case network from ≡ on
      → ends_of on (passed_run case network values number (source.Stream stream))
      ≡ passed_ends values (Some (record { from = from; to = to }))
  stream_run values number stream from to on found is =
      ap (λ o. ends_of on (pass_run case network values o)) found
      ∙ ap (λ s. ends_of on (run_between s (value_at values from) (value_at values to))) is ∙ by on
    where
      by : (s : Side) → ends_of s (run_between s (value_at values from) (value_at values to))
          ≡ passed_ends values (Some (record { from = from; to = to }))
      by side.Hot = refl
      by side.Cold = refl

-- the pass that the table has of a stream
crossing-found : (network : Network) (number stream from to : ℕ)
    → pass_of network number stream ≡ Some (line.Pass from number to)
    → crossing_among network.branches network.lines number (source.Stream stream)
    ≡ Some (record { from = from; to = to })
unfolding pass_of
crossing-found network number stream from to found = ap crossing_by found

-- a level is that of both ends
level_run : (on : Side) (run : SideRun) (o : Option ℤ) → level_ends (ends_of on run) o ≡ ends_of on (level_or run o)
level_run on run None = refl
level_run side.Hot run (Some level) = refl
level_run side.Cold run (Some level) = refl

-- the ends that are read from the table
ends-are : (case : Case) (network : Network) (values : Valuation) (number : ℕ) (e : Exchanger) (of : Source) (on : Side)
    → HasShape case network
    → slice_get (exchangers_of network.lines) number ≡ Some e → (e.hot ≡ of) ⊎ (e.cold ≡ of) → side_of case of ≡ Some on
    → ends_at case values of (crossing_among network.branches network.lines number of)
    ≡ ends_of on (side_run case network values number of)
unfolding side_run
ends-are case network values number e (source.Stream stream) on shape at joins is =
    let (from, to, index, pass) = the_pass_of shape number stream e at joins in
    ap (ends_at case values (source.Stream stream)) (crossing-found network number stream from to pass.found)
    ∙ ap (λ ends. level_ends ends (fixed_level case (source.Stream stream)))
    (sym (stream_run case network values number stream from to on pass.found (branch_side-is case network from stream on pass.of_stream is)))
    ∙ level_run on (passed_run case network values number (source.Stream stream)) (fixed_level case (source.Stream stream))
ends-are case network values number e (source.Utility index) side.Hot shape at joins is = refl
ends-are case network values number e (source.Utility index) side.Cold shape at joins is = refl

-- ---- members of a table that was made from members

module _ {X Y Z : Type 0} where
  flat_map-made : (g : ℕ × Y → List Z) (f : ℕ × X → Y) (m : ℕ) (xs : List X)
      → flat_map g (enumerate_from m (map f (enumerate_from m xs)))
      ≡ flat_map (λ (p : ℕ × X). g (p.0, f p)) (enumerate_from m xs)
  flat_map-made g f m [] = refl
  flat_map-made g f m (x ∷ xs) = ap (λ ys. g (m, f (m, x)) ++ ys) (flat_map-made g f (m + 1) xs)

-- the items of the exchangers, read from the table
pub joint_items-are : (case : Case) (network : Network) (values : Valuation) → HasShape case network
    → joint_items case values (joints_of network) ≡ exchanger_items case network values
unfolding joint_items exchanger_items joints_among
joint_items-are case network values shape =
    let es = exchangers_of network.lines in
    let make = joint_among network.branches network.lines in
    flat_map-made (joint_items_at case values) make 0 es
    ∙ flat_map-same (λ (p : ℕ × Exchanger). joint_items_at case values (p.0, make p)) (exchanger_items_at case network values) (enumerate_from 0 es)
    (All-enumerated (λ p. joint_items_at case values (p.0, make p) ≡ exchanger_items_at case network values p) es each)
  where
    each : (number : ℕ) (e : Exchanger) → slice_get (exchangers_of network.lines) number ≡ Some e
        → joint_items_at case values (number, joint_among network.branches network.lines (number, e))
        ≡ exchanger_items_at case network values (number, e)
    each number e at =
        let is = all_at (IsExchanger case) (exchangers_of network.lines) number e shape.exchangers.each at in
        ap₂ (side_items case (place.Exchanger number) e.hot e.cold) (ends-are case network values number e e.hot side.Hot shape at (inl refl) is.hot)
        (ends-are case network values number e e.cold side.Cold shape at (inr refl) is.cold)

-- ---- duties

duties-made : (index : ℕ) (f : ℕ × Exchanger → Joint) (m : ℕ) (es : List Exchanger)
    → ((n : ℕ) (e : Exchanger) → joint_duty index (f (n, e)) ≡ duty_with index e)
    → filter_map (joint_duty index) (map f (enumerate_from m es)) ≡ filter_map (duty_with index) es
duties-made index f m [] same = refl
duties-made index f m (e ∷ es) same = ap₂ cons_option (same m e) (duties-made index f (m + 1) es same)

-- the duties of a utility, read from the table
pub duties-are : (network : Network) (index : ℕ) → duties_in (joints_of network) index ≡ duties_with network index
unfolding duties_in duties_with joints_among
duties-are network index =
    duties-made index (joint_among network.branches network.lines) 0 (exchangers_of network.lines) (λ n e. refl)

pub heat_items-are : (case : Case) (network : Network)
    → all_heat_items (joints_of network) case.utilities ≡ utility_items case network
unfolding all_heat_items utility_items
heat_items-are case network =
    let same : (p : ℕ × Utility) → heat_items (joints_of network) p ≡ utility_items_at network p =
    λ p. ap (λ duties. sum_steps (place.Utility p.0) 0 rational_zero duties ++ range_items (place.Utility p.0) p.1 (rational_sum duties))
    (duties-are network p.0) in λ i. flat_map (λ p. same p i) (enumerate_from 0 case.utilities)

-- the heat of one utility more
pub heats-more : (joints : List Joint) (utilities : List Utility) (n : ℕ) (d : Utility) → n < length utilities
    → heats_in joints (take (n + 1) utilities)
    ≡ heats_in joints (take n utilities) ++ rational_sum (duties_in joints n) ∷ []
unfolding heats_in
heats-more joints utilities n d within =
    let heat : ℕ × Utility → Rational = λ p. rational_sum (duties_in joints p.0) in
    ap (λ us. map heat (enumerate_from 0 us)) (take_more utilities n d within)
    ∙ ap (map heat) (enumerate_from-append 0 (take n utilities) (get_or utilities n d ∷ []))
    ∙ map-append heat (enumerate_from 0 (take n utilities)) (enumerate_from (0 + length (take n utilities)) (get_or utilities n d ∷ []))
    ∙ ap (λ k. map heat (enumerate_from 0 (take n utilities)) ++ rational_sum (duties_in joints k) ∷ []) (omega (arith, within, length-take n utilities))

-- What the code reads for a statement is what its items and equations speak of.

-- two branches with one state have it together
pub even_mix : (first second : BranchValue) → IsBelow rational_zero (plus first.cp second.cp) → first.t ≡ second.t
    → first.t ≡ over (heat_of_both first second) (plus first.cp second.cp)
even_mix first second positive same =
    over_from_times first.t (heat_of_both first second) (plus first.cp second.cp) (positive-nonzero (plus first.cp second.cp) positive)
    (times-plus first.t first.cp second.cp ∙ ap₂ plus (times_comm first.t first.cp) (times_comm first.t second.cp ∙ ap (times second.cp) same))

-- a value that is read by index
pub value-read : (values : Valuation) (branch : ℕ) (v : BranchValue) → branch < length values
    → v ≡ get_or values branch v → v ≡ value_at values branch
value-read values branch v within read = read ∙ get_or_default values branch v no_value within

-- the duty of an exchanger that is read by its number
pub duty-read : (network : Network) (joints : List Joint) (number : ℕ) (j : Joint)
    → joints ≡ joints_of network → number < length (exchangers_of network.lines)
    → (get_or joints number j).duty ≡ duty_at network number
unfolding duty_at joints_among
duty-read network joints number j is within =
    let es = exchangers_of network.lines in
    let d : Exchanger = record { name = []; hot = j.hot; cold = j.cold; duty = j.duty } in
    let at = slice_get-get_or es number d within in
    ap (λ k. k.duty) (ap (λ js. get_or js number j) is ∙ get_or-made (joint_among network.branches network.lines) 0 es number (get_or es number d) j at)
    ∙ ap duty_of (sym at)

-- What follows the statements of an audit, read from the tables of the exchangers and the utilities.

-- where all statements are passed, all items find what those behind them do
pub found-all : (case : Case) (network : Network) (values : Valuation) (joints : List Joint) (utilities : List Utility)
    → HasShape case network
    → joints ≡ joints_of network → utilities ≡ case.utilities
    → first_finding (items_before case network values (length network.lines)) ≡ None
    → first_finding (items case network values (length network.lines)) ≡ first_finding
    (stream_items case network ++ (joint_items case values joints ++ (all_heat_items joints utilities ++ balance_items case network)))
unfolding items_before items_behind
found-all case network values joints utilities shape table same passed =
    let exchangers : exchanger_items case network values ≡ joint_items case values joints = sym
    (ap (joint_items case values) table ∙ joint_items-are case network values shape) in
    let heats : utility_items case network ≡ all_heat_items joints utilities
    = sym (ap₂ all_heat_items table same ∙ heat_items-are case network) in
    ap first_finding (items-whole case network values)
    ∙ found-behind (flat_map (statement_items case network values) (enumerate_from 0 network.lines)) (items_behind case network values)
    (first-none first_finding found-append (statement_items case network values) network.lines (length network.lines) (omega arith) passed)
    ∙ (λ i. first_finding (stream_items case network ++ (exchangers i ++ (heats i ++ balance_items case network))))
