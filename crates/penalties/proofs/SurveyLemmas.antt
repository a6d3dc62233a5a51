-- The table of the exchangers has their penalties and the steps that form them.
use Rattle.penalties.proofs.Words.{All-weaker, Audit, Branch, BranchValue, Course, Exchanger, Formed, IsShifted, IsValidStream, Joint, Latent, Line, Network}
use Rattle.penalties.proofs.Words.{Item, Place, Rational, Sensible, Side, Source, Step, Stream, Survey, TooFine, Valuation, View, absorbed_by, absorbed_heat}
use Rattle.penalties.proofs.Words.{absorbed_steps, all_exchanger_steps, all_joint_steps, base_of, counts_above, course_of, course_steps, enumerate_from}
use Rattle.penalties.proofs.Words.{exchanger_row, exchanger_rows, exchanger_steps, exchangers_of, flat_map, height, height_on, heights, inlet_height, ints}
use Rattle.penalties.proofs.Words.{is_below, is_latent, joint_penalty, joint_row, joint_rows, joint_steps, joints_of, latent_steps, minus, minus-self, no_value}
use Rattle.penalties.proofs.Words.{outlet_height, pass_of, penalty, positive_part, rational_zero, released_by, released_heat, released_steps, seen_height}
use Rattle.penalties.proofs.Words.{seen_steps, sensible_steps, shifted, side_pass, stream_at, stream_height, stream_steps, times, times-zero, unshifted}
use Rattle.penalties.proofs.Words.{value_at, values_of, view_of, whole}
use Rattle.std.proofs.Common.{All, Bool, List, None, Option, Result, Some, [], ap, ap₂, arith, false, if◌then◌else◌, map, option_and_then, refl, slice_get}
use Rattle.std.proofs.Common.{subst, suc, sym, true, unwrap_or, zero, ℕ, ℤ, ◌++◌, ◌+◌, ◌∙◌, ◌∷◌, ◌≡◌}
use Rattle.network_audit.specs.Joints.{crossing_by, joint_among, joints_among}
use Rattle.network_values.proofs.WholeHeights.{counts_above-unshifted, is_above-whole}
use Rattle.network_audit.specs.declared.findings.Place.TheVariants as place
use Rattle.networks.specs.declared.network.Line.TheVariants as line
use Rattle.stream_case.specs.declared.source.Source.TheVariants as source
use Rattle.stream_case.specs.declared.source.Side.TheVariants as side

-- ---- lists made of members with their indices, and made again

module _ {X Y Z : Type 0} (g : ℕ × X → Y) where
  map-made : (f : ℕ × Y → Z) (h : ℕ × X → Z) → ((n : ℕ) (x : X) → f (n, g (n, x)) ≡ h (n, x)) → (m : ℕ) (xs : List X)
      → map f (enumerate_from m (map g (enumerate_from m xs))) ≡ map h (enumerate_from m xs)
  map-made f h same m [] = refl
  map-made f h same m (x ∷ xs) = ap₂ (λ z zs. z ∷ zs) (same m x) (map-made f h same (m + 1) xs)

  flat_map-made : (f : ℕ × Y → List Z) (h : ℕ × X → List Z) → ((n : ℕ) (x : X) → f (n, g (n, x)) ≡ h (n, x))
      → (m : ℕ) (xs : List X)
      → flat_map f (enumerate_from m (map g (enumerate_from m xs))) ≡ flat_map h (enumerate_from m xs)
  flat_map-made f h same m [] = refl
  flat_map-made f h same m (x ∷ xs) = ap₂ (λ z zs. z ++ zs) (same m x) (flat_map-made f h same (m + 1) xs)

-- ---- heights of passes

module _ (height : ℕ → Rational) where
  lost : (duty : Rational) (i : ℕ) (o : Option Line)
      → released_by height duty (source.Stream i) (crossing_by o)
      ≡ minus (inlet_height height o) (outlet_height height o)
  lost duty i (Some (line.Pass from exchanger to)) = refl
  lost duty i other = sym (minus-self rational_zero)

  gained : (i : ℕ) (o : Option Line)
      → absorbed_by height (source.Stream i) (crossing_by o) ≡ minus (outlet_height height o) (inlet_height height o)
  gained i (Some (line.Pass from exchanger to)) = refl
  gained i other = sym (minus-self rational_zero)

  module _ (network : Network) where
    released-side : (number : ℕ) (duty : Rational) (of : Source)
        → released_by height duty of (side_pass network number of) ≡ released_heat height network number duty of
    unfolding pass_of
    released-side number duty (source.Stream i) = lost duty i (pass_of network number i)
    released-side number duty (source.Utility i) = refl

    absorbed-side : (number : ℕ) (of : Source)
        → absorbed_by height of (side_pass network number of) ≡ absorbed_heat height network number of
    unfolding pass_of
    absorbed-side number (source.Stream i) = gained i (pass_of network number i)
    absorbed-side number (source.Utility i) = refl

    abbrev joint_of : ℕ × Exchanger → Joint
    joint_of = joint_among network.branches network.lines

    penalty-joint : (number : ℕ) (e : Exchanger)
        → joint_penalty height (joint_of (number, e)) ≡ penalty height network (number, e)
    penalty-joint number e = ap₂ minus (released-side number e.duty e.hot) (absorbed-side number e.cold)

    row-joint : (number : ℕ) (e : Exchanger)
        → joint_row height (number, joint_of (number, e)) ≡ exchanger_row height network (number, e)
    row-joint number e = λ i. record { place = place.Exchanger number; value = penalty-joint number e i }

    -- the penalties, and the steps
    pub rows-joints : joint_rows height (joints_of network) ≡ exchanger_rows height network
    unfolding joint_rows exchanger_rows joints_among
    rows-joints =
        map-made joint_of (joint_row height) (exchanger_row height network) row-joint 0 (exchangers_of network.lines)

    pub steps-joints : (steps : Place → ℕ → ℕ → List Item)
        → all_joint_steps height steps (joints_of network) ≡ all_exchanger_steps height steps network
    unfolding all_joint_steps all_exchanger_steps joints_among
    steps-joints steps = flat_map-made joint_of (joint_steps height steps) (exchanger_steps height steps network)
        (λ number e. ap (λ value. released_steps height steps (place.Exchanger number) e.hot (side_pass network number e.hot)
        ++ (absorbed_steps height steps (place.Exchanger number) e.cold (side_pass network number e.cold) ++ Step (place.Exchanger number) 11 value ∷ []))
        (penalty-joint number e)) 0 (exchangers_of network.lines)

-- What a survey reads is what its steps and heights speak of.

-- ---- heights

pub height-above : (size distance : Rational) → is_below rational_zero distance ≡ true
    → height size distance ≡ times size distance
unfolding positive_part
height-above size distance above = ap (λ b. times size (if b then distance else rational_zero)) above

pub height-below : (size distance : Rational) → is_below rational_zero distance ≡ false
    → height size distance ≡ rational_zero
unfolding positive_part
height-below size distance below = ap (λ b. times size (if b then distance else rational_zero)) below ∙ times-zero size

-- the second step is only formed above the place
pub steps-above : (at : Place) (k : ℕ) (size distance : Rational) → is_below rational_zero distance ≡ true
    → sensible_steps at k size distance ≡ Step at k distance ∷ Step at (k + 1) (times size distance) ∷ []
steps-above at k size distance above =
    ap (λ b. Step at k distance ∷ (if b then Step at (k + 1) (times size distance) ∷ [] else [])) above

pub steps-below : (at : Place) (k : ℕ) (size distance : Rational) → is_below rational_zero distance ≡ false
    → sensible_steps at k size distance ≡ Step at k distance ∷ []
steps-below at k size distance below =
    ap (λ b. Step at k distance ∷ (if b then Step at (k + 1) (times size distance) ∷ [] else [])) below

-- ---- branches

pub value-read : (audit : Audit) (branch : ℕ)
    → unwrap_or (option_and_then (λ values. slice_get values branch) audit.values) no_value
    ≡ value_at (values_of audit) branch
value-read audit branch = by audit.values
  where
    at : (values : Valuation) (n : ℕ) → unwrap_or (slice_get values n) no_value ≡ value_at values n
    at [] n = refl
    at (v ∷ values) zero = refl
    at (v ∷ values) (suc n) = at values n

    by : (o : Option Valuation)
        → unwrap_or (option_and_then (λ values. slice_get values branch) o) no_value ≡ value_at (unwrap_or o []) branch
    by None = refl
    by (Some values) = at values branch

-- the stream of a branch, as it is looked up
pub stream_read : (s : Survey) (branch n : ℕ) (branches : List Branch) (o : Option Stream)
    → branches ≡ s.network.now.branches → n ≡ stream_at branches branch
    → o ≡ slice_get s.case.now.streams n → slice_get s.case.now.streams (stream_at s.network.now.branches branch) ≡ o
stream_read s branch n branches o own at read =
    ap (slice_get s.case.now.streams) (ap (λ bs. stream_at bs branch) (sym own) ∙ sym at) ∙ sym read

-- ---- courses

-- the level that the code forms is a shifted temperature
pub supplies_shifted : (streams : List Stream) → All IsValidStream streams
    → All (λ s. IsShifted (shifted s.side s.supply s.contribution)) streams
supplies_shifted =
    All-weaker IsValidStream (λ s. IsShifted (shifted s.side s.supply s.contribution)) (λ s h. by s.side s h)
  where
    by : (on : Side) (s : Stream) → IsValidStream s → IsShifted (shifted on s.supply s.contribution)
    by side.Hot s h =
        let t = h.supply in
        let c = h.contribution in
        record { from = omega (arith, ints); upto = omega (arith, ints) }
    by side.Cold s h =
        let t = h.supply in
        let c = h.contribution in
        record { from = omega (arith, ints); upto = omega (arith, ints) }

abbrev pub AnswersOn : Bool → Course → Place → ℕ → BranchValue → Result Rational TooFine → Type 0
AnswersOn from_itself course at k value =
    Formed (course_steps from_itself course at k value) (λ h. h ≡ height_on from_itself course value)

-- what is answered for a branch of this stream
abbrev Answers : View → Place → ℕ → Option Stream → BranchValue → Result Rational TooFine → Type 0
Answers view at k o value = Formed (stream_steps view at k o value) (λ h. h ≡ stream_height view o value)

course-by : (place : ℤ) (s : Stream) (latent : Bool) → is_latent s ≡ latent
    → course_of place s ≡ (if latent then Latent (minus (whole s.supply) (base_of place s)) else Sensible (base_of place s))
course-by place s latent is =
    ap (λ b. if b then Latent (minus (whole s.supply) (base_of place s)) else Sensible (base_of place s)) is

pub answers-sensible : (view : View) (s : Stream) (at : Place) (k : ℕ) (value : BranchValue) (r : Result Rational TooFine)
    → is_latent s ≡ false
    → AnswersOn view.from_itself (Sensible (base_of view.place s)) at k value r → Answers view at k (Some s) value r
answers-sensible view s at k value r sensible answers =
    subst (λ c. AnswersOn view.from_itself c at k value r) (sym (course-by view.place s false sensible)) answers

-- by whether the shifted level counts as above the place
abbrev pub LevelAnswers : Bool → Place → ℕ → BranchValue → Result Rational TooFine → Type 0
LevelAnswers counts at k value =
    Formed (latent_steps at k counts value) (λ h. h ≡ (if counts then times value.cp value.t else rational_zero))

pub answers-latent : (view : View) (s : Stream) (at : Place) (k : ℕ) (value : BranchValue) (r : Result Rational TooFine)
    → is_latent s ≡ true
    → LevelAnswers (counts_above view.from_itself view.place (shifted s.side s.supply s.contribution)) at k value r
    → Answers view at k (Some s) value r
answers-latent view s at k value r latent answers =
    let counts = is_above-whole view.from_itself (unshifted s.side view.place s.contribution) s.supply
    ∙ counts_above-unshifted view.from_itself s.side view.place s.supply s.contribution in
    subst (λ c. AnswersOn view.from_itself c at k value r) (sym (course-by view.place s true latent))
    (subst (λ b. LevelAnswers b at k value r) (sym counts) answers)

pub answers-seen : (s : Survey) (at : Place) (k branch : ℕ) (o : Option Stream) (r : Result Rational TooFine)
    → slice_get s.case.now.streams (stream_at s.network.now.branches branch) ≡ o
    → Answers (view_of s) at k o (value_at (values_of s.auditor.now) branch) r
    → Formed (seen_steps s at k branch) (λ h. h ≡ seen_height s branch) r
unfolding heights
answers-seen s at k branch o r is answers =
    subst (λ o. Answers (view_of s) at k o (value_at (values_of s.auditor.now) branch) r) (sym is) answers
