-- The branches of a stage whose shares have one denominator: sizes over it, at most the whole size, in the state before the stage or in that after it.
use Rattle.design_lines.proofs.ValueSteps.{ArePositive, first_positive, others_positive, share_value, size_not_negative}
use Rattle.design_lines.specs.LedStages.{LedStage, size_of}
use Rattle.design_lines.proofs.StageValues.{course_values, courses_values, joined_values, mix_values, pass_values, split_values, stage_values}
use Rattle.design_lines.proofs.Words.{All-append, All-cons, All-head, All-nil, All-tail, BranchValue, IsAtMost, Rational, Share, plus, plus-ratio_same_den}
use Rattle.design_lines.proofs.Words.{plus_assoc, ratio, ratio-zero, rational_zero}
use Rattle.fractions.proofs.Comparisons.{at_most-plus_left, at_most-plus_right, at_most_from_below, at_most_from_same, at_most_trans, not_negative-plus}
use Rattle.std.proofs.Common.{All, List, [], ap₂, inl, inr, pos, refl, subst, sym, ℕ, ℤ, ◌+ℤ◌, ◌∙◌, ◌∷◌, ◌≡◌, ◌⊎◌}

-- a whole number over d
pub record IsOver (d : ℕ) (a : Rational) : Type 0 where
  pub num : ℤ
  pub is : a ≡ ratio num d

over-plus : (d : ℕ) (a b : Rational) → IsOver d a → IsOver d b → IsOver d (plus a b)
over-plus d a b one two =
    record { num = one.num +ℤ two.num; is = ap₂ plus one.is two.is ∙ plus-ratio_same_den one.num two.num d }

abbrev pub AreOver : ℕ → List Share → Type 0
AreOver d shares = All (λ s. IsOver d s.cp) shares

over-size : (d : ℕ) (shares : List Share) → AreOver d shares → IsOver d (size_of shares)
over-size d [] over = record { num = pos 0; is = sym (ratio-zero d) }
over-size d (s ∷ shares) over =
    over-plus d s.cp (size_of shares) (All-head (λ (a : Share). IsOver d a.cp) s shares over)
    (over-size d shares (All-tail (λ (a : Share). IsOver d a.cp) s shares over))

-- a branch that a stage makes
pub record IsStageBranch (d : ℕ) (full before after : Rational) (v : BranchValue) : Type 0 where
  pub over : IsOver d v.cp
  pub least : IsAtMost rational_zero v.cp
  pub most : IsAtMost v.cp full
  pub state : (v.t ≡ before) ⊎ (v.t ≡ after)

module _ (d : ℕ) (full before after : Rational) where
  abbrev AreBranches : List BranchValue → Type 0
  AreBranches values = All (IsStageBranch d full before after) values

  -- of shares that are at most the whole: the first one, and the others
  record IsFirst (s : Share) (shares : List Share) : Type 0 where
    first_over : IsOver d s.cp
    first_least : IsAtMost rational_zero s.cp
    first_most : IsAtMost s.cp full
    rest_over : AreOver d shares
    rest_positive : ArePositive shares
    rest_least : IsAtMost rational_zero (size_of shares)
    rest_most : IsAtMost (size_of shares) full

  is_first : (s : Share) (shares : List Share) → AreOver d (s ∷ shares) → ArePositive (s ∷ shares)
      → IsAtMost (size_of (s ∷ shares)) full → IsFirst s shares
  is_first s shares over positive most =
      let least = at_most_from_below rational_zero s.cp (first_positive s shares positive) in
      let later = size_not_negative shares (others_positive s shares positive) in
      record {
        first_over = All-head (λ (a : Share). IsOver d a.cp) s shares over;
        first_least = least;
        first_most =
            at_most_trans s.cp (plus s.cp (size_of shares)) full (at_most-plus_right s.cp (size_of shares) later) most;
        rest_over = All-tail (λ (a : Share). IsOver d a.cp) s shares over;
        rest_positive = others_positive s shares positive;
        rest_least = later;
        rest_most =
            let upto_both = at_most-plus_left s.cp (size_of shares) least in
            at_most_trans (size_of shares) (plus s.cp (size_of shares)) full upto_both most;
      }

  splits_sized : (shares : List Share) → AreOver d shares → ArePositive shares
      → IsAtMost (size_of shares) full → AreBranches (split_values before shares)
  splits_sized [] over positive most = All-nil (IsStageBranch d full before after)
  splits_sized (s ∷ []) over positive most = All-nil (IsStageBranch d full before after)
  splits_sized (s ∷ t ∷ shares) over positive most =
      let rest = t ∷ shares in
      let is = is_first s rest over positive most in
      let left : BranchValue = record { cp = size_of rest; t = before } in
      let later = splits_sized (t ∷ shares) is.rest_over is.rest_positive is.rest_most in
      All-cons (IsStageBranch d full before after) (share_value before s) (left ∷ split_values before rest) (record {
        over = is.first_over;
        least = is.first_least;
        most = is.first_most;
        state = inl refl;
      }) (All-cons (IsStageBranch d full before after) _ _ (record {
        over = over-size d rest is.rest_over;
        least = is.rest_least;
        most = is.rest_most;
        state = inl refl;
      }) later)

  passes_sized : (shares : List Share) → AreOver d shares → ArePositive shares
      → IsAtMost (size_of shares) full → AreBranches (pass_values after shares)
  passes_sized [] over positive most = All-nil (IsStageBranch d full before after)
  passes_sized (s ∷ shares) over positive most =
      let is = is_first s shares over positive most in
      let later = passes_sized shares is.rest_over is.rest_positive is.rest_most in
      All-cons (IsStageBranch d full before after) _ _ (record {
        over = is.first_over;
        least = is.first_least;
        most = is.first_most;
        state = inr refl;
      }) later

  mixes_sized : (size : Rational) (shares : List Share) → IsOver d size → IsAtMost rational_zero size
      → AreOver d shares → ArePositive shares
      → IsAtMost (plus size (size_of shares)) full → AreBranches (mix_values after size shares)
  mixes_sized size [] size_over least over positive most = All-nil (IsStageBranch d full before after)
  mixes_sized size (s ∷ shares) size_over least over positive most =
      let both = plus size s.cp in
      let mixed : BranchValue = record { cp = both; t = after } in
      let later = size_not_negative shares (others_positive s shares positive) in
      let both_over = over-plus d size s.cp size_over (All-head (λ (a : Share). IsOver d a.cp) s shares over) in
      let some = at_most_from_below rational_zero s.cp (first_positive s shares positive) in
      let both_least = not_negative-plus size s.cp least some in
      let all_most = subst (λ a. IsAtMost a full) (sym (plus_assoc size s.cp (size_of shares))) most in
      let upto_all = at_most-plus_right both (size_of shares) later in
      let both_most = at_most_trans both (plus both (size_of shares)) full upto_all all_most in
      let others_over = All-tail (λ (a : Share). IsOver d a.cp) s shares over in
      let others_above = others_positive s shares positive in
      let later = mixes_sized both shares both_over both_least others_over others_above all_most in
      All-cons (IsStageBranch d full before after) _ _ (record {
        over = both_over;
        least = both_least;
        most = both_most;
        state = inr refl;
      }) later

  joins_sized : (shares : List Share) → AreOver d shares → ArePositive shares
      → IsAtMost (size_of shares) full → AreBranches (joined_values after shares)
  joins_sized [] over positive most = All-nil (IsStageBranch d full before after)
  joins_sized (s ∷ shares) over positive most =
      let is = is_first s shares over positive most in
      mixes_sized s.cp shares is.first_over is.first_least
      is.rest_over is.rest_positive most

  -- the branches of a stage that is led
  pub stage_sized : (shares : List Share) → AreOver d shares → ArePositive shares → size_of shares ≡ full
      → AreBranches (stage_values before after shares)
  stage_sized shares over positive sizes =
      let most = at_most_from_same (size_of shares) full sizes in
      let splits_hold = splits_sized shares over positive most in
      let passes_hold = passes_sized shares over positive most in
      let joins_hold = joins_sized shares over positive most in
      All-append (IsStageBranch d full before after) _ _ splits_hold
      (All-append (IsStageBranch d full before after) _ _ passes_hold joins_hold)

-- ---- all stages

-- what holds of the branches of each stage holds of those of a course, and so of all courses
module _ (P : BranchValue → Type 0) where
  abbrev pub StageHolds : LedStage → Type 0
  StageHolds stage = All P (stage_values stage.before stage.after stage.shares)

  abbrev pub CourseHolds : List LedStage → Type 0
  CourseHolds stages = All P (course_values stages)

  pub course_holds : (stages : List LedStage) → All StageHolds stages → CourseHolds stages
  course_holds [] each = All-nil P
  course_holds (stage ∷ stages) each =
      let first_holds = All-head StageHolds stage stages each in
      let others = All-tail StageHolds stage stages each in
      let others_hold = course_holds stages others in
      All-append P _ _ first_holds others_hold

  pub courses_hold : (courses : List (List LedStage)) → All CourseHolds courses → All P (courses_values courses)
  courses_hold [] each = All-nil P
  courses_hold (course ∷ courses) each =
      let first_holds = All-head CourseHolds course courses each in
      let others = All-tail CourseHolds course courses each in
      let others_hold = courses_hold courses others in
      All-append P _ _ first_holds others_hold
