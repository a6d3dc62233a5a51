-- The values that the splits, the passes and the mixes of a stage make.
use Rattle.design_lines.proofs.Words.{All-append, All-cons, All-head, All-nil, All-tail, BranchValue, Case, IsAtMost, IsBelow, IsMix, IsPass, Line, Network}
use Rattle.design_lines.proofs.Words.{Rational, Share, Side, Valuation, branch_side, change, duty_at, first_part, get_or-append-add, get_or_append_left}
use Rattle.design_lines.proofs.Words.{made_values, minus, minus-plus, mix_determined, mixed_positive, mixed_value, mixes, no_value, pass_determined}
use Rattle.design_lines.proofs.Words.{passed_value, passes, plus, plus-times, plus-zero, plus_comm, range_with_len, rational_zero, rest_branch, second_part}
use Rattle.design_lines.proofs.Words.{share_branches, splits, stream_at, times, value_at, zero-plus}
use Rattle.design_lines.specs.LedStages.{LedStage, size_of}
use Rattle.design_lines.proofs.StageValues.{AllCanFollow, CanFollow, Make, mix_values, pass_values, split_values, values_after}
use Rattle.fractions.proofs.Comparisons.{at_most_from_below, at_most_refl, below-plus, not_negative-plus, positive-plus}
use Rattle.std.proofs.Common.{All, List, [], ap, append-nil, append_assoc, arith, get_or, length, length-append, refl, subst, suc, sym, zero, ℕ, ◌++◌, ◌+◌}
use Rattle.std.proofs.Common.{◌<◌, ◌∙◌, ◌∷◌, ◌≡◌}
use Rattle.networks.specs.declared.network.Line.TheVariants as line

-- ---- what a branch carries

pub record Carries (values : Valuation) (branch : ℕ) (v : BranchValue) : Type 0 where
  pub within : branch < length values
  pub is : value_at values branch ≡ v

pub carries_more : (values more : Valuation) (branch : ℕ) (v : BranchValue) → Carries values branch v
    → Carries (values ++ more) branch v
carries_more values more branch v carries =
    let same = get_or_append_left values more no_value branch carries.within in
    record { within = omega (arith, carries.within, length-append values more); is = same ∙ carries.is }

pub carries_new : (values more : Valuation) (k branch : ℕ) → branch ≡ length values + k → k < length more
    → Carries (values ++ more) branch (get_or more k no_value)
carries_new values more k branch number inside =
    let here = ap (value_at (values ++ more)) number ∙ get_or-append-add values more k no_value in
    record { within = omega (arith, number, inside, length-append values more); is = here }

-- a share in some state
abbrev pub share_value : Rational → Share → BranchValue
share_value t s = record { cp = s.cp; t = t }

-- each branch carries its share
abbrev pub CarryShares : Valuation → Rational → List ℕ → List Share → Type 0
CarryShares values t [] [] = Unit {0}
CarryShares values t [] (s ∷ shares) = ⊥
CarryShares values t (branch ∷ branches) [] = ⊥
CarryShares values t (branch ∷ branches) (s ∷ shares) =
    Carries values branch (share_value t s) × CarryShares values t branches shares

pub carry_more : (values more : Valuation) (t : Rational) (branches : List ℕ) (shares : List Share)
    → CarryShares values t branches shares
    → CarryShares (values ++ more) t branches shares
carry_more values more t [] [] carry = tt
carry_more values more t [] (s ∷ shares) carry = absurd carry
carry_more values more t (branch ∷ branches) [] carry = absurd carry
carry_more values more t (branch ∷ branches) (s ∷ shares) carry =
    (carries_more values more branch (share_value t s) carry.0, carry_more values more t branches shares carry.1)

-- the same of branches one behind the other
abbrev pub CarryFrom : Valuation → Rational → ℕ → List Share → Type 0
CarryFrom values t branch shares = CarryShares values t (range_with_len branch (length shares)) shares

-- ---- sizes

abbrev pub ArePositive : List Share → Type 0
ArePositive shares = All (λ s. IsBelow rational_zero s.cp) shares

pub first_positive : (s : Share) (shares : List Share) → ArePositive (s ∷ shares) → IsBelow rational_zero s.cp
first_positive s shares positive = All-head (λ (a : Share). IsBelow rational_zero a.cp) s shares positive

pub others_positive : (s : Share) (shares : List Share) → ArePositive (s ∷ shares) → ArePositive shares
others_positive s shares positive = All-tail (λ (a : Share). IsBelow rational_zero a.cp) s shares positive

pub size_not_negative : (shares : List Share) → ArePositive shares → IsAtMost rational_zero (size_of shares)
size_not_negative [] positive = at_most_refl rational_zero
size_not_negative (s ∷ shares) positive =
    not_negative-plus s.cp (size_of shares) (at_most_from_below rational_zero s.cp (first_positive s shares positive))
    (size_not_negative shares (others_positive s shares positive))

size_positive : (s : Share) (shares : List Share) → ArePositive (s ∷ shares)
    → IsBelow rational_zero (size_of (s ∷ shares))
size_positive s shares positive = positive-plus s.cp (size_of shares) (first_positive s shares positive)
    (size_not_negative shares (others_positive s shares positive))

less_than_both : (a b : Rational) → IsBelow rational_zero b → IsBelow a (plus a b)
less_than_both a b positive =
    let below = below-plus rational_zero b a positive in
    subst (λ x. IsBelow x (plus a b)) (zero-plus a) (subst (IsBelow (plus rational_zero a)) (plus_comm b a) below)

rest_left : (a b : Rational) → minus (plus a b) a ≡ b
rest_left a b = ap (λ x. minus x a) (plus_comm a b) ∙ minus-plus b a

module _ (case : Case) (network : Network) where
  -- ---- lines one behind the other

  pub make_none : (values : Valuation) → Make case network values [] []
  make_none values = record { made_is = sym (append-nil values); follow = tt }

  pub make_line : (values : Valuation) (l : Line) (lines : List Line) (one rest : List BranchValue)
      → made_values case network values l ≡ one
      → CanFollow case network values l → Make case network (values ++ one) lines rest
      → Make case network values (l ∷ lines) (one ++ rest)
  make_line values l lines one rest makes can make = record {
    made_is =
        ap (λ vs. values_after case network (values ++ vs) lines) makes ∙ make.made_is ∙ append_assoc values one rest;
    follow = (can, subst (λ vs. AllCanFollow case network (values ++ vs) lines) (sym makes) make.follow);
  }

  values_after-append : (values : Valuation) (lines more : List Line)
      → values_after case network values (lines ++ more)
      ≡ values_after case network (values_after case network values lines) more
  values_after-append values [] more = refl
  values_after-append values (l ∷ lines) more =
      values_after-append (values ++ made_values case network values l) lines more

  AllCanFollow-append : (values : Valuation) (lines more : List Line) → AllCanFollow case network values lines
      → AllCanFollow case network (values_after case network values lines) more
      → AllCanFollow case network values (lines ++ more)
  AllCanFollow-append values [] more one two = two
  AllCanFollow-append values (l ∷ lines) more one two =
      (one.0, AllCanFollow-append (values ++ made_values case network values l) lines more one.1 two)

  pub make_append : (values : Valuation) (lines more : List Line) (one two : List BranchValue)
      → Make case network values lines one
      → Make case network (values ++ one) more two → Make case network values (lines ++ more) (one ++ two)
  make_append values lines more one two first second = record {
    made_is =
        values_after-append values lines more ∙ ap (λ vs. values_after case network vs more) first.made_is
        ∙ second.made_is ∙ append_assoc values one two;
    follow =
        AllCanFollow-append values lines more first.follow
        (subst (λ vs. AllCanFollow case network vs more) (sym first.made_is) second.follow);
  }

-- ---- the states between which passes run

-- what `R` asks of a stream, an exchanger that it passes, and its states before and behind it
module _ (case : Case) (network : Network) (R : ℕ → ℕ → Rational → Rational → Type 0) where
  abbrev pub RunsAs : Valuation → Line → Type 0
  RunsAs values (line.Exchanger name hot cold duty) = Unit {0}
  RunsAs values (line.Split from first size second) = Unit {0}
  RunsAs values (line.Pass from exchanger to) =
      R (stream_at network.branches from) exchanger (value_at values from).t (value_at values to).t
  RunsAs values (line.Mix first second to) = Unit {0}
  RunsAs values (line.End branch) = Unit {0}

  -- the same of each share of a stage
  abbrev pub StageRuns : ℕ → LedStage → Type 0
  StageRuns stream stage = All (λ a. R stream a.exchanger stage.before stage.after) stage.shares

  -- the lines make these values, and their passes run as `R` asks in all values that begin with them
  pub record MakeAndRun (values : Valuation) (lines : List Line) (made : List BranchValue) : Type 0 where
    pub makes : Make case network values lines made
    pub runs : (final more : Valuation) → final ≡ values ++ (made ++ more) → All (RunsAs final) lines

  pub run_none : (values : Valuation) → MakeAndRun values [] []
  run_none values = record { makes = make_none case network values; runs = λ final more is. All-nil (RunsAs final) }

  pub run_line : (values : Valuation) (l : Line) (lines : List Line) (one rest : List BranchValue)
      → made_values case network values l ≡ one
      → CanFollow case network values l → ((final more : Valuation) → final ≡ values ++ (one ++ more) → RunsAs final l)
      → MakeAndRun (values ++ one) lines rest → MakeAndRun values (l ∷ lines) (one ++ rest)
  run_line values l lines one rest makes can run later = record {
    makes = make_line case network values l lines one rest makes can later.makes;
    runs = λ final more is.
        let moved = is ∙ ap (λ vs. values ++ vs) (append_assoc one rest more) in
        let moved_on = moved ∙ sym (append_assoc values one (rest ++ more)) in
        let later_run = later.runs final more moved_on in
        All-cons (RunsAs final) l lines (run final (rest ++ more) moved) later_run;
  }

  pub run_append : (values : Valuation) (lines others : List Line) (one two : List BranchValue)
      → MakeAndRun values lines one
      → MakeAndRun (values ++ one) others two → MakeAndRun values (lines ++ others) (one ++ two)
  run_append values lines others one two first second = record {
    makes = make_append case network values lines others one two first.makes second.makes;
    runs = λ final more is.
        let moved = is ∙ ap (λ vs. values ++ vs) (append_assoc one two more) in
        All-append (RunsAs final) lines others (first.runs final (two ++ more) moved)
        (second.runs final more (moved ∙ sym (append_assoc values one (two ++ more))));
  }

  -- ---- splits

  -- splits, behind which each branch carries its share
  pub splits_make : (before : Rational) (shares : List Share) (values : Valuation) (next from : ℕ)
      → next ≡ length values → Carries values from (record { cp = size_of shares; t = before }) → ArePositive shares
      → MakeAndRun values (splits next from shares) (split_values before shares)
      × CarryShares (values ++ split_values before shares) before
      (share_branches next (rest_branch next from shares) shares) shares
  splits_make before [] values next from start carries positive = (run_none values, tt)
  splits_make before (s ∷ []) values next from start carries positive =
      let V : Rational → BranchValue = λ a. record { cp = a; t = before } in (
        run_none values,
        (
          carries_more values [] from (share_value before s)
              (subst (λ a. Carries values from (V a)) (plus-zero s.cp) carries),
          tt,
        ),
      )
  splits_make before (s ∷ t ∷ shares) values next from start carries positive =
      let rest = size_of (t ∷ shares) in
      let more = split_values before (t ∷ shares) in
      let left : BranchValue = record { cp = rest; t = before } in
      let both : List BranchValue = share_value before s ∷ left ∷ [] in
      let divided : made_values case network values (line.Split from next s.cp (next + 1)) ≡ both =
      ap (λ (v : BranchValue). first_part v s.cp ∷ second_part v s.cp ∷ []) carries.is
      ∙ ap (λ (a : Rational). share_value before s ∷ record { cp = a; t = before } ∷ []) (rest_left s.cp rest) in
      let room = subst (λ (v : BranchValue). IsBelow s.cp v.cp) (sym carries.is)
      (less_than_both s.cp rest (size_positive t shares (others_positive s (t ∷ shares) positive))) in
      let carries_both = carries_new values both 1 (next + 1) (omega (arith, start)) (omega arith) in
      let others_above = others_positive s (t ∷ shares) positive in
      let later = splits_make before (t ∷ shares) (values ++ both) (next + 2) (next + 1)
      (omega (arith, start, length-append values both)) carries_both others_above in
      let branches = share_branches (next + 2) (rest_branch (next + 2) (next + 1) (t ∷ shares)) (t ∷ shares) in
      let rests = subst (λ vs. CarryShares vs before branches (t ∷ shares)) (append_assoc values both more) later.1 in
      let made = run_line values (line.Split from next s.cp (next + 1)) (splits (next + 2) (next + 1) (t ∷ shares)) both
      more divided room (λ final more is. tt) later.0 in (
        made,
        (carries_new values (share_value before s ∷ left ∷ more) 0 next (omega (arith, start)) (omega arith), rests),
      )

  -- ---- passes

  pub passes_make : (stream : ℕ) (of : Side) (before after : Rational) (to : ℕ) (branches : List ℕ)
      (shares : List Share) (values : Valuation)
      → to ≡ length values → CarryShares values before branches shares
      → All (λ b. stream_at network.branches b ≡ stream) branches
      → ((b : ℕ) → stream_at network.branches b ≡ stream → branch_side case network b ≡ of) → ArePositive shares
      → All (λ s. times s.cp (change of before after) ≡ duty_at network s.exchanger) shares
      → All (λ a. R stream a.exchanger before after) shares
      → MakeAndRun values (passes to branches shares) (pass_values after shares)
      × CarryFrom (values ++ pass_values after shares) after to shares
  passes_make stream of before after to [] [] values start carry own side_is positive duties runs =
      (run_none values, tt)
  passes_make stream of before after to [] (s ∷ shares) values start carry own side_is positive duties runs =
      absurd carry
  passes_make stream of before after to (branch ∷ branches) [] values start carry own side_is positive duties runs =
      absurd carry
  passes_make stream of before after to (branch ∷ branches) (s ∷ shares) values start carry own side_is positive
      duties runs =
      let D : Share → Type 0 = λ a. times a.cp (change of before after) ≡ duty_at network a.exchanger in
      let S : ℕ → Type 0 = λ b. stream_at network.branches b ≡ stream in
      let Q : Share → Type 0 = λ a. R stream a.exchanger before after in
      let behind = share_value after s in
      let duty = duty_at network s.exchanger in
      let here = All-head S branch branches own in
      let pass : IsPass of duty (share_value before s) behind
      = record { size = refl; heat = All-head D s shares duties } in
      let one : passed_value (branch_side case network branch) (value_at values branch) duty ≡ behind =
      ap (λ side. passed_value side (value_at values branch) duty) (side_is branch here)
      ∙ ap (λ v. passed_value of v duty) carry.0.is
      ∙ sym (pass_determined of (share_value before s) behind duty (first_positive s shares positive) pass) in
      let carry_others = carry_more values (behind ∷ []) before branches shares carry.1 in
      let others_above = others_positive s shares positive in
      let later = passes_make stream of before after (to + 1) branches shares (values ++ behind ∷ [])
      (omega (arith, start, length-append values (behind ∷ []))) carry_others (All-tail S branch branches own) side_is
      others_above (All-tail D s shares duties) (All-tail Q s shares runs) in
      let made = run_line values (line.Pass branch s.exchanger to) (passes (to + 1) branches shares) (behind ∷ [])
      (pass_values after shares) (ap (λ (v : BranchValue). v ∷ []) one) tt (λ final more is.
      let carried = carries_more values (behind ∷ more) branch (share_value before s) carry.0 in
      let early = subst (λ vs. Carries vs branch (share_value before s)) (sym is) carried in
      let carried = carries_new values (behind ∷ more) 0 to (omega (arith, start)) (omega arith) in
      let late = subst (λ vs. Carries vs to behind) (sym is) carried in
      let from_is : before ≡ (value_at final branch).t = sym (ap (λ (v : BranchValue). v.t) early.is) in
      let to_is : after ≡ (value_at final to).t = sym (ap (λ (v : BranchValue). v.t) late.is) in
      subst (λ k. R k s.exchanger (value_at final branch).t (value_at final to).t) (sym here)
      (subst (λ x. R stream s.exchanger x (value_at final to).t) from_is
      (subst (λ x. R stream s.exchanger before x) to_is (All-head Q s shares runs))))
      later.0 in
      let same_values = append_assoc values (behind ∷ []) (pass_values after shares) in
      let rests = subst (λ vs. CarryFrom vs after (to + 1) shares) same_values later.1 in
      (made, (carries_new values (behind ∷ pass_values after shares) 0 to (omega (arith, start)) (omega arith), rests))

  -- ---- mixes

  pub mixes_make : (after : Rational) (n to first second : ℕ) (size : Rational) (shares : List Share)
      (values : Valuation)
      → n ≡ length shares → to ≡ length values → Carries values first (record { cp = size; t = after })
      → CarryFrom values after second shares → IsBelow rational_zero size → ArePositive shares
      → MakeAndRun values (mixes n to first second) (mix_values after size shares)
  mixes_make after zero to first second size [] values many start one others above positive = run_none values
  mixes_make after zero to first second size (s ∷ shares) values many start one others above positive =
      absurd (omega (arith, many))
  mixes_make after (suc n) to first second size [] values many start one others above positive =
      absurd (omega (arith, many))
  mixes_make after (suc n) to first second size (s ∷ shares) values many start one others above positive =
      let branch : BranchValue = record { cp = size; t = after } in
      let both : BranchValue = record { cp = plus size s.cp; t = after } in
      let above_both = mixed_positive branch (share_value after s) above (first_positive s shares positive) in
      let mix : IsMix branch (share_value after s) both = record { size = refl; heat = plus-times size s.cp after } in
      let made : mixed_value (value_at values first) (value_at values second) ≡ both =
      ap (λ v. mixed_value v (value_at values second)) one.is ∙ ap (mixed_value branch) others.0.is
      ∙ sym (mix_determined branch (share_value after s) both above_both mix) in
      let carries_both = carries_new values (both ∷ []) 0 to (omega (arith, start)) (omega arith) in
      let carry_others =
      carry_more values (both ∷ []) after (range_with_len (second + 1) (length shares)) shares others.1 in
      let others_above = others_positive s shares positive in
      let later = mixes_make after n (to + 1) to (second + 1) (plus size s.cp) shares (values ++ both ∷ [])
      (omega (arith, many)) (omega (arith, start, length-append values (both ∷ []))) carries_both carry_others
      above_both others_above in
      run_line values (line.Mix first second to) (mixes n (to + 1) to (second + 1)) (both ∷ [])
      (mix_values after (plus size s.cp) shares) (ap (λ (v : BranchValue). v ∷ []) made) tt (λ final more is. tt) later
