-- The values that all lines make are a valuation, in which each end is a full one.
use Rattle.design_lines.proofs.CourseValues.{HaveOwn}
use Rattle.design_lines.proofs.ValueSteps.{make_line, make_none}
use Rattle.design_lines.proofs.Words.{All-append, All-cons, All-nil, BranchValue, Case, Exchanger, HasShape, IsComplete, IsFullEnd, IsValuation}
use Rattle.design_lines.proofs.Words.{IsWholeValuation, LeavesRoom, Line, Network, Valuation, declared_line, ended_by, ends, first_value, flat_map}
use Rattle.design_lines.proofs.Words.{get_or-append-add, get_or_append_left, get_or_from_slice_get, length-map, line_of, made_values, no_value, option_map}
use Rattle.design_lines.proofs.Words.{slice_get-get_or, slice_get-map, slice_get_within, uses, valuation_more, valuation_start, value_at}
use Rattle.design_lines.proofs.StageValues.{AllCanFollow, CanFollow, Make, values_after}
use Rattle.std.proofs.Common.{All, List, Some, [], ap, append-nil, append_assoc, arith, get_or, length, length-append, map, refl, subst, sym, ℕ, ◌++◌, ◌<◌}
use Rattle.std.proofs.Common.{◌∙◌, ◌∷◌, ◌≡◌}
use Rattle.networks.specs.declared.network.Line.TheVariants as line

-- the streams' own branches carry their first values
pub own_start : (case : Case) → HaveOwn case (map first_value case.streams)
own_start case = record {
  each = λ stream s here. record {
    within = omega (arith, slice_get_within case.streams stream s here, length-map case.streams first_value);
    is = get_or_from_slice_get (map first_value case.streams) stream (first_value s) no_value
        (slice_get-map first_value case.streams stream ∙ ap (option_map first_value) here);
  };
}

-- the lines that declare exchangers make nothing
pub declared_make : (case : Case) (network : Network) (values : Valuation) (exchangers : List Exchanger)
    → Make case network values (map declared_line exchangers) []
declared_make case network values [] = make_none case network values
declared_make case network values (e ∷ exchangers) =
    make_line case network values (declared_line e) (map declared_line exchangers) [] [] refl tt
    (declared_make case network (values ++ []) exchangers)

module _ (case : Case) (network : Network) (shape : HasShape case network) where
  can_leave : (values : Valuation) (l : Line) → CanFollow case network values l → LeavesRoom values l
  can_leave values l can = grind arith

  -- later values stand behind the earlier ones
  stays : (lines : List Line) (values : Valuation) (branch : ℕ) → branch < length values
      → value_at (values_after case network values lines) branch ≡ value_at values branch
  stays [] values branch early = refl
  stays (l ∷ lines) values branch early =
      let made = made_values case network values l in
      stays lines (values ++ made) branch (omega (arith, early, length-append values made))
      ∙ get_or_append_left values made no_value branch early

  end_stays : (l : Line) (values final : Valuation)
      → ((branch : ℕ) → branch < length values → value_at final branch ≡ value_at values branch)
      → All (λ b. b < length values) (uses l) → CanFollow case network values l
      → All (IsFullEnd case network final) (ends l)
  end_stays (line.Exchanger name hot cold duty) values final same used can = All-nil (IsFullEnd case network final)
  end_stays (line.Split from first size second) values final same used can = All-nil (IsFullEnd case network final)
  end_stays (line.Pass from exchanger to) values final same used can = All-nil (IsFullEnd case network final)
  end_stays (line.Mix first second to) values final same used can = All-nil (IsFullEnd case network final)
  end_stays (line.End branch) values final same used can =
      All-cons (IsFullEnd case network final) branch [] (λ s here. same branch (used 0 0 (omega arith)) ∙ can s here)
      (All-nil (IsFullEnd case network final))

  record AreValued (values : Valuation) (lines : List Line) : Type 0 where
    valuation : IsWholeValuation case network (values_after case network values lines)
    full : All (IsFullEnd case network (values_after case network values lines)) (flat_map ends lines)

  valued : (lines before : List Line) (values : Valuation) → network.lines ≡ before ++ lines
      → IsValuation case network (length before) values
      → AllCanFollow case network values lines → AreValued values lines
  valued [] before values parts is follow = record {
    valuation = subst (λ n. IsValuation case network n values) (ap length (sym (parts ∙ append-nil before))) is;
    full = All-nil (IsFullEnd case network values);
  }
  valued (l ∷ lines) before values parts is follow =
      let n = length before in
      let within : n < length network.lines = omega (arith, (ap length parts ∙ length-append before (l ∷ lines))) in
      let at : get_or network.lines n l ≡ l
      = ap (λ ls. get_or ls n l) parts ∙ ap (λ k. get_or (before ++ l ∷ lines) k l) (omega arith)
      ∙ get_or-append-add before (l ∷ lines) 0 l in
      let here = slice_get-get_or network.lines n l within ∙ ap (λ (a : Line). Some a) at in
      let made = made_values case network values l in
      let next = valuation_more case network n values l shape here is (can_leave values l follow.0) in
      let parts_on = parts ∙ sym (append_assoc before (l ∷ []) lines) in
      let rest = valued lines (before ++ l ∷ []) (values ++ made) parts_on
      (subst (λ k. IsValuation case network k (values ++ made)) (omega (arith, length-append before (l ∷ []))) next)
      follow.1 in
      let final = values_after case network (values ++ made) lines in
      let used = subst (λ m. All (λ b. b < m) (uses l)) (sym is.count) (line_of shape n l here).numbers.used in
      record {
        valuation = rest.valuation;
        full = All-append (IsFullEnd case network final) _ _
            (end_stays l values final (stays (l ∷ lines) values) used follow.0) rest.full;
      }

  -- what all lines make, behind the streams' own values, is the valuation of the network, and each end has its whole stream in its last state
  pub record AreValues (made : List BranchValue) : Type 0 where
    pub valuation : IsWholeValuation case network (map first_value case.streams ++ made)
    pub full : All (IsFullEnd case network (map first_value case.streams ++ made)) (ended_by network.lines)

  pub values_made : (made : List BranchValue) → IsComplete case
      → Make case network (map first_value case.streams) network.lines made → AreValues made
  unfolding ended_by
  values_made made complete make =
      let start = valuation_start case network complete in
      let all = valued network.lines [] (map first_value case.streams) refl start make.follow in
      record {
        valuation = subst (IsWholeValuation case network) make.made_is all.valuation;
        full = subst (λ vs. All (IsFullEnd case network vs) (flat_map ends network.lines)) make.made_is all.full;
      }
