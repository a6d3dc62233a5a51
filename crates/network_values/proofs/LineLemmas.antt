-- What a line makes solves its equations, and nothing else does.
use Rattle.network_values.proofs.Words.{BranchValue, IsBelow, IsMix, IsPass, IsSplit, Rational, Side, at_most_from_below, below_from_positive, change}
use Rattle.network_values.proofs.Words.{first_part, heat_of_both, minus, minus-minus_self, minus-plus, minus_from_plus, mixed_value, moved, over, passed_value}
use Rattle.network_values.proofs.Words.{plus, plus-minus, plus_comm, positive-nonzero, positive-plus, rational_zero, second_part, times, times-over}
use Rattle.network_values.proofs.Words.{times_comm}
use Rattle.fractions.proofs.Products.{over_from_times}
use Rattle.std.proofs.Common.{ap, refl, subst, sym, ◌∙◌, ◌≡◌}
use Rattle.stream_case.specs.declared.source.Side.TheVariants as side

-- ---- one split, one pass, one mix

pub same_value : (a b : BranchValue) → a.cp ≡ b.cp → a.t ≡ b.t → a ≡ b
same_value a b size state = λ i. record { cp = size i; t = state i }

pub split_solved : (from : BranchValue) (cp : Rational) → IsSplit from (first_part from cp) (second_part from cp) cp
split_solved from cp =
    record { first_size = refl; sizes = plus_comm cp (minus from.cp cp) ∙ plus-minus from.cp cp; first_state = refl; second_state = refl }

pub record IsDivided (from first second : BranchValue) (cp : Rational) : Type 0 where
  pub first_is : first ≡ first_part from cp
  pub second_is : second ≡ second_part from cp
  pub room : IsBelow rational_zero second.cp → IsBelow cp from.cp

pub split_determined : (from first second : BranchValue) (cp : Rational) → IsSplit from first second cp
    → IsDivided from first second cp
split_determined from one two cp split =
    let rest : two.cp ≡ minus from.cp cp
    = minus_from_plus from.cp cp two.cp (plus_comm two.cp cp ∙ ap (λ a. plus a two.cp)
    (sym split.first_size) ∙ split.sizes) in
    record {
      first_is = same_value one (first_part from cp) split.first_size split.first_state;
      second_is = same_value two (second_part from cp) rest split.second_state;
      room = λ positive. below_from_positive cp from.cp (subst (IsBelow rational_zero) rest positive);
    }

change-moved : (of : Side) (t by : Rational) → change of t (moved of t by) ≡ by
change-moved side.Hot t by = minus-minus_self t by
change-moved side.Cold t by = ap (λ a. minus a t) (plus_comm t by) ∙ minus-plus by t

moved-change : (of : Side) (before after : Rational) → after ≡ moved of before (change of before after)
moved-change side.Hot before after = sym (minus-minus_self before after)
moved-change side.Cold before after = sym (plus_comm before (minus after before) ∙ plus-minus after before)

pub pass_solved : (of : Side) (from : BranchValue) (duty : Rational) → IsBelow rational_zero from.cp
    → IsPass of duty from (passed_value of from duty)
pass_solved of from duty positive = record {
  size = refl;
  heat =
      ap (times from.cp) (change-moved of from.t (over duty from.cp))
      ∙ times-over duty from.cp (positive-nonzero from.cp positive);
}

pub pass_determined : (of : Side) (from to : BranchValue) (duty : Rational) → IsBelow rational_zero from.cp
    → IsPass of duty from to
    → to ≡ passed_value of from duty
pass_determined of from to duty positive pass = let by = change of from.t to.t in
    let over_size : by ≡ over duty from.cp
    = over_from_times by duty from.cp (positive-nonzero from.cp positive) (times_comm by from.cp ∙ pass.heat) in
    same_value to (passed_value of from duty) pass.size (moved-change of from.t to.t ∙ ap (moved of from.t) over_size)

pub mixed_positive : (first second : BranchValue) → IsBelow rational_zero first.cp → IsBelow rational_zero second.cp
    → IsBelow rational_zero (plus first.cp second.cp)
mixed_positive first second one two =
    positive-plus first.cp second.cp one (at_most_from_below rational_zero second.cp two)

pub mix_solved : (first second : BranchValue) → IsBelow rational_zero (plus first.cp second.cp)
    → IsMix first second (mixed_value first second)
mix_solved first second positive =
    record { size = refl; heat = times-over (heat_of_both first second) (plus first.cp second.cp) (positive-nonzero (plus first.cp second.cp) positive) }

pub mix_determined : (first second to : BranchValue) → IsBelow rational_zero (plus first.cp second.cp)
    → IsMix first second to → to ≡ mixed_value first second
mix_determined first second to positive mix = let size = plus first.cp second.cp in
    let state = over_from_times to.t (heat_of_both first second) size (positive-nonzero size positive) (times_comm to.t size ∙ ap (λ a. times a to.t)
    (sym mix.size) ∙ mix.heat) in same_value to (mixed_value first second) mix.size state
