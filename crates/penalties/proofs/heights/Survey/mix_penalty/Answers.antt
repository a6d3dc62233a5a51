use Rattle.penalties.proofs.Words.{Gives, Rational, Step, first_finding, minus, plus, seen_height, seen_steps, taken_steps, value_formed}
use Rattle.network_audit.proofs.ItemLemmas.{found-behind, found-formed, found-front, found-not_formed, found-nothing}
use Rattle.penalties.proofs.StepLemmas.{handed_on}
use Rattle.penalties.proofs.heights.Survey.mix_penalty.Goals.{After-minus, After-plus}
use Rattle.std.proofs.Common.{[], ap₂, subst, ◌∙◌, ◌∷◌, ◌≡◌}
use Rattle.penalties.proofs.heights.Survey.mix_penalty.Goals as goal

pub returns-in_err-one : goal.returns-in_err-one
returns-in_err-one c = handed_on _ _ _ _ c.from_residual.ensures.1 (found-front _ _ _ c.in_err-one.ensures)

pub returns-in_err-other : goal.returns-in_err-other
returns-in_err-other c = handed_on _ _ _ _ c.from_residual-in_err-other.ensures.1
    (found-behind _ _ c.in_ok-one.ensures.0 ∙ found-front _ _ _ c.in_err-other.ensures)

pub returns-in_err-mixed : goal.returns-in_err-mixed
returns-in_err-mixed c = handed_on _ _ _ _ c.from_residual-in_err-mixed.ensures.1
    (found-behind _ _ c.in_ok-one.ensures.0 ∙ found-behind _ _ c.in_ok-other.ensures.0 ∙ found-front _ _ _ c.in_err-mixed.ensures)

-- the height of both branches
both : (c : After-plus) → Gives c.plus.result (plus (seen_height c.args.self.now c.args.first) (seen_height c.args.self.now c.args.second))
both c = subst (Gives c.plus.result) (ap₂ plus c.in_ok-one.ensures.1 c.in_ok-other.ensures.1) c.plus.ensures

pub returns-in_default : goal.returns-in_default
returns-in_default c =
    found-behind _ _ c.in_ok-one.ensures.0 ∙ found-behind _ _ c.in_ok-other.ensures.0
    ∙ found-behind _ _ c.in_ok-mixed.ensures.0
    ∙ found-not_formed c.args.place 7 _ _ _ c.in_default.is (both (goal.at.returns-in_default c).After-plus)

-- behind all steps before the last the penalty is left
record IsLeft (penalty : Rational) (c : After-minus) : Type 0 where
  gives : Gives c.minus.result penalty
  found : first_finding (taken_steps (seen_height c.args.self.now) (seen_steps c.args.self.now) c.args.place c.args.first c.args.second c.args.to)
      ≡ first_finding (Step c.args.place 8 penalty ∷ [])

left : (c : After-minus)
    → IsLeft (minus (plus (seen_height c.args.self.now c.args.first) (seen_height c.args.self.now c.args.second)) (seen_height c.args.self.now c.args.to)) c
left c =
    let sum = both (goal.at.After-minus c).After-plus in record {
      gives =
          subst (Gives c.minus.result) (ap₂ minus (value_formed _ _ _ c.in-Some.is sum) c.in_ok-mixed.ensures.1) c.minus.ensures;
      found =
          found-behind _ _ c.in_ok-one.ensures.0 ∙ found-behind _ _ c.in_ok-other.ensures.0
          ∙ found-behind _ _ c.in_ok-mixed.ensures.0
          ∙ found-formed c.args.place 7 _ _ _ _ c.in-Some.is sum;
    }

pub returns-in-Some-minus : goal.returns-in-Some-minus
returns-in-Some-minus c = let l = left (goal.at.returns-in-Some-minus c).After-minus in
    (l.found ∙ found-formed c.args.place 8 _ _ _ _ c.in-Some-minus.is l.gives ∙ found-nothing, value_formed _ _ _ c.in-Some-minus.is l.gives)

pub returns-in-None : goal.returns-in-None
returns-in-None c =
    let l = left (goal.at.returns-in-None c).After-minus in
    l.found ∙ found-not_formed c.args.place 8 _ _ _ c.in-None.is l.gives
