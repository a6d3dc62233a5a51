use Rattle.network_audit.proofs.Words.{Gives, Place, Step, first_finding, heat_of_both, mean_items, over, plus, positive-nonzero, value_formed}
use Rattle.network_audit.proofs.ItemLemmas.{found-formed, found-not_formed, found-nothing}
use Rattle.network_audit.proofs.statements.mean.Goals.{After-over, After-plus}
use Rattle.std.proofs.Common.{[], ap₂, subst, ◌∙◌, ◌∷◌, ◌≡◌}
use Rattle.network_audit.proofs.statements.mean.Goals as goal

pub returns-in_default : goal.returns-in_default
returns-in_default c = λ at. found-not_formed at 2 _ _ _ c.in_default.is c.times.ensures

pub returns-in_default-times : goal.returns-in_default-times
returns-in_default-times c =
    λ at. found-formed at 2 _ _ _ _ c.in-Some.is c.times.ensures
    ∙ found-not_formed at 3 _ _ _ c.in_default-times.is c.times-2.ensures

-- both products are formed, and so `plus` gives their sum, from which the items are left
record IsBoth (c : After-plus) : Type 0 where
  gives : Gives c.plus.result (heat_of_both c.args.first.now c.args.second.now)
  found : (at : Place) → first_finding (mean_items at c.args.first.now c.args.second.now c.args.cp.now)
      ≡ first_finding (Step at 4 (heat_of_both c.args.first.now c.args.second.now)
      ∷ Step at 5 (over (heat_of_both c.args.first.now c.args.second.now) c.args.cp.now) ∷ [])

is_both : (c : After-plus) → IsBoth c
is_both c =
    let one = value_formed _ _ _ c.in-Some.is c.times.ensures in
    let other = value_formed _ _ _ c.in-Some-times.is c.times-2.ensures in
    record {
      gives = subst (Gives c.plus.result) (ap₂ plus one other) c.plus.ensures;
      found =
          λ at. found-formed at 2 _ _ _ _ c.in-Some.is c.times.ensures
          ∙ found-formed at 3 _ _ _ _ c.in-Some-times.is c.times-2.ensures;
    }

pub returns-in_default-plus : goal.returns-in_default-plus
returns-in_default-plus c =
    let both = is_both (goal.at.returns-in_default-plus c).After-plus in
    λ at. both.found at ∙ found-not_formed at 4 _ _ _ c.in_default-plus.is both.gives

-- the sum is formed, and so `over` gives the mean, which is the last item
record IsMean (c : After-over) : Type 0 where
  gives : Gives c.over.result (over (heat_of_both c.args.first.now c.args.second.now) c.args.cp.now)
  found : (at : Place) → first_finding (mean_items at c.args.first.now c.args.second.now c.args.cp.now)
      ≡ first_finding (Step at 5 (over (heat_of_both c.args.first.now c.args.second.now) c.args.cp.now) ∷ [])

is_mean : (c : After-over) → IsMean c
is_mean c =
    let both = is_both (goal.at.After-over c).After-plus in
    let sum = value_formed _ _ _ c.in-Some-plus.is both.gives in
    record {
      gives =
          subst (λ h. Gives c.over.result (over h c.args.cp.now)) sum (c.over.ensures.value (positive-nonzero c.args.cp.now c.requires));
      found = λ at. both.found at ∙ found-formed at 4 _ _ _ _ c.in-Some-plus.is both.gives;
    }

pub returns-in_default-over : goal.returns-in_default-over
returns-in_default-over c =
    let mean = is_mean (goal.at.returns-in_default-over c).After-over in
    λ at. mean.found at ∙ found-not_formed at 5 _ _ _ c.in_default-over.is mean.gives

pub returns : goal.returns
returns c = let mean = is_mean (goal.at.returns c).After-over in (
  λ at. mean.found at ∙ found-formed at 5 _ _ _ _ c.in-Some-over.is mean.gives ∙ found-nothing,
  value_formed _ _ _ c.in-Some-over.is mean.gives,
)
