use Rattle.network_audit.proofs.Words.{Gives, first_finding, load_items, moved, over, pass_items, positive-nonzero, value_formed}
use Rattle.network_audit.proofs.ItemLemmas.{found-formed, found-not_formed}
use Rattle.network_audit.proofs.statements.passed.Goals.{After-keeps_load, After-moved}
use Rattle.std.proofs.Common.{ap, subst, sym, ◌∙◌, ◌≡◌}
use Rattle.network_audit.proofs.statements.passed.Goals as goal

pub returns-in_default : goal.returns-in_default
returns-in_default c =
    found-not_formed _ 1 _ _ _ c.in_default.is (c.over.ensures.value (positive-nonzero c.args.from.now.cp c.requires))

-- the change is formed, and so the state behind the exchanger is what `moved` gives
record IsMoved (c : After-moved) : Type 0 where
  gives : Gives c.over.result (over c.args.duty.now c.args.from.now.cp)
  next : Gives c.moved.result (moved c.args.side c.args.from.now.t (over c.args.duty.now c.args.from.now.cp))

is_moved : (c : After-moved) → IsMoved c
is_moved c =
    let gives = c.over.ensures.value (positive-nonzero c.args.from.now.cp c.requires) in
    let change = value_formed _ _ _ c.in-Some.is gives in
    record { gives = gives; next = subst (λ by. Gives c.moved.result (moved c.args.side c.args.from.now.t by)) change c.moved.ensures }

pub returns-in_default-moved : goal.returns-in_default-moved
returns-in_default-moved c = let is = is_moved (goal.at.returns-in_default-moved c).After-moved in
    found-formed _ 1 _ _ _ _ c.in-Some.is is.gives ∙ found-not_formed _ 2 _ _ _ c.in_default-moved.is is.next

-- the tests of the load are left, of the state that was formed
load_left : (c : After-keeps_load)
    → first_finding (pass_items c.args.place c.args.side c.args.is_latent c.args.from.now c.args.duty.now)
    ≡ first_finding (load_items c.args.place c.args.is_latent c.in-Some-moved.t)
load_left c = let is = is_moved (goal.at.After-keeps_load c).After-moved in
    found-formed _ 1 _ _ _ _ c.in-Some.is is.gives ∙ found-formed _ 2 _ _ _ _ c.in-Some-moved.is is.next
    ∙ ap (λ t. first_finding (load_items c.args.place c.args.is_latent t)) (sym (value_formed _ _ _ c.in-Some-moved.is is.next))

pub returns-in-Err : goal.returns-in-Err
returns-in-Err c = load_left (goal.at.returns-in-Err c).After-keeps_load ∙ c.in-Err.ensures c.args.place

pub returns-in-Ok : goal.returns-in-Ok
returns-in-Ok c =
    let at = (goal.at.returns-in-Ok c).After-keeps_load in
    let is = is_moved (goal.at.After-keeps_load at).After-moved in
    (load_left at ∙ c.in-Ok.ensures.0 c.args.place, λ i. record { cp = c.args.from.now.cp; t = value_formed _ _ _ c.in-Some-moved.is is.next i })
