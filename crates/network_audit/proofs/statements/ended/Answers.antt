use Rattle.network_audit.proofs.Words.{Rational, not-not, rational_eq}
use Rattle.network_audit.proofs.ItemLemmas.{found-failed, found-nothing, found-passed}
use Rattle.std.proofs.Common.{Bool, Some, ap, not, sym, ◌∙◌, ◌≡◌}
use Rattle.network_audit.proofs.statements.ended.Goals as goal
use Rattle.network_audit.specs.declared.findings.Finding.TheVariants as finding
use Rattle.network_audit.specs.declared.findings.Reason.TheVariants as reason

-- a number is the wanted one where a test says that it does not differ from it
equal-is : (a b wanted : Rational) (differ : Bool) → differ ≡ not (rational_eq a b) → b ≡ wanted
    → rational_eq a wanted ≡ not differ
equal-is a b wanted differ is same = ap (rational_eq a) (sym same) ∙ sym (not-not (rational_eq a b)) ∙ ap not (sym is)

pub returns-then-ne : goal.returns-then-ne
returns-then-ne c =
    λ at. found-failed _ _ ((equal-is c.args.value.now.cp c.full_size-size.result _ _ c.ne.ensures c.full_size-size.ensures) ∙ ap not c.if-ne.true)
    ∙ ap (λ (cp : Rational). Some (finding.Failed at (reason.Unfinished c.args.value.now.cp cp))) (sym c.full_size-size.ensures)

pub returns-then-ne-2 : goal.returns-then-ne-2
returns-then-ne-2 c =
    let size = equal-is c.args.value.now.cp c.full_size-size.result _ _ c.ne.ensures c.full_size-size.ensures in
    let state = equal-is c.args.value.now.t c.last_state-state.result _ _ c.ne-2.ensures c.last_state-state.ensures in
    λ at. found-passed _ _ (size ∙ ap not c.if-ne.false) ∙ found-failed _ _ (state ∙ ap not c.if-ne-2.true)
    ∙ ap (λ (t : Rational). Some (finding.Failed at (reason.MissedTarget c.args.value.now.t t))) (sym c.last_state-state.ensures)

pub returns : goal.returns
returns c =
    let size = equal-is c.args.value.now.cp c.full_size-size.result _ _ c.ne.ensures c.full_size-size.ensures in
    let state = equal-is c.args.value.now.t c.last_state-state.result _ _ c.ne-2.ensures c.last_state-state.ensures in
    (λ at. found-passed _ _ (size ∙ ap not c.if-ne.false) ∙ found-passed _ _ (state ∙ ap not c.if-ne-2.false) ∙ found-nothing, tt)
