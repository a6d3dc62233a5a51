use Rattle.network_audit.proofs.Words.{Rational, is_below, whole}
use Rattle.network_audit.proofs.ItemLemmas.{found-failed, found-nothing, found-passed}
use Rattle.std.proofs.Common.{Some, ap, false, not, sym, true, ◌∙◌, ◌≡◌}
use Rattle.network_audit.proofs.utilities.in_range.Goals as goal
use Rattle.network_audit.specs.declared.findings.Finding.TheVariants as finding
use Rattle.network_audit.specs.declared.findings.Reason.TheVariants as reason

pub returns-then-is_below : goal.returns-then-is_below
returns-then-is_below c = let heat = c.args.heat.now in
    let low : is_below heat (whole c.args.utility.now.least) ≡ true
    = ap (is_below heat) (sym c.least-least.ensures) ∙ sym c.is_below.ensures.value
    ∙ c.if-is_below.true in
    λ at. found-failed _ _ (ap not low)
    ∙ ap (λ (least : Rational). Some (finding.Failed at (reason.UtilityRange heat least))) (sym c.least-least.ensures)

pub returns-then-is_below-2 : goal.returns-then-is_below-2
returns-then-is_below-2 c = let heat = c.args.heat.now in
    let low : is_below heat (whole c.args.utility.now.least) ≡ false
    = ap (is_below heat) (sym c.least-least.ensures) ∙ sym c.is_below.ensures.value
    ∙ c.if-is_below.false in
    let high : is_below (whole c.args.utility.now.most) heat ≡ true
    = ap (λ m. is_below m heat) (sym c.most-most.ensures) ∙ sym c.is_below-2.ensures.value
    ∙ c.if-is_below-2.true in
    λ at. found-passed _ _ (ap not low) ∙ found-failed _ _ (ap not high)
    ∙ ap (λ (most : Rational). Some (finding.Failed at (reason.UtilityRange heat most)))
    (sym c.most-most.ensures)

pub returns : goal.returns
returns c = let heat = c.args.heat.now in
    let low : is_below heat (whole c.args.utility.now.least) ≡ false
    = ap (is_below heat) (sym c.least-least.ensures) ∙ sym c.is_below.ensures.value
    ∙ c.if-is_below.false in
    let high : is_below (whole c.args.utility.now.most) heat ≡ false
    = ap (λ m. is_below m heat) (sym c.most-most.ensures) ∙ sym c.is_below-2.ensures.value
    ∙ c.if-is_below-2.false in (λ at. found-passed _ _ (ap not low) ∙ found-passed _ _ (ap not high) ∙ found-nothing, tt)
