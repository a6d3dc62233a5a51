use Rattle.network_audit.proofs.Words.{Rational, is_below, rational_zero, whole}
use Rattle.network_audit.proofs.ItemLemmas.{found-failed, found-nothing, found-passed}
use Rattle.network_audit.proofs.statements.keeps_load.Goals.{After-is_below, After-is_below-2}
use Rattle.std.proofs.Common.{Some, ap, not, pos, sym, ◌∙◌, ◌≡◌}
use Rattle.network_audit.proofs.statements.keeps_load.Goals as goal
use Rattle.network_audit.specs.declared.findings.Finding.TheVariants as finding
use Rattle.network_audit.specs.declared.findings.Reason.TheVariants as reason

pub returns-then-not-is_latent : goal.returns-then-not-is_latent
returns-then-not-is_latent c = rw c.if-not-is_latent.true ((λ at. found-nothing), tt)

-- what the two comparisons say
below_none : (c : After-is_below) → is_below c.args.state.now rational_zero ≡ c.is_below.result
below_none c = ap (is_below c.args.state.now) (sym c.whole-none.ensures) ∙ sym c.is_below.ensures.value

above_all : (c : After-is_below-2) → is_below (whole (pos 1)) c.args.state.now ≡ c.is_below-2.result
above_all c = ap (λ all. is_below all c.args.state.now) (sym c.whole-all.ensures) ∙ sym c.is_below-2.ensures.value

pub returns-then-is_below : goal.returns-then-is_below
returns-then-is_below c =
    let low = below_none (goal.at.returns-then-is_below c).After-is_below ∙ c.if-is_below.true in
    rw c.if-not-is_latent.false (λ at. found-failed _ _ (ap not low)
    ∙ ap (λ (none : Rational). Some (finding.Failed at (reason.Overdrawn c.args.state.now none))) (sym c.whole-none.ensures))

pub returns-then-is_below-2 : goal.returns-then-is_below-2
returns-then-is_below-2 c = let at = goal.at.returns-then-is_below-2 c in
    let low = below_none at.After-is_below ∙ c.if-is_below.false in
    let high = above_all at.After-is_below-2 ∙ c.if-is_below-2.true in
    rw c.if-not-is_latent.false (λ at. found-passed _ _ (ap not low) ∙ found-failed _ _ (ap not high)
    ∙ ap (λ (all : Rational). Some (finding.Failed at (reason.Overdrawn c.args.state.now all))) (sym c.whole-all.ensures))

pub returns : goal.returns
returns c = let at = goal.at.returns c in
    let low = below_none at.After-is_below ∙ c.if-is_below.false in
    let high = above_all at.After-is_below-2 ∙ c.if-is_below-2.false in
    rw c.if-not-is_latent.false ((λ at. found-passed _ _ (ap not low) ∙ found-passed _ _ (ap not high) ∙ found-nothing), tt)
