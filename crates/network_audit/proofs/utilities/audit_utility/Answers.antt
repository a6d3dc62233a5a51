use Rattle.network_audit.proofs.ItemLemmas.{found-behind, found-front}
use Rattle.network_audit.proofs.Words.{first_finding, range_items}
use Rattle.std.proofs.Common.{ap, sym, ◌∙◌}
use Rattle.network_audit.proofs.utilities.audit_utility.Goals as goal
use Rattle.network_audit.specs.declared.findings.Place.TheVariants as place

pub returns-in-Err : goal.returns-in-Err
returns-in-Err c = found-front _ _ _ (c.in-Err.ensures _)

pub returns-in-Ok-in_range : goal.returns-in-Ok-in_range
returns-in-Ok-in_range c =
    let at = place.Utility c.args.index in
    let same = ap (λ heat. first_finding (range_items at c.args.utility.now heat)) (sym c.in-Ok.ensures.1) in
    (found-behind _ _ (c.in-Ok.ensures.0 at) ∙ same ∙ c.in-Ok-in_range.ensures.0 at, c.in-Ok.ensures.1)

pub returns-in-Err-in_range : goal.returns-in-Err-in_range
returns-in-Err-in_range c = let at = place.Utility c.args.index in
    found-behind _ _ (c.in-Ok.ensures.0 at)
    ∙ ap (λ heat. first_finding (range_items at c.args.utility.now heat)) (sym c.in-Ok.ensures.1)
    ∙ c.in-Err-in_range.ensures at
