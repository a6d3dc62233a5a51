use Rattle.first_fault.proofs.CheckLemmas.{each_passes}
use Rattle.rows.proofs.Tests.{passed-within}
use Rattle.rows.specs.Numbers.{is_price}
use Rattle.std.proofs.lemmas.Int.{to_z-of_z}
use Rattle.stream_case.specs.Limits.{IsPrice}
use Rattle.std.proofs.Common.{FitsSigned, [], of_z, rules, subst, sym, to_z, w64, ◌∙◌, ◌∷◌}
use Rattle.study_text.proofs.row.span_prices.Goals as goal
use Rattle.study_text.specs.declared.fault.StudyWhy.TheVariants as why

pub is_too_wide-requires-clause-from : goal.is_too_wide-requires-clause-from
is_too_wide-requires-clause-from c =
    let fits : FitsSigned w64 c.in_ok-from-2.from = search rules in
    let (passes, same) = c.in_ok-from-2.ensures in
    subst IsPrice (sym (to_z-of_z w64 c.in_ok-from-2.from fits ∙ same))
    (passed-within _ _ _ (each_passes ((is_price (to_z w64 (of_z w64 c.in_ok-from.from)), why.OutOfRange) ∷ []) passes).0)

pub is_too_wide-requires-clause-to : goal.is_too_wide-requires-clause-to
is_too_wide-requires-clause-to c =
    let fits : FitsSigned w64 c.in_ok-to-2.to = search rules in
    let (passes, same) = c.in_ok-to-2.ensures in
    subst IsPrice (sym (to_z-of_z w64 c.in_ok-to-2.to fits ∙ same))
    (passed-within _ _ _ (each_passes ((is_price (to_z w64 (of_z w64 c.in_ok-to.to)), why.OutOfRange) ∷ []) passes).0)
