-- The checks of the row of the contribution, which every grammar with such a row has.
use Rattle.std.specs.Prelude.{Bool, not, List, [], ◌∷◌}
use Rattle.first_fault.specs.Checks.{Check}
use Rattle.rows.specs.Fields.{are_empty, is_number, number}
use Rattle.rows.specs.Numbers.{is_contribution}
use Rattle.rows.specs.Rows.{Row}
use Rattle.rows.specs.declared.contribution_row.ContributionCauses.{ContributionCauses}

-- in their order, where earlier rows gave one or not; the grammar names the causes
unfoldable pub contribution_checks : {Cause : Type 0} → ContributionCauses Cause → Bool → Row → List (Check Cause)
contribution_checks causes is_given row =
    (are_empty row (1 ∷ 3 ∷ 4 ∷ 5 ∷ 6 ∷ []), causes.field_count)
    ∷ (not is_given, causes.repeated)
    ∷ (is_number row 2, causes.bad_number)
    ∷ (is_contribution (number row 2), causes.out_of_range)
    ∷ []
