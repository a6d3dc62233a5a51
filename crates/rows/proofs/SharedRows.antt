-- The rows that every file may have, the contribution and the streams, as the grammars take them.
use Rattle.first_fault.proofs.CheckLemmas.{Passes}
use Rattle.rows.proofs.PrintedNumbers.{contribution, number_read}
use Rattle.rows.proofs.Tests.{passed-within, within-passes}
use Rattle.rows.proofs.Words.{IsContribution, Row, Side, codes, contribution_row, number, stream_kind}
use Rattle.rows.specs.ContributionRow.{contribution_checks}
use Rattle.rows.specs.Fields.{are_empty, is_number, is_passed_over}
use Rattle.rows.specs.declared.contribution_row.ContributionCauses.{ContributionCauses}
use Rattle.std.proofs.Common.{Bool, List, Option, Some, false, if◌then◌else◌, refl, ℕ, ℤ, ◌∷◌, ◌≡◌}
use Rattle.stream_case.specs.declared.source.Side.TheVariants as side

-- ---- the contribution

-- what is read of a row that passes
pub passed-contribution : {Cause : Type 0} (causes : ContributionCauses Cause) (is_given : Bool) (row : Row)
    → Passes (contribution_checks causes is_given row) → IsContribution (number row 2)
unfolding contribution_checks
passed-contribution causes is_given row (_, (_, (_, (range, _)))) = passed-within _ _ _ range

-- the printed row is read back
pub contribution-read : (c : ℤ) → IsContribution c → number (contribution_row c) 2 ≡ c
unfolding number
contribution-read c range = rw (number_read c (contribution c range)) refl

-- and passes, as the first of its kind
pub contribution-passes : {Cause : Type 0} (causes : ContributionCauses Cause) (c : ℤ) → IsContribution c
    → Passes (contribution_checks causes false (contribution_row c))
unfolding contribution_checks are_empty is_number number
contribution-passes causes c range =
    rw (number_read c (contribution c range)) (refl, (refl, (refl, (within-passes _ _ _ range, tt))))

-- ---- streams

-- the row of a stream is no row that is passed over, but of the kind that its first field names
pub stream_row-kind : {Kind : Type 0} (passed_over : Kind) (kind_in : List ℕ → Option Kind) (kind_on : Side → Kind)
    → kind_in (codes "hot") ≡ Some (kind_on side.Hot) → kind_in (codes "cold") ≡ Some (kind_on side.Cold)
    → (of : Side) (fields : Row)
    → (if is_passed_over (stream_kind of ∷ fields) then Some passed_over else kind_in (stream_kind of))
    ≡ Some (kind_on of)
unfolding is_passed_over are_empty
stream_row-kind passed_over kind_in kind_on hot cold side.Hot fields = hot
stream_row-kind passed_over kind_in kind_on hot cold side.Cold fields = cold
