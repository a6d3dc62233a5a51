-- The checks of a statement, in their order. A check is a sentence on the statement and on what the statements before
-- it gave.
use Rattle.std.specs.Prelude.{ℕ, ◌+◌, ℤ, neg_ℤ, int_le, Bool, ◌&&◌, ◌==◌, List, [], ◌∷◌, length, Option, Some, None, is_some}
use Rattle.first_fault.specs.Checks.{Check, in_turn}
use Rattle.stream_case.specs.Name.{is_name}
use Rattle.stream_case.specs.Digits.{integer_in}
use Rattle.statements.specs.Statements.{Statement, field}
use Rattle.certify.specs.Given.{admits, cut_kind_in, field_count, kind_of, number}
use Rattle.certify.specs.declared.given.Given.{Given}
use Rattle.certify.specs.declared.fault.ReportWhy.{ReportWhy}
use Rattle.certify.specs.declared.fault.ReportWhy.TheVariants as why
use Rattle.certify.specs.declared.kind.Kind.{Kind}
use Rattle.certify.specs.declared.kind.Kind.TheVariants as kind
use Rattle.certify.specs.declared.limits.TheConstants.{MOST_AMOUNT, MOST_COST, MOST_DIGITS, MOST_LEVEL}

-- ---- the fields

abbrev pub cut_kind_checks : List ℕ → List (Check ReportWhy)
cut_kind_checks text = (is_some (cut_kind_in text), why.BadKind) ∷ []

abbrev pub name_checks : List ℕ → List (Check ReportWhy)
name_checks text = (is_name text, why.BadName) ∷ []

-- a number within so much on both sides of 0
abbrev pub is_within : ℤ → ℤ → Bool
is_within most n = int_le (neg_ℤ most) n && int_le n most

abbrev pub number_checks : ℤ → List ℕ → List (Check ReportWhy)
number_checks most text =
    (is_some (integer_in MOST_DIGITS text), why.BadNumber)
    ∷ (is_within most (number text), why.OutOfRange)
    ∷ []

-- the part that three fields from this one on name
unfoldable pub span_checks : Statement → ℕ → List (Check ReportWhy)
span_checks s at = in_turn
    (name_checks (field s at) ∷ number_checks MOST_LEVEL (field s (at + 1)) ∷ number_checks MOST_LEVEL (field s (at + 2)) ∷ [])

-- the price that a statement gives a part
abbrev pub priced_checks : Statement → List (Check ReportWhy)
priced_checks s = in_turn (span_checks s 1 ∷ number_checks MOST_AMOUNT (field s 4) ∷ [])

-- the fields of each kind of statement, from left to right
unfoldable pub field_checks : Kind → Statement → List (Check ReportWhy)
field_checks kind.Cost s = number_checks MOST_COST (field s 1)
field_checks kind.Use s = in_turn (name_checks (field s 1) ∷ number_checks MOST_AMOUNT (field s 2) ∷ [])
field_checks kind.Move s = in_turn (span_checks s 1 ∷ span_checks s 4 ∷ number_checks MOST_AMOUNT (field s 7) ∷ [])
field_checks kind.Give s = priced_checks s
field_checks kind.Take s = priced_checks s
field_checks kind.Infeasible s = []
field_checks kind.Cut s = in_turn
    (cut_kind_checks (field s 1) ∷ number_checks MOST_AMOUNT (field s 2) ∷ number_checks MOST_AMOUNT (field s 3) ∷ [])
field_checks kind.Part s = span_checks s 1

-- ---- a statement, behind statements that gave this

abbrev pub kind_checks : Option Kind → Given → Statement → List (Check ReportWhy)
kind_checks None given s = []
kind_checks (Some kind) given s =
    (length s == field_count kind, why.FieldCount)
    ∷ (admits given kind, why.OutOfOrder)
    ∷ field_checks kind s

unfoldable pub checks : Given → Statement → List (Check ReportWhy)
checks given s = (is_some (kind_of s), why.UnknownWord) ∷ kind_checks (kind_of s) given s
