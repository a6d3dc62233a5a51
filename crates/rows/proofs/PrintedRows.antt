-- Rows of seven printed fields, as lines of text, are read as themselves and are short.
use Rattle.rows.proofs.PlainRows.{IsPlain, IsPlainRow, name_plain, number_plain, rows_same}
use Rattle.rows.proofs.PrintedNumbers.{IsPrintable, contribution, number_short, stream_flow_rate, temperature}
use Rattle.rows.proofs.Words.{All-from_recursion, All-head, All-tail, All-weaker, IsContribution, IsName, IsValidStream, Row, Side, Stream, codes}
use Rattle.rows.proofs.Words.{contribution_row, fields_text, length-IsName, length-flat_map, optional_field, row_text, rows_of, rows_text, signed_decimal}
use Rattle.rows.proofs.Words.{stream_kind, stream_row, sum_by-le}
use Rattle.std.proofs.Common.{All, IfSome, List, None, Option, Some, [], arith, length, length-append, refl, ℕ, ℤ, ◌*◌, ◌+◌, ◌∷◌, ◌≡◌, ◌≤◌}
use Rattle.stream_case.specs.declared.source.Side.TheVariants as side

-- a field that is printed: plain, and at most 16 bytes long
pub record IsPrintedField (text : List ℕ) : Type 0 where
  pub plain : IsPlain text
  pub short : length text ≤ 16

pub record IsPrintedRow (row : Row) : Type 0 where
  pub seven : length row ≡ 7
  pub each : All IsPrintedField row

pub seven_fields : (a b c d e f g : List ℕ) → IsPrintedField a → IsPrintedField b → IsPrintedField c
    → IsPrintedField d → IsPrintedField e → IsPrintedField f
    → IsPrintedField g → IsPrintedRow (a ∷ b ∷ c ∷ d ∷ e ∷ f ∷ g ∷ [])
seven_fields a b c d e f g pa pb pc pd pe pf pg =
    record { seven = refl; each = All-from_recursion IsPrintedField (a ∷ b ∷ c ∷ d ∷ e ∷ f ∷ g ∷ []) (pa, (pb, (pc, (pd, (pe, (pf, (pg, tt))))))) }

-- ---- the fields

pub no_field : IsPrintedField []
no_field = record { plain = refl; short = omega arith }

pub number_field : (z : ℤ) → IsPrintable z → IsPrintedField (signed_decimal z)
number_field z small = record { plain = number_plain z small; short = omega (arith, number_short z small) }

pub optional_number_field : (o : Option ℤ) → IfSome o IsPrintable → IsPrintedField (optional_field o)
optional_number_field None small = no_field
optional_number_field (Some z) small = number_field z small

pub name_field : (name : List ℕ) → IsName name → IsPrintedField name
name_field name is = record { plain = name_plain name is; short = length-IsName name is }

stream_kind_field : (of : Side) → IsPrintedField (stream_kind of)
stream_kind_field side.Hot = record { plain = refl; short = omega arith }
stream_kind_field side.Cold = record { plain = refl; short = omega arith }

-- ---- the rows

pub contribution_printed : (c : ℤ) → IsContribution c → IsPrintedRow (contribution_row c)
contribution_printed c range =
    let kind : IsPrintedField (codes "contribution") = record { plain = refl; short = omega arith } in
    seven_fields _ _ _ _ _ _ _ kind no_field (number_field c (contribution c range)) no_field no_field no_field no_field

pub stream_printed : (load last : List ℕ) → IsPrintedField load → IsPrintedField last → (s : Stream)
    → IsValidStream s → IsPrintedRow (stream_row load last s)
stream_printed load last load_printed printed s valid =
    let supply = number_field s.supply (temperature s.supply valid.supply) in
    let target = number_field s.target (temperature s.target valid.target) in
    let cp = number_field s.cp (stream_flow_rate s valid) in
    seven_fields _ _ _ _ _ _ _ (stream_kind_field s.side) (name_field s.name valid.name) supply target cp load_printed printed

-- ---- the text

plain_row : (row : Row) → IsPrintedRow row → IsPlainRow row
plain_row row printed =
    record { long = omega (arith, printed.seven); each = All-weaker IsPrintedField IsPlain (λ f field. field.plain) row printed.each }

-- the text of printed rows, of which the first begins with `c` (99), no byte order mark, is read as those rows
pub rows_back : (rows : List Row) (text : List ℕ) → All IsPrintedRow rows → rows_text rows ≡ 99 ∷ text
    → rows_of (rows_text rows) ≡ rows
rows_back rows text printed starts =
    rows_same rows text (All-weaker IsPrintedRow IsPlainRow plain_row rows printed) starts

fields_short : (fields : Row) → All IsPrintedField fields → length (fields_text fields) ≤ 17 * length fields + 1
unfolding fields_text
fields_short [] printed = omega arith
fields_short (f ∷ fs) printed = let here = All-head IsPrintedField f fs printed in
    omega (arith, length-append f (fields_text fs), here.short, fields_short fs (All-tail IsPrintedField f fs printed))

row_short : (row : Row) → IsPrintedRow row → length (row_text row) ≤ 119
row_short [] printed = omega arith
row_short (f ∷ fs) printed = let here = All-head IsPrintedField f fs printed.each in
    omega (arith, length-append f (fields_text fs), here.short, fields_short fs (All-tail IsPrintedField f fs printed.each), printed.seven)

-- a line of seven fields has at most 119 bytes
pub rows_short : (rows : List Row) → All IsPrintedRow rows → length (rows_text rows) ≤ 119 * length rows
rows_short rows printed =
    let each = All-weaker IsPrintedRow (λ row. length (row_text row) ≤ 119) row_short rows printed in
    omega (arith, length-flat_map row_text rows, sum_by-le (λ row. length (row_text row)) 119 rows each)
