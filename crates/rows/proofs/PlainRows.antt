-- Rows of plain fields, as lines of text, are read as themselves.
use Rattle.rows.proofs.Words.{All-cons, All-head, All-tail, All-weaker, IsName, Row, decimal, decimal_is_IsNumeral, default_config, default_writer, digit_at}
use Rattle.rows.proofs.Words.{fields_text, get_or_default, ints, is_name_byte, list_any, list_any_none, nat_tests, needs_byte, read-write-many, records_from}
use Rattle.rows.proofs.Words.{row_text, rows_of, rows_text, signed_decimal, strip_bom}
use Rattle.csv.specs.Machine.{next_record}
use Rattle.rows.proofs.PrintedNumbers.{IsPrintable}
use Rattle.std.proofs.Common.{All, List, Some, [], ap, append_assoc, arith, false, get_or, length, length-append, negsuc, pos, refl, suc, sym, true, zero, ℕ, ℤ}
use Rattle.std.proofs.Common.{◌++◌, ◌+◌, ◌<◌, ◌^◌, ◌∙◌, ◌∷◌, ◌≡◌, ◌≤◌}
use Rattle.csv.specs.Writing as csv
use Rattle.csv.specs.declared.parser.State.TheVariants as st

-- ---- fields

-- a field that is written without quotes
abbrev pub IsPlain : List ℕ → Type 0
IsPlain text = list_any (needs_byte default_writer) text ≡ false

digit_plain : (b : ℕ) → 48 ≤ b → needs_byte default_writer b ≡ false
digit_plain b digit = grind (arith, nat_tests)

name_byte_plain : (b : ℕ) → is_name_byte b ≡ true → needs_byte default_writer b ≡ false
name_byte_plain b name = grind (arith, nat_tests)

pub name_plain : (name : List ℕ) → IsName name → IsPlain name
name_plain [] is = absurd is
name_plain (b ∷ bs) is =
    let first : is_name_byte b ≡ true = rw is.0 refl in
    list_any_none (needs_byte default_writer) (b ∷ bs)
    (All-weaker (λ (c : ℕ). is_name_byte c ≡ true) (λ (c : ℕ). needs_byte default_writer c ≡ false) name_byte_plain (b ∷ bs)
    (All-cons (λ (c : ℕ). is_name_byte c ≡ true) b bs first is.1))

decimal_plain : (n : ℕ) → n < 2 ^ 64 → IsPlain (decimal n)
decimal_plain n small =
    let numeral = decimal_is_IsNumeral n small in
    list_any_none (needs_byte default_writer) (decimal n) (λ k d within.
    let digit = digit_at (decimal n) k numeral.0.1 within in
    digit_plain (get_or (decimal n) k d) (rw (get_or_default (decimal n) k d 0 within) digit.0))

pub number_plain : (z : ℤ) → IsPrintable z → IsPlain (signed_decimal z)
number_plain (pos n) small = decimal_plain n (omega (arith, ints, small.upto))
number_plain (negsuc n) small = decimal_plain (suc n) (omega (arith, ints, small.from))

-- ---- rows

-- a row with more than one field, all plain
pub record IsPlainRow (row : Row) : Type 0 where
  pub long : 1 < length row
  pub each : All IsPlain row

fields_same : (fields : Row) → All IsPlain fields
    → fields_text fields ≡ csv.fields_text default_writer fields ++ 10 ∷ []
unfolding fields_text csv.fields_text
fields_same [] plain = refl
fields_same (f ∷ fs) plain =
    let here = All-head IsPlain f fs plain in
    rw here (ap (λ t. 44 ∷ (f ++ t)) (fields_same fs (All-tail IsPlain f fs plain))
    ∙ ap (λ t. 44 ∷ t) (sym (append_assoc f (csv.fields_text default_writer fs) (10 ∷ []))))

row_same : (row : Row) → IsPlainRow row → row_text row ≡ csv.row_text default_writer row
unfolding csv.is_blank
row_same [] plain = absurd (omega (arith, plain.long))
row_same (x ∷ []) plain = absurd (omega (arith, plain.long))
row_same (x ∷ y ∷ ys) plain =
    let here = All-head IsPlain x (y ∷ ys) plain.each in
    rw here (ap (λ t. x ++ t) (fields_same (y ∷ ys) (All-tail IsPlain x (y ∷ ys) plain.each))
    ∙ sym (append_assoc x (csv.fields_text default_writer (y ∷ ys)) (10 ∷ [])))

row_read : (row : Row) (tail : List ℕ) → IsPlainRow row
    → next_record default_config st.StartRecord [] [] (row_text row ++ tail) ≡ Some (row, st.StartRecord, tail)
row_read [] tail plain = absurd (omega (arith, plain.long))
row_read (x ∷ []) tail plain = absurd (omega (arith, plain.long))
row_read (x ∷ y ∷ ys) tail plain =
    ap (λ t. next_record default_config st.StartRecord [] [] (t ++ tail)) (row_same (x ∷ y ∷ ys) plain)
    ∙ read-write-many x y ys tail

-- a line has a byte at least
rows_long : (rows : List Row) → All IsPlainRow rows → length rows ≤ length (rows_text rows)
rows_long [] plain = omega arith
rows_long (row ∷ rows) plain =
    let ends = ap length (row_same row (All-head IsPlainRow row rows plain)) in
    omega (arith, rows_long rows (All-tail IsPlainRow row rows plain), length-append {A = ℕ}, ends)

rows_read : (rows : List Row) (n : ℕ) → All IsPlainRow rows → length rows < n
    → records_from default_config n st.StartRecord (rows_text rows) ≡ rows
unfolding records_from next_record
rows_read rows zero plain enough = absurd (omega (arith, enough))
rows_read [] (suc n) plain enough = refl
rows_read (row ∷ rows) (suc n) plain enough =
    let rest = rows_read rows n (All-tail IsPlainRow row rows plain) (omega (arith, enough)) in
    rw (row_read row (rows_text rows) (All-head IsPlainRow row rows plain)) (ap (λ r. row ∷ r) rest)

no_mark : (text : List ℕ) → strip_bom (99 ∷ text) ≡ 99 ∷ text
unfolding strip_bom
no_mark [] = refl
no_mark (a ∷ []) = refl
no_mark (a ∷ b ∷ text) = refl

-- lines of plain rows, of which the first begins with `c` (99), no byte order mark, are read as those rows
pub rows_same : (rows : List Row) (text : List ℕ) → All IsPlainRow rows → rows_text rows ≡ 99 ∷ text
    → rows_of (rows_text rows) ≡ rows
unfolding rows_of
rows_same rows text plain starts =
    let same : strip_bom (rows_text rows) ≡ rows_text rows = ap strip_bom starts ∙ no_mark text ∙ sym starts in
    ap (λ t. records_from default_config (length t + 1) st.StartRecord t) same
    ∙ rows_read rows (length (rows_text rows) + 1) plain (omega (arith, rows_long rows plain))
