-- The printed text of a valid case is read as the case, and is short.
use Rattle.case_text.proofs.Printed.Case.{name_of, rows_back}
use Rattle.case_text.proofs.Printed.Rows.{load_printable, own}
use Rattle.case_text.proofs.Words.{All-append, All-cons, All-map, All-weaker, Case, Forbid, IsCase, IsContribution, IsHeat, IsPrintable, IsValid, IsValidForbid}
use Rattle.case_text.proofs.Words.{IsValidStream, IsValidUtility, Side, Stream, Utility, codes, contribution, contribution_field, contribution_row, forbid_row}
use Rattle.case_text.proofs.Words.{heat, ints, length-AreStreams, length-map, load_field, own_contribution, own_load, price, printed_rows, rows_of, rows_text}
use Rattle.case_text.proofs.Words.{source_name, stream_row, temperature, utility_kind, utility_row}
use Rattle.rows.proofs.PrintedRows.{IsPrintedField, IsPrintedRow, contribution_printed, name_field, no_field, number_field, optional_number_field, rows_short}
use Rattle.rows.proofs.PrintedRows.{seven_fields}
use Rattle.std.proofs.Common.{All, List, arith, length, length-append, map, refl, subst, sym, ℕ, ℤ, ◌++◌, ◌+◌, ◌∷◌, ◌≡◌, ◌≤◌}
use Rattle.rows.proofs.PrintedRows as printed
use Rattle.stream_case.specs.declared.source.Side.TheVariants as side

-- ---- the rows

utility_kind_field : (of : Side) → IsPrintedField (utility_kind of)
utility_kind_field side.Hot = record { plain = refl; short = omega arith }
utility_kind_field side.Cold = record { plain = refl; short = omega arith }

contribution_field_printed : (k : Case) (c : ℤ) → IsContribution c → IsPrintedField (contribution_field k c)
unfolding contribution_field
contribution_field_printed k c range =
    optional_number_field (own_contribution k c) (own IsPrintable k c (contribution c range))

load_field_printed : (s : Stream) → IsValidStream s → IsPrintedField (load_field s.load)
unfolding load_field
load_field_printed s valid = optional_number_field (own_load s.load) (load_printable s valid)

utility_printed : (k : Case) (u : Utility) → IsValidUtility u → IsPrintedRow (utility_row k u)
utility_printed k u valid =
    let most : IsHeat u.most
    = record { from = omega (arith, ints, valid.least.from, valid.most.from); upto = valid.most.upto } in
    let level = number_field u.level (temperature u.level valid.level) in
    let least = number_field u.least (heat u.least valid.least) in
    let price = number_field u.price (price u.price valid.price) in
    seven_fields _ _ _ _ _ _ _ (utility_kind_field u.side) (name_field u.name valid.name) level least (number_field u.most (heat u.most most)) price
    (contribution_field_printed k u.contribution valid.contribution)

forbid_printed : (k : Case) → IsValid k → (f : Forbid) → IsValidForbid k f → IsPrintedRow (forbid_row k f)
forbid_printed k valid f joins =
    let kind : IsPrintedField (codes "forbid") = record { plain = refl; short = omega arith } in
    let hot = name_field (source_name k f.hot) (name_of k valid side.Hot f.hot joins.0) in
    let cold = name_field (source_name k f.cold) (name_of k valid side.Cold f.cold joins.1) in
    seven_fields _ _ _ _ _ _ _ kind hot cold no_field no_field no_field no_field

rows_printed : (k : Case) → IsValid k → All IsPrintedRow (printed_rows k)
unfolding printed_rows
rows_printed k valid =
    let stream = λ (s : Stream) (is : IsValidStream s). printed.stream_printed _ _ (load_field_printed s is)
    (contribution_field_printed k s.contribution is.contribution) s is in
    let each_stream = All-weaker IsValidStream (λ s. IsPrintedRow (stream_row k s)) stream k.streams valid.streams.are_streams.each in
    let each_utility = All-weaker IsValidUtility (λ u. IsPrintedRow (utility_row k u)) (utility_printed k) k.utilities valid.utilities in
    let each_forbid = All-weaker (IsValidForbid k) (λ f. IsPrintedRow (forbid_row k f)) (forbid_printed k valid) k.forbids valid.forbids in
    let streams = All-map IsPrintedRow (stream_row k) k.streams each_stream in
    let utilities = All-map IsPrintedRow (utility_row k) k.utilities each_utility in
    let forbids = All-map IsPrintedRow (forbid_row k) k.forbids each_forbid in
    let sources = All-append IsPrintedRow (map (stream_row k) k.streams) (map (utility_row k) k.utilities) streams utilities in
    let all = All-append IsPrintedRow (map (stream_row k) k.streams ++ map (utility_row k) k.utilities) (map (forbid_row k) k.forbids) sources forbids in
    All-cons IsPrintedRow (contribution_row k.contribution) _ (contribution_printed k.contribution valid.contribution) all

-- ---- the text

begins : (k : Case) → (text : List ℕ) × (rows_text (printed_rows k) ≡ 99 ∷ text)
unfolding printed_rows
begins k = (_, refl)

-- the printed text is read as the case
pub text_back : (k : Case) → IsValid k → IsCase (rows_of (rows_text (printed_rows k))) k
text_back k valid = let (text, starts) = begins k in
    subst (λ rows. IsCase rows k) (sym (printed.rows_back (printed_rows k) text (rows_printed k valid) starts)) (rows_back k valid)

few_rows : (k : Case) → length (printed_rows k) ≡ 1 + length k.streams + length k.utilities + length k.forbids
unfolding printed_rows
few_rows k = simp (length-append, length-map) (omega arith)

pub text_short : (k : Case) → IsValid k → length (rows_text (printed_rows k)) ≤ 2000000000
text_short k valid = omega (
  arith,
  rows_short (printed_rows k) (rows_printed k valid),
  few_rows k,
  length-AreStreams k.streams valid.streams.are_streams,
  valid.few_utilities,
  valid.few_forbids,
)
