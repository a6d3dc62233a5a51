use Rattle.case_text.proofs.Printed.Text.{text_back, text_short}
use Rattle.case_text.proofs.printer.print_case.Goals.{In_ok-push_forbids}
use Rattle.case_text.proofs.Words.{Case, IsCase, contribution_row, flat_map, flat_map-append, flat_map-map, forbid_row, printed_rows, row_text, rows_of}
use Rattle.case_text.proofs.Words.{rows_text, stream_row, utility_row}
use Rattle.std.proofs.Common.{List, append_assoc, length, subst, sym, ℕ, ◌++◌, ◌≡◌, ◌≤◌}
use Rattle.case_text.proofs.printer.print_case.Goals as goal

-- the text of a case, part by part
printed_text : (k : Case)
    → ((row_text (contribution_row k.contribution) ++ flat_map (λ s. row_text (stream_row k s)) k.streams)
    ++ flat_map (λ u. row_text (utility_row k u)) k.utilities) ++ flat_map (λ f. row_text (forbid_row k f)) k.forbids
    ≡ rows_text (printed_rows k)
unfolding printed_rows
printed_text k = simp (flat_map-append, flat_map-map, append_assoc)

text_is : (c : In_ok-push_forbids) → c.push_forbids.new.text.items ≡ rows_text (printed_rows c.args.case.now)
text_is c = rw (
  c.in_ok-push_forbids.ensures,
  c.in_ok-push_utilities.ensures,
  c.in_ok-push_streams.ensures,
  c.in_ok-extend_from_slice.ensures.items,
  c.new-text.ensures.items,
  c.as_bytes.ensures.value,
  c.in_ok-contribution_line.ensures,
  c.as_slice.ensures,
  c.as_slice-2.ensures,
  c.as_slice-3.ensures,
) (printed_text c.args.case.now)

pub returns-clause-text : goal.returns-clause-text
returns-clause-text c = text_is c

pub returns-clause-read_back : goal.returns-clause-read_back
returns-clause-read_back c =
    subst (λ (t : List ℕ). IsCase (rows_of t) c.args.case.now) (sym (text_is c)) (text_back c.args.case.now c.requires)

pub returns-clause-short : goal.returns-clause-short
returns-clause-short c =
    subst (λ (t : List ℕ). length t ≤ 2000000000) (sym (text_is c)) (text_short c.args.case.now c.requires)
