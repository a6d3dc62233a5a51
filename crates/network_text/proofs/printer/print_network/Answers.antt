use Rattle.network_text.proofs.ReadBack.Law.{shape-is_network}
use Rattle.network_text.proofs.Printed.Lengths.{text-short, text_all}
use Rattle.network_text.proofs.Words.{HasShortLines, IsNetworkOf, StaysValid-IsComplete, line_read}
use Rattle.std.proofs.Common.{List, subst, sym, ℕ, ◌∙◌}
use Rattle.network_text.proofs.printer.print_network.Goals as goal

pub statement_line-requires-clause-exchangers : goal.statement_line-requires-clause-exchangers
statement_line-requires-clause-exchangers c = c.as_slice.ensures.value ∙ c.in_ok-exchangers.ensures

pub statement_line-requires-clause-known : goal.statement_line-requires-clause-known
statement_line-requires-clause-known c =
    let within = rw c.as_slice-lines.ensures at c.loop-line-test.true in
    let read = rw c.as_slice-lines.ensures at c.line-item.is in
    (line_read c.requires.shape c.loop-line.line-index c.line-item.result within read).known

pub returns-clause-text : goal.returns-clause-text
returns-clause-text c =
    let past = rw c.as_slice-lines.ensures at c.loop-line-test.false in
    c.loop-line.invariant ∙ text_all c.args.case.now c.args.network.now c.loop-line.line-index past

pub returns-clause-read_back : goal.returns-clause-read_back
returns-clause-read_back c =
    λ counts. subst (λ (text : List ℕ). IsNetworkOf c.args.case.now text c.args.network.now) (sym (returns-clause-text c))
    (shape-is_network c.args.case.now c.args.network.now c.requires.complete c.requires.shape counts)

pub returns-clause-short : goal.returns-clause-short
returns-clause-short c =
    let few = text-short (StaysValid-IsComplete c.args.case.now c.requires.complete) c.requires.shape in
    subst (λ (text : List ℕ). HasShortLines c.args.network.now text) (sym (returns-clause-text c)) few
