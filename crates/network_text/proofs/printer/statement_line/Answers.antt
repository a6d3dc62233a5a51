use Rattle.network_text.proofs.Printed.Lengths.{many_exchangers}
use Rattle.network_text.proofs.Words.{exchanger_name, get_or_default}
use Rattle.std.proofs.Common.{List, [], ap, arith, get_or, length, ℕ, ◌<◌, ◌∙◌, ◌≡◌}
use Rattle.network_text.proofs.printer.statement_line.Goals as goal

pub bounds-exchangers-exchanger : goal.bounds-exchangers-exchanger
bounds-exchangers-exchanger c =
    let known = rw c.in-Pass.is at c.requires.known in
    omega (arith, known.1, many_exchangers c.args.network.now, ap length c.requires.exchangers)

pub returns-in-Pass : goal.returns-in-Pass
returns-in-Pass c =
    let known = rw c.in-Pass.is at c.requires.known in
    let within : c.in-Pass.exchanger < length c.args.exchangers.now
    = omega (arith, known.1, many_exchangers c.args.network.now, ap length c.requires.exchangers) in
    let name : c.index-exchangers-exchanger.result ≡ exchanger_name c.args.network.now c.in-Pass.exchanger =
    c.index-exchangers-exchanger.is
    ∙ get_or_default c.args.exchangers.now c.in-Pass.exchanger c.index-exchangers-exchanger.result [] within
    ∙ ap (λ (names : List (List ℕ)). get_or names c.in-Pass.exchanger []) c.requires.exchangers in rw c.in-Pass.is (rw name at c.pass_line.ensures)
