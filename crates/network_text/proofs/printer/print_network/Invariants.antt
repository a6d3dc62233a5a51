use Rattle.network_text.proofs.Printed.Lengths.{text_before}
use Rattle.std.proofs.Common.{◌≡◌}
use Rattle.network_text.proofs.printer.print_network.Given as goal

abbrev pub invariant-loop-line : goal.invariant-loop-line
invariant-loop-line l = l.text.items ≡ text_before l.case l.network l.line-index
