use Rattle.network_text.proofs.Printed.Lengths.{exchanger_names-declared}
use Rattle.network_text.proofs.printer.exchanger_names.Goals as goal

pub returns : goal.returns
returns c = rw (← exchanger_names-declared c.args.network.now, ← c.as_slice.ensures) c.declared_names.ensures
