use Rattle.commands.proofs.Printable.{printable}
use Rattle.pinch.proofs.Runs.{of_print}
use Rattle.pinch.proofs.program.run_gated.Goals as goal

pub print-requires : goal.print-requires
print-requires g c = printable _ _ _ _ c.in-Ok.ensures

pub returns-in-Ok-print : goal.returns-in-Ok-print
returns-in-Ok-print g c =
    of_print g.K.Sink.written g.K.Sink.faults _ _ _ _ _ c.in-Ok.shown c.in-Ok-print.status c.number.result c.number.ensures c.in-Ok.ensures
    c.in-Ok-print.ensures.prints
