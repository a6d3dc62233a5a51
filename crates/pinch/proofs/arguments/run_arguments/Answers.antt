use Rattle.pinch.proofs.Runs.{without_memory}
use Rattle.pinch.proofs.Words.{OutOfMemory, number_of}
use Rattle.std.proofs.Common.{None, refl, ◌∙◌}
use Rattle.pinch.proofs.arguments.run_arguments.Goals as goal

pub returns-in_default-clause-ends : goal.returns-in_default-clause-ends
returns-in_default-clause-ends g c = record {
  done = record { status = number_of OutOfMemory; shown = None };
  runs = without_memory g.K.Sink.written g.K.Sink.faults _ _ _ _ _ refl;
  is = c.from.ensures ∙ c.number.ensures;
}

pub returns-clause-ends : goal.returns-clause-ends
returns-clause-ends g c =
    rw (← c.in-Ok.ensures.words) (record { done = c.run.result; runs = c.run.ensures; is = c.from-2.ensures ∙ c.into_status.ensures })
