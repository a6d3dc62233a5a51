use Rattle.commands.proofs.Early.{early_shown}
use Rattle.std.proofs.Common.{Ok}
use Rattle.pinch.proofs.program.show.Goals as goal

pub returns-in_ok-answer-in-Ok : goal.returns-in_ok-answer-in-Ok
returns-in_ok-answer-in-Ok g c =
    record { end = Ok c.in-Ok.request; reads = c.in-Ok.ensures.reads; shows = c.in_ok-answer-in-Ok.ensures }

pub returns-in-Err : goal.returns-in-Err
returns-in-Err g c = early_shown _ _ _ _ _ c.into_shown.ensures c.in-Err.ensures.reads
