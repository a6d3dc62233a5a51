use Rattle.commands.proofs.Words.{refused}
use Rattle.std.proofs.Common.{refl, rules}
use Rattle.commands.proofs.files.take_study.Goals as goal

pub returns-in-Err-Row-clause-stop : goal.returns-in-Err-Row-clause-stop
returns-in-Err-Row-clause-stop g c =
    refused _ c.in_ok-bytes.ensures.whole (record { at = _; why = _; fault = search rules; is = refl })
