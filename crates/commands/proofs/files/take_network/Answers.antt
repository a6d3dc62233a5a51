use Rattle.commands.proofs.Words.{refused}
use Rattle.std.proofs.Common.{refl, rules}
use Rattle.commands.proofs.files.take_network.Goals as goal

pub returns-in-Err-At-clause-stop : goal.returns-in-Err-At-clause-stop
returns-in-Err-At-clause-stop g c =
    refused _ c.in_ok-bytes.ensures.whole (record { at = _; why = _; fault = search rules; is = refl })
