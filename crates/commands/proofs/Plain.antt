-- What is shown that blames neither the words nor the shelf.
use Rattle.commands.proofs.Words.{IsAnswered, Shown, Status, status_of}
use Rattle.commands.specs.declared.status.Status.TheVariants.{NoCommand, ReadFault, TooLong}
use Rattle.std.proofs.Common.{Bool, false, refl, true, ◌≡◌}

-- the status of a result, or of what a file says
abbrev pub is_plain_status : Status → Bool
is_plain_status NoCommand = false
is_plain_status TooLong = false
is_plain_status ReadFault = false
is_plain_status _ = true

-- what is shown is a result, or blames what a file says
abbrev pub is_plain : Shown → Bool
is_plain shown = is_plain_status (status_of shown)

-- a result is plain
pub answered-plain : (status : Status) → IsAnswered status → is_plain_status status ≡ true
answered-plain NoCommand answered = absurd answered
answered-plain TooLong answered = absurd answered
answered-plain ReadFault answered = absurd answered
answered-plain _ answered = refl
