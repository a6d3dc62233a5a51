-- Checks, and the first of them that fails.
use Rattle.std.specs.Prelude.{◌≡◌, Bool, List, [], ◌∷◌, Option, Some, None, Result, Ok, Err, if◌then◌else◌}
use Rattle.std.specs.List.{flat_map}

-- a check, and the cause where it fails
abbrev pub Check : Type 0 → Type 0
Check Cause = Bool × Cause

-- the cause of the first check that fails
abbrev pub first_failing : {Cause : Type 0} → List (Check Cause) → Option Cause
first_failing [] = None
first_failing (check ∷ others) = if check.0 then first_failing others else Some check.1

-- the checks of each group after those of the groups before it
abbrev pub in_turn : {Cause : Type 0} → List (List (Check Cause)) → List (Check Cause)
in_turn groups = flat_map (λ group. group) groups

-- an Ok where no check fails, and an Err with the cause of the first that does
abbrev pub Checked : {T Cause : Type 0} → List (Check Cause) → (T → Type 0) → Result T Cause → Type 0
Checked checks P (Ok x) = (first_failing checks ≡ None) × P x
Checked checks P (Err cause) = first_failing checks ≡ Some cause
