-- The first failing check of two groups, and checks that all hold.
use Rattle.first_fault.specs.Checks.{Check, first_failing}
use Rattle.std.proofs.Common.{Bool, List, None, [], false, refl, true, ◌++◌, ◌∷◌, ◌≡◌}
use Rattle.std.specs.Option.{option_or}

-- the first failing one of two groups is that of the first, or else that of the second
pub then_others : {Cause : Type 0} → (group others : List (Check Cause))
    → first_failing (group ++ others) ≡ option_or (first_failing group) (first_failing others)
then_others [] others = refl
then_others (check ∷ group) others = by check.0 refl (then_others group others)
  where
    by : (b : Bool) → check.0 ≡ b
        → first_failing (group ++ others) ≡ option_or (first_failing group) (first_failing others)
        → first_failing ((check ∷ group) ++ others) ≡ option_or (first_failing (check ∷ group)) (first_failing others)
    by true holds rest = rw holds rest
    by false fails rest = rw fails refl

-- each check holds
abbrev pub Passes : {Cause : Type 0} → List (Check Cause) → Type 0
Passes [] = Unit {0}
Passes (check ∷ others) = (check.0 ≡ true) × Passes others

-- no check fails where each holds
pub each_passes : {Cause : Type 0} → (checks : List (Check Cause)) → first_failing checks ≡ None → Passes checks
each_passes [] e = tt
each_passes (check ∷ others) e = by check.0 refl (each_passes others)
  where
    by : (b : Bool) → check.0 ≡ b → (first_failing others ≡ None → Passes others) → (check.0 ≡ true) × Passes others
    by true holds rest = (holds, rest (rw holds at e))
    by false fails rest = cc (rw fails at e)

pub none_fails : {Cause : Type 0} → (checks : List (Check Cause)) → Passes checks → first_failing checks ≡ None
none_fails [] holds = refl
none_fails (check ∷ others) holds = rw holds.0 (none_fails others holds.1)
