-- Counts of faults, and what an error tells of them.
use Rattle.std.specs.Prelude.{ℕ, ◌+◌, ◌-◌, ◌^◌, ◌≤◌, min, Result, OnErr, is_ok, if◌then◌else◌}

-- one more, but a count stands still at the end of its type
abbrev pub counted : ℕ → ℕ
counted n = min (n + 1) (2 ^ 64 - 1)

-- a count of faults went up, or stands at the end of its type
abbrev pub Rose : ℕ → ℕ → Type 0
Rose before now = counted before ≤ now

-- a count of faults never falls, and an error comes only where it rose
pub record HasCause {T E : Type 0} (before now : ℕ) (result : Result T E) : Type 0 where
  pub later : before ≤ now
  pub failed : OnErr result (Rose before now)

-- the count of faults after a call, where each error counts and nothing else does
abbrev pub faults_after : {T E : Type 0} → ℕ → Result T E → ℕ
faults_after faults result = if is_ok result then faults else counted faults
