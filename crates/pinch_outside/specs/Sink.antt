-- What a write does.
use Rattle.std.specs.Prelude.{ℕ, ◌≤◌, List, length, take, Result, IfOk, Option}
use Rattle.std.specs.Io.KnownBytes.{Appends}

-- on `Ok(n)`, n is from 1 to the number of bytes
abbrev pub WritesSome : {E : Type 0} → Result ℕ E → List ℕ → Type 0
WritesSome result bytes = IfOk result (λ n. (1 ≤ n) × (n ≤ length bytes))

-- a front of the bytes was appended, where what is written is told
pub record AppendsFront (old new : Option (List ℕ)) (bytes : List ℕ) : Type 0 where
  pub count : ℕ
  pub within : count ≤ length bytes
  pub front : Appends old new (take count bytes)
