-- The draws of the generator.
use Rattle.std.specs.Prelude.{ℕ, zero, suc, ◌*◌, ◌%◌}
use Rattle.study.specs.declared.limits.TheConstants.{MULTIPLIER, MODULUS}

-- each state comes from the one before it
abbrev pub next_state : ℕ → ℕ
next_state x = MULTIPLIER * x % MODULUS

-- the state so many draws after the state x
abbrev pub state_after : ℕ → ℕ → ℕ
state_after x zero = x
state_after x (suc k) = next_state (state_after x k)

-- what draw number k after the state x gives, counted from 0: a number below the range
abbrev pub draw : ℕ → ℕ → ℕ → ℕ
draw x k range = state_after x (suc k) % range
