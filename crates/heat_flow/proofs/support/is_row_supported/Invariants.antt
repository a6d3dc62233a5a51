use Rattle.heat_flow.proofs.Words.{IsTrue, price_at, ◌≤ℤ◌}
use Rattle.std.proofs.Common.{ℕ, ◌<◌}
use Rattle.heat_flow.proofs.support.is_row_supported.Given as goal

abbrev pub invariant-loop-cold : goal.invariant-loop-cold
invariant-loop-cold g l =
    (b : ℕ) → b < l.cold → IsTrue (g.R.Reaches.reach l.reach l.hot b) → price_at l.cold_prices b ≤ℤ l.price
