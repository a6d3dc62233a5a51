use Rattle.heat_flow.proofs.Words.{IsTrue, price_at, ◌≤ℤ◌}
use Rattle.std.proofs.Common.{ℕ, ◌<◌}
use Rattle.heat_flow.proofs.support.are_supporting.Given as goal

abbrev pub invariant-loop-hot : goal.invariant-loop-hot
invariant-loop-hot g l =
    (a b : ℕ) → a < l.hot → IsTrue (g.R.Reaches.reach l.reach a b) → price_at l.cold_prices b ≤ℤ price_at l.hot_prices a
