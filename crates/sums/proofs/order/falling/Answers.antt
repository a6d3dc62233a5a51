-- The rising list, reversed.
use Rattle.std.proofs.Common.{Contains, subst, sym, ℤ, ◌<ℤ◌}
use Rattle.sums.proofs.OrderLemmas.{Lists-reverse}
use Rattle.sums.proofs.Words.{ListsFalling}
use Rattle.sums.proofs.order.falling.Goals as goal

pub returns : goal.returns
returns c = let before = λ (a b : ℤ). a <ℤ b in
    subst (ListsFalling (Contains c.args.values.items)) (sym c.reverse.ensures.items) (Lists-reverse before
    (Contains c.args.values.items) c.rising-values.result.items c.rising-values.ensures)
