use Rattle.heat_flow.proofs.Words.{cases_lt, ints, IsTrue, pos, price_at, to_z-of_z}
use Rattle.std.proofs.Common.{FitsSigned, ap, arith, get_or, refl, rules, subst, w64, ⊎_elim, ◌≡◌}
use Rattle.heat_flow.proofs.support.are_supporting.Goals as goal

pub loop-hot-preserved : goal.loop-hot-preserved
loop-hot-preserved g c a b less reaches =
    let reach = g.R.Reaches.reach c.args.reach.now in
    let hot = c.loop-hot.hot in
    let prices = c.args.hot_prices.now in
    ⊎_elim (λ before. c.loop-hot.invariant a b before reaches) (λ past.
    let here : a ≡ hot = omega (arith, past, less) in
    let column = (c.requires.parts.within a b reaches).1 in
    let row = c.if-not-is_row_supported.ensures.0 refl b column (subst (λ k. IsTrue (reach k b)) here reaches) in
    let fits : FitsSigned w64 (get_or prices hot (pos 0)) = search rules in
    let price = to_z-of_z w64 (get_or prices hot (pos 0)) fits in
    let there = ap (price_at prices) here in
    omega (arith, ints, row, price, there)) (cases_lt a hot)

pub returns : goal.returns
returns g c = (
  λ e a b reaches.
      let row = (c.requires.parts.within a b reaches).0 in
      c.loop-hot.invariant a b (omega (arith, row, c.loop-hot-test.false)) reaches,
  λ supporting. refl,
)
