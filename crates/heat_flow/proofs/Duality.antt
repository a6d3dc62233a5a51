-- The least product is least, and so no heat flow costs less than the value of prices that support it.
use Rattle.heat_flow.proofs.Words.{*ℤ-≤ℤ_left, *ℤ-≤ℤ_right, +ℤ-*ℤ, -ℤ-*ℤ, All, ArePositive, Cold, HaveParts, Hot, IsBetween, IsLeastProduct, IsSupporting}
use Rattle.heat_flow.proofs.Words.{IsTrue, KeepsRanges, Part, Side, Transfer, WeakDuality, by_lt_z, clamps, excess_price, heat_at, int_sum_by, int_sum_by-le}
use Rattle.heat_flow.proofs.Words.{int_sum_from, int_sum_from-add, int_sum_from-grouped, int_sum_from-le_each, int_sum_from-sub, ints, least_product, negsuc}
use Rattle.heat_flow.proofs.Words.{part_index, pos, price_at, side_cost, side_value, ℤ, ◌*ℤ◌, ◌≤ℤ◌}
use Rattle.std.proofs.Common.{Bool, List, ap, arith, get_or, subst, suc, ℕ, ◌∙◌, ◌≡◌}

-- ---- the least product

pub least_product-le : (c low high s : ℤ) → IsBetween low high s → least_product c low high ≤ℤ (c *ℤ s)
least_product-le (pos n) low high s h =
    let le = *ℤ-≤ℤ_left (pos n) low s (omega (arith, ints)) h.from in
    omega (arith, ints, clamps)
least_product-le (negsuc n) low high s h =
    let le = *ℤ-≤ℤ_left (pos (suc n)) s high (omega (arith, ints)) h.upto in
    omega (arith, ints, clamps)

pub least_product-is_least : (c low high : ℤ) → low ≤ℤ high → IsLeastProduct c low high (least_product c low high)
least_product-is_least c low high order = by_lt_z (c *ℤ high) (c *ℤ low) (λ less. record {
  at = high;
  within = record { from = order; upto = omega (arith, ints) };
  is = omega (arith, ints, clamps);
  least = least_product-le c low high;
}) (λ most. record {
  at = low;
  within = record { from = omega (arith, ints); upto = order };
  is = omega (arith, ints, clamps);
  least = least_product-le c low high;
})

-- ---- what a side costs and what it is worth

pub excess_price-*ℤ : (side : Side) (price y s : ℤ)
    → excess_price side price y *ℤ s ≡ excess_price side (price *ℤ s) (y *ℤ s)
excess_price-*ℤ Hot price y s = -ℤ-*ℤ price y s
excess_price-*ℤ Cold price z s = +ℤ-*ℤ price z s

pub int_sum_from-excess : (side : Side) (f g : ℕ → Part → ℤ) (parts : List Part)
    → int_sum_from (λ a p. excess_price side (f a p) (g a p)) 0 parts
    ≡ excess_price side (int_sum_from f 0 parts) (int_sum_from g 0 parts)
int_sum_from-excess Hot f g parts = int_sum_from-sub f g 0 parts
int_sum_from-excess Cold f g parts = int_sum_from-add f g 0 parts

-- what all the heat of a side is worth at the prices of its parts
abbrev pub side_worth : Side → List ℤ → List Transfer → ℤ
side_worth side prices ts = int_sum_by (λ t. price_at prices (part_index side t) *ℤ t.heat) ts

-- the same, part by part
pub side_worth-parts : (side : Side) (prices : List ℤ) (parts : List Part) (ts : List Transfer)
    → HaveParts side parts ts
    → int_sum_from (λ a p. price_at prices a *ℤ heat_at side ts a) 0 parts ≡ side_worth side prices ts
side_worth-parts side prices parts ts indexes =
    int_sum_from-grouped (part_index side) (λ t. t.heat) (price_at prices) parts ts indexes

-- each part costs at least its value beyond what its heat is worth
side_value-le : (side : Side) (parts : List Part) (prices : List ℤ) (ts : List Transfer)
    → KeepsRanges side parts ts → HaveParts side parts ts
    → side_value side parts prices ≤ℤ excess_price side (side_cost side parts ts) (side_worth side prices ts)
side_value-le side parts prices ts ranges indexes =
    let excess = λ (a : ℕ) (p : Part). excess_price side p.price (price_at prices a) in
    let each = int_sum_from-le_each (λ a p. least_product (excess a p) p.least p.most)
    (λ a p. excess_price side (p.price *ℤ heat_at side ts a) (price_at prices a *ℤ heat_at side ts a)) parts (λ a p at.
    let le = least_product-le (excess a p) p.least p.most (heat_at side ts a) (ranges a p at) in
    let split = excess_price-*ℤ side p.price (price_at prices a) (heat_at side ts a) in
    omega (arith, ints)) in
    let sum = int_sum_from-excess side (λ a p. p.price *ℤ heat_at side ts a) (λ a p. price_at prices a *ℤ heat_at side ts a) parts in
    let worth = side_worth-parts side prices parts ts indexes in
    subst (λ z. side_value side parts prices ≤ℤ z) (sum ∙ ap (excess_price side (side_cost side parts ts)) worth) each

-- what the hot parts give is worth at least what the cold parts take
pub worth-le : (reach : ℕ → ℕ → Bool) (y z : List ℤ) (ts : List Transfer) → IsSupporting reach y z
    → ArePositive ts → All (λ t. IsTrue (reach t.hot t.cold)) ts
    → All (λ t. (price_at z t.cold *ℤ t.heat) ≤ℤ (price_at y t.hot *ℤ t.heat)) ts
worth-le reach y z ts supports positive joined k d within =
    let t = get_or ts k d in
    let heat = positive k d within in
    *ℤ-≤ℤ_right t.heat (price_at z t.cold) (price_at y t.hot) (omega (arith, ints, heat)) (supports t.hot t.cold (joined k d within))

pub weak_duality : (reach : ℕ → ℕ → Bool) (hot cold : List Part) (y z : List ℤ) → WeakDuality reach hot cold y z
weak_duality reach hot cold y z supports ts flow =
    let given = side_value-le Hot hot y ts flow.hot_ranges flow.hot_indexes in
    let taken = side_value-le Cold cold z ts flow.cold_ranges flow.cold_indexes in
    let worth =
    int_sum_by-le (λ t. price_at z t.cold *ℤ t.heat) (λ t. price_at y t.hot *ℤ t.heat) ts (worth-le reach y z ts supports flow.positive flow.joined) in
    omega (arith, ints)
