-- Prices at which no part could exchange its heat for less: then the cost of a heat flow is their value.
use Rattle.transport.proofs.Words.{*ℤ-≤ℤ_left, Cold, Hot, IsBetween, IsHeatFlow, IsLeastCost, IsSupporting, KeepsRanges, Part, Side, Some, Transfer}
use Rattle.transport.proofs.Words.{by_lt_z, clamps, cost_of, excess_price, excess_price-*ℤ, heat_at, int_sum_from, int_sum_from-excess}
use Rattle.transport.proofs.Words.{int_sum_from-same_each, ints, least_product, negsuc, pos, price_at, side_cost, side_value, slice_get, value_of}
use Rattle.transport.proofs.Words.{weak_duality, ℤ, ◌*ℤ◌, ◌-ℤ◌, ◌<ℤ◌, ◌≤ℤ◌}
use Rattle.std.proofs.Common.{Bool, List, arith, refl, subst, suc, sym, zero, ℕ, ◌∙◌, ◌≡◌}

-- a part that could have more heat would not pay less for it, and one that could have less would not either
pub record IsSlack (excess low high heat : ℤ) : Type 0 where
  pub left_to_add : heat <ℤ high → pos 0 ≤ℤ excess
  pub to_spare : low <ℤ heat → excess ≤ℤ pos 0

abbrev pub AreSlack : Side → List Part → List ℤ → List Transfer → Type 0
AreSlack side parts prices transfers =
    (i : ℕ) (p : Part) → slice_get parts i ≡ Some p
    → IsSlack (excess_price side p.price (price_at prices i)) p.least p.most (heat_at side transfers i)

-- what the heat of a side is worth at the prices of its parts
abbrev pub worth_of : Side → List Part → List ℤ → List Transfer → ℤ
worth_of side parts prices transfers = int_sum_from (λ i p. price_at prices i *ℤ heat_at side transfers i) 0 parts

-- prices that certify a heat flow, part by part
pub record Certifies (hot cold : List Part) (transfers : List Transfer) (y z : List ℤ) : Type 0 where
  pub hot_slack : AreSlack Hot hot y transfers
  pub cold_slack : AreSlack Cold cold z transfers
  pub worth : worth_of Hot hot y transfers ≡ worth_of Cold cold z transfers

-- the slack law of one part
slack_least : (c low high s : ℤ) → IsBetween low high s → IsSlack c low high s → least_product c low high ≡ c *ℤ s
slack_least (pos zero) low high s h k = omega (arith, ints, clamps)
slack_least (pos (suc n)) low high s h k =
    let same : s ≡ low
    = by_lt_z low s (λ less. let no = k.to_spare less in absurd (omega (arith, ints))) (λ le.
    let from = h.from in
    omega (arith, ints)) in
    let le = *ℤ-≤ℤ_left (pos (suc n)) low high (omega (arith, ints)) (omega (arith, ints, h.from, h.upto)) in
    subst (λ z. least_product (pos (suc n)) low high ≡ pos (suc n) *ℤ z) (sym same) (omega (arith, ints, clamps))
slack_least (negsuc n) low high s h k =
    let same : s ≡ high = by_lt_z s high (λ less. let no = k.left_to_add less in absurd (omega (arith, ints)))
    (λ le. let upto = h.upto in omega (arith, ints)) in
    let le = *ℤ-≤ℤ_left (pos (suc n)) low high (omega (arith, ints)) (omega (arith, ints, h.from, h.upto)) in
    subst (λ z. least_product (negsuc n) low high ≡ negsuc n *ℤ z) (sym same) (omega (arith, ints, clamps))

-- the value of a side is its cost beyond what its heat is worth
side_value-is : (side : Side) (parts : List Part) (prices : List ℤ) (ts : List Transfer)
    → KeepsRanges side parts ts → AreSlack side parts prices ts
    → side_value side parts prices ≡ excess_price side (side_cost side parts ts) (worth_of side parts prices ts)
side_value-is side parts prices ts ranges slack =
    let excess = λ (i : ℕ) (p : Part). excess_price side p.price (price_at prices i) in
    int_sum_from-same_each (λ i p. least_product (excess i p) p.least p.most)
    (λ i p. excess_price side (p.price *ℤ heat_at side ts i) (price_at prices i *ℤ heat_at side ts i)) parts
    (λ i p at.
    slack_least (excess i p) p.least p.most (heat_at side ts i) (ranges i p at) (slack i p at)
    ∙ excess_price-*ℤ side p.price (price_at prices i) (heat_at side ts i))
    ∙ int_sum_from-excess side (λ i p. p.price *ℤ heat_at side ts i) (λ i p.
    price_at prices i *ℤ heat_at side ts i) parts

-- a certified heat flow costs the value of the prices
pub value-is_cost : (reach : ℕ → ℕ → Bool) (hot cold : List Part) (ts : List Transfer) (y z : List ℤ)
    → IsHeatFlow reach hot cold ts → Certifies hot cold ts y z
    → value_of hot cold y z ≡ cost_of hot cold ts
value-is_cost reach hot cold ts y z flow prices =
    let given = side_value-is Hot hot y ts flow.hot_ranges prices.hot_slack in
    let taken = side_value-is Cold cold z ts flow.cold_ranges prices.cold_slack in
    let worth = prices.worth in
    omega (arith, ints)

-- and none costs less, where the prices support every heat flow
pub IsLeastCost-certified : (reach : ℕ → ℕ → Bool) (hot cold : List Part) (ts : List Transfer) (y z : List ℤ)
    → IsSupporting reach y z
    → IsHeatFlow reach hot cold ts → Certifies hot cold ts y z → IsLeastCost reach hot cold (cost_of hot cold ts)
IsLeastCost-certified reach hot cold ts y z supports flow prices =
    let same = value-is_cost reach hot cold ts y z flow prices in
    record {
      transfers = ts;
      flow = flow;
      costs = refl;
      least = λ others other. let bound = weak_duality reach hot cold y z supports others other in
          omega (arith, ints);
    }

-- from a link with the room `high - low` and the reduced cost `-c` that carries what is missing at the most
pub slack_from_link : (c low high x : ℤ) → (x <ℤ (high -ℤ low) → c ≤ℤ pos 0) → (pos 0 <ℤ x → pos 0 ≤ℤ c)
    → IsSlack c low high (high -ℤ x)
slack_from_link c low high x left flowing =
    record { left_to_add = λ less. flowing (omega (arith, ints)); to_spare = λ less. left (omega (arith, ints)) }
