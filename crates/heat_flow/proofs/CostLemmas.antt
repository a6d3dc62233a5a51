-- The cost of a heat flow, transfer by transfer.
use Rattle.heat_flow.proofs.Words.{All, All-head, All-tail, ArePositive, HasCost, HaveParts, Hot, IsBounded, IsHeat, IsHeatFlow, Part, Side, Transfer, eq-eqb}
use Rattle.heat_flow.proofs.Words.{get_or_from_slice_get, heat_at, if◌then◌else◌, int_sum_by, int_sum_by-not_negative, int_sum_from-grouped}
use Rattle.heat_flow.proofs.Words.{int_sum_from-same_each, ints, part_index, pos, side_cost, slice_get-get_or, ℤ, ◌*ℤ◌, ◌<ℤ◌, ◌==◌, ◌≤ℤ◌}
use Rattle.heat_flow.proofs.Blanks.{blank}
use Rattle.std.proofs.Common.{Bool, List, [], ap, arith, false, get_or, length, refl, suc, sym, true, zero, ℕ, ◌<◌, ◌∙◌, ◌∷◌, ◌≡◌}

-- the price of the part at an index
abbrev pub part_price : List Part → ℕ → ℤ
part_price parts a = (get_or parts a blank).price

pub side_cost-transfers : (side : Side) (parts : List Part) (ts : List Transfer) → HaveParts side parts ts
    → int_sum_by (λ t. part_price parts (part_index side t) *ℤ t.heat) ts ≡ side_cost side parts ts
side_cost-transfers side parts ts indexes =
    sym (int_sum_from-grouped (part_index side) (λ t. t.heat) (part_price parts) parts ts indexes)
    ∙ int_sum_from-same_each (λ a p. part_price parts a *ℤ heat_at side ts a) (λ a p. p.price *ℤ heat_at side ts a) parts
    (λ a p at. ap (λ q. q.price *ℤ heat_at side ts a) (get_or_from_slice_get parts a p blank at))

-- a sum of terms that are not negative is at least each of them
int_sum_by-term : {X : Type 0} (f : X → ℤ) (xs : List X) (k : ℕ) (d : X) → All (λ x. pos 0 ≤ℤ f x) xs
    → k < length xs → f (get_or xs k d) ≤ℤ int_sum_by f xs
int_sum_by-term f [] k d h within = absurd (omega arith)
int_sum_by-term f (x ∷ xs) zero d h within =
    let rest = int_sum_by-not_negative f xs (All-tail (λ y. pos 0 ≤ℤ f y) x xs h) in
    omega (arith, ints)
int_sum_by-term f (x ∷ xs) (suc k) d h within =
    let first = All-head (λ y. pos 0 ≤ℤ f y) x xs h in
    let rest = int_sum_by-term f xs k d (All-tail (λ y. pos 0 ≤ℤ f y) x xs h) (omega (arith, within)) in
    omega (arith, ints)

one_or_none : (b : Bool) (heat : ℤ) → pos 0 <ℤ heat → pos 0 ≤ℤ (if b then heat else pos 0)
one_or_none true heat h = omega (arith, ints)
one_or_none false heat h = omega (arith, ints)

pub heats_at-not_negative : (side : Side) (ts : List Transfer) (a : ℕ) → ArePositive ts
    → All (λ t. pos 0 ≤ℤ (if part_index side t == a then t.heat else pos 0)) ts
heats_at-not_negative side ts a h k d within =
    one_or_none (part_index side (get_or ts k d) == a) (get_or ts k d).heat (h k d within)

-- a transfer is at most what its hot part gives, and so within the limit of a part
pub heats_within : (hot cold : List Part) (ts : List Transfer) → All IsBounded hot → HasCost hot cold ts
    → All (λ t. IsHeat t.heat) ts
heats_within hot cold ts bounded h k d within =
    let t = get_or ts k d in
    let row = h.hot_indexes k d within in
    let above = h.positive k d within in
    let sum = int_sum_by-term (λ u. if part_index Hot u == t.hot then u.heat else pos 0) ts k d (heats_at-not_negative Hot ts t.hot h.positive) within in
    let own : (if t.hot == t.hot then t.heat else pos 0) ≡ t.heat
    = ap (λ b. if b then t.heat else pos 0) (eq-eqb t.hot t.hot refl) in
    let limit = h.most t.hot (get_or hot t.hot blank) (slice_get-get_or hot t.hot blank row) in
    let bound = (bounded t.hot blank row).most.upto in
    omega (arith, ints)

-- a heat flow has a cost
pub HasCost-flow : (reach : ℕ → ℕ → Bool) (hot cold : List Part) (ts : List Transfer)
    → IsHeatFlow reach hot cold ts → HasCost hot cold ts
HasCost-flow reach hot cold ts flow =
    record { positive = flow.positive; hot_indexes = flow.hot_indexes; cold_indexes = flow.cold_indexes; most = λ a p at. (flow.hot_ranges a p at).upto }
