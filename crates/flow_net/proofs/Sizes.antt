-- Absolute values.
use Rattle.flow_net.proofs.Words.{down, greatest_size, ints, unsigned_abs, up}
use Rattle.std.proofs.Common.{List, [], arith, get_or, length, min, negsuc, pos, suc, zero, ℕ, ℤ, ◌+◌, ◌-ℤ◌, ◌<ℤ◌, ◌<◌, ◌∷◌, ◌≡◌, ◌≤ℤ◌, ◌≤◌}

-- an integer z is read as `up z - down z`, one of which is 0
pub abs_is : (z : ℤ) → unsigned_abs z ≡ up z + down z
abs_is (pos n) = omega arith
abs_is (negsuc n) = omega arith

pub one_side : (z : ℤ) → min (up z) (down z) ≡ 0
one_side (pos n) = omega arith
one_side (negsuc n) = omega arith

-- integers and their absolute values, for `omega`
pub ruleset sizes = (ints, abs_is, one_side)

-- the more is routed, the less is left
pub less_left : (amount before now : ℤ) → before <ℤ now → now ≤ℤ amount
    → unsigned_abs (amount -ℤ now) < unsigned_abs (amount -ℤ before)
less_left amount before now more upto = omega (arith, sizes)

pub size-le-greatest : {X : Type 0} (f : X → ℤ) (xs : List X) (k : ℕ) (d : X) → k < length xs
    → unsigned_abs (f (get_or xs k d)) ≤ greatest_size f xs
size-le-greatest f [] k d l = absurd (omega arith)
size-le-greatest f (x ∷ xs) zero d l = omega arith
size-le-greatest f (x ∷ xs) (suc k) d l =
    let rest = size-le-greatest f xs k d (omega arith) in
    omega arith

pub greatest-le : {X : Type 0} (f : X → ℤ) (xs : List X) (n : ℕ) (d : X)
    → ((k : ℕ) → k < length xs → unsigned_abs (f (get_or xs k d)) ≤ n)
    → greatest_size f xs ≤ n
greatest-le f [] n d h = omega arith
greatest-le f (x ∷ xs) n d h =
    let first = h 0 (omega arith) in
    let rest = greatest-le f xs n d (λ k l. h (suc k) (omega arith)) in
    omega arith
