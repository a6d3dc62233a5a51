-- Whole numbers by their signs and their sizes.
use Rattle.std.proofs.Common.{◌≡◌, ◌*◌, ◌<◌, ◌*ℤ◌, ◌<ℤ◌, ℕ, zero, suc, ℤ, pos, negsuc, neg_ℤ, unsigned_abs, Bool, true, false, not, if◌then◌else◌, int_lt, refl, ap, arith}
use Rattle.std.specs.Bool.{beq}
use Rattle.std.proofs.lemmas.Int.{ints}
use Rattle.std.proofs.lemmas.Bool.Decides.{nat_tests}
use Rattle.std.proofs.Math.IntN.{*ℤ_comm}
use Rattle.sums.proofs.ProductLemmas.{neg_ℤ-*ℤ}

abbrev pub signed : Bool → ℕ → ℤ
signed negative size = if negative then neg_ℤ (pos size) else pos size

pub unsigned_abs-signed : (negative : Bool) (size : ℕ) → unsigned_abs (signed negative size) ≡ size
unsigned_abs-signed false size = refl
unsigned_abs-signed true zero = refl
unsigned_abs-signed true (suc size) = refl

pub signed-sign : (n : ℤ) → signed (int_lt n (pos 0)) (unsigned_abs n) ≡ n
signed-sign (pos a) = grind (arith, nat_tests)
signed-sign (negsuc a) = refl

-- a product by the signs and the sizes of its factors
pub signed-*ℤ-signed : (s t : Bool) (a b : ℕ) → signed s a *ℤ signed t b ≡ signed (not (beq s t)) (a * b)
signed-*ℤ-signed false false a b = refl
signed-*ℤ-signed true false a b = neg_ℤ-*ℤ (pos a) (pos b)
signed-*ℤ-signed false true a b =
    let turned = *ℤ_comm (pos a) (neg_ℤ (pos b)) in
    let one = neg_ℤ-*ℤ (pos b) (pos a) in
    omega (arith, ints)
signed-*ℤ-signed true true a b =
    let turned = *ℤ_comm (pos a) (neg_ℤ (pos b)) in
    let one = neg_ℤ-*ℤ (pos b) (pos a) in
    let other = neg_ℤ-*ℤ (pos a) (neg_ℤ (pos b)) in
    omega (arith, ints)

pub signed-*ℤ : (negative : Bool) (a d : ℕ) → signed negative a *ℤ pos d ≡ signed negative (a * d)
signed-*ℤ false a d = refl
signed-*ℤ true a d = neg_ℤ-*ℤ (pos a) (pos d)

pub zero_from_size : (n : ℤ) → unsigned_abs n ≡ 0 → n ≡ pos 0
zero_from_size (pos n) e = ap pos e
zero_from_size (negsuc n) e = absurd (omega (arith, e))

pub pos_above : (k : ℕ) → 0 < k → pos 0 <ℤ pos k
pos_above k some = omega (arith, ints, some)
