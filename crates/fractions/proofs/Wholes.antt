-- Whole numbers among the rationals, and ratios as quotients of them.
use Rattle.fractions.proofs.Ratios.{minus-ratio_same_den, plus-ratio_same_den, ratio-cancel, ratio-one, times-ratio}
use Rattle.fractions.proofs.Words.{minus, plus, ratio, rational_zero, times, whole}
use Rattle.std.proofs.Common.{ap, arith, pos, sym, ℕ, ℤ, ◌*ℤ◌, ◌+ℤ◌, ◌-ℤ◌, ◌<◌, ◌∙◌, ◌≡◌, ◌≢◌}

pub whole-plus : (n m : ℤ) → plus (whole n) (whole m) ≡ whole (n +ℤ m)
whole-plus n m = rw (← ratio-one n, ← ratio-one m, ← ratio-one (n +ℤ m)) (plus-ratio_same_den n m 1)

pub whole-minus : (n m : ℤ) → minus (whole n) (whole m) ≡ whole (n -ℤ m)
whole-minus n m = rw (← ratio-one n, ← ratio-one m, ← ratio-one (n -ℤ m)) (minus-ratio_same_den n m 1)

pub whole-times : (n m : ℤ) → times (whole n) (whole m) ≡ whole (n *ℤ m)
whole-times n m =
    rw (← ratio-one n, ← ratio-one m, ← ratio-one (n *ℤ m)) (times-ratio n m 1 1 (omega arith) (omega arith))

pub same_from_whole : (n m : ℤ) → whole n ≡ whole m → n ≡ m
same_from_whole n m same = ap (λ a. a.num) same

pub whole-nonzero : (n : ℤ) → n ≢ pos 0 → whole n ≢ rational_zero
whole-nonzero n some none = some (same_from_whole n (pos 0) none)

-- a whole number over any denominator
pub ratio-multiple : (n : ℤ) (d : ℕ) → 0 < d → ratio (n *ℤ pos d) d ≡ whole n
ratio-multiple n d some = ap (ratio (n *ℤ pos d)) (omega arith) ∙ ratio-cancel n 1 d (omega arith) some ∙ ratio-one n

-- a ratio times its denominator
pub ratio-times_den : (n : ℤ) (d : ℕ) → 0 < d → times (ratio n d) (whole (pos d)) ≡ whole n
ratio-times_den n d some =
    ap (times (ratio n d)) (sym (ratio-one (pos d))) ∙ times-ratio n (pos d) d 1 some (omega arith)
    ∙ ap (ratio (n *ℤ pos d)) (omega arith)
    ∙ ratio-multiple n d some
