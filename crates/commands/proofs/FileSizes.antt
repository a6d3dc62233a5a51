-- The text of a design of few lines fits in a file.
use Rattle.commands.proofs.Words.{Balance, Case, HasFewLines, HasFractions, HasShape, IsComplete, IsWithinLimits, MAX_FILE, Network, Rational}
use Rattle.commands.proofs.Words.{StaysValid-IsComplete, balance_comment, codes, decimal, design_text, fraction_text, if◌then◌else◌, length-decimal-le_wide}
use Rattle.commands.proofs.Words.{signed_decimal, text-short, text_of, unsigned_abs}
use Rattle.std.proofs.Common.{Bool, List, [], arith, false, length, length-append, negsuc, pos, suc, true, ℕ, ℤ, ◌++◌, ◌+◌, ◌==◌, ◌^◌, ◌∷◌, ◌≤◌}

-- a sign and a numerator of 23 digits
signed_short : (z : ℤ) → unsigned_abs z ≤ 2 ^ 76 → length (signed_decimal z) ≤ 24
signed_short (pos n) small =
    omega (arith, length-decimal-le_wide 23 n (omega arith) (omega (arith, small)) (omega (arith, small)))
signed_short (negsuc n) small =
    omega (arith, length-decimal-le_wide 23 (suc n) (omega arith) (omega (arith, small)) (omega (arith, small)))

-- and a denominator of 15
fraction_short : (a : Rational) → IsWithinLimits a → length (fraction_text a) ≤ 40
fraction_short a within = by (a.den == 1)
  where
    by : (b : Bool) → length (if b then signed_decimal a.num else (signed_decimal a.num ++ 47 ∷ decimal a.den)) ≤ 40
    by true = omega (arith, signed_short a.num within.num)
    by false =
        let den = length-decimal-le_wide 15 a.den (omega arith) (omega (arith, within.den)) (omega (arith, within.den)) in
        omega (arith, signed_short a.num within.num, den, length-append (signed_decimal a.num) (47 ∷ decimal a.den))

behind : (a : Rational) (rest : List ℕ) → IsWithinLimits a → length (fraction_text a ++ rest) ≤ 40 + length rest
behind a rest within = omega (arith, length-append (fraction_text a) rest, fraction_short a within)

comment_short : (b : Balance) → HasFractions b → length (balance_comment b) ≤ 187
comment_short b within =
    let cost = codes " cost " ++ (fraction_text b.cost ++ 10 ∷ []) in
    let excess = codes " excess " ++ (fraction_text b.excess ++ cost) in
    let cold = codes " cold " ++ (fraction_text b.cold ++ excess) in
    omega (arith, behind b.hot cold within.hot, behind b.cold excess within.cold, behind b.excess cost within.excess, behind b.cost (10 ∷ []) within.cost)

pub design_fits : (c : Case) (network : Network) (b : Balance) → IsComplete c → HasShape c network
    → HasFractions b → HasFewLines network
    → length (design_text c network b) ≤ MAX_FILE
design_fits c network b complete shape within few =
    omega (arith, length-append (balance_comment b) (text_of c network), comment_short b within, text-short (StaysValid-IsComplete c complete) shape, few)
