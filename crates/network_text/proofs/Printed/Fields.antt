-- Names, words and fractions are plain fields, and a printed fraction is read as itself.
use Rattle.network_text.proofs.Words.{All-append, All-cons, All-weaker, IsAnyName, IsPlainField, IsVisible, IsWithinLimits}
use Rattle.network_text.proofs.Words.{MOST_DIGITS, Rational, after_first, before_first, bounded_back, denominator_in, fraction_in, fraction_text}
use Rattle.network_text.proofs.Words.{get_or_append_left, get_or_at, is_slash, list_any, list_any-append, list_any_none, name_plain, nat_tests, natural_in}
use Rattle.network_text.proofs.Words.{natural_read, integer_in, integer_read, or-true, position_or_len, position_or_len_is, signed_decimal}
use Rattle.statements.proofs.PlainNumbers.{IsNumberByte, bytes_visible, decimal_bytes, signed_bytes, signed_some}
use Rattle.std.proofs.Common.{All, Bool, List, Some, [], ap, append_assoc, arith, decimal, drop, drop_at, false, if◌then◌else◌, inl, inr, length, length-append}
use Rattle.std.proofs.Common.{refl, sym, take, take_all, take_at, true, unsigned_abs, ℕ, ◌++◌, ◌+◌, ◌<◌, ◌==◌, ◌^◌, ◌∙◌, ◌∷◌, ◌≡◌}

-- ---- names

pub any_name_plain : (name : List ℕ) → IsAnyName name → IsPlainField name
any_name_plain name (inl is) = name_plain name is
any_name_plain [] (inr is) = absurd is
any_name_plain (b ∷ bs) (inr is) =
    record { some = omega arith; visible = All-cons IsVisible b bs (omega (arith, is.0)) (name_plain bs is.1).visible }

-- ---- fractions

-- the two numbers are of few enough digits
short : (a : Rational) → IsWithinLimits a → unsigned_abs a.num < 10 ^ 64
short a within = omega (arith, within.num)

numerator_read : (a : Rational) → IsWithinLimits a → integer_in MOST_DIGITS (signed_decimal a.num) ≡ Some a.num
numerator_read a within =
    integer_read MOST_DIGITS a.num (record { some = omega arith; readable = omega arith; short = omega (arith, within.num) })

no_slash : (text : List ℕ) → All IsNumberByte text → All (λ b. is_slash b ≡ false) text
no_slash text bytes =
    All-weaker IsNumberByte (λ b. is_slash b ≡ false) (λ b byte. let other = byte.1 in grind (arith, nat_tests)) text bytes

slash_place : (front back : List ℕ) → All (λ b. is_slash b ≡ false) front
    → position_or_len is_slash (front ++ 47 ∷ back) ≡ length front
slash_place front back none =
    let long = length-append front (47 ∷ back) in
    position_or_len_is is_slash (front ++ 47 ∷ back) (length front) 0 (omega (arith, long))
    (λ k early. rw (get_or_append_left front (47 ∷ back) 0 k early) (none k 0 early)) (λ within. rw (get_or_at front 47 back 0 (length front) refl) refl)

before_slash : (front back : List ℕ) → All (λ b. is_slash b ≡ false) front
    → before_first is_slash (front ++ 47 ∷ back) ≡ front
before_slash front back none =
    ap (λ n. take n (front ++ 47 ∷ back)) (slash_place front back none) ∙ take_at front (47 ∷ back) (length front) refl

after_slash : (front back : List ℕ) → All (λ b. is_slash b ≡ false) front
    → after_first is_slash (front ++ 47 ∷ back) ≡ back
after_slash front back none =
    ap (λ n. drop (n + 1) (front ++ 47 ∷ back)) (slash_place front back none)
    ∙ ap (drop (length front + 1)) (sym (append_assoc front (47 ∷ []) back))
    ∙ drop_at (front ++ 47 ∷ []) back (length front + 1) (length-append front (47 ∷ []))

all_before : (text : List ℕ) → All (λ b. is_slash b ≡ false) text → before_first is_slash text ≡ text
all_before text none =
    let nowhere = position_or_len_is is_slash text (length text) 0 (omega arith) (λ k early. none k 0 early) (λ within. absurd (omega (arith, within))) in
    ap (λ n. take n text) nowhere ∙ take_all (length text) text (omega arith)

denominator_read : (front : List ℕ) (d : ℕ) → All (λ b. is_slash b ≡ false) front → d < 10 ^ MOST_DIGITS
    → denominator_in (front ++ 47 ∷ decimal d) ≡ Some d
unfolding denominator_in
denominator_read front d none small =
    let some : list_any is_slash (front ++ 47 ∷ decimal d) ≡ true
    = list_any-append is_slash front (47 ∷ decimal d) ∙ or-true (list_any is_slash front) in
    rw some (ap (natural_in MOST_DIGITS) (after_slash front (decimal d) none) ∙ natural_read MOST_DIGITS d (omega arith) small (omega (arith, small)))

-- a printed fraction is read as itself
pub fraction-back : (a : Rational) → IsWithinLimits a → fraction_in (fraction_text a) ≡ Some a
unfolding fraction_in denominator_in
fraction-back a within = by (a.den == 1) refl
  where
    by : (b : Bool) → (a.den == 1) ≡ b
        → fraction_in (if b then signed_decimal a.num else (signed_decimal a.num ++ 47 ∷ decimal a.den)) ≡ Some a
    by true one =
        let none = no_slash (signed_decimal a.num) (signed_bytes a.num (short a within)) in
        let den : a.den ≡ 1 = grind (arith, nat_tests) in
        let whole : list_any is_slash (signed_decimal a.num) ≡ false
        = list_any_none is_slash (signed_decimal a.num) none in
        rw (all_before (signed_decimal a.num) none, whole, numerator_read a within) (bounded_back a within 1 den)
    by false other =
        let none = no_slash (signed_decimal a.num) (signed_bytes a.num (short a within)) in rw (
          before_slash (signed_decimal a.num) (decimal a.den) none,
          numerator_read a within,
          denominator_read (signed_decimal a.num) a.den none (omega (arith, within.den)),
        ) (bounded_back a within a.den refl)

-- and a plain field
pub fraction_plain : (a : Rational) → IsWithinLimits a → IsPlainField (fraction_text a)
fraction_plain a within = by (a.den == 1)
  where
    by : (b : Bool) → IsPlainField (if b then signed_decimal a.num else (signed_decimal a.num ++ 47 ∷ decimal a.den))
    by true =
        record { some = signed_some a.num (short a within); visible = bytes_visible (signed_decimal a.num) (signed_bytes a.num (short a within)) }
    by false =
        let under = bytes_visible (decimal a.den) (decimal_bytes a.den (omega (arith, within.den))) in
        let num = bytes_visible (signed_decimal a.num) (signed_bytes a.num (short a within)) in
        record {
          some = omega (arith, length-append (signed_decimal a.num) (47 ∷ decimal a.den));
          visible =
              All-append IsVisible (signed_decimal a.num) (47 ∷ decimal a.den) num (All-cons IsVisible 47 (decimal a.den) (omega arith) under);
        }
