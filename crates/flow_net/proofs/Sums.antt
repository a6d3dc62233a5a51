-- Laws of sums over the numbers below a bound.
use Rattle.flow_net.proofs.Words.{*ℤ-+ℤ, *ℤ-zero, cases_eq, eq-eqb, ints, ne_eqb, sum_below}
use Rattle.std.proofs.Common.{ap, ap₂, arith, if◌then◌else◌, inl, inr, pos, refl, suc, sym, zero, ℕ, ℤ, ◌*ℤ◌, ◌+ℤ◌, ◌-ℤ◌, ◌<◌, ◌==◌, ◌∙◌, ◌≡◌, ◌≢◌, ◌≤ℤ◌}

pub sum_below-same : (n : ℕ) (f g : ℕ → ℤ) → ((k : ℕ) → k < n → f k ≡ g k) → sum_below n f ≡ sum_below n g
sum_below-same zero f g h = refl
sum_below-same (suc n) f g h = ap₂ ◌+ℤ◌ (sum_below-same n f g (λ k l. h k (omega arith))) (h n (omega arith))

pub sum_below-le : (n : ℕ) (f g : ℕ → ℤ) → ((k : ℕ) → k < n → f k ≤ℤ g k) → sum_below n f ≤ℤ sum_below n g
sum_below-le zero f g h = omega (arith, ints)
sum_below-le (suc n) f g h =
    let before = sum_below-le n f g (λ k l. h k (omega arith)) in
    let here = h n (omega arith) in
    omega (arith, ints)

pub sum_below-add : (n : ℕ) (f g : ℕ → ℤ) → sum_below n (λ k. f k +ℤ g k) ≡ sum_below n f +ℤ sum_below n g
sum_below-add zero f g = refl
sum_below-add (suc n) f g = let before = sum_below-add n f g in omega (arith, ints)

pub sum_below-sub : (n : ℕ) (f g : ℕ → ℤ) → sum_below n (λ k. f k -ℤ g k) ≡ sum_below n f -ℤ sum_below n g
sum_below-sub zero f g = refl
sum_below-sub (suc n) f g = let before = sum_below-sub n f g in omega (arith, ints)

pub sum_below-scale : (n : ℕ) (c : ℤ) (f : ℕ → ℤ) → sum_below n (λ k. c *ℤ f k) ≡ c *ℤ sum_below n f
sum_below-scale zero c f = sym (*ℤ-zero c)
sum_below-scale (suc n) c f =
    let before = sum_below-scale n c f in
    let split = *ℤ-+ℤ c (sum_below n f) (f n) in
    omega (arith, ints)

pub sum_below-zero : (n : ℕ) (f : ℕ → ℤ) → ((k : ℕ) → k < n → f k ≡ pos 0) → sum_below n f ≡ pos 0
sum_below-zero zero f h = refl
sum_below-zero (suc n) f h =
    let before = sum_below-zero n f (λ k l. h k (omega arith)) in
    let here = h n (omega arith) in
    omega (arith, ints)

-- two sums whose terms differ at one index
pub sum_below-change : (n : ℕ) (f g : ℕ → ℤ) (i : ℕ) → i < n → ((k : ℕ) → k < n → k ≢ i → g k ≡ f k)
    → sum_below n g ≡ sum_below n f +ℤ (g i -ℤ f i)
sum_below-change zero f g i l h = absurd (omega arith)
sum_below-change (suc n) f g i l h = elim (cases_eq i n) [
  | inl e ↦
      let same = sum_below-same n g f (λ k b. h k (omega arith) (λ d. absurd (omega arith))) in
      let here_f = ap f e in
      let here_g = ap g e in
      omega (arith, ints)
  | inr ne ↦
      let before = sum_below-change n f g i (omega arith) (λ k b. h k (omega arith)) in
      let here = h n (omega arith) (λ d. ne (sym d)) in
      omega (arith, ints)
]

-- a sum of which the term at i alone counts
pub sum_below-single : (n : ℕ) (c : ℕ → ℤ) (i : ℕ) → i < n → sum_below n (λ v. if i == v then c v else pos 0) ≡ c i
sum_below-single zero c i l = absurd (omega arith)
sum_below-single (suc n) c i l = elim (cases_eq i n) [
  | inl e ↦
      let none =
      sum_below-zero n (λ v. if i == v then c v else pos 0) (λ k b. rw (ne_eqb i k (λ d. absurd (omega arith))) refl) in
      let here : (if i == n then c n else pos 0) ≡ c i = rw (eq-eqb i n e) (ap c (sym e)) in
      omega (arith, ints)
  | inr ne ↦
      let before = sum_below-single n c i (omega arith) in
      let here : (if i == n then c n else pos 0) ≡ pos 0 = rw (ne_eqb i n ne) refl in
      omega (arith, ints)
]

-- the sums of a table, by rows and by columns
pub sum_below-exchange : (n m : ℕ) (f : ℕ → ℕ → ℤ)
    → sum_below n (λ v. sum_below m (λ k. f v k)) ≡ sum_below m (λ k. sum_below n (λ v. f v k))
sum_below-exchange zero m f = sym (sum_below-zero m (λ k. pos 0) (λ k l. refl))
sum_below-exchange (suc n) m f =
    ap (λ s. s +ℤ sum_below m (λ k. f n k)) (sum_below-exchange n m f)
    ∙ sym (sum_below-add m (λ k. sum_below n (λ v. f v k)) (λ k. f n k))
