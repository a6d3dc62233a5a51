-- Sums that are formed step by step.
use Rattle.network_audit.proofs.Words.{Place, Rational, Step, append-nil, cons_option, cost_steps, filter_map, filter_map-append, first_finding, map-append}
use Rattle.network_audit.proofs.Words.{plus, plus-zero, plus_assoc, rational_sum, rational_zero, sum_steps, take-append-drop, take_all, take_more, zero-plus}
use Rattle.std.proofs.Common.{List, None, Option, Some, [], ap, arith, drop, get_or, length, length-append, map, refl, subst, suc, sym, take, ℕ, ◌*◌, ◌++◌, ◌+◌}
use Rattle.std.proofs.Common.{◌<◌, ◌∙◌, ◌∷◌, ◌≡◌, ◌≤◌}
use Rattle.network_audit.proofs.ItemLemmas.{found-behind, found-front, found-nothing}
use Rattle.network_audit.specs.declared.findings.Finding.TheVariants as finding

-- a total with more numbers
abbrev pub added : Rational → List Rational → Rational
added total [] = total
added total (a ∷ numbers) = added (plus total a) numbers

pub added-sum : (total : Rational) (numbers : List Rational) → added total numbers ≡ plus total (rational_sum numbers)
added-sum total [] = sym (plus-zero total)
added-sum total (a ∷ numbers) = added-sum (plus total a) numbers ∙ plus_assoc total a (rational_sum numbers)

pub added-zero : (numbers : List Rational) → added rational_zero numbers ≡ rational_sum numbers
added-zero numbers = added-sum rational_zero numbers ∙ zero-plus (rational_sum numbers)

pub added-append : (total : Rational) (xs ys : List Rational) → added total (xs ++ ys) ≡ added (added total xs) ys
added-append total [] ys = refl
added-append total (a ∷ xs) ys = added-append (plus total a) xs ys

pub steps-append : (at : Place) (before : ℕ) (total : Rational) (xs ys : List Rational)
    → sum_steps at before total (xs ++ ys)
    ≡ sum_steps at before total xs ++ sum_steps at (before + length xs) (added total xs) ys
steps-append at before total [] ys = ap (λ n. sum_steps at n total ys) (omega arith)
steps-append at before total (a ∷ xs) ys =
    ap (λ items. Step at (before + 1) (plus total a) ∷ items) (steps-append at (before + 1) (plus total a) xs ys
    ∙ ap (λ n. sum_steps at (before + 1) (plus total a) xs ++ sum_steps at n (added (plus total a) xs) ys) (omega arith))

-- a sum that was formed step by step, where so many steps were taken before
pub record IsSummed (before : ℕ) (numbers : List Rational) (total : Rational) (steps : ℕ) : Type 0 where
  pub total_is : total ≡ added rational_zero numbers
  pub steps_is : steps ≡ before + length numbers
  pub passed : (at : Place) → first_finding (sum_steps at before rational_zero numbers) ≡ None

pub summed-none : (before : ℕ) → IsSummed before [] rational_zero before
summed-none before = record { total_is = refl; steps_is = omega arith; passed = λ at. found-nothing }

-- one number more
pub summed-more : (before : ℕ) (numbers : List Rational) (total : Rational) (steps : ℕ) (a : Rational)
    → IsSummed before numbers total steps
    → ((at : Place) → first_finding (Step at (steps + 1) (plus total a) ∷ []) ≡ None)
    → IsSummed before (numbers ++ a ∷ []) (plus total a) (steps + 1)
summed-more before numbers total steps a summed formed = record {
  total_is = ap (λ x. plus x a) summed.total_is ∙ sym (added-append rational_zero numbers (a ∷ []));
  steps_is = omega (arith, summed.steps_is, length-append numbers (a ∷ []));
  passed = λ at. ap first_finding (steps-append at before rational_zero numbers (a ∷ []))
      ∙ found-behind (sum_steps at before rational_zero numbers) (sum_steps at (before + length numbers) (added rational_zero numbers) (a ∷ []))
      (summed.passed at) ∙ ap (λ n. first_finding (Step at (n + 1) (plus (added rational_zero numbers) a) ∷ [])) (sym summed.steps_is)
      ∙ ap (λ x. first_finding (Step at (steps + 1) (plus x a) ∷ [])) (sym summed.total_is) ∙ formed at;
}

-- one number that is not formed, and so all that have it next
pub summed-not : (before : ℕ) (numbers later : List Rational) (total : Rational) (steps : ℕ) (a : Rational) (step : ℕ)
    → IsSummed before numbers total steps
    → ((at : Place) → first_finding (Step at (steps + 1) (plus total a) ∷ []) ≡ Some (finding.TooFine at step))
    → (at : Place) → first_finding (sum_steps at before rational_zero ((numbers ++ a ∷ []) ++ later))
    ≡ Some (finding.TooFine at step)
summed-not before numbers later total steps a step summed found at =
    ap first_finding (steps-append at before rational_zero (numbers ++ a ∷ []) later)
    ∙ found-front (sum_steps at before rational_zero (numbers ++ a ∷ []))
    (sum_steps at (before + length (numbers ++ a ∷ [])) (added rational_zero (numbers ++ a ∷ [])) later) (finding.TooFine at step)
    (ap first_finding (steps-append at before rational_zero numbers (a ∷ []))
    ∙ found-behind (sum_steps at before rational_zero numbers) (sum_steps at (before + length numbers) (added rational_zero numbers) (a ∷ []))
    (summed.passed at) ∙ ap (λ n. first_finding (Step at (n + 1) (plus (added rational_zero numbers) a) ∷ [])) (sym summed.steps_is)
    ∙ ap (λ x. first_finding (Step at (steps + 1) (plus x a) ∷ [])) (sym summed.total_is) ∙ found at)

-- ---- numbers that some members have

module _ {X : Type 0} (f : X → Option Rational) where
  -- the next member has one, or none
  pub numbers-more_some : (xs : List X) (n : ℕ) (d : X) (a : Rational) → n < length xs → f (get_or xs n d) ≡ Some a
      → filter_map f (take (n + 1) xs) ≡ filter_map f (take n xs) ++ a ∷ []
  numbers-more_some xs n d a within is =
      ap (filter_map f) (take_more xs n d within) ∙ filter_map-append f (take n xs) (get_or xs n d ∷ [])
      ∙ ap (λ o. filter_map f (take n xs) ++ cons_option o []) is

  pub numbers-more_none : (xs : List X) (n : ℕ) (d : X) → n < length xs → f (get_or xs n d) ≡ None
      → filter_map f (take (n + 1) xs) ≡ filter_map f (take n xs)
  numbers-more_none xs n d within is =
      ap (filter_map f) (take_more xs n d within) ∙ filter_map-append f (take n xs) (get_or xs n d ∷ [])
      ∙ ap (λ o. filter_map f (take n xs) ++ cons_option o []) is ∙ append-nil (filter_map f (take n xs))

  -- the sum behind the next member
  pub sum-more : (before : ℕ) (xs : List X) (n : ℕ) (d : X) (a total : Rational) (steps : ℕ) → n < length xs
      → f (get_or xs n d) ≡ Some a
      → IsSummed before (filter_map f (take n xs)) total steps
      → ((at : Place) → first_finding (Step at (steps + 1) (plus total a) ∷ []) ≡ None)
      → IsSummed before (filter_map f (take (n + 1) xs)) (plus total a) (steps + 1)
  sum-more before xs n d a total steps within is summed formed =
      subst (λ ns. IsSummed before ns (plus total a) (steps + 1)) (sym (numbers-more_some xs n d a within is))
      (summed-more before (filter_map f (take n xs)) total steps a summed formed)

  pub sum-same : (before : ℕ) (xs : List X) (n : ℕ) (d : X) (total : Rational) (steps : ℕ) → n < length xs
      → f (get_or xs n d) ≡ None
      → IsSummed before (filter_map f (take n xs)) total steps
      → IsSummed before (filter_map f (take (n + 1) xs)) total steps
  sum-same before xs n d total steps within is summed =
      subst (λ ns. IsSummed before ns total steps) (sym (numbers-more_none xs n d within is)) summed

  -- a number that is not formed
  pub sum-not : (before : ℕ) (xs : List X) (n : ℕ) (d : X) (a total : Rational) (steps step : ℕ)
      → n < length xs → f (get_or xs n d) ≡ Some a
      → IsSummed before (filter_map f (take n xs)) total steps
      → ((at : Place) → first_finding (Step at (steps + 1) (plus total a) ∷ []) ≡ Some (finding.TooFine at step))
      → (at : Place)
      → first_finding (sum_steps at before rational_zero (filter_map f xs)) ≡ Some (finding.TooFine at step)
  sum-not before xs n d a total steps step within is summed found at =
      let later = filter_map f (drop (n + 1) xs) in
      let all : filter_map f xs ≡ (filter_map f (take n xs) ++ a ∷ []) ++ later =
      ap (filter_map f) (sym (take-append-drop (n + 1) xs)) ∙ filter_map-append f (take (n + 1) xs) (drop (n + 1) xs)
      ∙ ap (λ ns. ns ++ later) (numbers-more_some xs n d a within is) in ap (λ ns. first_finding (sum_steps at before rational_zero ns)) all
      ∙ summed-not before (filter_map f (take n xs)) later total steps a step summed found at

  -- all members
  pub sum-all : (before : ℕ) (xs : List X) (n : ℕ) (total : Rational) (steps : ℕ) → length xs ≤ n
      → IsSummed before (filter_map f (take n xs)) total steps
      → IsSummed before (filter_map f xs) total steps
  sum-all before xs n total steps end summed =
      subst (λ ys. IsSummed before (filter_map f ys) total steps) (take_all n xs end) summed

pub total-is : (before : ℕ) (numbers : List Rational) (total : Rational) (steps : ℕ)
    → IsSummed before numbers total steps → total ≡ rational_sum numbers
total-is before numbers total steps summed = summed.total_is ∙ added-zero numbers

module _ {X Y : Type 0} where
  pub length-numbers : (f : X → Option Y) (xs : List X) → length (filter_map f xs) ≤ length xs
  length-numbers f [] = omega arith
  length-numbers f (x ∷ xs) = by (f x) (length-numbers f xs)
    where
      by : (o : Option Y) → length (filter_map f xs) ≤ length xs
          → length (cons_option o (filter_map f xs)) ≤ suc (length xs)
      by None few = omega (arith, few)
      by (Some a) few = omega (arith, few)

-- A cost that is formed step by step: each price, and its sum with those before it.

cost-append : (at : Place) (before : ℕ) (cost : Rational) (xs ys : List Rational)
    → cost_steps at before cost (xs ++ ys)
    ≡ cost_steps at before cost xs ++ cost_steps at (before + 2 * length xs) (added cost xs) ys
cost-append at before cost [] ys = ap (λ n. cost_steps at n cost ys) (omega arith)
cost-append at before cost (a ∷ xs) ys =
    ap (λ items. Step at (before + 1) a ∷ Step at (before + 2) (plus cost a) ∷ items) (cost-append at (before + 2) (plus cost a) xs ys
    ∙ ap (λ n. cost_steps at (before + 2) (plus cost a) xs ++ cost_steps at n (added (plus cost a) xs) ys) (omega arith))

-- prices whose sum was formed step by step, where so many steps were taken before
pub record IsPriced (before : ℕ) (prices : List Rational) (cost : Rational) (steps : ℕ) : Type 0 where
  pub cost_is : cost ≡ added rational_zero prices
  pub steps_is : steps ≡ before + 2 * length prices
  pub passed : (at : Place) → first_finding (cost_steps at before rational_zero prices) ≡ None

pub priced-none : (before : ℕ) → IsPriced before [] rational_zero before
priced-none before = record { cost_is = refl; steps_is = omega arith; passed = λ at. found-nothing }

-- the steps of one price more, behind those that are passed
next-steps : (before : ℕ) (prices : List Rational) (cost : Rational) (steps : ℕ) (a : Rational) (at : Place)
    → IsPriced before prices cost steps
    → first_finding (cost_steps at before rational_zero (prices ++ a ∷ []))
    ≡ first_finding (Step at (steps + 1) a ∷ Step at (steps + 2) (plus cost a) ∷ [])
next-steps before prices cost steps a at priced = ap first_finding (cost-append at before rational_zero prices (a ∷ []))
    ∙ found-behind (cost_steps at before rational_zero prices) (cost_steps at (before + 2 * length prices) (added rational_zero prices) (a ∷ []))
    (priced.passed at) ∙ (λ i. first_finding (Step at (sym priced.steps_is i + 1) a ∷ Step at (sym priced.steps_is i + 2) (plus (sym priced.cost_is i) a) ∷ []))

priced-more : (before : ℕ) (prices : List Rational) (cost : Rational) (steps : ℕ) (a : Rational)
    → IsPriced before prices cost steps
    → ((at : Place) → first_finding (Step at (steps + 1) a ∷ Step at (steps + 2) (plus cost a) ∷ []) ≡ None)
    → IsPriced before (prices ++ a ∷ []) (plus cost a) (steps + 2)
priced-more before prices cost steps a priced formed = record {
  cost_is = ap (λ x. plus x a) priced.cost_is ∙ sym (added-append rational_zero prices (a ∷ []));
  steps_is = omega (arith, priced.steps_is, length-append prices (a ∷ []));
  passed = λ at. next-steps before prices cost steps a at priced ∙ formed at;
}

module _ {X : Type 0} (f : X → Rational) where
  prices-more : (xs : List X) (n : ℕ) (d : X) (a : Rational) → n < length xs → f (get_or xs n d) ≡ a
      → map f (take (n + 1) xs) ≡ map f (take n xs) ++ a ∷ []
  prices-more xs n d a within is = ap (map f) (take_more xs n d within) ∙ map-append f (take n xs) (get_or xs n d ∷ [])
      ∙ ap (λ b. map f (take n xs) ++ b ∷ []) is

  pub cost-more : (before : ℕ) (xs : List X) (n : ℕ) (d : X) (a cost : Rational) (steps : ℕ) → n < length xs
      → f (get_or xs n d) ≡ a
      → IsPriced before (map f (take n xs)) cost steps
      → ((at : Place) → first_finding (Step at (steps + 1) a ∷ Step at (steps + 2) (plus cost a) ∷ []) ≡ None)
      → IsPriced before (map f (take (n + 1) xs)) (plus cost a) (steps + 2)
  cost-more before xs n d a cost steps within is priced formed =
      subst (λ ps. IsPriced before ps (plus cost a) (steps + 2)) (sym (prices-more xs n d a within is))
      (priced-more before (map f (take n xs)) cost steps a priced formed)

  pub cost-not : (before : ℕ) (xs : List X) (n : ℕ) (d : X) (a cost : Rational) (steps step : ℕ)
      → n < length xs → f (get_or xs n d) ≡ a
      → IsPriced before (map f (take n xs)) cost steps
      → ((at : Place) → first_finding (Step at (steps + 1) a ∷ Step at (steps + 2) (plus cost a) ∷ []) ≡ Some (finding.TooFine at step))
      → (at : Place) → first_finding (cost_steps at before rational_zero (map f xs)) ≡ Some (finding.TooFine at step)
  cost-not before xs n d a cost steps step within is priced found at =
      let front = map f (take n xs) ++ a ∷ [] in
      let later = map f (drop (n + 1) xs) in
      let all : map f xs ≡ front ++ later
      = ap (map f) (sym (take-append-drop (n + 1) xs)) ∙ map-append f (take (n + 1) xs) (drop (n + 1) xs)
      ∙ ap (λ ps. ps ++ later) (prices-more xs n d a within is) in
      ap (λ ps. first_finding (cost_steps at before rational_zero ps)) all
      ∙ ap first_finding (cost-append at before rational_zero front later)
      ∙ found-front (cost_steps at before rational_zero front) (cost_steps at (before + 2 * length front) (added rational_zero front) later)
      (finding.TooFine at step) (next-steps before (map f (take n xs)) cost steps a at priced ∙ found at)

  pub cost-all : (before : ℕ) (xs : List X) (n : ℕ) (cost : Rational) (steps : ℕ) → length xs ≤ n
      → IsPriced before (map f (take n xs)) cost steps
      → IsPriced before (map f xs) cost steps
  cost-all before xs n cost steps end priced =
      subst (λ ys. IsPriced before (map f ys) cost steps) (take_all n xs end) priced

pub cost-is : (before : ℕ) (prices : List Rational) (cost : Rational) (steps : ℕ)
    → IsPriced before prices cost steps → cost ≡ rational_sum prices
cost-is before prices cost steps priced = priced.cost_is ∙ added-zero prices
