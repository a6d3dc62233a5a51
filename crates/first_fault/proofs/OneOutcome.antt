-- Items have one outcome.
use Rattle.first_fault.proofs.Reading.{Reads, end_here, fault_here, none_read, one_more, value_here}
use Rattle.first_fault.specs.Checks.{first_failing}
use Rattle.first_fault.specs.Outcome.{Grammar, IsFault, IsOutcome, IsValue}
use Rattle.std.proofs.Common.{Err, List, None, Ok, Option, Result, Some, [], arith, inl, inr, refl, ℕ, ◌+◌, ◌∷◌, ◌≡◌, ◌⊎◌}
use Rattle.std.proofs.lemmas.Option.{slice_get_within}

module _ {Item Given Value Cause : Type 0} (grammar : Grammar Item Given Value Cause) (items : List Item) where
  pub one_fault : (number other : ℕ) (cause because : Cause) → IsFault grammar items number cause
      → IsFault grammar items other because
      → (number ≡ other) × (cause ≡ because)
  one_fault = grind (arith, slice_get_within {A = Item})

  pub no_value : (number : ℕ) (cause : Cause) (value : Value) → IsFault grammar items number cause
      → IsValue grammar items value → ⊥
  no_value = grind (arith, slice_get_within {A = Item})

  pub one_value : (value other : Value) → IsValue grammar items value → IsValue grammar items other → value ≡ other
  one_value = grind arith

  pub one_outcome : (outcome other : Result Value (ℕ × Cause)) → IsOutcome grammar items outcome
      → IsOutcome grammar items other → outcome ≡ other
  one_outcome = grind (arith, slice_get_within {A = Item})

  -- and they have one
  outcome_left : (left : List Item) (given : Given) (number : ℕ) → Reads grammar items left given number
      → (outcome : Result Value (ℕ × Cause)) × IsOutcome grammar items outcome
  outcome_left [] given number reads = by (grammar.end_fault number given) refl
    where
      by : (o : Option (ℕ × Cause)) → grammar.end_fault number given ≡ o
          → (outcome : Result Value (ℕ × Cause)) × IsOutcome grammar items outcome
      by None complete = (Ok (grammar.value given), value_here reads refl complete refl)
      by (Some (at, cause)) fault = (Err (at, cause), end_here reads refl fault)
  outcome_left (item ∷ rest) given number reads =
      by (first_failing (grammar.checks given item)) refl (outcome_left rest (grammar.next given item) (number + 1))
    where
      by : (o : Option Cause) → first_failing (grammar.checks given item) ≡ o
          → (Reads grammar items rest (grammar.next given item) (number + 1) → (outcome : Result Value (ℕ × Cause)) × IsOutcome grammar items outcome)
          → (outcome : Result Value (ℕ × Cause)) × IsOutcome grammar items outcome
      by None passes further = further (one_more reads refl passes refl)
      by (Some cause) fault further = (Err (number + 1, cause), fault_here reads refl fault)

  pub some_outcome : (outcome : Result Value (ℕ × Cause)) × IsOutcome grammar items outcome
  some_outcome = outcome_left items grammar.start 0 (none_read items refl)

  pub fault_or_value : ((number : ℕ) × (cause : Cause) × IsFault grammar items number cause) ⊎ ((value : Value) × IsValue grammar items value)
  fault_or_value = by some_outcome.0 some_outcome.1
    where
      by : (outcome : Result Value (ℕ × Cause)) → IsOutcome grammar items outcome
          → ((number : ℕ) × (cause : Cause) × IsFault grammar items number cause) ⊎ ((value : Value) × IsValue grammar items value)
      by (Ok value) is = inr (value, is)
      by (Err (number, cause)) is = inl (number, cause, is)
