-- The outcome of items: the first of them at fault, else the fault of the end, else the value of what they give.
use Rattle.std.specs.Prelude.{◌≡◌, ◌⊎◌, ℕ, ◌+◌, ◌<◌, List, length, take, fold, slice_get, Option, Some, None, option_and_then, Result, Ok, Err}
use Rattle.first_fault.specs.Checks.{Check, first_failing}

-- how items are read, one after the other
pub record Grammar (Item Given Value Cause : Type 0) : Type 0 where
  -- what is given before the first item
  pub start : Given
  -- the checks of an item, behind items that gave this
  pub checks : Given → Item → List (Check Cause)
  -- what is given with the item
  pub next : Given → Item → Given
  -- the number and the cause of the fault of the end, if it has one, behind so many items that gave this
  pub end_fault : ℕ → Given → Option (ℕ × Cause)
  -- the value of what all items gave
  pub value : Given → Value

module _ {Item Given Value Cause : Type 0} (grammar : Grammar Item Given Value Cause) where
  -- what items give
  abbrev pub given_by : List Item → Given
  given_by items = fold grammar.next grammar.start items

  -- the fault of the item at an index, if it has one, behind what the items before it gave
  abbrev pub fault_at : List Item → ℕ → Option Cause
  fault_at items index =
      option_and_then (λ item. first_failing (grammar.checks (given_by (take index items)) item)) (slice_get items index)

  -- no item before this index is at fault
  abbrev pub SoundBefore : List Item → ℕ → Type 0
  SoundBefore items index = (k : ℕ) → k < index → fault_at items k ≡ None

  -- the item at this index is the first at fault, for this cause
  pub record IsFirstFault (items : List Item) (index : ℕ) (cause : Cause) : Type 0 where
    pub before : SoundBefore items index
    pub cause_is : fault_at items index ≡ Some cause

  -- no item is at fault, but the end is
  pub record IsEndFault (items : List Item) (number : ℕ) (cause : Cause) : Type 0 where
    pub sound : SoundBefore items (length items)
    pub fault_is : grammar.end_fault (length items) (given_by items) ≡ Some (number, cause)

  -- the number of what is at fault, items counted from 1, and its cause
  abbrev pub IsFault : List Item → ℕ → Cause → Type 0
  IsFault items number cause =
      ((index : ℕ) × (number ≡ index + 1) × IsFirstFault items index cause) ⊎ IsEndFault items number cause

  -- nothing is at fault, and this is the value of what the items give
  pub record IsValue (items : List Item) (value : Value) : Type 0 where
    pub sound : SoundBefore items (length items)
    pub complete : grammar.end_fault (length items) (given_by items) ≡ None
    pub value_is : value ≡ grammar.value (given_by items)

  -- the outcome of items: their value, or the number and the cause of their fault
  abbrev pub IsOutcome : List Item → Result Value (ℕ × Cause) → Type 0
  IsOutcome items (Ok value) = IsValue items value
  IsOutcome items (Err (number, cause)) = IsFault items number cause
