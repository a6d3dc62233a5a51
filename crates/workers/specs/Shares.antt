-- Numbered items, those that each worker makes, and where an item stands among them.
use Rattle.std.specs.Prelude.{◌≡◌, ◌↔◌, ℕ, ◌+◌, ◌*◌, ◌<◌, List, [], ◌∷◌, ◌++◌, length, Result, Ok, IfOk, Some, slice_get}

-- items of which each is what it is at its index
abbrev pub EachIsItem : {X : Type 0} → (ℕ → X → Type 0) → List X → Type 0
EachIsItem {X} IsItem items = (k : ℕ) (x : X) → slice_get items k ≡ Some x → IsItem k x

-- so many of them
pub record AreItems {X : Type 0} (IsItem : ℕ → X → Type 0) (many : ℕ) (items : List X) : Type 0 where
  pub each : EachIsItem IsItem items
  pub count : length items ≡ many

-- those of one of so many workers: its first item has its own number, and each further one is so many on
pub record AreItemsOfWorker {X : Type 0} (IsItem : ℕ → X → Type 0) (many workers worker : ℕ)
    (items : List X) : Type 0 where
  pub each : EachIsItem (λ j x. IsItem (worker + j * workers) x) items
  pub all : (j : ℕ) → (j < length items) ↔ (worker + j * workers < many)

-- those of each worker, or want of memory
abbrev pub AreItemsOfWorkers : {X E : Type 0} → (ℕ → X → Type 0) → ℕ → List (Result (List X) E) → Type 0
AreItemsOfWorkers {X} {E} IsItem many lists =
    (worker : ℕ) (answer : Result (List X) E) → slice_get lists worker ≡ Some answer
    → IfOk answer (AreItemsOfWorker IsItem many (length lists) worker)

-- x is the last of the items before, and the items after are those without it
pub record IsLastOf {X E : Type 0} (before after : Result (List X) E) (x : X) : Type 0 where
  pub items : List X
  pub with_it : before ≡ Ok (items ++ x ∷ [])
  pub without_it : after ≡ Ok items
