-- Sound items, one more at a time.
use Rattle.first_fault.proofs.CheckLemmas.{Passes, each_passes}
use Rattle.first_fault.specs.Checks.{first_failing}
use Rattle.first_fault.specs.Outcome.{Grammar, SoundBefore, fault_at, given_by}
use Rattle.std.proofs.Common.{List, None, Some, [], ap, append_assoc, arith, below_more, length, length-append, map, refl, slice_get, subst, suc, sym, zero, ℕ}
use Rattle.std.proofs.Common.{◌++◌, ◌<◌, ◌∙◌, ◌∷◌, ◌≡◌}
use Rattle.std.proofs.Math.Seq.{append_snoc, take-append_seam}
use Rattle.std.proofs.lemmas.List.{append-nil, map-append, take-append-le}
use Rattle.std.proofs.lemmas.List.Sums.{fold_push}

-- the item at an index, where more items follow
pub slice_get-front : {X : Type 0} (xs ys : List X) (k : ℕ) → k < length xs → slice_get (xs ++ ys) k ≡ slice_get xs k
slice_get-front [] ys k within = absurd (omega (arith, within))
slice_get-front (x ∷ xs) ys zero within = refl
slice_get-front (x ∷ xs) ys (suc k) within = slice_get-front xs ys k (omega (arith, within))

pub slice_get-seam : {X : Type 0} (xs : List X) (x : X) (ys : List X) → slice_get (xs ++ x ∷ ys) (length xs) ≡ Some x
slice_get-seam [] x ys = refl
slice_get-seam (a ∷ xs) x ys = slice_get-seam xs x ys

module _ {Item Given Value Cause : Type 0} (grammar : Grammar Item Given Value Cause) where
  -- the fault of an item does not turn on later items
  pub fault_at-front : (items more : List Item) (k : ℕ) → k < length items
      → fault_at grammar (items ++ more) k ≡ fault_at grammar items k
  fault_at-front items more k within =
      rw (take-append-le k items more (omega arith), slice_get-front items more k within) refl

  pub fault_at-seam : (items : List Item) (item : Item) (more : List Item)
      → fault_at grammar (items ++ item ∷ more) (length items)
      ≡ first_failing (grammar.checks (given_by grammar items) item)
  fault_at-seam items item more = rw (take-append_seam items (item ∷ more), slice_get-seam items item more) refl

  -- ---- items that follow on what was given

  -- no item is at fault, and this is what they give
  pub record Give (items : List Item) (given : Given) : Type 0 where
    pub sound : SoundBefore grammar items (length items)
    pub given_is : given ≡ given_by grammar items

  -- an item that is not at fault behind what was given, and what is given with it
  pub record Follows (given : Given) (item : Item) (next : Given) : Type 0 where
    pub passes : first_failing (grammar.checks given item) ≡ None
    pub next_is : next ≡ grammar.next given item

  pub nothing_gives : (given : Given) → given ≡ grammar.start → Give [] given
  nothing_gives given is = record { sound = λ k within. absurd (omega (arith, within)); given_is = is }

  pub one_more_gives : (items : List Item) (given : Given) (item : Item) (next : Given) → Give items given
      → Follows given item next
      → Give (items ++ item ∷ []) next
  one_more_gives items given item next gives follows =
      let front : SoundBefore grammar (items ++ item ∷ []) (length items)
      = λ k within. fault_at-front items (item ∷ []) k within ∙ gives.sound k within in
      let here = fault_at-seam items item []
      ∙ ap (λ g. first_failing (grammar.checks g item)) (sym gives.given_is) ∙ follows.passes in
      record {
        sound =
            rw (length-append items (item ∷ [])) (below_more (λ k. fault_at grammar (items ++ item ∷ []) k ≡ None) (length items) front here);
        given_is =
            follows.next_is ∙ ap (λ g. grammar.next g item) gives.given_is
            ∙ sym (fold_push grammar.next grammar.start items item);
      }

  -- items that are made of a list, each of which follows on those before it
  pub all_give : {X : Type 0} (item_of : X → Item) (given_of : List X → Given) (base : List Item) (xs : List X)
      → ((before : List X) (x : X) (after : List X) → xs ≡ before ++ x ∷ after → Follows (given_of before) (item_of x) (given_of (before ++ x ∷ [])))
      → Give base (given_of []) → Give (base ++ map item_of xs) (given_of xs)
  all_give {X = X} item_of given_of base xs follow gives = further [] xs refl (rw (append-nil base) gives)
    where
      further : (before after : List X) → xs ≡ before ++ after → Give (base ++ map item_of before) (given_of before)
          → Give (base ++ map item_of xs) (given_of xs)
      further before [] all gives = rw (all, append-nil before) gives
      further before (x ∷ after) all gives =
          let more =
          one_more_gives (base ++ map item_of before) (given_of before) (item_of x) (given_of (before ++ x ∷ [])) gives (follow before x after all) in
          let items = append_assoc base (map item_of before) (item_of x ∷ [])
          ∙ ap (λ r. base ++ r) (sym (map-append item_of before (x ∷ []))) in
          further (before ++ x ∷ []) after (all ∙ sym (append_snoc before x after)) (subst (λ r. Give r (given_of (before ++ x ∷ []))) items more)

  -- the same by the index of each
  pub all_give_at : {X : Type 0} (item_of : X → Item) (given_at : ℕ → Given) (base : List Item) (xs : List X)
      → ((i : ℕ) (x : X) → slice_get xs i ≡ Some x → Follows (given_at i) (item_of x) (given_at (suc i)))
      → Give base (given_at 0) → Give (base ++ map item_of xs) (given_at (length xs))
  all_give_at {X = X} item_of given_at base xs follow gives =
      all_give item_of (λ before. given_at (length before)) base xs by gives
    where
      by : (before : List X) (x : X) (after : List X) → xs ≡ before ++ x ∷ after
          → Follows (given_at (length before)) (item_of x) (given_at (length (before ++ x ∷ [])))
      by before x after all =
          let here = ap (λ l. slice_get l (length before)) all ∙ slice_get-seam before x after in
          let more : length (before ++ x ∷ []) ≡ suc (length before) = omega (arith, length-append before (x ∷ [])) in
          rw more (follow (length before) x here)

  -- ---- what holds of all that sound items give

  -- an item that is not at fault keeps a property
  abbrev pub IsKept : (Given → Type 0) → Type 0
  IsKept P = (given : Given) (item : Item) → P given → Passes (grammar.checks given item) → P (grammar.next given item)

  pub given_has : (P : Given → Type 0) → P grammar.start → IsKept P → (items : List Item)
      → SoundBefore grammar items (length items)
      → P (given_by grammar items)
  given_has P first keeps items sound = further [] items refl first
    where
      further : (before after : List Item) → items ≡ before ++ after → P (given_by grammar before)
          → P (given_by grammar items)
      further before [] all has = rw (all, append-nil before) has
      further before (item ∷ after) all has =
          let within : length before < length items
          = omega (arith, ap length all, length-append before (item ∷ after)) in
          let passes = sym (fault_at-seam before item after)
          ∙ (λ i. fault_at grammar (sym all i) (length before)) ∙ sound (length before) within in
          let next = keeps (given_by grammar before) item has (each_passes (grammar.checks (given_by grammar before) item) passes) in
          further (before ++ item ∷ []) after (all ∙ sym (append_snoc before item after)) (rw (fold_push grammar.next grammar.start before item) next)
