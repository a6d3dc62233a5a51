-- Items of an audit in a row: the first that is not passed, and what holds of each.
use Rattle.network_audit.proofs.Words.{All-enumerated, All-flat_map, All-head, All-nil, All-tail, Finding, Gives}
use Rattle.network_audit.proofs.Words.{Item, Place, Rational, Step, enumerate_from, finding_of, first-append}
use Rattle.network_audit.proofs.Words.{first-behind, first-front, first_finding, is_passed, items, none-some}
use Rattle.network_audit.proofs.Words.{option_or, same_Some, within_formed, within_not_formed}
use Rattle.std.proofs.Common.{All, Bool, List, None, Option, Some, [], ap, arith, false, flat_map, if◌then◌else◌, not}
use Rattle.std.proofs.Common.{refl, slice_get, suc, sym, true, zero, ℕ, ◌++◌, ◌+◌, ◌∙◌, ◌∷◌, ◌≡◌}
use Rattle.network_audit.specs.declared.findings.Finding.TheVariants as finding

-- ---- one item

pub found-passed : (item : Item) (items : List Item) → is_passed item ≡ true
    → first_finding (item ∷ items) ≡ first_finding items
unfolding first_finding
found-passed item items passed = rw passed refl

pub found-failed : (item : Item) (items : List Item) → is_passed item ≡ false
    → first_finding (item ∷ items) ≡ Some (finding_of item)
unfolding first_finding
found-failed item items failed = rw failed refl

pub found-nothing : first_finding [] ≡ None
unfolding first_finding
found-nothing = refl

-- a step that a call formed, or did not form
pub found-formed : (at : Place) (k : ℕ) (a b : Rational) (r : Option Rational) (items : List Item)
    → r ≡ Some b → Gives r a
    → first_finding (Step at k a ∷ items) ≡ first_finding items
found-formed at k a b r items formed gives = found-passed (Step at k a) items (within_formed a b r formed gives)

pub found-not_formed : (at : Place) (k : ℕ) (a : Rational) (r : Option Rational) (items : List Item)
    → r ≡ None → Gives r a
    → first_finding (Step at k a ∷ items) ≡ Some (finding.TooFine at k)
found-not_formed at k a r items none gives = found-failed (Step at k a) items (within_not_formed a r none gives)

-- ---- items in a row

pub found-append : (xs ys : List Item) → first_finding (xs ++ ys) ≡ option_or (first_finding xs) (first_finding ys)
unfolding first_finding
found-append = first-append finding_of (λ item. not (is_passed item))

-- behind items that are passed
pub found-behind : (xs ys : List Item) → first_finding xs ≡ None → first_finding (xs ++ ys) ≡ first_finding ys
found-behind = first-behind first_finding found-append

-- more items change no finding
pub found-front : (xs ys : List Item) (found : Finding) → first_finding xs ≡ Some found
    → first_finding (xs ++ ys) ≡ Some found
found-front = first-front first_finding found-append

-- where all are passed, the first ones are
pub passed-front : (xs ys : List Item) → first_finding (xs ++ ys) ≡ None → first_finding xs ≡ None
passed-front xs ys none = by (first_finding xs) (sym (found-append xs ys) ∙ none)
  where
    by : (o : Option Finding) → option_or o (first_finding ys) ≡ None → o ≡ None
    by None is = refl
    by (Some found) is = is

pub passed-back : (xs ys : List Item) → first_finding (xs ++ ys) ≡ None → first_finding ys ≡ None
passed-back xs ys none = sym (found-behind xs ys (passed-front xs ys none)) ∙ none

pub passed-item : (item : Item) (items : List Item) → first_finding (item ∷ items) ≡ None → is_passed item ≡ true
passed-item item items none = by (is_passed item) refl
  where
    by : (b : Bool) → is_passed item ≡ b → is_passed item ≡ true
    by true is = is
    by false is = cc (found-failed item items is, none)

pub passed-rest : (item : Item) (items : List Item) → first_finding (item ∷ items) ≡ None → first_finding items ≡ None
passed-rest item items none = sym (found-passed item items (passed-item item items none)) ∙ none

-- a finding is that of an item that is not passed, of which holds what holds of all
pub found-item : (P : Item → Type 0) (items : List Item) (found : Finding) → All P items
    → first_finding items ≡ Some found
    → (item : Item) × P item × (is_passed item ≡ false) × (finding_of item ≡ found)
found-item P [] found all some = absurd (cc (found-nothing, some))
found-item P (item ∷ items) found all some =
    by (is_passed item) refl (found-item P items found (All-tail P item items all))
  where
    by : (b : Bool) → is_passed item ≡ b
        → (first_finding items ≡ Some found → (other : Item) × P other × (is_passed other ≡ false) × (finding_of other ≡ found))
        → (other : Item) × P other × (is_passed other ≡ false) × (finding_of other ≡ found)
    by true is later = later (sym (found-passed item items is) ∙ some)
    by false is later =
        (item, All-head P item items all, is, same_Some (finding_of item) found (sym (found-failed item items is) ∙ some))

pub all-if : (P : Item → Type 0) (b : Bool) (items : List Item) → All P items → All P (if b then [] else items)
all-if P true items all = All-nil P
all-if P false items all = all

-- ---- the items of many members, each with its index

-- what holds of the items of each member holds of those of all
pub each-items : {X : Type 0} (P : Item → Type 0) (f : ℕ × X → List Item) (xs : List X)
    → ((i : ℕ) (x : X) → slice_get xs i ≡ Some x → All P (f (i, x)))
    → All P (flat_map f (enumerate_from 0 xs))
each-items {X} P f xs each =
    All-flat_map P f (enumerate_from 0 xs) (All-enumerated (λ (e : ℕ × X). All P (f e)) xs each)

pub flat_map-same : {X Y : Type 0} (f g : X → List Y) (xs : List X) → All (λ x. f x ≡ g x) xs
    → flat_map f xs ≡ flat_map g xs
flat_map-same f g [] same = refl
flat_map-same f g (x ∷ xs) same =
    ap (λ ys. ys ++ flat_map f xs) (All-head (λ y. f y ≡ g y) x xs same)
    ∙ ap (λ ys. g x ++ ys) (flat_map-same f g xs (All-tail (λ y. f y ≡ g y) x xs same))

-- ---- items that are passed

module _ {X : Type 0} (f : ℕ × X → List Item) where
  passed-from : (m : ℕ) (xs : List X) → first_finding (flat_map f (enumerate_from m xs)) ≡ None
      → (i : ℕ) (x : X) → slice_get xs i ≡ Some x
      → first_finding (f (m + i, x)) ≡ None
  passed-from m [] none i x at = absurd (none-some x at)
  passed-from m (y ∷ ys) none zero x at =
      let n : m ≡ m + 0 = omega arith in
      let here : first_finding (f (m, y)) ≡ None
      = passed-front (f (m, y)) (flat_map f (enumerate_from (m + 1) ys)) none in
      ap (λ k. first_finding (f (k, x))) (sym n) ∙ ap (λ z. first_finding (f (m, z))) (sym (same_Some y x at)) ∙ here
  passed-from m (y ∷ ys) none (suc i) x at = let n : m + suc i ≡ m + 1 + i = omega arith in
      ap (λ k. first_finding (f (k, x))) n
      ∙ passed-from (m + 1) ys (passed-back (f (m, y)) (flat_map f (enumerate_from (m + 1) ys)) none) i x at

  pub passed-member : (xs : List X) → first_finding (flat_map f (enumerate_from 0 xs)) ≡ None
      → (i : ℕ) (x : X) → slice_get xs i ≡ Some x
      → first_finding (f (i, x)) ≡ None
  passed-member xs none i x at =
      let n : i ≡ 0 + i = omega arith in
      ap (λ k. first_finding (f (k, x))) n ∙ passed-from 0 xs none i x at
