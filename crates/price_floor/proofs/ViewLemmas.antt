-- The views of places, and those that a part stands above.
use Rattle.price_floor.proofs.Words.{All-cons, All-contains, All-contains_itself, All-head, All-nil, All-tail}
use Rattle.price_floor.proofs.Words.{All-weaker, AllPairs-cons_if, AllPairs-head, AllPairs-nil, AllPairs-tail}
use Rattle.price_floor.proofs.Words.{Contains-append_right, Contains-cons, IsInterval, Part, View, comes_below}
use Rattle.price_floor.proofs.Words.{int_le, int_le-false, int_le-from, int_le-true, int_lt}
use Rattle.price_floor.proofs.Words.{int_lt-false, int_lt-from, int_lt-true, interval_below, interval_ends}
use Rattle.price_floor.proofs.Words.{interval_falls, ints, last_price, stands_above, views_of, ◌<ℤ◌}
use Rattle.std.proofs.Common.{All, AllPairs, Bool, Contains, List, [], ap, arith, false, get_or, inl, inr, refl, subst}
use Rattle.std.proofs.Common.{true, ℤ, ⊎_elim, ◌<◌, ◌∷◌, ◌≡◌, ◌≤ℤ◌, ◌⊎◌}

-- a part stands above a view
abbrev pub stands : Part → View → Bool
stands p v = stands_above v.from_itself v.place p

-- at a place, or on the interval between two neighbours
abbrev pub HasEnds : List ℤ → Part → Type 0
HasEnds places p = ((p.high ≡ p.low) × Contains places p.high) ⊎ IsInterval places p.high p.low

abbrev pub above_place : ℤ → View
above_place place = record { place = place; from_itself = false }

abbrev pub from_place : ℤ → View
from_place place = record { place = place; from_itself = true }

-- ---- the views of places

-- what holds of both views of each place
pub All-views : (P : View → Type 0) (places : List ℤ)
    → All (λ g. P (above_place g) × P (from_place g)) places → All P (views_of places)
All-views P [] each = All-nil P
All-views P (g ∷ places) each =
    let both = All-head (λ x. P (above_place x) × P (from_place x)) g places each in
    All-cons P (above_place g) (from_place g ∷ views_of places) both.0
    (All-cons P (from_place g) (views_of places) both.1 (All-views P places (All-tail (λ x. P (above_place x) × P (from_place x)) g places each)))

pub views-places : (places : List ℤ) → All (λ v. Contains places v.place) (views_of places)
views-places places = All-views (λ v. Contains places v.place) places
    (All-weaker (Contains places) (λ g. Contains places g × Contains places g) (λ g found. (found, found)) places (All-contains_itself places))

pub views-fall : (places : List ℤ) → AllPairs (λ a b. b <ℤ a) places → AllPairs comes_below (views_of places)
views-fall [] falls = AllPairs-nil comes_below
views-fall (g ∷ places) falls =
    let less = AllPairs-head (λ a b. b <ℤ a) g places falls in
    let below = λ (v : View) (at : v.place ≡ g).
    All-views (comes_below v) places (All-weaker (λ x. x <ℤ g) (λ x. comes_below v (above_place x) × comes_below v (from_place x))
    (λ x h. (inl (omega (arith, ints)), inl (omega (arith, ints)))) places less) in
    AllPairs-cons_if comes_below true (above_place g) (from_place g ∷ views_of places)
    (λ e. All-cons (comes_below (above_place g)) (from_place g) (views_of places) (inr (refl, refl, refl)) (below (above_place g) refl))
    (AllPairs-cons_if comes_below true (from_place g) (views_of places) (λ e. below (from_place g) refl)
    (views-fall places (AllPairs-tail (λ a b. b <ℤ a) g places falls)))

-- the lowest place, from which the last view is
pub record IsLowest (places : List ℤ) (lowest : ℤ) : Type 0 where
  pub place : Contains places lowest
  pub each : All (λ x. lowest ≤ℤ x) places
  pub last : (above : ℤ) (below : View → ℤ) → last_price above below (views_of places) ≡ below (from_place lowest)

pub lowest_of : (g : ℤ) (places : List ℤ) → AllPairs (λ a b. b <ℤ a) (g ∷ places)
    → (lowest : ℤ) × IsLowest (g ∷ places) lowest
lowest_of g [] falls =
    (g, record { place = (0, omega arith, refl); each = All-cons (λ x. g ≤ℤ x) g [] (omega (arith, ints)) (All-nil (λ x. g ≤ℤ x)); last = λ above below. refl })
lowest_of g (l ∷ places) falls =
    let (lowest, h) = lowest_of l places (AllPairs-tail (λ a b. b <ℤ a) g (l ∷ places) falls) in
    let here = All-head (λ x. lowest ≤ℤ x) l places h.each in
    let step = All-head (λ x. x <ℤ g) l places (AllPairs-head (λ a b. b <ℤ a) g (l ∷ places) falls) in (
      lowest,
      record {
        place = Contains-append_right (g ∷ []) (l ∷ places) lowest h.place;
        each = All-cons (λ x. lowest ≤ℤ x) g (l ∷ places) (omega (arith, ints)) h.each;
        last = λ above below. h.last (below (from_place g)) below;
      },
    )

pub some_lowest : (places : List ℤ) (x : ℤ) → AllPairs (λ a b. b <ℤ a) places → Contains places x
    → (lowest : ℤ) × IsLowest places lowest
some_lowest [] x falls (k, within, is) = absurd (omega arith)
some_lowest (g ∷ places) x falls found = lowest_of g places falls

-- ---- the ends of a part

pub ends_order : (places : List ℤ) (p : Part) → AllPairs (λ a b. b <ℤ a) places → HasEnds places p → p.low ≤ℤ p.high
ends_order places p falls (inl (level, found)) = omega (arith, ints)
ends_order places p falls (inr interval) =
    let less = interval_falls places p.high p.low falls interval in
    omega (arith, ints)

pub low_on : (places : List ℤ) (p : Part) → HasEnds places p → Contains places p.low
low_on places p (inl (level, found)) = subst (Contains places) level found
low_on places p (inr interval) = (interval_ends places p.high p.low interval).1

-- no place lies inside a part
pub none_inside : (places : List ℤ) (p : Part) → AllPairs (λ a b. b <ℤ a) places → HasEnds places p → (x : ℤ)
    → Contains places x → x <ℤ p.high → x ≤ℤ p.low
none_inside places p falls (inl (level, found)) x at less = omega (arith, ints)
none_inside places p falls (inr interval) x at less = interval_below places p.high p.low x falls interval at less

-- ---- views that a part stands above

-- what stands above a view stands above each one that comes below it
pub stands_later : (places : List ℤ) (p : Part) → AllPairs (λ a b. b <ℤ a) places → HasEnds places p
    → (u v : View) → Contains places u.place
    → comes_below u v → stands p u ≡ true → stands p v ≡ true
stands_later places p falls ends u v at below above = by v.from_itself v.place below (low u.from_itself above)
  where
    order : p.low ≤ℤ p.high
    order = ends_order places p falls ends

    low : (from_itself : Bool) → stands_above from_itself u.place p ≡ true → u.place ≤ℤ p.low
    low true e = int_le-true u.place p.low e
    low false e = none_inside places p falls ends u.place at (int_lt-true u.place p.high e)

    by : (from_itself : Bool) (place : ℤ)
        → (place <ℤ u.place) ⊎ ((place ≡ u.place) × (u.from_itself ≡ false) × (from_itself ≡ true)) → u.place ≤ℤ p.low
        → stands_above from_itself place p ≡ true
    by false place (inl less) h =
        let most = order in
        int_lt-from place p.high (omega (arith, ints, most))
    by false place (inr (same, first, second)) h = absurd (cc)
    by true place (inl less) h = int_le-from place p.low (omega (arith, ints))
    by true place (inr (same, first, second)) h = int_le-from place p.low (omega (arith, ints))

pub stands_lowest : (places : List ℤ) (p : Part) (lowest : ℤ) → HasEnds places p → IsLowest places lowest
    → stands p (from_place lowest) ≡ true
stands_lowest places p lowest ends h =
    int_le-from lowest p.low (All-contains (λ x. lowest ≤ℤ x) places p.low h.each (low_on places p ends))

-- the part stands above no view up to one of them, and above each behind it
abbrev pub LeavesAt : Part → View → List View → Type 0
LeavesAt p own [] = ⊥
LeavesAt p own (v ∷ views) =
    (stands p v ≡ false) × (((v ≡ own) × All (λ w. stands p w ≡ true) views) ⊎ LeavesAt p own views)

-- the last view that a part does not stand above: above its place, or from the higher one
abbrev pub own_view : (places : List ℤ) (p : Part) → HasEnds places p → View
own_view places p (inl level) = above_place p.high
own_view places p (inr interval) = from_place p.high

module _ (p : Part) (order : p.low ≤ℤ p.high) where
  -- above both views of places at which it does not end and which are not above it
  stands_all : (places : List ℤ) → All (λ x. (x <ℤ p.high) × (x ≤ℤ p.low)) places
      → All (λ w. stands p w ≡ true) (views_of places)
  stands_all places each =
      All-views (λ w. stands p w ≡ true) places (All-weaker (λ x. (x <ℤ p.high) × (x ≤ℤ p.low)) (λ x. (int_lt x p.high ≡ true) × (int_le x p.low ≡ true))
      (λ x h. (int_lt-from x p.high h.0, int_le-from x p.low h.1)) places each)

  leaves_level : p.high ≡ p.low → (places : List ℤ) → AllPairs (λ a b. b <ℤ a) places → Contains places p.high
      → LeavesAt p (above_place p.high) (views_of places)
  leaves_level level [] falls (k, within, is) = absurd (omega arith)
  leaves_level level (g ∷ places) falls found =
      ⊎_elim here (λ inside. later inside (leaves_level level places (AllPairs-tail (λ a b. b <ℤ a) g places falls) inside))
      (Contains-cons g places p.high found)
    where
      less : All (λ x. x <ℤ g) places
      less = AllPairs-head (λ a b. b <ℤ a) g places falls

      here : g ≡ p.high → LeavesAt p (above_place p.high) (views_of (g ∷ places))
      here e =
          let rest = stands_all places (All-weaker (λ x. x <ℤ g) (λ x. (x <ℤ p.high) × (x ≤ℤ p.low))
          (λ x h. (omega (arith, ints), omega (arith, ints))) places less) in (
            int_lt-false g p.high (omega (arith, ints)),
            inl (ap above_place e, All-cons (λ w. stands p w ≡ true) (from_place g) (views_of places) (int_le-from g p.low (omega (arith, ints))) rest),
          )

      later : Contains places p.high → LeavesAt p (above_place p.high) (views_of places)
          → LeavesAt p (above_place p.high) (views_of (g ∷ places))
      later inside next = let under = All-contains (λ x. x <ℤ g) places p.high less inside in
          (int_lt-false g p.high (omega (arith, ints)), inr (int_le-false g p.low (omega (arith, ints)), inr next))

  leaves_interval : p.low <ℤ p.high → (places : List ℤ) → AllPairs (λ a b. b <ℤ a) places → Contains places p.high
      → All (λ x. x <ℤ p.high → x ≤ℤ p.low) places → LeavesAt p (from_place p.high) (views_of places)
  leaves_interval width [] falls (k, within, is) none = absurd (omega arith)
  leaves_interval width (g ∷ places) falls found none =
      ⊎_elim here (λ inside. later inside (leaves_interval width places (AllPairs-tail (λ a b. b <ℤ a) g places falls) inside others))
      (Contains-cons g places p.high found)
    where
      less : All (λ x. x <ℤ g) places
      less = AllPairs-head (λ a b. b <ℤ a) g places falls

      others : All (λ x. x <ℤ p.high → x ≤ℤ p.low) places
      others = All-tail (λ x. x <ℤ p.high → x ≤ℤ p.low) g places none

      here : g ≡ p.high → LeavesAt p (from_place p.high) (views_of (g ∷ places))
      here e = let both : All (λ x. (x <ℤ p.high) × (x ≤ℤ p.low)) places = λ k d within.
          let under : get_or places k d <ℤ p.high = subst (λ y. get_or places k d <ℤ y) e (less k d within) in
          (under, others k d within under) in
          (int_lt-false g p.high (omega (arith, ints)), inr (int_le-false g p.low (omega (arith, ints)), inl (ap from_place e, stands_all places both)))

      later : Contains places p.high → LeavesAt p (from_place p.high) (views_of places)
          → LeavesAt p (from_place p.high) (views_of (g ∷ places))
      later inside next = let under = All-contains (λ x. x <ℤ g) places p.high less inside in
          (int_lt-false g p.high (omega (arith, ints)), inr (int_le-false g p.low (omega (arith, ints)), inr next))

pub leaves_own : (places : List ℤ) (p : Part) → AllPairs (λ a b. b <ℤ a) places → (ends : HasEnds places p)
    → LeavesAt p (own_view places p ends) (views_of places)
leaves_own places p falls (inl (level, found)) = leaves_level p (omega (arith, ints)) level places falls found
leaves_own places p falls (inr interval) =
    let less = interval_falls places p.high p.low falls interval in
    leaves_interval p (omega (arith, ints)) less places falls (interval_ends places p.high p.low interval).0
    (All-weaker (Contains places) (λ x. x <ℤ p.high → x ≤ℤ p.low) (λ x at h. interval_below places p.high p.low x falls interval at h) places
    (All-contains_itself places))

-- a part does not stand above its own view
pub own_not : (places : List ℤ) (p : Part) → AllPairs (λ a b. b <ℤ a) places → (ends : HasEnds places p)
    → stands p (own_view places p ends) ≡ false
own_not places p falls (inl level) = int_lt-false p.high p.high (omega (arith, ints))
own_not places p falls (inr interval) = int_le-false p.high p.low (interval_falls places p.high p.low falls interval)
