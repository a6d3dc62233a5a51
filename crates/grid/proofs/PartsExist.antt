-- A case has parts, and no others.
use Rattle.grid.proofs.MakingLemmas.{AreParts-made, HoldsPlaces-IsGrid, made_parts-AreParts}
use Rattle.grid.proofs.Words.{All, All-append, All-cons, All-filter, All-nil, All-weaker, AllPairs-append, AllPairs-cons, AllPairs-filter, AllPairs-nil}
use Rattle.grid.proofs.Words.{AreCaseParts, AreParts, Case, Cold, Contains, Contains-append_left, Contains-append_right, Contains-cons, Hot, IsGrid}
use Rattle.grid.proofs.Words.{ListsFalling, ListsFalling-unique, Part, Side, by_lt_z, filter, filter_passes, int_lt, ints, made_parts, places_of, ℤ, ◌<ℤ◌}
use Rattle.std.proofs.Common.{Bool, List, [], ap, arith, cond, false, refl, subst, sym, true, ⊎_elim, ◌++◌, ◌∙◌, ◌∷◌, ◌≡◌}

one_more : {X : Type 0} (b : Bool) (y : X) (ys : List X) (x : X) → Contains ys x → Contains (cond b (y ∷ ys) ys) x
one_more true y ys x found = Contains-append_right (y ∷ []) ys x found
one_more false y ys x found = found

Contains-filter : {X : Type 0} (p : X → Bool) (xs : List X) (x : X) → p x ≡ true → Contains xs x
    → Contains (filter p xs) x
Contains-filter p [] x h found = found
Contains-filter p (y ∷ ys) x h found =
    ⊎_elim (λ e.
    subst (λ b. Contains (cond b (y ∷ filter p ys) (filter p ys)) x) (sym (ap p e ∙ h)) (0, omega arith, e)) (λ later.
    one_more (p y) y (filter p ys) x (Contains-filter p ys x h later)) (Contains-cons y ys x found)

-- a number in its place among falling ones
abbrev among : ℤ → List ℤ → List ℤ
among x ys = filter (λ y. int_lt x y) ys ++ x ∷ filter (λ y. int_lt y x) ys

ListsFalling-among : (x : ℤ) (xs ys : List ℤ) → ListsFalling (Contains xs) ys
    → ListsFalling (Contains (x ∷ xs)) (among x ys)
ListsFalling-among x xs ys h =
    let falls = λ (a b : ℤ). b <ℤ a in
    let high = λ (y : ℤ). int_lt x y in
    let low = λ (y : ℤ). int_lt y x in
    let above = All-weaker (λ y. high y ≡ true) (λ y. x <ℤ y) (λ y e. omega (arith, ints)) (filter high ys)
    (filter_passes high ys) in
    let below =
    All-weaker (λ y. low y ≡ true) (λ y. y <ℤ x) (λ y e. omega (arith, ints)) (filter low ys) (filter_passes low ys) in
    let each = All-weaker (Contains xs) (Contains (x ∷ xs)) (Contains-append_right (x ∷ []) xs) ys h.each in
    record {
      ordered =
          let low_ordered = AllPairs-cons falls x (filter low ys) below (AllPairs-filter falls low ys h.ordered) in
          let above_rest = All-weaker (λ y. x <ℤ y) (λ y. All (λ z. z <ℤ y) (x ∷ filter low ys)) (λ y more.
          let below_each =
          All-weaker (λ z. z <ℤ x) (λ z. z <ℤ y) (λ z less. omega (arith, ints)) (filter low ys) below in
          All-cons (λ z. z <ℤ y) x (filter low ys) more below_each) (filter high ys) above in
          AllPairs-append falls (filter high ys) (x ∷ filter low ys)
          (AllPairs-filter falls high ys h.ordered) low_ordered above_rest;
      each =
          let high_kept = All-filter high (Contains (x ∷ xs)) ys each in
          let low_kept = All-cons (Contains (x ∷ xs)) x (filter low ys) (0, omega arith, refl)
          (All-filter low (Contains (x ∷ xs)) ys each) in
          All-append (Contains (x ∷ xs)) (filter high ys) (x ∷ filter low ys) high_kept low_kept;
      every = λ y found.
          let here = λ (e : x ≡ y). Contains-append_right (filter high ys) (x ∷ filter low ys) y (0, omega arith, e) in
          ⊎_elim here (λ later.
          let old = h.every y later in
          by_lt_z x y (λ more.
          let in_high = Contains-filter high ys y (grind (arith, ints)) old in
          Contains-append_left (filter high ys) (x ∷ filter low ys) y in_high) (λ most. by_lt_z y x (λ less.
          let in_low =
          Contains-append_right (x ∷ []) (filter low ys) y (Contains-filter low ys y (grind (arith, ints)) old) in
          Contains-append_right (filter high ys) (x ∷ filter low ys) y in_low) (λ same. here (omega (arith, ints)))))
          (Contains-cons x xs y found);
    }

some_falling : (xs : List ℤ) → (ys : List ℤ) × ListsFalling (Contains xs) ys
some_falling [] =
    ([], record { ordered = AllPairs-nil (λ a b. b <ℤ a); each = All-nil (Contains []); every = λ x found. found })
some_falling (x ∷ xs) = let (ys, h) = some_falling xs in (among x ys, ListsFalling-among x xs ys h)

pub some_parts : (c : Case) → (hot : List Part) × (cold : List Part) × AreCaseParts c hot cold
some_parts c =
    let (grid, is_grid) = some_falling (places_of c.streams c.utilities) in
    let holds = HoldsPlaces-IsGrid c grid is_grid in (
      made_parts c.streams c.utilities Hot grid,
      made_parts c.streams c.utilities Cold grid,
      record {
        grid = grid;
        is_grid = is_grid;
        hot_parts = made_parts-AreParts c.streams c.utilities Hot grid holds;
        cold_parts = made_parts-AreParts c.streams c.utilities Cold grid holds;
      },
    )

-- the parts of a side are fixed, since the grid is
pub one_side : (c : Case) (places others : List ℤ) (side : Side) (parts more : List Part) → IsGrid c places
    → IsGrid c others
    → AreParts c.streams c.utilities places side parts → AreParts c.streams c.utilities others side more → parts ≡ more
one_side c places others side parts more grid other are are_more =
    let same_places = ListsFalling-unique (Contains (places_of c.streams c.utilities)) places others grid other in
    AreParts-made c.streams c.utilities side places parts (HoldsPlaces-IsGrid c places grid) are
    ∙ ap (made_parts c.streams c.utilities side) same_places
    ∙ sym (AreParts-made c.streams c.utilities side others more (HoldsPlaces-IsGrid c others other) are_more)
