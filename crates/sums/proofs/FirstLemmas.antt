-- The first item of a kind, of items in a row and of the items of many members, each with its index.
use Rattle.std.proofs.Common.{Bool, List, None, Option, Some, [], ap, append-nil, arith, drop, find, flat_map, get_or, length, length-take, option_map, refl}
use Rattle.std.proofs.Common.{sym, take, take-append-drop, take_all, ℕ, ◌++◌, ◌+◌, ◌<◌, ◌∙◌, ◌∷◌, ◌≡◌, ◌≤◌}
use Rattle.sums.proofs.Words.{enumerate_from, find-append, flat_map-append, option_or, take_more}
use Rattle.sums.proofs.EnumerationLemmas.{enumerate_from-append}

-- what the first item gives, of two lists in a row
pub first-append : {X Y : Type 0} (give : X → Y) (p : X → Bool) (xs ys : List X)
    → option_map give (find p (xs ++ ys)) ≡ option_or (option_map give (find p xs)) (option_map give (find p ys))
first-append {X} give p xs ys = rw (find-append p xs ys) (by (find p xs))
  where
    by : (o : Option X) → option_map give (option_or o (find p ys))
        ≡ option_or (option_map give o) (option_map give (find p ys))
    by None = refl
    by (Some x) = refl

-- the first n members and the next one
pub enumerated-more : {X : Type 0} (xs : List X) (n : ℕ) (d : X) → n < length xs
    → enumerate_from 0 (take (n + 1) xs) ≡ enumerate_from 0 (take n xs) ++ (n, get_or xs n d) ∷ []
enumerated-more xs n d within =
    ap (enumerate_from 0) (take_more xs n d within) ∙ enumerate_from-append 0 (take n xs) (get_or xs n d ∷ [])
    ∙ ap (λ k. enumerate_from 0 (take n xs) ++ (k, get_or xs n d) ∷ []) (omega (arith, within, length-take n xs))

-- the items of the first n members
abbrev pub items_of : {X Y : Type 0} → (ℕ × X → List Y) → List X → ℕ → List Y
items_of f xs n = flat_map f (enumerate_from 0 (take n xs))

pub items-more : {X Y : Type 0} (f : ℕ × X → List Y) (xs : List X) (n : ℕ) (d : X) → n < length xs
    → items_of f xs (n + 1) ≡ items_of f xs n ++ f (n, get_or xs n d)
items-more f xs n d within =
    ap (flat_map f) (enumerated-more xs n d within)
    ∙ flat_map-append f (enumerate_from 0 (take n xs)) ((n, get_or xs n d) ∷ [])
    ∙ ap (λ ys. items_of f xs n ++ ys) (append-nil (f (n, get_or xs n d)))

module _ {Y Z : Type 0} (first : List Y → Option Z) (append : (xs ys : List Y) → first (xs ++ ys) ≡ option_or (first xs) (first ys)) where
  -- behind a list that has none
  pub first-behind : (xs ys : List Y) → first xs ≡ None → first (xs ++ ys) ≡ first ys
  first-behind xs ys none = append xs ys ∙ ap (λ o. option_or o (first ys)) none

  -- more items change nothing
  pub first-front : (xs ys : List Y) (found : Z) → first xs ≡ Some found → first (xs ++ ys) ≡ Some found
  first-front xs ys found some = append xs ys ∙ ap (λ o. option_or o (first ys)) some

  module _ {X : Type 0} (f : ℕ × X → List Y) where
    -- the next member has none
    pub first-more : (xs : List X) (n : ℕ) (d : X) → n < length xs → first (items_of f xs n) ≡ None
        → first (f (n, get_or xs n d)) ≡ None
        → first (items_of f xs (n + 1)) ≡ None
    first-more xs n d within before here =
        ap first (items-more f xs n d within) ∙ first-behind (items_of f xs n) (f (n, get_or xs n d)) before ∙ here

    -- it has one, which is the first of all members
    pub first-here : (xs : List X) (n : ℕ) (d : X) (found : Z) → n < length xs
        → first (items_of f xs n) ≡ None → first (f (n, get_or xs n d)) ≡ Some found
        → first (flat_map f (enumerate_from 0 xs)) ≡ Some found
    first-here xs n d found within before here =
        let later = enumerate_from (0 + length (take (n + 1) xs)) (drop (n + 1) xs) in
        let all : flat_map f (enumerate_from 0 xs) ≡ items_of f xs (n + 1) ++ flat_map f later
        = ap (λ ys. flat_map f (enumerate_from 0 ys))
        (sym (take-append-drop (n + 1) xs))
        ∙ ap (flat_map f) (enumerate_from-append 0 (take (n + 1) xs) (drop (n + 1) xs)) ∙ flat_map-append f
        (enumerate_from 0 (take (n + 1) xs)) later in
        let front : first (items_of f xs (n + 1)) ≡ Some found
        = ap first (items-more f xs n d within) ∙ first-behind (items_of f xs n)
        (f (n, get_or xs n d)) before ∙ here in ap first all
        ∙ first-front (items_of f xs (n + 1)) (flat_map f later) found front

    -- no member has one where the first n have none and there are no more
    pub first-none : (xs : List X) (n : ℕ) → length xs ≤ n → first (items_of f xs n) ≡ None
        → first (flat_map f (enumerate_from 0 xs)) ≡ None
    first-none xs n end none = ap (λ ys. first (flat_map f (enumerate_from 0 ys))) (sym (take_all n xs end)) ∙ none
