-- Lists whose items all differ, one more item at a time, and places in them.
use Rattle.std.proofs.Common.{All, AllPairs, Contains, List, None, Some, [], ap, arith, cond, false, get_or, length, length-append, nat_lt, position, refl}
use Rattle.std.proofs.Common.{subst, subst₂, sym, take, true, ℕ, ◌++◌, ◌+◌, ◌<◌, ◌∙◌, ◌≡◌, ◌≢◌, ◌≤◌}
use Rattle.stream_case.proofs.Words.{all_pairs_push, bytes_decides, bytes_eq, false_from_ne_true, get_or-append-add, get_or-take, get_or_append_left}
use Rattle.stream_case.proofs.Words.{get_or_default, length-take-le, nat_tests, position_or_len_is, take_all, take_more}

pub AllPairs-more : {X : Type 0} (R : X → X → Type 0) (xs : List X) (i : ℕ) → i < length xs → AllPairs R (take i xs)
    → ((k : ℕ) (d : X) → k < i → R (get_or xs k d) (get_or xs i d)) → AllPairs R (take (i + 1) xs)
AllPairs-more {X} R xs i within before new a b d =
    let P : List X → Type 0 = λ ys. AllPairs R ys in
    let short = length-take-le i xs (omega arith) in
    subst P (sym (take_more xs i d within)) (all_pairs_push R (take i xs) (get_or xs i d) before (λ k e inside.
    let early : k < i = omega arith in
    subst₂ R (sym (get_or-take i xs k e early)) (get_or_default xs i e d within) (new k e early))) a b d

pub AllPairs-all : {X : Type 0} (R : X → X → Type 0) (xs : List X) (i : ℕ) → length xs ≤ i
    → AllPairs R (take i xs) → AllPairs R xs
AllPairs-all {X} R xs i past h =
    let P : List X → Type 0 = λ ys. AllPairs R ys in
    subst P (take_all i xs past) h

-- two places hold different items whatever the default
pub differ_at : {X : Type 0} (xs : List X) (k i : ℕ) (e : X) → k < i → i < length xs
    → get_or xs k e ≢ get_or xs i e → (d : X) → get_or xs k d ≢ get_or xs i d
differ_at xs k i e early within h d same =
    h (get_or_default xs k e d (omega arith) ∙ same ∙ get_or_default xs i d e within)

-- an item that the ones before it do not hold
pub differ_before : {X : Type 0} (xs : List X) (i : ℕ) (e : X) → i < length xs
    → (Contains (take i xs) (get_or xs i e) → ⊥) → (k : ℕ) (d : X) → k < i
    → get_or xs k d ≢ get_or xs i d
differ_before xs i e within new k d early same =
    let short = length-take-le i xs (omega arith) in
    let inside : k < length (take i xs) = omega arith in
    new (k, inside, get_or-take i xs k _ early ∙ get_or_default xs k _ d (omega arith) ∙ same ∙ get_or_default xs i d e within)

-- ---- pairs of two lists

pub AllPairs-front : {X : Type 0} (R : X → X → Type 0) (xs ys : List X) → AllPairs R (xs ++ ys) → AllPairs R xs
AllPairs-front R xs ys pairs i j d before within =
    let long = length-append xs ys in
    subst₂ R (get_or_append_left xs ys d i (omega (arith, before, within))) (get_or_append_left xs ys d j within)
    (pairs i j d before (omega (arith, within, long)))

pub AllPairs-back : {X : Type 0} (R : X → X → Type 0) (xs ys : List X) → AllPairs R (xs ++ ys) → AllPairs R ys
AllPairs-back R xs ys pairs i j d before within =
    let long = length-append xs ys in
    subst₂ R (get_or-append-add xs ys i d) (get_or-append-add xs ys j d)
    (pairs (length xs + i) (length xs + j) d (omega (arith, before)) (omega (arith, within, long)))

-- an item of the first list and the items of the second
pub AllPairs-across : {X : Type 0} (R : X → X → Type 0) (xs ys : List X) (i : ℕ) (d : X)
    → AllPairs R (xs ++ ys) → i < length xs
    → All (λ y. R (get_or xs i d) y) ys
AllPairs-across R xs ys i d pairs early j e within =
    let long = length-append xs ys in
    let first = get_or_append_left xs ys e i early ∙ get_or_default xs i e d early in
    subst₂ R first (get_or-append-add xs ys j e) (pairs i (length xs + j) e (omega (arith, early)) (omega (arith, within, long)))

-- the items before one
pub AllPairs-before : {X : Type 0} (R : X → X → Type 0) (xs : List X) (i : ℕ) (d : X) → AllPairs R xs → i < length xs
    → All (λ x. R x (get_or xs i d)) (take i xs)
AllPairs-before R xs i d pairs within k e early =
    let short = length-take-le i xs (omega (arith, within)) in
    let inside : k < i = omega (arith, early, short) in
    subst₂ R (sym (get_or-take i xs k e inside)) (get_or_default xs i e d within) (pairs k i e inside within)

-- ---- the place of a name among names that differ

-- a name that differs from another fails the test of that one
pub other_name : (name other : List ℕ) → other ≢ name → bytes_eq name other ≡ false
other_name name other differs =
    false_from_ne_true (bytes_eq name other) (λ e. differs (sym ((bytes_decides name other).0 e)))

pub place_of : (names : List (List ℕ)) (i : ℕ) → AllPairs (λ a b. a ≢ b) names → i < length names
    → position (bytes_eq (get_or names i [])) names ≡ Some i
place_of names i distinct within =
    let name = get_or names i [] in
    let earlier : (k : ℕ) → k < i → bytes_eq name (get_or names k []) ≡ false
    = λ k early. other_name name (get_or names k []) (distinct k i [] early within) in
    let first = position_or_len_is (bytes_eq name) names i [] (omega (arith, within)) earlier (λ w. (bytes_decides name name).1 refl) in
    let inside : nat_lt i (length names) ≡ true = grind (arith, nat_tests, within) in
    ap (λ n. cond (nat_lt n (length names)) (Some n) None) first ∙ rw inside refl

-- a name that is not among them
pub no_place_of : (names : List (List ℕ)) (name : List ℕ) → All (λ other. other ≢ name) names
    → position (bytes_eq name) names ≡ None
no_place_of names name others =
    let fails : (k : ℕ) → k < length names → bytes_eq name (get_or names k []) ≡ false
    = λ k within. other_name name (get_or names k []) (others k [] within) in
    let last = position_or_len_is (bytes_eq name) names (length names) [] (omega arith) fails (λ within. absurd (omega (arith, within))) in
    let past : nat_lt (length names) (length names) ≡ false = grind (arith, nat_tests) in
    ap (λ n. cond (nat_lt n (length names)) (Some n) None) last ∙ rw past refl
