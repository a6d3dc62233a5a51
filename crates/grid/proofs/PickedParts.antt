-- The parts of the sources that pass a test, in the order of the sources.
use Rattle.grid.proofs.Words.{All, All-nil, AllPairs, AllPairs-nil, Contains, Part, append-nil, cons_if, none-some, picked, same_Some, slice_get}
use Rattle.grid.proofs.Words.{take_more}
use Rattle.std.proofs.Common.{Bool, List, Some, [], add-zero, ap, append_assoc, arith, false, get_or, length, length-take, refl, subst, suc, sym}
use Rattle.std.proofs.Common.{take, true, zero, ℕ, ◌++◌, ◌+◌, ◌<◌, ◌∙◌, ◌∷◌, ◌≡◌}
use Rattle.sums.proofs.ConsLemmas.{All-cons_if, AllPairs-cons_if, Contains-cons_if, Contains-cons_if_here, cons_if-append}

module _ {X : Type 0} (test : X → Bool) (make : ℕ → X → Part) where
  -- what holds of each source that passes holds of each part
  pub All-picked : (P : Part → Type 0) (n : ℕ) (xs : List X)
      → ((i k : ℕ) (x : X) → i ≡ n + k → slice_get xs k ≡ Some x → test x ≡ true → P (make i x))
      → All P (picked test make n xs)
  All-picked P n [] h = All-nil P
  All-picked P n (x ∷ xs) h =
      All-cons_if P (test x) (make n x) (picked test make (suc n) xs) (λ e. h n 0 x (omega arith) refl e)
      (All-picked P (suc n) xs (λ i k y e at passes. h i (suc k) y (omega arith) at passes))

  pub AllPairs-picked : (R : Part → Part → Type 0) (n : ℕ) (xs : List X)
      → ((i j : ℕ) (x y : X) → i < j → test x ≡ true → test y ≡ true → R (make i x) (make j y))
      → AllPairs R (picked test make n xs)
  AllPairs-picked R n [] h = AllPairs-nil R
  AllPairs-picked R n (x ∷ xs) h =
      AllPairs-cons_if R (test x) (make n x) (picked test make (suc n) xs) (λ e.
      All-picked (R (make n x)) (suc n) xs (λ i k y at is passes. h n i x y (omega arith) e passes))
      (AllPairs-picked R (suc n) xs h)

  pub Contains-picked : (n : ℕ) (xs : List X) (i k : ℕ) (x : X) → i ≡ n + k → slice_get xs k ≡ Some x → test x ≡ true
      → Contains (picked test make n xs) (make i x)
  Contains-picked n [] i k x e at passes = absurd (none-some x at)
  Contains-picked n (y ∷ ys) i zero x e at passes =
      let same : i ≡ n = omega arith in
      let is : y ≡ x = same_Some y x at in
      let found = Contains-cons_if_here (test y) (make n y) (picked test make (suc n) ys) (ap test is ∙ passes) in
      let P : ℕ → X → Type 0 = λ j v. Contains (picked test make n (y ∷ ys)) (make j v) in
      subst (λ j. P j x) (sym same) (subst (P n) is found)
  Contains-picked n (y ∷ ys) i (suc k) x e at passes =
      let later = Contains-picked (suc n) ys i k x (omega arith) at passes in
      Contains-cons_if (test y) (make n y) (make i x) (picked test make (suc n) ys) later

  picked-append : (n : ℕ) (xs ys : List X)
      → picked test make n (xs ++ ys) ≡ picked test make n xs ++ picked test make (n + length xs) ys
  picked-append n [] ys = rw add-zero
  picked-append n (x ∷ xs) ys =
      let index : suc n + length xs ≡ n + suc (length xs) = omega arith in
      let others = picked test make (n + suc (length xs)) ys in
      ap (cons_if (test x) (make n x))
      (subst (λ k. picked test make (suc n) (xs ++ ys) ≡ picked test make (suc n) xs ++ picked test make k ys) index
      (picked-append (suc n) xs ys))
      ∙ sym (cons_if-append (test x) (make n x) (picked test make (suc n) xs) others)

  picked-more : (xs : List X) (i : ℕ) (x : X) → i < length xs → x ≡ get_or xs i x
      → picked test make 0 (take (i + 1) xs) ≡ picked test make 0 (take i xs) ++ cons_if (test x) (make i x) []
  picked-more xs i x within is =
      let index : 0 + length (take i xs) ≡ i = simp length-take (omega (arith, within)) in
      ap (picked test make 0) (take_more xs i x within) ∙ picked-append 0 (take i xs) (get_or xs i x ∷ [])
      ∙ ap (λ k. picked test make 0 (take i xs) ++ picked test make k (get_or xs i x ∷ [])) index
      ∙ ap (λ y. picked test make 0 (take i xs) ++ picked test make i (y ∷ [])) (sym is)

  -- a loop's step, where the source passes and where it fails
  pub picked-push : (xs : List X) (i : ℕ) (x : X) (before now next : List Part) (p : Part) → i < length xs
      → x ≡ get_or xs i x
      → now ≡ before ++ picked test make 0 (take i xs) → test x ≡ true → p ≡ make i x → next ≡ now ++ p ∷ []
      → next ≡ before ++ picked test make 0 (take (i + 1) xs)
  picked-push xs i x before now next p within is so_far passes made pushed =
      let one : cons_if (test x) (make i x) [] ≡ p ∷ []
      = ap (λ b. cons_if b (make i x) []) passes ∙ ap (λ q. q ∷ []) (sym made) in
      let one_more = ap (λ ps. picked test make 0 (take i xs) ++ ps) (sym one) ∙ sym (picked-more xs i x within is) in
      pushed ∙ ap (λ ps. ps ++ p ∷ []) so_far ∙ append_assoc before (picked test make 0 (take i xs)) (p ∷ [])
      ∙ ap (λ ps. before ++ ps) one_more

  pub picked-pass : (xs : List X) (i : ℕ) (x : X) (before now next : List Part) → i < length xs → x ≡ get_or xs i x
      → now ≡ before ++ picked test make 0 (take i xs) → test x ≡ false → next ≡ now
      → next ≡ before ++ picked test make 0 (take (i + 1) xs)
  picked-pass xs i x before now next within is so_far fails same =
      let none : cons_if (test x) (make i x) [] ≡ [] = ap (λ b. cons_if b (make i x) []) fails in
      let none_more = picked-more xs i x within is ∙ ap (λ ps. picked test make 0 (take i xs) ++ ps) none
      ∙ append-nil (picked test make 0 (take i xs)) in
      same ∙ so_far ∙ ap (λ ps. before ++ ps) (sym none_more)
