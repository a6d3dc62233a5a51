-- One element more of the lists that loops make, and the offer of a cut part by part.
use Rattle.transport.proofs.Words.{Case, Cold, Ends, Forbid, ForbidAlike, Hot, MOST_PARTS, Part, Parts, Side, Source, and-false, append-nil, blank, both_reach}
use Rattle.transport.proofs.Words.{both_pass, cons_if, cons_if-append, flat_map, flat_map_more, if◌then◌else◌, int_lt, int_lt-false, int_lt-from, joins}
use Rattle.transport.proofs.Words.{length-take-le, links_of_parts, list_any, list_any-append, list_any_more, map-append, meets, names, needing_from}
use Rattle.transport.proofs.Words.{opposite, or-false, parts_of, passes_heat, pos, potential_at, prices_of, range_with_len, range_with_len-append}
use Rattle.transport.proofs.Words.{reach_between, reach_unless, refuses, same_source, slice_get, slice_get-get_or, spare_link, take_more, whole_link, ℤ, ◌-ℤ◌, ◌<ℤ◌, ◌≤ℤ◌}
use Rattle.std.proofs.Common.{Bool, List, None, Option, Some, [], add-zero, ap, append_assoc, ap₂, arith, false, get_or, length, map, not, refl, suc, sym, take}
use Rattle.std.proofs.Common.{true, zero-add, ℕ, ◌&&◌, ◌++◌, ◌+◌, ◌<◌, ◌||◌, ◌∙◌, ◌∷◌, ◌≡◌, ◌≤◌}

-- ---- lists that are made element by element, each with its index

module _ {X Y : Type 0} (F : ℕ → List X → List Y) (g : ℕ → X → List Y) (none : (n : ℕ) → F n [] ≡ [])
    (one : (n : ℕ) (x : X) (xs : List X) → F n (x ∷ xs) ≡ g n x ++ F (suc n) xs) where
  from-append : (n : ℕ) (xs ys : List X) → F n (xs ++ ys) ≡ F n xs ++ F (n + length xs) ys
  from-append n [] ys = ap (λ k. F k ys) (sym (add-zero n)) ∙ ap (λ made. made ++ F (n + 0) ys) (sym (none n))
  from-append n (x ∷ xs) ys =
      let next : suc n + length xs ≡ n + suc (length xs) = omega arith in
      one n x (xs ++ ys) ∙ ap (λ rest. g n x ++ rest) (from-append (suc n) xs ys ∙ ap (λ k. F (suc n) xs ++ F k ys) next)
      ∙ sym (append_assoc (g n x) (F (suc n) xs) (F (n + suc (length xs)) ys))
      ∙ ap (λ made. made ++ F (n + suc (length xs)) ys) (sym (one n x xs))

  -- one element more
  from-more : (n : ℕ) (xs : List X) (i : ℕ) (d : X) → i < length xs
      → F n (take (i + 1) xs) ≡ F n (take i xs) ++ g (n + i) (get_or xs i d)
  from-more n xs i d within =
      let x = get_or xs i d in
      let alone = one (n + i) x [] ∙ ap (λ rest. g (n + i) x ++ rest) (none (suc (n + i))) ∙ append-nil (g (n + i) x) in
      ap (F n) (take_more xs i d within) ∙ from-append n (take i xs) (x ∷ [])
      ∙ ap (λ k. F n (take i xs) ++ F (n + k) (x ∷ [])) (length-take-le i xs (omega (arith, within)))
      ∙ ap (λ made. F n (take i xs) ++ made) alone

-- one number more of those from 0 on
pub range-step : {Y : Type 0} (f : ℕ → List Y) (n : ℕ) (before after now : List Y)
    → after ≡ before ++ flat_map f (range_with_len 0 n) → now ≡ after ++ f n
    → now ≡ before ++ flat_map f (range_with_len 0 (n + 1))
range-step f n before after now so_far pushed =
    let more = ap (λ k. range_with_len 0 n ++ k ∷ []) (sym (zero-add n)) ∙ range_with_len-append 0 n 1 in
    pushed ∙ ap (λ ys. ys ++ f n) so_far ∙ flat_map_more f before (range_with_len 0 n) n
    ∙ ap (λ ns. before ++ flat_map f ns) more

pub links_of_parts-more : (side : Side) (e : Ends) (first : ℕ) (parts : List Part) (i : ℕ) → i < length parts
    → links_of_parts side e first (take (i + 1) parts)
    ≡ links_of_parts side e first (take i parts) ++ whole_link side e (first + i) (get_or parts i blank) ∷ spare_link side e (first + i) (get_or parts i blank)
    ∷ []
links_of_parts-more side e first parts i within =
    from-more (links_of_parts side e) (λ n p. whole_link side e n p ∷ spare_link side e n p ∷ []) (λ n. refl) (λ n p ps. refl) first parts i blank within

needing_from-more : (picked : ℕ → Bool) (parts : List Part) (i : ℕ) → i < length parts
    → needing_from picked 0 (take (i + 1) parts)
    ≡ needing_from picked 0 (take i parts) ++ cons_if (picked i && int_lt (pos 0) (get_or parts i blank).least) i []
needing_from-more picked parts i within =
    let made = λ (n : ℕ) (p : Part). cons_if (picked n && int_lt (pos 0) p.least) n [] in
    from-more (needing_from picked) made (λ n. refl) (λ n p ps. sym (cons_if-append (picked n && int_lt (pos 0) p.least) n [] (needing_from picked (suc n) ps)))
    0 parts i blank within ∙ ap (λ n. needing_from picked 0 (take i parts) ++ made n (get_or parts i blank)) (zero-add i)

-- ---- steps of loops

pub two_more : {X : Type 0} (start made old grown : List X) (l m : X) → old ≡ start ++ made
    → grown ≡ (old ++ l ∷ []) ++ m ∷ []
    → grown ≡ start ++ (made ++ l ∷ m ∷ [])
two_more start made old grown l m before after =
    after ∙ append_assoc old (l ∷ []) (m ∷ []) ∙ ap (λ xs. xs ++ l ∷ m ∷ []) before
    ∙ append_assoc start made (l ∷ m ∷ [])

module _ (picked : ℕ → Bool) (parts : List Part) (i : ℕ) (within : i < length parts) (old grown : List ℕ)
    (before : old ≡ needing_from picked 0 (take i parts)) where
  pub member_push : grown ≡ old ++ i ∷ [] → picked i ≡ true → pos 0 <ℤ (get_or parts i blank).least
      → grown ≡ needing_from picked 0 (take (i + 1) parts)
  member_push after here some =
      let test : picked i && int_lt (pos 0) (get_or parts i blank).least ≡ true =
      ap (λ b. b && int_lt (pos 0) (get_or parts i blank).least) here
      ∙ int_lt-from (pos 0) (get_or parts i blank).least some in
      after ∙ ap₂ (λ xs b. xs ++ cons_if b i []) before (sym test) ∙ sym (needing_from-more picked parts i within)

  passed : grown ≡ old → picked i && int_lt (pos 0) (get_or parts i blank).least ≡ false
      → grown ≡ needing_from picked 0 (take (i + 1) parts)
  passed after test =
      after ∙ sym (append-nil old) ∙ ap₂ (λ xs b. xs ++ cons_if b i []) before (sym test)
      ∙ sym (needing_from-more picked parts i within)

  pub member_other : grown ≡ old → picked i ≡ false → grown ≡ needing_from picked 0 (take (i + 1) parts)
  member_other after other = passed after (ap (λ b. b && int_lt (pos 0) (get_or parts i blank).least) other)

  pub member_none : grown ≡ old → picked i ≡ true → (get_or parts i blank).least ≤ℤ pos 0
      → grown ≡ needing_from picked 0 (take (i + 1) parts)
  member_none after here none =
      let x = (get_or parts i blank).least in
      passed after (ap (λ b. b && int_lt (pos 0) x) here ∙ int_lt-false (pos 0) x none)

pub price_push : (potentials : List ℤ) (first i end : ℕ) (old grown : List ℤ) (x : ℤ) → grown ≡ old ++ x ∷ []
    → old ≡ prices_of potentials first i end
    → x ≡ potential_at potentials (first + i) -ℤ potential_at potentials end
    → grown ≡ prices_of potentials first (i + 1) end
price_push potentials first i end old grown x after before is =
    let f = λ (v : ℕ). potential_at potentials v -ℤ potential_at potentials end in
    after ∙ ap₂ (λ xs y. xs ++ y ∷ []) before is
    ∙ sym (ap (map f) (sym (range_with_len-append first i 1)) ∙ map-append f (range_with_len first i) (range_with_len (first + i) 1))

-- ---- the forbidden matches of a part's source, and the offer of a cut by them

-- whether a forbidden match is the one of these two sources, of which the first is of this side
abbrev is_match : Side → Source → Source → Forbid → Bool
is_match Hot source other f = same_source f.hot source && same_source f.cold other
is_match Cold source other f = same_source f.hot other && same_source f.cold source

refuses-any : (side : Side) (forbids : List Forbid) (source other : Source)
    → refuses side forbids source other ≡ list_any (is_match side source other) forbids
refuses-any Hot forbids source other = refl
refuses-any Cold forbids source other = refl

-- a match that is not one of the source is none of its matches
none_named : (side : Side) (source other : Source) (f : Forbid) → names side source f ≡ false
    → is_match side source other f ≡ false
none_named Hot source other f e = ap (λ b. b && same_source f.cold other) e
none_named Cold source other f e = ap (λ b. same_source f.hot other && b) e ∙ and-false (same_source f.hot other)

module _ (side : Side) (source : Source) (forbids : List Forbid) (i : ℕ) (d : Forbid) (within : i < length forbids) (old grown : List Forbid)
    (before : ForbidAlike side source old (take i forbids)) where
  -- the matches so far, and one more
  more : (other : Source) → refuses side (take (i + 1) forbids) source other
      ≡ (refuses side old source other || is_match side source other (get_or forbids i d))
  more other =
      refuses-any side (take (i + 1) forbids) source other
      ∙ list_any_more (is_match side source other) forbids i d within
      ∙ ap (λ b. b || is_match side source other (get_or forbids i d)) (sym (refuses-any side (take i forbids) source other) ∙ sym (before other))

  pub forbid_push : grown ≡ old ++ get_or forbids i d ∷ [] → ForbidAlike side source grown (take (i + 1) forbids)
  forbid_push after other =
      ap (λ fs. refuses side fs source other) after ∙ refuses-any side (old ++ get_or forbids i d ∷ []) source other
      ∙ list_any-append (is_match side source other) old (get_or forbids i d ∷ [])
      ∙ ap₂ (λ a b. a || b) (sym (refuses-any side old source other)) (or-false (is_match side source other (get_or forbids i d)))
      ∙ sym (more other)

  pub forbid_pass : grown ≡ old → names side source (get_or forbids i d) ≡ false
      → ForbidAlike side source grown (take (i + 1) forbids)
  forbid_pass after apart other =
      ap (λ fs. refuses side fs source other) after
      ∙ sym (more other ∙ ap (λ b. refuses side old source other || b) (none_named side source other (get_or forbids i d) apart)
      ∙ or-false (refuses side old source other))

-- ---- the parts that meet a member

list_any-same : {X : Type 0} (p q : X → Bool) (xs : List X) → ((x : X) → p x ≡ q x) → list_any p xs ≡ list_any q xs
list_any-same p q [] h = refl
list_any-same p q (x ∷ xs) h = ap₂ (λ a b. a || b) (h x) (list_any-same p q xs h)

module _ (c : Case) where
  of_hot : (o : Option Part) (forbids : List Forbid) (q : Part) → ForbidAlike Cold q.source forbids c.forbids
      → both_pass forbids o (Some q) ≡ both_reach c o (Some q)
  of_hot None forbids q alike = refl
  of_hot (Some p) forbids q alike = ap (λ b. passes_heat p q && not b) (alike p.source)

  of_cold : (o : Option Part) (forbids : List Forbid) (q : Part) → ForbidAlike Hot q.source forbids c.forbids
      → both_pass forbids (Some q) o ≡ both_reach c (Some q) o
  of_cold None forbids q alike = refl
  of_cold (Some p) forbids q alike = ap (λ b. passes_heat q p && not b) (alike p.source)

  joins-by_part : (hot cold : List Part) (side : Side) (forbids : List Forbid) (i j : ℕ) (other : Part)
      → slice_get (parts_of (opposite side) hot cold) j ≡ Some other
      → ForbidAlike (opposite side) other.source forbids c.forbids
      → joins side (reach_unless forbids hot cold) i j ≡ joins side (reach_between c hot cold) i j
  joins-by_part hot cold Hot forbids i j other at alike =
      ap (both_pass forbids (slice_get hot i)) at ∙ of_hot (slice_get hot i) forbids other alike
      ∙ ap (both_reach c (slice_get hot i)) (sym at)
  joins-by_part hot cold Cold forbids i j other at alike =
      ap (λ o. both_pass forbids o (slice_get cold i)) at ∙ of_cold (slice_get cold i) forbids other alike
      ∙ ap (λ o. both_reach c o (slice_get cold i)) (sym at)

  -- with the forbidden matches of its source alone
  pub meets-by_part : (hot cold : List Part) (side : Side) (forbids : List Forbid) (members : List ℕ) (j : ℕ) (other : Part)
      → slice_get (parts_of (opposite side) hot cold) j ≡ Some other
      → ForbidAlike (opposite side) other.source forbids c.forbids
      → meets side (reach_unless forbids hot cold) members j ≡ meets side (reach_between c hot cold) members j
  meets-by_part hot cold side forbids members j other at alike =
      list_any-same (λ i. joins side (reach_unless forbids hot cold) i j) (λ i. joins side (reach_between c hot cold) i j) members
      (λ i. joins-by_part hot cold side forbids i j other at alike)

  -- so is what such a part offers
  pub offer-by_part : (hot cold : List Part) (side : Side) (forbids : List Forbid) (members : List ℕ) (j : ℕ)
      → j < length (parts_of (opposite side) hot cold)
      → ForbidAlike (opposite side) (get_or (parts_of (opposite side) hot cold) j blank).source forbids c.forbids →
      (if meets side (reach_unless forbids hot cold) members j then (get_or (parts_of (opposite side) hot cold) j blank).most else pos 0)
      ≡ (if meets side (reach_between c hot cold) members j then (get_or (parts_of (opposite side) hot cold) j blank).most else pos 0)
  offer-by_part hot cold side forbids members j within alike =
      let others = parts_of (opposite side) hot cold in
      ap (λ b. if b then (get_or others j blank).most else pos 0)
      (meets-by_part hot cold side forbids members j (get_or others j blank) (slice_get-get_or others j blank within) alike)

pub few_of_side : (parts : Parts) (side : Side) → length (parts_of side parts.hot parts.cold) ≤ MOST_PARTS
few_of_side parts Hot = parts.few_hot
few_of_side parts Cold = parts.few_cold
