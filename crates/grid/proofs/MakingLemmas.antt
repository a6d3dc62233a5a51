-- The parts as they are made are the parts of the side, in their order.
use Rattle.grid.proofs.Words.{All, All-append, All-contains, All-contains_itself, All-head, All-nil, All-tail, All-weaker, AllPairs, AllPairs-append}
use Rattle.grid.proofs.Words.{AllPairs-head, AllPairs-nil, AllPairs-tail, AreParts, Case, Contains, Contains-append_left, Contains-append_right}
use Rattle.grid.proofs.Words.{Contains-get_or, HoldsPlaces, IsGrid, IsInterval, IsLatent, IsPartOf, IsPiece, Lists-unique, ListsFalling, Part, Side}
use Rattle.grid.proofs.Words.{Source, Stream, Utility, comes_before, comes_before_source, covers, each_end, get_or-map, get_or_from_slice_get}
use Rattle.grid.proofs.Words.{high_end, interval_parts, ints, is_here, length-map, level-latent, level_parts, low_end, made_parts, map, none-some}
use Rattle.grid.proofs.Words.{picked, places_of, same_Some, shifted_level, slice_get, slice_get-get_or, slice_get_within, stands_at, stream_ends}
use Rattle.grid.proofs.Words.{stream_part, utility_part, ℤ, ◌<ℤ◌, ◌≤ℤ◌}
use Rattle.std.proofs.Common.{List, Some, [], ap, arith, get_or, inl, inr, refl, subst, suc, sym, true, zero, ℕ, ◌++◌, ◌+◌, ◌∙◌, ◌∷◌, ◌≡◌}
use Rattle.stream_case.specs.declared.source.Source.TheVariants.{Stream as of_stream, Utility as of_utility}
use Rattle.grid.proofs.PickedParts.{All-picked, AllPairs-picked, Contains-picked}
use Rattle.grid.proofs.SourceTests.{stands_at-true, is_here-true, stands_at-from, is_here-from, covers-true, covers-from}

-- a falling list of some numbers holds all places that are among them
pub HoldsPlaces-ListsFalling : (streams : List Stream) (utilities : List Utility) (P : ℤ → Type 0) (places : List ℤ)
    → ListsFalling P places
    → All P (places_of streams utilities) → HoldsPlaces streams utilities places
HoldsPlaces-ListsFalling streams utilities P places h each =
    record { falls = h.ordered; holds = All-weaker P (Contains places) h.every (places_of streams utilities) each }

pub HoldsPlaces-IsGrid : (c : Case) (places : List ℤ) → IsGrid c places → HoldsPlaces c.streams c.utilities places
HoldsPlaces-IsGrid c places h =
    let each = All-contains_itself (places_of c.streams c.utilities) in
    HoldsPlaces-ListsFalling c.streams c.utilities (Contains (places_of c.streams c.utilities)) places h each

module _ (streams : List Stream) (utilities : List Utility) (places : List ℤ)
    (h : HoldsPlaces streams utilities places) where
  pub holds_ends : All (λ s. Contains places (high_end s) × Contains places (low_end s)) streams
  holds_ends =
      let ends = stream_ends streams in
      let levels = map shifted_level utilities in
      each_end (Contains places) streams (λ k d within.
      let is_end = Contains-append_left ends levels (get_or ends k d) (Contains-get_or ends k d within) in
      All-contains (Contains places) (ends ++ levels) (get_or ends k d) h.holds is_end)

  pub holds_levels : All (λ u. Contains places (shifted_level u)) utilities
  holds_levels k d within =
      let ends = stream_ends streams in
      let levels = map shifted_level utilities in
      let level = shifted_level (get_or utilities k d) in
      let is_level = Contains-append_right ends levels level
      (k, rw length-map within, get_or-map shifted_level utilities k d level within) in
      All-contains (Contains places) (ends ++ levels) level h.holds is_level

-- ---- what is made are the parts

Contains-from_slice_get : {X : Type 0} (xs : List X) (i : ℕ) (x : X) → slice_get xs i ≡ Some x → Contains xs x
Contains-from_slice_get xs i x at = (i, slice_get_within xs i x at, get_or_from_slice_get xs i x x at)

IsInterval-later : (g : ℤ) (places : List ℤ) (high low : ℤ) → IsInterval places high low
    → IsInterval (g ∷ places) high low
IsInterval-later g places high low h = let e : suc (h.index + 1) ≡ suc h.index + 1 = omega arith in
    record { index = suc h.index; from = h.from; to = subst (λ n. slice_get (g ∷ places) n ≡ Some low) e h.to }

IsPiece-later : (g : ℤ) (places : List ℤ) (s : Stream) (high low : ℤ) → IsPiece places s high low
    → IsPiece (g ∷ places) s high low
IsPiece-later g places s high low (inl h) = inl (IsInterval-later g places high low h)
IsPiece-later g places s high low (inr level) = inr level

module _ (streams : List Stream) (utilities : List Utility) (side : Side) where
  abbrev made : List ℤ → List Part
  made = made_parts streams utilities side

  abbrev latent_here : ℤ → List Part
  latent_here g = picked (stands_at side g) (stream_part g g) 0 streams

  abbrev utilities_here : ℤ → List Part
  utilities_here g = picked (is_here side g) utility_part 0 utilities

  abbrev here : ℤ → List Part
  here = level_parts streams utilities side

  abbrev inside : ℤ → List ℤ → List Part
  inside = interval_parts streams utilities side

  abbrev IsPart : List ℤ → Part → Type 0
  IsPart places = IsPartOf streams utilities places side

  -- each part that is made is one of the side
  IsPart-later : (g : ℤ) (places : List ℤ) (p : Part) → IsPart places p → IsPart (g ∷ places) p
  IsPart-later g places p (inl (i, s, h)) =
      inl (
        i,
        s,
        record {
          stream = h.stream;
          side_is = h.side_is;
          piece = IsPiece-later g places s p.high p.low h.piece;
          from = h.from;
          upto = h.upto;
          is = h.is;
        },
      )
  IsPart-later g places p (inr h) = inr h

  each_latent : (places : List ℤ) (g : ℤ) → All (IsPart places) (latent_here g)
  each_latent places g = All-picked (stands_at side g) (stream_part g g) (IsPart places) 0 streams (λ i k s e at passes.
      let stands = stands_at-true side g s passes in
      let same : k ≡ i = omega (arith, e) in
      let from = stands.low in
      let upto = stands.high in
      inl (
        i,
        s,
        record {
          stream = subst (λ n. slice_get streams n ≡ Some s) same at;
          side_is = stands.side_is;
          piece = inr (stands.latent, refl);
          from = omega (arith, ints);
          upto = omega (arith, ints);
          is = refl;
        },
      ))

  each_utility : (places : List ℤ) (g : ℤ) → All (IsPart places) (utilities_here g)
  each_utility places g = All-picked (is_here side g) utility_part (IsPart places) 0 utilities (λ i k u e at passes.
      let same : k ≡ i = omega (arith, e) in
      inr (
        i,
        u,
        record {
          utility = subst (λ n. slice_get utilities n ≡ Some u) same at;
          side_is = (is_here-true side g u passes).side_is;
          is = refl;
        },
      ))

  each_stream : (g : ℤ) (places : List ℤ) → All (IsPart (g ∷ places)) (inside g places)
  each_stream g [] = All-nil (IsPart (g ∷ []))
  each_stream g (low ∷ places) =
      All-picked (covers side g low) (stream_part g low) (IsPart (g ∷ low ∷ places)) 0 streams (λ i k s e at passes.
      let covered = covers-true side g low s passes in
      let same : k ≡ i = omega (arith, e) in
      inl (
        i,
        s,
        record {
          stream = subst (λ n. slice_get streams n ≡ Some s) same at;
          side_is = covered.side_is;
          piece = inl (record { index = 0; from = refl; to = refl });
          from = covered.from;
          upto = covered.upto;
          is = refl;
        },
      ))

  each_made : (places : List ℤ) → All (IsPart places) (made places)
  each_made [] = All-nil (IsPart [])
  each_made (g ∷ places) =
      let P = IsPart (g ∷ places) in
      All-append P (here g) (inside g places ++ made places)
      (All-append P (latent_here g) (utilities_here g) (each_latent (g ∷ places) g) (each_utility (g ∷ places) g))
      (All-append P (inside g places) (made places) (each_stream g places)
      (All-weaker (IsPart places) P (IsPart-later g places) (made places) (each_made places)))

  -- what is made at a later place is made
  Contains-later : (g : ℤ) (places : List ℤ) (p : Part) → Contains (made places) p → Contains (made (g ∷ places)) p
  Contains-later g places p found =
      let below = Contains-append_right (inside g places) (made places) p found in
      Contains-append_right (here g) (inside g places ++ made places) p below

  -- each part of the side is made
  Contains-stream : (places : List ℤ) (index i : ℕ) (s : Stream) (high low : ℤ)
      → slice_get streams i ≡ Some s → covers side high low s ≡ true
      → slice_get places index ≡ Some high → slice_get places (suc index) ≡ Some low
      → Contains (made places) (stream_part high low i s)
  Contains-stream [] index i s high low at passes from to = absurd (none-some high from)
  Contains-stream (g ∷ []) zero i s high low at passes from to = absurd (none-some low to)
  Contains-stream (g ∷ l ∷ places) zero i s high low at passes from to =
      let P : ℤ → ℤ → Type 0 = λ h m. Contains (made (h ∷ m ∷ places)) (stream_part high low i s) in
      let parts = picked (covers side high low) (stream_part high low) 0 streams in
      let found = Contains-append_left parts (made (low ∷ places)) (stream_part high low i s)
      (Contains-picked (covers side high low) (stream_part high low) 0 streams i i s (omega arith) at passes) in
      let in_made = Contains-append_right (here high) (parts ++ made (low ∷ places)) (stream_part high low i s) found in
      subst (λ h. P h l) (sym (same_Some g high from)) (subst (P high) (sym (same_Some l low to)) in_made)
  Contains-stream (g ∷ places) (suc index) i s high low at passes from to =
      Contains-later g places (stream_part high low i s) (Contains-stream places index i s high low at passes from to)

  Contains-latent : (places : List ℤ) (index i : ℕ) (s : Stream) → slice_get streams i ≡ Some s
      → s.side ≡ side → IsLatent s
      → slice_get places index ≡ Some (high_end s) → Contains (made places) (stream_part (high_end s) (high_end s) i s)
  Contains-latent [] index i s at side_is latent from = absurd (none-some (high_end s) from)
  Contains-latent (g ∷ places) zero i s at side_is latent from =
      let level = high_end s in
      let part = stream_part level level i s in
      let stands = stands_at-from side level s side_is latent refl in
      let found =
      Contains-picked (stands_at side level) (stream_part level level) 0 streams i i s (omega arith) at stands in
      let in_latent = Contains-append_left (latent_here level) (utilities_here level) part found in
      let in_made = Contains-append_left (here level) (inside level places ++ made places) part in_latent in
      subst (λ h. Contains (made (h ∷ places)) part) (sym (same_Some g level from)) in_made
  Contains-latent (g ∷ places) (suc index) i s at side_is latent from =
      let part = stream_part (high_end s) (high_end s) i s in
      let later = Contains-latent places index i s at side_is latent from in
      Contains-later g places part later

  Contains-utility : (places : List ℤ) (index i : ℕ) (u : Utility) → slice_get utilities i ≡ Some u → u.side ≡ side
      → slice_get places index ≡ Some (shifted_level u) → Contains (made places) (utility_part i u)
  Contains-utility [] index i u at side_is from = absurd (none-some (shifted_level u) from)
  Contains-utility (g ∷ places) zero i u at side_is from =
      Contains-append_left (here g) (inside g places ++ made places) (utility_part i u)
      (Contains-append_right (latent_here g) (utilities_here g) (utility_part i u)
      (Contains-picked (is_here side g) utility_part 0 utilities i i u (omega arith) at
      (is_here-from side g u side_is (sym (same_Some g (shifted_level u) from)))))
  Contains-utility (g ∷ places) (suc index) i u at side_is from =
      Contains-later g places (utility_part i u) (Contains-utility places index i u at side_is from)

  Contains-piece : (places : List ℤ) → HoldsPlaces streams utilities places
      → (i : ℕ) (s : Stream) (high low : ℤ) → slice_get streams i ≡ Some s → s.side ≡ side
      → low_end s ≤ℤ low → high ≤ℤ high_end s → IsPiece places s high low
      → Contains (made places) (stream_part high low i s)
  Contains-piece places holds i s high low at side_is from upto (inl h) =
      let next : h.index + 1 ≡ suc h.index = omega arith in
      Contains-stream places h.index i s high low at (covers-from side high low s side_is from upto) h.from
      (subst (λ n. slice_get places n ≡ Some low) next h.to)
  Contains-piece places holds i s high low at side_is from upto (inr (latent, same)) =
      let ends = holds_ends streams utilities places holds in
      let is_stream = Contains-from_slice_get streams i s at in
      let (index, within, is) =
      (All-contains (λ x. Contains places (high_end x) × Contains places (low_end x)) streams s ends is_stream).0 in
      let level = level-latent s latent in
      let is_high : high_end s ≡ high = omega (arith, ints) in
      let is_low : high_end s ≡ low = omega (arith, ints) in
      let at_index = slice_get-get_or places index (high_end s) within ∙ ap Some is in
      let found = Contains-latent places index i s at side_is latent at_index in
      subst (λ h. Contains (made places) (stream_part h low i s)) is_high
      (subst (λ l. Contains (made places) (stream_part (high_end s) l i s)) is_low found)

  every_made : (places : List ℤ) → HoldsPlaces streams utilities places → (p : Part) → IsPart places p
      → Contains (made places) p
  every_made places holds p (inl (i, s, h)) =
      let piece = Contains-piece places holds i s p.high p.low h.stream h.side_is h.from h.upto h.piece in
      subst (Contains (made places)) (sym h.is) piece
  every_made places holds p (inr (i, u, h)) =
      let levels = holds_levels streams utilities places holds in
      let is_utility = Contains-from_slice_get utilities i u h.utility in
      let (index, within, is) = All-contains (λ v. Contains places (shifted_level v)) utilities u levels is_utility in
      let at_index = slice_get-get_or places index (shifted_level u) within ∙ ap Some is in
      let in_made = Contains-utility places index i u h.utility h.side_is at_index in
      subst (Contains (made places)) (sym h.is) in_made

  -- where the parts stand that are made at a place and below it
  ends_here : (g : ℤ) → All (λ p. (p.high ≡ g) × (p.low ≡ g)) (here g)
  ends_here g =
      let P : Part → Type 0 = λ p. (p.high ≡ g) × (p.low ≡ g) in
      let latent_ends =
      All-picked (stands_at side g) (stream_part g g) P 0 streams (λ i k s e at passes. (refl, refl)) in
      let utility_ends = All-picked (is_here side g) utility_part P 0 utilities (λ i k u e at passes.
      let level = (is_here-true side g u passes).level in
      (level, level)) in
      All-append P (latent_here g) (utilities_here g) latent_ends utility_ends

  ends_below : (g : ℤ) (places : List ℤ) → All (λ place. place <ℤ g) places
      → All (λ p. (p.high ≡ g) × (p.low <ℤ g)) (inside g places)
  ends_below g [] falls = All-nil (λ p. (p.high ≡ g) × (p.low <ℤ g))
  ends_below g (low ∷ places) falls =
      All-picked (covers side g low) (stream_part g low) (λ p. (p.high ≡ g) × (p.low <ℤ g)) 0 streams
      (λ i k s e at passes. (refl, All-head (λ place. place <ℤ g) low places falls))

  -- nothing that is made below a place stands at it
  below : (g : ℤ) (places : List ℤ) → AllPairs (λ a b. b <ℤ a) places → All (λ place. place <ℤ g) places
      → All (λ p. p.high <ℤ g) (made places)
  below g [] falls under = All-nil (λ p. p.high <ℤ g)
  below g (h ∷ places) falls under =
      let P : Part → Type 0 = λ p. p.high <ℤ g in
      let top : h <ℤ g = All-head (λ place. place <ℤ g) h places under in
      let lower = AllPairs-head (λ a b. b <ℤ a) h places falls in
      let at_place = All-weaker (λ p. (p.high ≡ h) × (p.low ≡ h)) P (λ p e. subst (λ z. z <ℤ g) (sym e.0) top) (here h)
      (ends_here h) in
      let on_interval = All-weaker (λ p. (p.high ≡ h) × (p.low <ℤ h)) P (λ p e. subst (λ z. z <ℤ g) (sym e.0) top)
      (inside h places) (ends_below h places lower) in
      let rest_falls = AllPairs-tail (λ a b. b <ℤ a) h places falls in
      let rest_under = All-tail (λ place. place <ℤ g) h places under in
      let rest = below g places rest_falls rest_under in
      All-append P (here h) (inside h places ++ made places) at_place
      (All-append P (inside h places) (made places) on_interval rest)

  ordered_here : (g : ℤ) → AllPairs comes_before (here g)
  ordered_here g =
      let latent_ordered = AllPairs-picked (stands_at side g) (stream_part g g) comes_before 0 streams
      (λ i j s t before one other. inr (inr (refl, refl, before))) in
      AllPairs-append comes_before (latent_here g) (utilities_here g) latent_ordered
      (AllPairs-picked (is_here side g) utility_part comes_before 0 utilities (λ i j u v before one other.
      let p = is_here-true side g u one in
      let q = is_here-true side g v other in
      inr (inr (q.level ∙ sym p.level, q.level ∙ sym p.level, before))))
      (All-picked (stands_at side g) (stream_part g g) (λ p. All (comes_before p) (utilities_here g)) 0 streams
      (λ i k s e at passes.
      All-picked (is_here side g) utility_part (comes_before (stream_part g g i s)) 0 utilities (λ j l u f found here.
      let level = (is_here-true side g u here).level in
      inr (inr (level, level, tt)))))

  ordered_inside : (g : ℤ) (places : List ℤ) → AllPairs comes_before (inside g places)
  ordered_inside g [] = AllPairs-nil comes_before
  ordered_inside g (low ∷ places) =
      AllPairs-picked (covers side g low) (stream_part g low) comes_before 0 streams (λ i j s t before one other.
      inr (inr (refl, refl, before)))

  ordered_made : (places : List ℤ) → AllPairs (λ a b. b <ℤ a) places → AllPairs comes_before (made places)
  ordered_made [] falls = AllPairs-nil comes_before
  ordered_made (g ∷ places) falls =
      let lower = AllPairs-head (λ a b. b <ℤ a) g places falls in
      let rest_falls = AllPairs-tail (λ a b. b <ℤ a) g places falls in
      let rest = made places in
      let at_place = ends_here g in
      let on_interval = ends_below g places lower in
      let under = below g places rest_falls lower in
      let interval_first = All-weaker (λ p. (p.high ≡ g) × (p.low <ℤ g)) (λ p. All (comes_before p) rest) (λ p e.
      All-weaker (λ q. q.high <ℤ g) (comes_before p) (λ q h. inl (subst (λ z. q.high <ℤ z) (sym e.0) h)) rest under)
      (inside g places) on_interval in
      let lower_ordered = AllPairs-append comes_before (inside g places) rest (ordered_inside g places)
      (ordered_made places rest_falls) interval_first in
      let place_first =
      All-weaker (λ p. (p.high ≡ g) × (p.low ≡ g)) (λ p. All (comes_before p) (inside g places ++ rest)) (λ p e.
      let before_inside = All-weaker (λ q. (q.high ≡ g) × (q.low <ℤ g)) (comes_before p) (λ q h.
      inr (inl (h.0 ∙ sym e.0, subst (λ z. q.low <ℤ z) (sym e.1) h.1))) (inside g places) on_interval in
      let before_rest =
      All-weaker (λ q. q.high <ℤ g) (comes_before p) (λ q h. inl (subst (λ z. q.high <ℤ z) (sym e.0) h)) rest under in
      All-append (comes_before p) (inside g places) rest before_inside before_rest) (here g) at_place in
      AllPairs-append comes_before (here g) (inside g places ++ rest) (ordered_here g) lower_ordered place_first

  pub made_parts-AreParts : (places : List ℤ) → HoldsPlaces streams utilities places
      → AreParts streams utilities places side (made_parts streams utilities side places)
  made_parts-AreParts places h =
      record { ordered = ordered_made places h.falls; each = each_made places; every = every_made places h }

-- ---- the parts of a side are one list

one_way_source : (a b : Source) → comes_before_source a b → comes_before_source b a → ⊥
one_way_source (of_stream i) (of_stream j) h k = omega arith
one_way_source (of_stream i) (of_utility j) h k = k
one_way_source (of_utility i) (of_stream j) h k = h
one_way_source (of_utility i) (of_utility j) h k = omega arith

one_way : (p q : Part) → comes_before p q → comes_before q p → ⊥
one_way p q (inl h) (inl k) = omega (arith, ints)
one_way p q (inl h) (inr (inl k)) = omega (arith, ints)
one_way p q (inl h) (inr (inr k)) = omega (arith, ints)
one_way p q (inr (inl h)) (inl k) = omega (arith, ints)
one_way p q (inr (inl h)) (inr (inl k)) = omega (arith, ints)
one_way p q (inr (inl h)) (inr (inr k)) = omega (arith, ints)
one_way p q (inr (inr h)) (inl k) = omega (arith, ints)
one_way p q (inr (inr h)) (inr (inl k)) = omega (arith, ints)
one_way p q (inr (inr h)) (inr (inr k)) = one_way_source p.source q.source h.2 k.2

pub AreParts-made : (streams : List Stream) (utilities : List Utility) (side : Side) (places : List ℤ) (ps : List Part)
    → HoldsPlaces streams utilities places
    → AreParts streams utilities places side ps → ps ≡ made_parts streams utilities side places
AreParts-made streams utilities side places ps h k =
    let are_parts = made_parts-AreParts streams utilities side places h in
    Lists-unique comes_before one_way (IsPartOf streams utilities places side) ps
    (made_parts streams utilities side places) k are_parts
