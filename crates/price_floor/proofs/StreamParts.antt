-- The parts of one stream above a view add up to its heat there.
use Rattle.price_floor.proofs.Words.{All-cons, All-nil, All-slice_get, HoldsPlaces, IsValidStream, Part, Side, Stream}
use Rattle.price_floor.proofs.Words.{Utility, covers, heat_over, high_end, holds_ends, if_zero, if◌then◌else◌}
use Rattle.price_floor.proofs.Words.{int_sum_by, int_sum_by-append, int_sum_by-cons_if, interval_parts, ints, is_here}
use Rattle.price_floor.proofs.Words.{low_end, made_parts, picked, same_side, same_source, stands_above, stands_at}
use Rattle.price_floor.proofs.Words.{stream_part, utility_part}
use Rattle.std.proofs.Common.{Bool, Contains, List, Some, ap, arith, eq-eqb, ne_eqb, pos, refl, slice_get, suc, zero, ℕ, []}
use Rattle.std.proofs.Common.{ℤ, ◌++◌, ◌+◌, ◌<◌, ◌∙◌, ◌∷◌, ◌≡◌, ◌≢◌}
use Rattle.grid.proofs.HeatLemmas.{part_over, sum-part_over}
use Rattle.stream_case.specs.declared.source.Source.TheVariants.{Stream as of_stream}

-- the heat of a part of the stream with a number, if it stands above a place
abbrev pub own_over : ℕ → Bool → ℤ → Part → ℤ
own_over i from_itself place p =
    if same_source p.source (of_stream i) then (if stands_above from_itself place p then p.least else pos 0) else pos 0

module _ (i : ℕ) (from_itself : Bool) (place : ℤ) where
  own-other : (high low : ℤ) (n : ℕ) (s : Stream) → n ≢ i
      → own_over i from_itself place (stream_part high low n s) ≡ pos 0
  own-other high low n s other =
      let p = stream_part high low n s in
      ap (λ b. if b then (if stands_above from_itself place p then p.least else pos 0) else pos 0) (ne_eqb n i other)

  own-here : (high low : ℤ) (n : ℕ) (s : Stream) → n ≡ i
      → own_over i from_itself place (stream_part high low n s)
      ≡ part_over from_itself place (pos 0) (stream_part high low 0 s)
  own-here high low n s same =
      let p = stream_part high low n s in
      ap (λ b. if b then (if stands_above from_itself place p then p.least else pos 0) else pos 0) (eq-eqb n i same)

  -- parts of later streams
  own-later : (test : Stream → Bool) (high low : ℤ) (n : ℕ) (streams : List Stream) → i < n
      → int_sum_by (own_over i from_itself place) (picked test (stream_part high low) n streams) ≡ pos 0
  own-later test high low n [] later = refl
  own-later test high low n (s ∷ streams) later =
      let first = own-other high low n s (λ same. absurd (omega (arith, same))) in
      let here : (if test s then own_over i from_itself place (stream_part high low n s) else pos 0) ≡ pos 0 =
      if_zero (test s) (own_over i from_itself place (stream_part high low n s)) first in
      let rest = own-later test high low (suc n) streams (omega arith) in
      let others = picked test (stream_part high low) (suc n) streams in
      let sum = int_sum_by-cons_if (own_over i from_itself place) (test s) (stream_part high low n s) others in
      omega (arith, ints)

  -- parts that are picked are those that would be picked of this stream alone
  own-picked : (test : Stream → Bool) (high low : ℤ) (n : ℕ) (streams : List Stream) (k : ℕ) (s : Stream)
      → slice_get streams k ≡ Some s → i ≡ n + k
      → int_sum_by (own_over i from_itself place) (picked test (stream_part high low) n streams)
      ≡ int_sum_by (part_over from_itself place (pos 0)) (picked test (stream_part high low) 0 (s ∷ []))
  own-picked test high low n [] k s at is = absurd (cc)
  own-picked test high low n (t ∷ streams) zero s at is =
      let same : t ≡ s = cc in
      let number : n ≡ i = omega (arith, is) in
      let rest = own-later test high low (suc n) streams (omega (arith, is)) in
      let others = picked test (stream_part high low) (suc n) streams in
      let sum = int_sum_by-cons_if (own_over i from_itself place) (test t) (stream_part high low n t) others in
      let alone = int_sum_by-cons_if (part_over from_itself place (pos 0)) (test s) (stream_part high low 0 s) [] in
      let here : (if test t then own_over i from_itself place (stream_part high low n t) else pos 0)
      ≡ (if test s then part_over from_itself place (pos 0) (stream_part high low 0 s) else pos 0) =
      ap (λ x. if test t then x else pos 0) (own-here high low n t number)
      ∙ ap (λ r. if test r then part_over from_itself place (pos 0) (stream_part high low 0 r) else pos 0) same in
      omega (arith, ints)
  own-picked test high low n (t ∷ streams) (suc k) s at is =
      let first = own-other high low n t (λ same. absurd (omega (arith, same, is))) in
      let rest = own-picked test high low (suc n) streams k s at (omega (arith, is)) in
      let others = picked test (stream_part high low) (suc n) streams in
      let sum = int_sum_by-cons_if (own_over i from_itself place) (test t) (stream_part high low n t) others in
      let here : (if test t then own_over i from_itself place (stream_part high low n t) else pos 0) ≡ pos 0 =
      if_zero (test t) (own_over i from_itself place (stream_part high low n t)) first in omega (arith, ints)

  own-utilities : (test : Utility → Bool) (n : ℕ) (utilities : List Utility)
      → int_sum_by (own_over i from_itself place) (picked test utility_part n utilities) ≡ pos 0
  own-utilities test n [] = refl
  own-utilities test n (u ∷ utilities) =
      let rest = own-utilities test (suc n) utilities in
      let others = picked test utility_part (suc n) utilities in
      let sum = int_sum_by-cons_if (own_over i from_itself place) (test u) (utility_part n u) others in
      let here : (if test u then pos 0 else pos 0) ≡ pos 0 = if_zero (test u) (pos 0) refl in
      omega (arith, ints)

  module _ (streams : List Stream) (utilities : List Utility) (side : Side) (s : Stream) (at : slice_get streams i ≡ Some s) where
    number : i ≡ 0 + i
    number = omega arith

    own-interval : (g : ℤ) (places : List ℤ)
        → int_sum_by (own_over i from_itself place) (interval_parts streams utilities side g places)
        ≡ int_sum_by (part_over from_itself place (pos 0)) (interval_parts (s ∷ []) [] side g places)
    own-interval g [] = refl
    own-interval g (low ∷ places) = own-picked (covers side g low) g low 0 streams i s at number

    -- the stream's own parts are those that would be made of it alone
    own-made : (places : List ℤ) → int_sum_by (own_over i from_itself place) (made_parts streams utilities side places)
        ≡ int_sum_by (part_over from_itself place (pos 0)) (made_parts (s ∷ []) [] side places)
    own-made [] = refl
    own-made (g ∷ places) =
        let f = own_over i from_itself place in
        let h = part_over from_itself place (pos 0) in
        let latent = picked (stands_at side g) (stream_part g g) 0 streams in
        let here = picked (is_here side g) utility_part 0 utilities in
        let inside = interval_parts streams utilities side g places in
        let rest = made_parts streams utilities side places in
        let own_latent = picked (stands_at side g) (stream_part g g) 0 (s ∷ []) in
        let own_inside = interval_parts (s ∷ []) [] side g places in
        let own_rest = made_parts (s ∷ []) [] side places in
        let first = int_sum_by-append f (latent ++ here) (inside ++ rest) in
        let level = int_sum_by-append f latent here in
        let second = int_sum_by-append f inside rest in
        let own_first = int_sum_by-append h (own_latent ++ []) (own_inside ++ own_rest) in
        let own_level = int_sum_by-append h own_latent [] in
        let own_second = int_sum_by-append h own_inside own_rest in
        let latents = own-picked (stands_at side g) g g 0 streams i s at number in
        let levels = own-utilities (is_here side g) 0 utilities in
        let intervals = own-interval g places in
        let later = own-made places in
        omega (arith, ints)

-- on places that hold the ends of the streams and this place
pub stream_parts-are : (i : ℕ) (from_itself : Bool) (place : ℤ) (streams : List Stream) (utilities : List Utility)
    (side : Side)
    (s : Stream) (places : List ℤ)
    → slice_get streams i ≡ Some s → IsValidStream s → HoldsPlaces streams utilities places → Contains places place
    → int_sum_by (own_over i from_itself place) (made_parts streams utilities side places)
    ≡ (if same_side s.side side then heat_over from_itself place s else pos 0)
stream_parts-are i from_itself place streams utilities side s places at valid holds found =
    let all_ends = holds_ends streams utilities places holds in
    let ends = All-slice_get (λ (r : Stream). Contains places (high_end r) × Contains places (low_end r)) streams i s all_ends at in
    let low = All-cons (Contains places) (low_end s) [] ends.1 (All-nil (Contains places)) in
    let alone : HoldsPlaces (s ∷ []) [] places = record {
      falls = holds.falls;
      holds = All-cons (Contains places) (high_end s) (low_end s ∷ []) ends.0 low;
    } in
    let all_valid = All-cons IsValidStream s [] valid (All-nil IsValidStream) in
    let sum = sum-part_over (s ∷ []) [] side places from_itself place (pos 0) all_valid alone found in
    let own = own-made i from_itself place streams utilities side s at places in
    omega (arith, ints)
