-- How many places a grid has, how many parts a side has, and what each part keeps.
use Rattle.grid.proofs.SourceTests.{has_latent_heat-true}
use Rattle.grid.proofs.MakingLemmas.{holds_levels, made_parts-AreParts}
use Rattle.grid.proofs.PlaceLemmas.{interval_falls}
use Rattle.grid.proofs.RunLemmas.{latent_run, latent_run-none, latent_run-other, level_run, level_run-is, stream_run, stream_run-latent, stream_run-other}
use Rattle.grid.proofs.RunLemmas.{sum-made}
use Rattle.grid.specs.Bounds.{IsBounded}
use Rattle.grid.proofs.Words.{ALL_UTILITIES, All, All-contains, All-weaker, AllPairs, AreParts, AreStreams, AreStreams-IsComplete, Case, Contains, HoldsPlaces}
use Rattle.grid.proofs.Words.{IsComplete, IsGrid, IsHeat, IsLength, IsPartOf, IsPiece, IsPlaced, IsValidStream, MOST_PARTS, MOST_PLACES, Part, Side, Stream}
use Rattle.grid.proofs.Words.{Utility, cases_Bool, count_by-cons, count_on, covers, get_or_from_slice_get, heat-between, high_end, if◌then◌else◌, int_sum_by}
use Rattle.grid.proofs.Words.{int_sum_by-at_most, ints, has_latent_heat, length-AreStreams, length-append, length-le_falling, length-map, length-stream_ends}
use Rattle.grid.proofs.Words.{length-utilities, load-between, low_end, made_parts, map, mul-le-mul, piece_heat, places_of, pos, range-length, same_side}
use Rattle.grid.proofs.Words.{shifted_level, slice_get_within, stands_at, stream_ends, stream_part, utility_part, ℤ, ◌+ℤ◌, ◌-ℤ◌, ◌<ℤ◌, ◌≤ℤ◌}
use Rattle.std.proofs.Common.{Bool, List, [], ap, arith, cond, false, get_or, inl, inr, length, refl, subst, sym, true, ℕ, ⊎_elim, ◌*◌, ◌+◌, ◌∙◌, ◌∷◌, ◌≡◌, ◌≤◌}

-- ---- counts

-- a grid has at most as many places as there are stream ends and utilities
pub length-grid : (c : Case) (grid : List ℤ) → IsComplete c → IsGrid c grid → length grid ≤ MOST_PLACES
length-grid c grid complete h =
    let few = length-le_falling grid (places_of c.streams c.utilities) h.ordered h.each in
    let streams = length-AreStreams c.streams (AreStreams-IsComplete c complete) in
    omega (
      arith,
      length-append (stream_ends c.streams) (map shifted_level c.utilities),
      length-stream_ends c.streams,
      length-map c.utilities shifted_level,
      length-utilities c complete,
    )

one_each : (ps : List Part) → int_sum_by (λ p. pos 1) ps ≡ pos (length ps)
one_each [] = refl
one_each (p ∷ ps) = let rest = one_each ps in omega (arith, ints)

either : (b : Bool) → (if b then pos 1 else pos 0) ≤ℤ pos 1
either true = omega (arith, ints)
either false = omega (arith, ints)

stream_run-at_most : (side : Side) (s : Stream) (places : List ℤ)
    → stream_run (λ high low x. pos 1) side s places ≤ℤ pos (length places)
stream_run-at_most side s [] = omega (arith, ints)
stream_run-at_most side s (g ∷ []) = omega (arith, ints)
stream_run-at_most side s (g ∷ low ∷ places) =
    let rest = stream_run-at_most side s (low ∷ places) in
    let one = either (covers side g low s) in
    omega (arith, ints)

latent_run-at_most : (side : Side) (s : Stream) (places : List ℤ)
    → latent_run (λ high low x. pos 1) side s places ≤ℤ pos (length places)
latent_run-at_most side s [] = omega (arith, ints)
latent_run-at_most side s (g ∷ places) =
    let rest = latent_run-at_most side s places in
    let one = either (stands_at side g s) in
    omega (arith, ints)

-- a stream has parts at places or on intervals
runs-at_most : (side : Side) (places : List ℤ) → AllPairs (λ a b. b <ℤ a) places → (s : Stream)
    → (latent_run (λ high low x. pos 1) side s places +ℤ stream_run (λ high low x. pos 1) side s places)
    ≤ℤ pos (length places)
runs-at_most side places falls s = ⊎_elim (λ latent.
    let none = stream_run-latent (λ high low x. pos 1) side s places (has_latent_heat-true s latent) falls in
    let most = latent_run-at_most side s places in
    omega (arith, ints)) (λ sensible.
    let none = latent_run-none (λ high low x. pos 1) side s places sensible in
    let most = stream_run-at_most side s places in
    omega (arith, ints)) (cases_Bool (has_latent_heat s))

runs-other : (side : Side) (places : List ℤ) (s : Stream) → same_side s.side side ≡ false
    → latent_run (λ high low x. pos 1) side s places +ℤ stream_run (λ high low x. pos 1) side s places ≡ pos 0
runs-other side places s other =
    let latent = latent_run-other (λ high low x. pos 1) side s places other in
    let on_intervals = stream_run-other (λ high low x. pos 1) side s places other in
    omega (arith, ints)

-- a sum over streams, of at most m for each of a side and nothing for the others
sum-at_most : (side : Side) (f : Stream → ℤ) (m : ℕ) (streams : List Stream) → ((s : Stream) → f s ≤ℤ pos m)
    → ((s : Stream) → same_side s.side side ≡ false → f s ≡ pos 0)
    → int_sum_by f streams ≤ℤ pos (m * count_on side streams)
sum-at_most side f m [] most none = omega (arith, ints)
sum-at_most side f m (s ∷ ss) most none =
    let rest = sum-at_most side f m ss most none in
    let count = count_by-cons (λ (x : Stream). same_side x.side side) s ss in
    ⊎_elim (λ same.
    let total : count_on side (s ∷ ss) ≡ 1 + count_on side ss = count ∙ ap (λ b. cond b 1 0 + count_on side ss) same in
    let first = most s in
    let product = ap (λ n. m * n) total in
    omega (arith, ints)) (λ other.
    let total : count_on side (s ∷ ss) ≡ 0 + count_on side ss = count ∙ ap (λ b. cond b 1 0 + count_on side ss) other in
    let first = none s other in
    let product = ap (λ n. m * n) total in omega (arith, ints)) (cases_Bool (same_side s.side side))

module _ (streams : List Stream) (utilities : List Utility) (side : Side) (places : List ℤ)
    (holds : HoldsPlaces streams utilities places) where
  -- each stream of the side has at most one part at each place, and each utility one
  pub length-made : length (made_parts streams utilities side places) ≤ length places * count_on side streams
      + length utilities
  length-made =
      let count = one_each (made_parts streams utilities side places) in
      let exchanged = sum-made (λ p. pos 1) (λ high low s. pos 1) (λ u. pos 1) (λ high low i s. refl)
      (λ i u. refl) streams utilities side places in
      let levels = int_sum_by-at_most (λ u. level_run (λ v. pos 1) side u places) 1 utilities
      (λ k d within. one_level (get_or utilities k d) (holds_levels streams utilities places holds k d within)) in
      let runs =
      sum-at_most side (λ s.
      latent_run (λ high low x. pos 1) side s places +ℤ stream_run (λ high low x. pos 1) side s places)
      (length places) streams (runs-at_most side places holds.falls) (runs-other side places) in
      omega (arith, ints)
    where
      one_level : (u : Utility) → Contains places (shifted_level u) → level_run (λ v. pos 1) side u places ≤ℤ pos 1
      one_level u found =
          let is = level_run-is (λ v. pos 1) side u places holds.falls found in
          ⊎_elim (λ same. let here = ap (λ b. if b then pos 1 else pos 0) same in omega (arith, ints)) (λ other.
          let here = ap (λ b. if b then pos 1 else pos 0) other in
          omega (arith, ints)) (cases_Bool (same_side u.side side))

  -- so a side has few
  pub length-made-few : AreStreams streams → length utilities ≤ ALL_UTILITIES → length places ≤ MOST_PLACES
      → length (made_parts streams utilities side places) ≤ MOST_PARTS
  length-made-few are_streams few_utilities few_places =
      let product = mul-le-mul few_places (are_streams.few side) in
      omega (arith, length-made, product)

-- ---- what each part keeps

pub IsLength-covered : (s : Stream) (high low : ℤ) → IsValidStream s → low ≤ℤ high → low_end s ≤ℤ low
    → high ≤ℤ high_end s → IsLength (high -ℤ low)
IsLength-covered s high low valid order from upto =
    let range = range-length s valid in
    omega (arith, ints)

-- one summand of the heat of a piece is 0, but both together are little already
piece_heat-between : (high low : ℤ) (s : Stream) → IsValidStream s → IsLength (high -ℤ low)
    → IsHeat (piece_heat high low s)
piece_heat-between high low s valid length =
    let product = heat-between s (high -ℤ low) valid length in
    let load = load-between s valid.heat in
    omega (arith, ints)

IsBounded-stream : (high low : ℤ) (i : ℕ) (s : Stream) → IsHeat (piece_heat high low s)
    → IsBounded (stream_part high low i s)
IsBounded-stream high low i s heat =
    record {
      least = record { from = heat.from; upto = omega (arith, ints) };
      most = omega (arith, ints);
      price = omega (arith, ints);
      free = λ j e. refl;
    }

IsBounded-utility : (i : ℕ) (u : Utility) → IsPlaced u → IsBounded (utility_part i u)
IsBounded-utility i u h = record { least = h.least; most = h.most; price = h.price; free = λ j e. absurd (cc) }

module _ (streams : List Stream) (utilities : List Utility) (side : Side) (places : List ℤ)
    (valid : All IsValidStream streams) (placed : All IsPlaced utilities)
    (holds : HoldsPlaces streams utilities places) where
  pub IsBounded-part : (p : Part) → IsPartOf streams utilities places side p → IsBounded p
  IsBounded-part p (inl (i, s, h)) =
      let own = All-contains IsValidStream streams s valid
      (i, slice_get_within streams i s h.stream, get_or_from_slice_get streams i s s h.stream) in
      let length = IsLength-covered s p.high p.low own (order h.piece) h.from h.upto in
      subst IsBounded (sym h.is) (IsBounded-stream p.high p.low i s (piece_heat-between p.high p.low s own length))
    where
      order : IsPiece places s p.high p.low → p.low ≤ℤ p.high
      order (inl interval) =
          let falls = interval_falls places p.high p.low holds.falls interval in
          omega (arith, ints)
      order (inr (latent, same)) = omega (arith, ints)
  IsBounded-part p (inr (i, u, h)) =
      let own = All-contains IsPlaced utilities u placed
      (i, slice_get_within utilities i u h.utility, get_or_from_slice_get utilities i u u h.utility) in
      subst IsBounded (sym h.is) (IsBounded-utility i u own)

-- what a list of parts that was made for a side is
pub record IsSide (streams : List Stream) (utilities : List Utility) (side : Side) (places : List ℤ)
    (parts : List Part) : Type 0 where
  pub are_parts : AreParts streams utilities places side parts
  pub few : length parts ≤ MOST_PARTS
  pub bounded : All IsBounded parts

pub IsSide-made : (streams : List Stream) (utilities : List Utility) (side : Side) (places : List ℤ) (parts : List Part)
    → AreStreams streams
    → All IsPlaced utilities → length utilities ≤ ALL_UTILITIES → HoldsPlaces streams utilities places
    → length places ≤ MOST_PLACES
    → parts ≡ made_parts streams utilities side places → IsSide streams utilities side places parts
IsSide-made streams utilities side places parts are_streams placed few_utilities holds few_places is =
    let made = made_parts-AreParts streams utilities side places holds in
    subst (IsSide streams utilities side places) (sym is) (record {
      are_parts = made;
      few = length-made-few streams utilities side places holds are_streams few_utilities few_places;
      bounded =
          let bounded = IsBounded-part streams utilities side places are_streams.each placed holds in
          All-weaker (IsPartOf streams utilities places side) IsBounded bounded
          (made_parts streams utilities side places) made.each;
    })
