-- The parts of a side of a standard case.
use Rattle.corner_flow.proofs.StandardLemmas.{cold_target-lowest_end, end_of, end_on_grid, grid_is_ends, grid_within, stream_end_on_grid}
use Rattle.corner_flow.proofs.Words.{All-slice_get, AllPairs, AreCaseParts, AreParts, Case, Cold, Contains, HasValidStreams, HasValidStreams-IsComplete}
use Rattle.corner_flow.proofs.Words.{HoldsPlaces, Hot, IsBounded, IsBounded-part, IsComplete, IsGrid, IsInterval, IsOutside, IsPartOf, IsPiece}
use Rattle.corner_flow.proofs.Words.{IsPlaced-IsComplete, IsStandard, MOST_HEAT, Part, Side, Some, Stream, both_ways, cases_eq, cases_order, cold_target}
use Rattle.corner_flow.proofs.Words.{comes_before, deficit_from, each_side, get_or_from_slice_get, heat_over, high_end, hot_target, int_sum_by, interval_below}
use Rattle.corner_flow.proofs.Words.{interval_ends, interval_falls, ints, is_stream, level-latent, low_end, one_utility, own_utility, part_over, parts_of, pos}
use Rattle.corner_flow.proofs.Words.{same_Some, shifted_level-standard, slice_get, slice_get-get_or, slice_get_within, some_utility, standard_side}
use Rattle.corner_flow.proofs.Words.{standard_utility, stream_ends, sum-part_over, sum_side, sum_utilities, utility_part, ℤ, ◌+ℤ◌, ◌-ℤ◌, ◌<ℤ◌, ◌≤ℤ◌}
use Rattle.grid.proofs.MakingLemmas.{AreParts-made, HoldsPlaces-IsGrid, holds_ends}
use Rattle.std.proofs.Common.{Bool, List, ap, ap₂, arith, false, inl, inr, refl, subst, subst₂, sym, true, ℕ, ⊎_elim, ◌<◌, ◌∙◌, ◌≡◌, ◌≤◌, ◌⊎◌}

-- ---- one part

-- a stream with one heat
pub record IsStreamHere (p : Part) : Type 0 where
  pub source_is : is_stream p.source ≡ true
  pub fixed : p.least ≡ p.most
  pub price : p.price ≡ pos 0

-- the price of the standard utility of a side
abbrev pub unit_price : Side → ℤ
unit_price Hot = pos 1
unit_price Cold = pos 0

-- the standard utility of this side
pub record IsUtilityHere (c : Case) (side : Side) (p : Part) : Type 0 where
  pub source_is : is_stream p.source ≡ false
  pub high : p.high ≡ end_of c side
  pub low : p.low ≡ end_of c side
  pub least : p.least ≡ pos 0
  pub most : p.most ≡ MOST_HEAT
  pub price : p.price ≡ unit_price side

-- a part at a place of the grid, or on an interval of it
abbrev pub StandsOn : List ℤ → Part → Type 0
StandsOn grid p = ((p.high ≡ p.low) × Contains grid p.high) ⊎ IsInterval grid p.high p.low

-- a part between the ends of the grid, of one of the two kinds
pub record IsStandardPart (c : Case) (grid : List ℤ) (side : Side) (p : Part) : Type 0 where
  pub bounded : IsBounded p
  pub from : end_of c Cold ≤ℤ p.low
  pub falls : p.low ≤ℤ p.high
  pub upto : p.high ≤ℤ end_of c Hot
  pub ends : StandsOn grid p
  pub kind : IsStreamHere p ⊎ IsUtilityHere c side p

-- ---- a side

-- what the proofs use of the parts of a side
pub record IsStandardSide (c : Case) (grid : List ℤ) (side : Side) (parts : List Part) : Type 0 where
  pub each : (a : ℕ) (p : Part) → slice_get parts a ≡ Some p → IsStandardPart c grid side p
  pub falls : (a b : ℕ) (p q : Part) → slice_get parts a ≡ Some p → slice_get parts b ≡ Some q → a ≤ b
      → (q.high ≤ℤ p.high) × (q.low ≤ℤ p.low)
  pub sum : (from_itself : Bool) (at each : ℤ) → Contains grid at
      → int_sum_by (part_over from_itself at each) parts ≡ each +ℤ sum_side side (heat_over from_itself at) c.streams
  pub utility : ℕ
  pub only : (a : ℕ) (p : Part) → slice_get parts a ≡ Some p → is_stream p.source ≡ false → a ≡ utility

-- what they use of a standard case with its parts
pub record AreStandardParts (c : Case) (hot cold : List Part) : Type 0 where
  pub valid : HasValidStreams c.streams
  pub standard : IsStandard c
  pub grid : List ℤ
  pub grid_falls : AllPairs (λ a b. b <ℤ a) grid
  pub grid_end : (x : ℤ) → Contains grid x → Contains (stream_ends c.streams) x
  pub stream_end : (x : ℤ) → Contains (stream_ends c.streams) x → Contains grid x
  pub within : (side : Side) (x : ℤ) → Contains grid x → IsOutside side (end_of c side) x
  pub ends : (side : Side) → Contains grid (end_of c side)
  pub lowest : cold_target c.streams ≡ hot_target c.streams -ℤ deficit_from c.streams (end_of c Cold)
  pub sides : (side : Side) → IsStandardSide c grid side (parts_of side hot cold)

-- ---- they are so

IsUtilityHere-standard : (c : Case) (side : Side) (i : ℕ)
    → IsUtilityHere c side (utility_part i (standard_utility side c))
IsUtilityHere-standard c Hot i =
    record { source_is = refl; high = shifted_level-standard Hot c; low = shifted_level-standard Hot c; least = refl; most = refl; price = refl }
IsUtilityHere-standard c Cold i =
    record { source_is = refl; high = shifted_level-standard Cold c; low = shifted_level-standard Cold c; least = refl; most = refl; price = refl }

-- a place that is below the high of a part is at most its low
pub low_reached : (grid : List ℤ) (p : Part) (x : ℤ) → AllPairs (λ a b. b <ℤ a) grid → StandsOn grid p
    → Contains grid x → x <ℤ p.high → x ≤ℤ p.low
low_reached grid p x falls (inl level) at less = let same = level.0 in omega (arith, ints)
low_reached grid p x falls (inr interval) at less = interval_below grid p.high p.low x falls interval at less

-- both ends are places
pub ends_on : (grid : List ℤ) (p : Part) → StandsOn grid p → Contains grid p.high × Contains grid p.low
ends_on grid p (inl level) = (level.1, subst (Contains grid) level.0 level.1)
ends_on grid p (inr interval) = interval_ends grid p.high p.low interval

in_order_of : (grid : List ℤ) (p q : Part) → AllPairs (λ a b. b <ℤ a) grid → StandsOn grid p
    → StandsOn grid q → q.low ≤ℤ q.high → comes_before p q
    → (q.high ≤ℤ p.high) × (q.low ≤ℤ p.low)
in_order_of grid p q falls on other order (inl h) =
    let low = low_reached grid p q.high falls on (ends_on grid q other).0 h in
    (omega (arith, ints), omega (arith, ints))
in_order_of grid p q falls on other order (inr (inl h)) = (omega (arith, ints, h.0), omega (arith, ints, h.1))
in_order_of grid p q falls on other order (inr (inr h)) = (omega (arith, ints, h.0), omega (arith, ints, h.1))

module _ (c : Case) (grid : List ℤ) (complete : IsComplete c) (standard : IsStandard c) (on_grid : IsGrid c grid) (side : Side) (parts : List Part)
    (are : AreParts c.streams c.utilities grid side parts) where
  valid : HasValidStreams c.streams
  valid = HasValidStreams-IsComplete c complete

  holds : HoldsPlaces c.streams c.utilities grid
  holds = HoldsPlaces-IsGrid c grid on_grid

  abbrev OnSide : Part → Type 0
  OnSide = IsPartOf c.streams c.utilities grid side

  on_side : (a : ℕ) (p : Part) → slice_get parts a ≡ Some p → OnSide p
  on_side a p at = subst OnSide (get_or_from_slice_get parts a p p at) (are.each a p (slice_get_within parts a p at))

  in_order : (a b : ℕ) (p q : Part) → slice_get parts a ≡ Some p → slice_get parts b ≡ Some q → a < b → comes_before p q
  in_order a b p q at other less =
      subst₂ comes_before (get_or_from_slice_get parts a p q at) (get_or_from_slice_get parts b q q other)
      (are.ordered a b q less (slice_get_within parts b q other))

  -- the part of the utility of the side
  own : Part
  own = utility_part (some_utility c standard side).0 (standard_utility side c)

  own-is : (p : Part) → OnSide p → is_stream p.source ≡ false → p ≡ own
  unfolding own
  own-is p (inl (i, s, h)) e = absurd (both_ways (is_stream p.source) e (ap (λ q. is_stream q.source) h.is))
  own-is p (inr (i, u, h)) e =
      let (j, at) = some_utility c standard side in
      let is : u ≡ standard_utility side c
      = own_utility c standard i u h.utility ∙ ap (λ s. standard_utility s c) h.side_is in
      h.is ∙ ap₂ utility_part (one_utility c standard i j u (standard_utility side c) h.utility at (ap (λ v. v.side) is)) is

  not_after : (p q : Part) → OnSide p → OnSide q → is_stream p.source ≡ false → is_stream q.source ≡ false
      → comes_before p q → ⊥
  unfolding own
  not_after p q h k e f before = never (subst₂ comes_before (own-is p h e) (own-is q k f) before)
    where
      never : comes_before own own → ⊥
      never (inl less) = omega (arith, ints)
      never (inr (inl less)) = omega (arith, ints, less.1)
      never (inr (inr less)) = omega (arith, less.2)

  kind : (p : Part) → OnSide p → IsStreamHere p ⊎ IsUtilityHere c side p
  unfolding own
  kind p (inl (i, s, h)) = inl
      (record { source_is = ap (λ q. is_stream q.source) h.is; fixed = ap (λ q. q.least) h.is ∙ sym (ap (λ q. q.most) h.is); price = ap (λ q. q.price) h.is })
  kind p (inr (i, u, h)) =
      inr (subst (IsUtilityHere c side) (sym (own-is p (inr (i, u, h)) (ap (λ q. is_stream q.source) h.is)))
      (IsUtilityHere-standard c side (some_utility c standard side).0))

  -- a part of a stream is on an interval, or at its level, and one of a utility at its own
  on_places : (p : Part) → OnSide p → StandsOn grid p
  on_places p (inl (i, s, h)) = of_piece h.piece
    where
      of_piece : IsPiece grid s p.high p.low → StandsOn grid p
      of_piece (inl interval) = inr interval
      of_piece (inr (latent, same)) =
          let held = All-slice_get (λ (x : Stream). Contains grid (high_end x) × Contains grid (low_end x)) c.streams i s
          (holds_ends c.streams c.utilities grid holds) h.stream in
          let level = level-latent s latent in
          let is : high_end s ≡ p.high = omega (arith, ints, h.from, h.upto) in
          inl (same, subst (Contains grid) is held.0)
  on_places p (inr h) = at_level (kind p (inr h))
    where
      at_level : IsStreamHere p ⊎ IsUtilityHere c side p → StandsOn grid p
      at_level (inl stream) =
          absurd (both_ways (is_stream p.source) (ap (λ q. is_stream q.source) h.2.is) stream.source_is)
      at_level (inr utility) =
          inl (utility.high ∙ sym utility.low, subst (Contains grid) (sym utility.high) (end_on_grid c grid valid standard on_grid side))

  order : (p : Part) → StandsOn grid p → p.low ≤ℤ p.high
  order p (inl level) = let same = level.0 in omega (arith, ints)
  order p (inr interval) =
      let falls = interval_falls grid p.high p.low on_grid.ordered interval in
      omega (arith, ints)

  -- the utility of the side is one of the parts
  own-at : (a : ℕ) × (slice_get parts a ≡ Some own)
  unfolding own
  own-at =
      let (i, at) = some_utility c standard side in
      let (a, within, is) = are.every (utility_part i (standard_utility side c))
      (inr (i, standard_utility side c, record { utility = at; side_is = standard_side side c; is = refl })) in
      (a, slice_get-get_or parts a (utility_part i (standard_utility side c)) within ∙ ap Some is)

  IsStandardSide-parts : IsStandardSide c grid side parts
  unfolding own
  IsStandardSide-parts =
      let (b, other) = own-at in
      record {
        each = λ a p at.
            let here = on_side a p at in
            let ends = ends_on grid p (on_places p here) in
            record {
              bounded =
                  IsBounded-part c.streams c.utilities side grid valid.are_streams.each (IsPlaced-IsComplete c complete) holds p here;
              from = grid_within c grid valid standard on_grid Cold p.low ends.1;
              falls = order p (on_places p here);
              upto = grid_within c grid valid standard on_grid Hot p.high ends.0;
              ends = on_places p here;
              kind = kind p here;
            };
        falls = λ a d p q at last le.
            let here = on_places p (on_side a p at) in
            let there = on_places q (on_side d q last) in
            ⊎_elim (λ e.
            let same = same_Some p q (sym at ∙ ap (slice_get parts) e ∙ last) in
            let high = ap (λ r. r.high) same in
            let low = ap (λ r. r.low) same in
            (omega (arith, ints), omega (arith, ints)))
            (λ differ. in_order_of grid p q on_grid.ordered here there (order q there) (in_order a d p q at last (omega (arith, differ)))) (cases_eq a d);
        sum = λ from_itself at each found.
            ap (int_sum_by (part_over from_itself at each))
            (AreParts-made c.streams c.utilities side grid parts holds are)
            ∙ sum-part_over c.streams c.utilities side grid from_itself at each valid.are_streams.each holds found
            ∙ ap (λ z. z +ℤ sum_side side (heat_over from_itself at) c.streams) (sum_utilities c standard side each);
        utility = b;
        only = λ a p at e.
            ⊎_elim (λ same. same) (⊎_elim (λ less. absurd (not_after p own (on_side a p at) (on_side b own other) e refl (in_order a b p own at other less)))
            (λ more. absurd (not_after own p (on_side b own other) (on_side a p at) refl e (in_order b a own p other at more)))) (cases_order a b);
      }

pub AreStandardParts-parts : {c : Case} {hot cold : List Part} → IsComplete c → IsStandard c
    → AreCaseParts c hot cold → AreStandardParts c hot cold
AreStandardParts-parts {c} {hot} {cold} complete standard parts =
    let valid = HasValidStreams-IsComplete c complete in
    record {
      valid = valid;
      standard = standard;
      grid = parts.grid;
      grid_falls = parts.is_grid.ordered;
      grid_end = grid_is_ends c parts.grid valid standard parts.is_grid;
      stream_end = stream_end_on_grid c parts.grid valid standard parts.is_grid;
      within = grid_within c parts.grid valid standard parts.is_grid;
      ends = end_on_grid c parts.grid valid standard parts.is_grid;
      lowest = cold_target-lowest_end c parts.grid valid standard parts.is_grid;
      sides = each_side (λ side. IsStandardSide c parts.grid side (parts_of side hot cold))
          (IsStandardSide-parts c parts.grid complete standard parts.is_grid Hot hot parts.hot_parts)
          (IsStandardSide-parts c parts.grid complete standard parts.is_grid Cold cold parts.cold_parts);
    }
