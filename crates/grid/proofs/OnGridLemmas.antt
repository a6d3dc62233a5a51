-- The parts of a case stand on its grid.
use Rattle.grid.proofs.MakingLemmas.{HoldsPlaces-IsGrid, holds_ends, holds_levels}
use Rattle.grid.proofs.Words.{All-slice_get, All-weaker, AreCaseParts, AreOnGrid, Case, Cold, Hot, IsGrid, IsInterval, IsOnPlaces, IsPartOf, IsPiece, Part}
use Rattle.grid.proofs.Words.{Side, Stream, Utility, high_end, ints, level-latent, low_end, shifted_level, side_of}
use Rattle.std.proofs.Common.{Contains, List, Some, ap, arith, inl, inr, option_map, subst, sym, ℤ, ◌∙◌, ◌≡◌, ◌⊎◌}

module _ (c : Case) (places : List ℤ) (side : Side) where
  -- the source of a part is one of its side
  pub side_of_part : (p : Part) → IsPartOf c.streams c.utilities places side p → side_of c p.source ≡ Some side
  side_of_part p (inl (i, s, h)) =
      ap (λ (q : Part). side_of c q.source) h.is ∙ ap (option_map (λ (r : Stream). r.side)) h.stream ∙ ap Some h.side_is
  side_of_part p (inr (i, u, h)) =
      ap (λ (q : Part). side_of c q.source) h.is ∙ ap (option_map (λ (v : Utility). v.side)) h.utility
      ∙ ap Some h.side_is

  part_on_places : IsGrid c places → (p : Part) → IsPartOf c.streams c.utilities places side p
      → IsOnPlaces c places side p
  part_on_places grid p (inl (i, s, h)) = record { source = side_of_part p (inl (i, s, h)); ends = ends_of h.piece }
    where
      ends_of : IsPiece places s p.high p.low
          → ((p.high ≡ p.low) × Contains places p.high) ⊎ IsInterval places p.high p.low
      ends_of (inl interval) = inr interval
      ends_of (inr (latent, same)) =
          let held_places = HoldsPlaces-IsGrid c places grid in
          let ends = holds_ends c.streams c.utilities places held_places in
          let held = (All-slice_get (λ (x : Stream).
          Contains places (high_end x) × Contains places (low_end x)) c.streams i s ends h.stream).0 in
          let level = level-latent s latent in
          let from = h.from in
          let upto = h.upto in
          let is : high_end s ≡ p.high = omega (arith, ints) in
          inl (same, subst (Contains places) is held)
  part_on_places grid p (inr (i, u, h)) =
      let high : p.high ≡ shifted_level u = ap (λ (q : Part). q.high) h.is in
      let low : p.low ≡ shifted_level u = ap (λ (q : Part). q.low) h.is in
      let level = All-slice_get (λ (v : Utility). Contains places (shifted_level v)) c.utilities i u
      (holds_levels c.streams c.utilities places (HoldsPlaces-IsGrid c places grid)) h.utility in
      record {
        source = side_of_part p (inr (i, u, h));
        ends = inl (high ∙ sym low, subst (Contains places) (sym high) level);
      }

pub parts_on_grid : (c : Case) (hot cold : List Part) → AreCaseParts c hot cold → AreOnGrid c hot cold
parts_on_grid c hot cold h = record {
  grid = h.grid;
  is_grid = h.is_grid;
  hot_parts =
      let on_places = part_on_places c h.grid Hot h.is_grid in
      All-weaker (IsPartOf c.streams c.utilities h.grid Hot) (IsOnPlaces c h.grid Hot) on_places hot h.hot_parts.each;
  cold_parts =
      let on_places = part_on_places c h.grid Cold h.is_grid in
      All-weaker (IsPartOf c.streams c.utilities h.grid Cold)
      (IsOnPlaces c h.grid Cold) on_places cold h.cold_parts.each;
}
