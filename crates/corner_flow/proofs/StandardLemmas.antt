-- The ends and the grid of a standard case.
use Rattle.corner_flow.proofs.Words.{All-contains, All-weaker, Case, Cold, Contains, Contains-append_cases, Contains-append_left, HasValidStreams, Hot, IsGrid}
use Rattle.corner_flow.proofs.Words.{IsOutermost, IsOutermost-outermost, IsOutside, IsStandard, Side, cold_target, deficit_from, deficit_from-lowest, each_end}
use Rattle.corner_flow.proofs.Words.{get_or-map, high_end, hot_target, ints, length-map, length-stream_ends, low_end, outermost, own_utility, places_of}
use Rattle.corner_flow.proofs.Words.{shifted_level, shifted_level-standard, slice_get-get_or, standard_utility, stream_ends, ℤ, ◌-ℤ◌, ◌≤ℤ◌}
use Rattle.std.proofs.Common.{List, ap, arith, get_or, length, map, subst, sym, ⊎_elim, ◌<◌, ◌∙◌, ◌≡◌}

-- the place of the utility of a side: the outermost stream end
abbrev pub end_of : Case → Side → ℤ
end_of c side = outermost side (stream_ends c.streams)

module _ (c : Case) (grid : List ℤ) (valid : HasValidStreams c.streams) (standard : IsStandard c) (on_grid : IsGrid c grid) where
  outer : (side : Side) → IsOutermost side (stream_ends c.streams) (end_of c side)
  outer side =
      IsOutermost-outermost side (stream_ends c.streams) (let some = valid.some in omega (arith, length-stream_ends c.streams))

  -- each place of the grid is a stream end
  pub grid_is_ends : (x : ℤ) → Contains grid x → Contains (stream_ends c.streams) x
  grid_is_ends x at = ⊎_elim (λ found. found) (λ (k, within, is).
      let inside : k < length c.utilities = rw length-map at within in
      let u = get_or c.utilities k (standard_utility Hot c) in
      let own = own_utility c standard k u (slice_get-get_or c.utilities k (standard_utility Hot c) inside) in
      let level : end_of c u.side ≡ x =
      sym (shifted_level-standard u.side c) ∙ sym (ap shifted_level own)
      ∙ sym (get_or-map shifted_level c.utilities k (standard_utility Hot c) x inside)
      ∙ is in
      subst (Contains (stream_ends c.streams)) level (outer u.side).member) (Contains-append_cases (stream_ends c.streams) (map shifted_level c.utilities) x
      (All-contains (Contains (places_of c.streams c.utilities)) grid x on_grid.each at))

  -- and lies between the outermost ones, which are on the grid
  pub grid_within : (side : Side) (x : ℤ) → Contains grid x → IsOutside side (end_of c side) x
  grid_within side x at =
      All-contains (IsOutside side (end_of c side)) (stream_ends c.streams) x (outer side).bound (grid_is_ends x at)

  pub stream_end_on_grid : (x : ℤ) → Contains (stream_ends c.streams) x → Contains grid x
  stream_end_on_grid x at =
      on_grid.every x (Contains-append_left (stream_ends c.streams) (map shifted_level c.utilities) x at)

  pub end_on_grid : (side : Side) → Contains grid (end_of c side)
  end_on_grid side = stream_end_on_grid (end_of c side) (outer side).member

  -- all heat lies from the lowest end on
  pub cold_target-lowest_end : cold_target c.streams ≡ hot_target c.streams -ℤ deficit_from c.streams (end_of c Cold)
  cold_target-lowest_end =
      let bottom = end_of c Cold in
      let ends = each_end (λ e. bottom ≤ℤ e) c.streams (outer Cold).bound in
      let lowest = deficit_from-lowest bottom c.streams valid.are_streams.each
      (All-weaker (λ s. (bottom ≤ℤ high_end s) × (bottom ≤ℤ low_end s)) (λ s. bottom ≤ℤ low_end s) (λ s h. h.1) c.streams ends) in
      omega (arith, ints)
