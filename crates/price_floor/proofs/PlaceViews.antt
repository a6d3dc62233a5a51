-- The views from the places of a grid.
use Rattle.std.specs.Prelude.{List, [], false, true, ℤ, ◌∷◌}
use Rattle.std.specs.List.{flat_map}
use Rattle.network_values.specs.Heights.{View}

-- above a place, and from the place itself
abbrev pub views_at : ℤ → List View
views_at place = record { place = place; from_itself = false } ∷ record { place = place; from_itself = true } ∷ []

abbrev pub views_of : List ℤ → List View
views_of places = flat_map views_at places
