-- Views from places of the shifted scale, from the top down.
use Rattle.std.specs.Prelude.{◌≡◌, ◌⊎◌, ◌<ℤ◌, true, false}
use Rattle.network_values.specs.Heights.{View}

-- the second view sees more: it is from a lower place, or from the place itself
abbrev pub comes_below : View → View → Type 0
comes_below v w = (w.place <ℤ v.place) ⊎ ((w.place ≡ v.place) × (v.from_itself ≡ false) × (w.from_itself ≡ true))
