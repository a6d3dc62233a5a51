-- How a site is printed.
use Rattle.std.specs.Prelude.{List, [], ◌∷◌, ◌++◌, map, codes}
use Rattle.std.specs.Fmt.{signed_decimal}
use Rattle.std.specs.List.{flat_map}
use Rattle.rows.specs.Printed.{contribution_row, stream_row}
use Rattle.rows.specs.Rows.{Row}
use Rattle.site_text.specs.declared.site.Main.{Main}
use Rattle.site_text.specs.declared.site.Plant.{Plant}
use Rattle.site_text.specs.declared.site.Site.{Site}

abbrev pub main_row : Main → Row
main_row main = codes "main" ∷ main.name ∷ signed_decimal main.level ∷ [] ∷ [] ∷ [] ∷ [] ∷ []

abbrev pub plant_row : Plant → Row
plant_row plant = codes "plant" ∷ plant.name ∷ [] ∷ [] ∷ [] ∷ [] ∷ [] ∷ []

-- a plant and its streams
abbrev pub plant_rows : Plant → List Row
plant_rows plant = plant_row plant ∷ map (stream_row [] []) plant.streams

-- the contribution, the mains, and the plants with their streams, in their order
unfoldable pub printed_rows : Site → List Row
printed_rows site = contribution_row site.contribution ∷ (map main_row site.mains ++ flat_map plant_rows site.plants)
