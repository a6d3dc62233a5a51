-- What the rows of a site file give, one after the other, and the site that is made of it.
use Rattle.std.specs.Prelude.{ℕ, ℤ, pos, List, [], ◌∷◌, ◌++◌, map, Option, Some, None, unwrap_or, if◌then◌else◌, codes}
use Rattle.std.specs.Str.{bytes_eq}
use Rattle.rows.specs.Rows.{Row}
use Rattle.stream_case.specs.Stream.{sensible_stream, stream_with}
use Rattle.stream_case.specs.declared.source.Side.{Side}
use Rattle.stream_case.specs.declared.source.Side.TheVariants as side
use Rattle.stream_case.specs.declared.stream.Stream.{Stream}
use Rattle.rows.specs.Fields.{field, is_passed_over, number}
use Rattle.site_text.specs.declared.site.Main.{Main}
use Rattle.site_text.specs.declared.site.Plant.{Plant}
use Rattle.site_text.specs.declared.site.Site.{Site}
use Rattle.site_text.specs.declared.entry.Entry.{Entry}
use Rattle.site_text.specs.declared.entry.Entry.TheVariants as entry
use Rattle.site_text.specs.declared.kind.Kind.{Kind}
use Rattle.site_text.specs.declared.kind.Kind.TheVariants as kind

-- the contribution, the plants with their streams, and the mains, each in the order of their rows; the streams have
-- the contribution 0
pub record Given : Type 0 where
  pub contribution : Option ℤ
  pub plants : List Plant
  pub mains : List Main

abbrev pub nothing : Given
nothing = record { contribution = None; plants = []; mains = [] }

-- ---- the site that is made of it

abbrev pub plant_with : ℤ → Plant → Plant
plant_with contribution plant = record { name = plant.name; streams = map (stream_with contribution) plant.streams }

-- each stream has the contribution
abbrev pub site_with : ℤ → Given → Site
site_with contribution given = record {
  contribution = contribution;
  plants = map (plant_with contribution) given.plants;
  mains = given.mains;
}

-- the site so far; its contribution is 0 where none was given yet
abbrev pub site_of : Given → Site
site_of given = site_with (unwrap_or given.contribution (pos 0)) given

-- ---- the kind of a row

abbrev pub kind_in : List ℕ → Option Kind
kind_in text =
    if bytes_eq text (codes "contribution") then Some kind.Contribution
    else if bytes_eq text (codes "plant") then Some kind.Plant
    else if bytes_eq text (codes "main") then Some kind.Main
    else if bytes_eq text (codes "hot") then Some (kind.Stream side.Hot)
    else if bytes_eq text (codes "cold") then Some (kind.Stream side.Cold)
    else None

-- a row is passed over, or its first field names its kind
unfoldable pub kind_of : Row → Option Kind
kind_of row = if is_passed_over row then Some kind.PassedOver else kind_in (field row 0)

-- ---- what a row gives

abbrev pub main_in : Row → Main
main_in row = record { name = field row 1; level = number row 2 }

abbrev pub stream_in : Side → Row → Stream
stream_in of row = sensible_stream (field row 1) of (number row 2) (number row 3) (number row 4) (pos 0)

abbrev pub entry_by : Option Kind → Row → Entry
entry_by None row = entry.Nothing
entry_by (Some kind.PassedOver) row = entry.Nothing
entry_by (Some kind.Contribution) row = entry.Contribution (number row 2)
entry_by (Some kind.Plant) row = entry.Plant (field row 1)
entry_by (Some kind.Main) row = entry.Main (main_in row)
entry_by (Some (kind.Stream of)) row = entry.Stream (stream_in of row)

abbrev pub entry_in : Row → Entry
entry_in row = entry_by (kind_of row) row

-- the last plant has the stream too
abbrev pub with_stream : Stream → List Plant → List Plant
with_stream s [] = []
with_stream s (plant ∷ []) = record { name = plant.name; streams = plant.streams ++ s ∷ [] } ∷ []
with_stream s (plant ∷ next ∷ plants) = plant ∷ with_stream s (next ∷ plants)

abbrev pub with_entry : Given → Entry → Given
with_entry given entry.Nothing = given
with_entry given (entry.Contribution n) = record given { contribution = Some n }
with_entry given (entry.Plant name) =
    record given { plants = given.plants ++ record { name = name; streams = [] } ∷ [] }
with_entry given (entry.Main main) = record given { mains = given.mains ++ main ∷ [] }
with_entry given (entry.Stream s) = record given { plants = with_stream s given.plants }

abbrev pub next : Given → Row → Given
next given row = with_entry given (entry_in row)
