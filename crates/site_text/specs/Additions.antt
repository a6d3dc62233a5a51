-- What the rows that were read keep, and what may be added to them.
use Rattle.std.specs.Prelude.{◌<◌, ◌≤◌, List, ⊤}
use Rattle.stream_case.specs.Stream.{count_on}
use Rattle.stream_case.specs.declared.source.Side.{Side}
use Rattle.site_text.specs.Site.{streams_of}
use Rattle.site_text.specs.declared.limits.TheConstants.{MOST_SIDE_STREAMS}
use Rattle.site_text.specs.declared.site.Plant.{Plant}
use Rattle.site_text.specs.Given.{Given}
use Rattle.site_text.specs.declared.entry.Entry.{Entry}
use Rattle.site_text.specs.declared.entry.Entry.TheVariants as entry

-- few enough streams that they are within the limits
abbrev pub HaveFewStreams : List Plant → Type 0
HaveFewStreams plants = (of : Side) → count_on of (streams_of plants) ≤ MOST_SIDE_STREAMS

-- the entry may be added: a stream is within the limits
abbrev pub IsFresh : Given → Entry → Type 0
IsFresh given entry.Nothing = Unit {0}
IsFresh given (entry.Contribution n) = Unit {0}
IsFresh given (entry.Plant name) = Unit {0}
IsFresh given (entry.Main main) = Unit {0}
IsFresh given (entry.Stream s) = count_on s.side (streams_of given.plants) < MOST_SIDE_STREAMS

-- an entry that is kept in a list, and so takes memory
abbrev pub TakesMemory : Entry → Type 0
TakesMemory entry.Nothing = ⊥
TakesMemory (entry.Contribution n) = ⊥
TakesMemory (entry.Plant name) = ⊤
TakesMemory (entry.Main main) = ⊤
TakesMemory (entry.Stream s) = ⊤
