-- The rows of a text.
use Rattle.std.specs.Prelude.{ℕ, List}
use Rattle.csv.specs.Reading.{default_config, records, strip_bom}

-- a row is the list of its fields, and a field the list of its bytes
abbrev pub Row : Type 0
Row = List (List ℕ)

-- the rows of a text are the records that csv gives for the bytes behind one byte order mark
unfoldable pub rows_of : List ℕ → List Row
rows_of bytes = records default_config (strip_bom bytes)
