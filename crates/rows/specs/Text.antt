-- The text of rows.
use Rattle.std.specs.Prelude.{ℕ, List, [], ◌∷◌, ◌++◌}
use Rattle.std.specs.List.{flat_map}
use Rattle.rows.specs.Rows.{Row}

-- the fields behind the first one, each behind a comma (44), and the line's end (10)
unfoldable pub fields_text : Row → List ℕ
fields_text [] = 10 ∷ []
fields_text (field ∷ fields) = 44 ∷ (field ++ fields_text fields)

-- a row as a line: its fields with commas between them, without quotes
abbrev pub row_text : Row → List ℕ
row_text [] = 10 ∷ []
row_text (field ∷ fields) = field ++ fields_text fields

-- rows as lines, one behind the other
abbrev pub rows_text : List Row → List ℕ
rows_text rows = flat_map row_text rows
