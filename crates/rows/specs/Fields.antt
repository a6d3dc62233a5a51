-- The fields of a row, and the numbers in them.
use Rattle.std.specs.Prelude.{ℕ, ℤ, pos, Bool, ◌==◌, ◌||◌, List, [], ◌∷◌, length, Option, Some, None, is_some, if◌then◌else◌, unwrap_or, slice_index, slice_index_or}
use Rattle.std.specs.List.{list_all}
use Rattle.rows.specs.Rows.{Row}
use Rattle.rows.specs.Numbers.{number_in}

-- the field at an index; there is nothing behind the last one
abbrev pub field : Row → ℕ → List ℕ
field row index = slice_index_or row index []

-- the fields at these indexes are empty
unfoldable pub are_empty : Row → List ℕ → Bool
are_empty row indexes = list_all (λ index. length (field row index) == 0) indexes

-- its fields, of which there are at most seven, are empty, or the first one begins with `#` (35)
unfoldable pub is_passed_over : Row → Bool
is_passed_over row = are_empty row (0 ∷ 1 ∷ 2 ∷ 3 ∷ 4 ∷ 5 ∷ 6 ∷ []) || (slice_index (field row 0) 0 == 35)

-- a field is a number text
unfoldable pub is_number : Row → ℕ → Bool
is_number row index = is_some (number_in (field row index))

-- the number in a field
unfoldable pub number : Row → ℕ → ℤ
number row index = unwrap_or (number_in (field row index)) (pos 0)

-- ---- numbers that may be left out

-- a field is empty
abbrev pub is_empty : Row → ℕ → Bool
is_empty row index = length (field row index) == 0

unfoldable pub is_number_or_empty : Row → ℕ → Bool
is_number_or_empty row index = is_empty row index || is_number row index

-- the number in a field, and none where it is empty
unfoldable pub optional_number : Row → ℕ → Option ℤ
optional_number row index = if is_empty row index then None else Some (number row index)
