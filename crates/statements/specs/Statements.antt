-- The statements of a text.
use Rattle.std.specs.Prelude.{◌≡◌, ℕ, ◌<◌, Bool, false, not, ◌==◌, ◌||◌, ◌&&◌, List, [], ◌∷◌, ◌++◌, All, length, filter, map, slice_index, slice_index_or}
use Rattle.std.specs.List.{slice_split}
use Rattle.std.specs.Str.Lines.{lines}

-- a statement is the list of its fields
abbrev pub Statement : Type 0
Statement = List (List ℕ)

-- the field at an index, from 0, where the word of the statement stands; there is nothing behind the last one
abbrev pub field : Statement → ℕ → List ℕ
field statement index = slice_index_or statement index []

-- `\n`
abbrev pub is_newline : ℕ → Bool
is_newline b = b == 10

-- a space or a tab
abbrev pub is_blank : ℕ → Bool
is_blank b = (b == 32) || (b == 9)

abbrev pub is_empty : List ℕ → Bool
is_empty text = length text == 0

-- the fields of a line are what stands between blanks
unfoldable pub fields_of : List ℕ → Statement
fields_of line = filter (λ part. not (is_empty part)) (slice_split is_blank line)

-- a line without fields, or whose first field begins with `#` (35), is passed over
unfoldable pub is_statement : Statement → Bool
is_statement fields = not (length fields == 0) && not (slice_index (field fields 0) 0 == 35)

-- the other lines are the statements. As for Rust's `lines`, a line ends with `\n`, one `\r` directly before it is
-- dropped, and the last line may lack its end
unfoldable pub statements_of : List ℕ → List Statement
statements_of bytes = filter is_statement (map fields_of (lines bytes))

-- the fields behind the first one, each behind a space (32), and the line's end (10)
unfoldable pub fields_text : List (List ℕ) → List ℕ
fields_text [] = 10 ∷ []
fields_text (field ∷ fields) = 32 ∷ (field ++ fields_text fields)

-- a statement as a line: its fields with single spaces between them
abbrev pub statement_text : Statement → List ℕ
statement_text [] = 10 ∷ []
statement_text (field ∷ fields) = field ++ fields_text fields

-- a byte that is neither a space nor a mark of a line's end
abbrev pub IsVisible : ℕ → Type 0
IsVisible b = 32 < b

-- a field that is printed
pub record IsPlainField (text : List ℕ) : Type 0 where
  pub some : 0 < length text
  pub visible : All IsVisible text

-- a statement of such fields, of which the first does not begin with `#`
pub record IsPlainStatement (s : Statement) : Type 0 where
  pub some : 0 < length s
  pub each : All IsPlainField s
  pub counts : (slice_index (field s 0) 0 == 35) ≡ false
