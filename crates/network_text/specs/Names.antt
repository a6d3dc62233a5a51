-- Tests of names.
use Rattle.std.specs.Prelude.{ℕ, Bool, false, ◌==◌, ◌&&◌, ◌||◌, List, [], ◌∷◌}
use Rattle.stream_case.specs.Name.{is_name}

-- a name behind a `.` (46)
unfoldable pub is_dotted_name : List ℕ → Bool
is_dotted_name [] = false
is_dotted_name (b ∷ bs) = (b == 46) && is_name bs

-- what a branch may be called: a name or a dotted name
unfoldable pub is_branch_name : List ℕ → Bool
is_branch_name text = is_name text || is_dotted_name text
