-- When the answers come that are no result of a command.
use Rattle.std.specs.Prelude.{◌≡◌, ◌⊎◌, ◌+◌, ℕ, true, List}
use Rattle.pinch_outside.specs.Shelf.{ShelfState, HasFailed, IsTooLong}
use Rattle.pinch_outside.specs.declared.limits.TheConstants.{MAX_FILE}
use Rattle.commands.specs.Reading.{Reading, ready, stop, wanted, file}
use Rattle.commands.specs.Status.{status_of, IsAnswered}
use Rattle.reports.specs.declared.shown.FileRole.{FileRole}
use Rattle.reports.specs.declared.shown.Shown.{Shown}
use Rattle.reports.specs.declared.shown.Shown.TheVariants.{BadWords, ReadFault, TooLong}

-- a file of this role is to be read, of whose name this holds
abbrev pub ReadsFile : Reading → FileRole → (List ℕ → Type 0) → Type 0
ReadsFile (ready request) role P = ⊥
ReadsFile (stop shown) role P = ⊥
ReadsFile (wanted Q refusal next) role P = ReadsFile next role P
ReadsFile (file {Value} format name next) role P =
    ((role ≡ format.role) × P name) ⊎ ((value : Value) × ReadsFile (next value) role P)

-- when the answers come that are no result, where these files are to be read
pub record Causes (reading : Reading) (old new : ShelfState) (shown : Shown) : Type 0 where
  -- the words are not blamed
  pub words_stand : shown ≡ BadWords → ⊥
  -- a file is said to be too long exactly where one byte more than the limit was taken of it
  pub too_long : (role : FileRole) → shown ≡ TooLong role → ReadsFile reading role (λ name. IsTooLong name old new)
  pub over_limit : new.taken ≡ MAX_FILE + 1 → (role : FileRole) × (shown ≡ TooLong role)
  -- a read fault is told only where the last call of the shelf, on the file of that role, was refused
  pub read_fault : (role : FileRole) → shown ≡ ReadFault role → ReadsFile reading role (λ name. HasFailed name old new)
  -- where the command is answered, the last file was read to its end
  pub ended : IsAnswered (status_of shown) → new.ended ≡ true

-- the same for all readings. Where no file is to be read, the shelf stays as it is
unfoldable pub HasCause : Reading → ShelfState → ShelfState → Shown → Type 0
HasCause (ready request) old new shown = IsAnswered (status_of shown) × (new ≡ old)
HasCause (stop refusal) old new shown = (shown ≡ refusal) × (new ≡ old)
HasCause (wanted P refusal next) old new shown = HasCause next old new shown ⊎ ((shown ≡ refusal) × (new ≡ old))
HasCause (file format name next) old new shown = Causes (file format name next) old new shown
