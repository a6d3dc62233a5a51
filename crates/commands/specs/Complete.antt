-- Which files answer a command, and which are refused.
use Rattle.std.specs.Prelude.{◌≡◌, ◌⊎◌, ◌≤◌, ℕ, List, length, ⊤, Option, Some, Ok}
use Rattle.pinch_outside.specs.Shelf.{NamedFile, find_file}
use Rattle.pinch_outside.specs.declared.limits.TheConstants.{MAX_FILE}
use Rattle.reports.specs.declared.shown.Shown.{Shown}
use Rattle.commands.specs.Files.{IsRefused}
use Rattle.commands.specs.Formats.{Format}
use Rattle.commands.specs.Reading.{Reading, ready, stop, wanted, file as reads}

-- the files are told, and the first of that name is within the limit, with these bytes
pub record Holds (files : Option (List NamedFile)) (name bytes : List ℕ) : Type 0 where
  pub told : List NamedFile
  pub are : files ≡ Some told
  pub found : find_file name told ≡ Some bytes
  pub within : length bytes ≤ MAX_FILE

-- it says something, of which this holds
pub record HoldsText {Value Cause : Type 0} (format : Format Value Cause) (files : Option (List NamedFile))
    (name : List ℕ) (P : Value → Type 0) : Type 0 where
  pub bytes : List ℕ
  pub file : Holds files name bytes
  pub value : Value
  pub says : format.Gives bytes (Ok value)
  pub then : P value

-- it is at fault, and this is shown
pub record HoldsFault {Value Cause : Type 0} (format : Format Value Cause) (files : Option (List NamedFile))
    (name : List ℕ) (shown : Shown) : Type 0 where
  pub bytes : List ℕ
  pub file : Holds files name bytes
  pub refused : IsRefused format bytes shown

-- the files that are to be read are there, and are what is wanted
unfoldable pub CanAnswer : Reading → Option (List NamedFile) → Type 0
CanAnswer (ready request) files = ⊤
CanAnswer (stop refusal) files = ⊥
CanAnswer (wanted P refusal next) files = P × CanAnswer next files
CanAnswer (reads format name next) files = HoldsText format files name (λ value. CanAnswer (next value) files)

-- a file that is to be read is there, those before it are what they should be, and its grammar refuses it, or what it says is not what is wanted,
-- which is to be shown
unfoldable pub HasBadFile : Reading → Option (List NamedFile) → Shown → Type 0
HasBadFile (ready request) files shown = ⊥
HasBadFile (stop refusal) files shown = ⊥
HasBadFile (wanted P refusal next) files shown = ((P → ⊥) × (shown ≡ refusal)) ⊎ (P × HasBadFile next files shown)
HasBadFile (reads format name next) files shown =
    HoldsFault format files name shown ⊎ HoldsText format files name (λ value. HasBadFile (next value) files shown)
