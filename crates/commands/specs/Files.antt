-- What becomes of files that are read.
use Rattle.std.specs.Prelude.{◌≡◌, ◌⊎◌, ℕ, List, Result, Ok, Err}
use Rattle.pinch_outside.specs.Shelf.{ShelfState, KeepsFiles, IsWhole, IsTooLong, HasFailed}
use Rattle.stream_case.specs.Case.{completed}
use Rattle.stream_case.specs.declared.case.Case.{Case}
use Rattle.reports.specs.declared.shown.FileRole.{FileRole}
use Rattle.reports.specs.declared.shown.Shown.{Shown}
use Rattle.reports.specs.declared.shown.Shown.TheVariants.{ReadFault, TooLong}
use Rattle.commands.specs.Formats.{Format, case_file}
use Rattle.commands.specs.Reading.{Reading, ready, stop, wanted, file}
use Rattle.commands.specs.declared.request.Request.{Request}

-- the file of that role and name was not taken, which is shown
pub data NoFile (role : FileRole) (name : List ℕ) (old new : ShelfState) (shown : Shown) : Type 0 where
  failed : HasFailed name old new → shown ≡ ReadFault role → NoFile role name old new shown
  too_long : IsTooLong name old new → shown ≡ TooLong role → NoFile role name old new shown

-- the file of that name was taken whole, and says this
pub record ReadsText {Value Cause : Type 0} (format : Format Value Cause) (name : List ℕ)
    (old new : ShelfState) (value : Value) : Type 0 where
  pub bytes : List ℕ
  pub whole : IsWhole name old new bytes
  pub keeps : KeepsFiles old new
  pub says : format.Gives bytes (Ok value)

-- the same of a case file, of whose case this is the completed one
pub record ReadsCompleted (name : List ℕ) (old new : ShelfState) (case : Case) : Type 0 where
  pub given : Case
  pub reads : ReadsText case_file name old new given
  pub is : case ≡ completed given

-- these bytes are at fault, which is shown
pub record IsRefused {Value Cause : Type 0} (format : Format Value Cause) (bytes : List ℕ)
    (shown : Shown) : Type 0 where
  pub at : ℕ
  pub why : Cause
  pub fault : format.Gives bytes (Err (at, why))
  pub is : shown ≡ format.bad at why

-- the file was not taken, or is refused, which is shown
pub data NoText {Value Cause : Type 0} (format : Format Value Cause) (name : List ℕ) (old new : ShelfState)
    (shown : Shown) : Type 0 where
  no_file : NoFile format.role name old new shown → NoText format name old new shown
  refused : (bytes : List ℕ) → IsWhole name old new bytes → IsRefused format bytes shown
      → NoText format name old new shown

-- its text is wanted; `work` tells what comes of what it says, from the state of the shelf after it was read
pub data FromText {Value Cause : Type 0} (format : Format Value Cause) (name : List ℕ) (old new : ShelfState)
    (end : Result Request Shown) (work : ShelfState → Value → Type 0) : Type 0 where
  no_text : (shown : Shown) → end ≡ Err shown → NoText format name old new shown → FromText format name old new end work
  by_text : (mid : ShelfState) (value : Value) → ReadsText format name old mid value → work mid value
      → FromText format name old new end work

-- reading ends with a request, or with something to show in its place
unfoldable pub EndsIn : Reading → ShelfState → ShelfState → Result Request Shown → Type 0
EndsIn (ready request) old new end = (end ≡ Ok request) × (new ≡ old)
EndsIn (stop shown) old new end = (end ≡ Err shown) × (new ≡ old)
EndsIn (wanted P refusal next) old new end =
    (P × EndsIn next old new end) ⊎ ((P → ⊥) × (end ≡ Err refusal) × (new ≡ old))
EndsIn (file format name next) old new end =
    FromText format name old new end (λ mid value. EndsIn (next value) mid new end)
