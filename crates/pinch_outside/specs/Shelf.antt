-- A shelf of files: what it tells, and what a call does to it.
use Rattle.std.specs.Prelude.{◌≡◌, ℕ, ◌+◌, ◌<◌, ◌≤◌, ◌↔◌, Bool, true, false, ◌&&◌, nat_eq, nat_lt, List, [], ◌∷◌, length, ⊤, Option, Some, None, Result, Ok, Err, is_some, is_ok, is_err, IfOk, OnOk, if◌then◌else◌}
use Rattle.std.specs.Io.{ReadsAtMost}
use Rattle.std.specs.Io.KnownBytes.{ReadConsumes}
use Rattle.std.specs.Str.{bytes_eq}
use Rattle.pinch_outside.specs.Faults.{Rose, HasCause}
use Rattle.pinch_outside.specs.declared.limits.TheConstants.{MAX_FILE}

-- a file by its name and its bytes
pub record NamedFile : Type 0 where
  pub name : List ℕ
  pub bytes : List ℕ

-- what a shelf tells
pub record ShelfState : Type 0 where
  -- all the files, where they are known
  pub files : Option (List NamedFile)
  -- the bytes that are still to come, where they are known
  pub left : Option (List ℕ)
  -- the name of the last start, if the files are known and one has it
  pub asked : Option (List ℕ)
  -- how many bytes were taken since the last start
  pub taken : ℕ
  -- whether the last start answered `Ok`
  pub begun : Bool
  -- whether the last call answered `Err`
  pub failed : Bool
  -- whether the last call was a take into a buffer with room that met the end of the file
  pub ended : Bool
  -- how often a call was refused
  pub faults : ℕ

-- the files, the bytes to come and the name asked for are told together
pub record IsToldTogether (state : ShelfState) : Type 0 where
  pub left : is_some state.left ≡ is_some state.files
  pub asked : state.files ≡ None → state.asked ≡ None

-- the bytes of the first file of that name
abbrev pub find_file : List ℕ → List NamedFile → Option (List ℕ)
find_file name [] = None
find_file name (file ∷ files) = if bytes_eq file.name name then Some file.bytes else find_file name files

-- the name that a start asks for, where a file has it; none where no file has it or where the files are not told
abbrev pub asked_for : List ℕ → Option (List NamedFile) → Option (List ℕ)
asked_for name None = None
asked_for name (Some files) = if is_some (find_file name files) then Some name else None

-- these are the bytes of the first file of that name, where the files are told
abbrev pub IsFile : Option (List NamedFile) → List ℕ → Option (List ℕ) → Type 0
IsFile None name bytes = ⊤
IsFile (Some files) name None = ⊥
IsFile (Some files) name (Some bytes) = find_file name files ≡ Some bytes

-- the first file of that name has more bytes than so many, where the files are told
abbrev pub IsFileAbove : Option (List NamedFile) → List ℕ → ℕ → Type 0
IsFileAbove None name most = ⊤
IsFileAbove (Some files) name most = (bytes : List ℕ) × (find_file name files ≡ Some bytes) × (most < length bytes)

-- how many bytes a take put
abbrev pub put_count : {E : Type 0} → Result ℕ E → ℕ
put_count (Ok n) = n
put_count (Err e) = 0

-- a take into room for so many bytes met the end of the file
abbrev pub met_end : {E : Type 0} → Result ℕ E → ℕ → Bool
met_end (Ok n) room = nat_eq n 0 && nat_lt 0 room
met_end (Err e) room = false

-- into a buffer with room no byte is put exactly where none was to come, where the bytes to come are told
abbrev pub PutsNoneAtEnd : {E : Type 0} → Option (List ℕ) → Result ℕ E → List ℕ → Type 0
PutsNoneAtEnd None result buf = ⊤
PutsNoneAtEnd (Some left) result buf = 0 < length buf → IfOk result (λ n. (n ≡ 0) ↔ (left ≡ []))

-- a start of the file of that name
pub record Starts {T E : Type 0} (name : List ℕ) (old new : ShelfState) (result : Result T E) : Type 0 where
  pub files : new.files ≡ old.files
  pub left : OnOk result (IsFile old.files name new.left)
  pub asked : new.asked ≡ asked_for name old.files
  pub taken : new.taken ≡ 0
  pub begun : new.begun ≡ is_ok result
  pub failed : new.failed ≡ is_err result
  pub ended : new.ended ≡ false
  pub cause : HasCause old.faults new.faults result

-- a take that leaves a buffer so
pub record Takes {E : Type 0} (old new : ShelfState) (buf : List ℕ) (result : Result ℕ E) : Type 0 where
  pub bound : ReadsAtMost result buf
  pub files : new.files ≡ old.files
  pub left : ReadConsumes old.left new.left result buf
  pub end : PutsNoneAtEnd old.left result buf
  pub asked : new.asked ≡ old.asked
  pub taken : new.taken ≡ old.taken + put_count result
  pub begun : new.begun ≡ old.begun
  pub failed : new.failed ≡ is_err result
  pub ended : new.ended ≡ met_end result (length buf)
  pub cause : HasCause old.faults new.faults result

-- what stays, and what only grows, over calls of a shelf
pub record KeepsFiles (old new : ShelfState) : Type 0 where
  pub files : new.files ≡ old.files
  pub later : old.faults ≤ new.faults

-- the file of that name was taken to its end
pub record IsWhole (name : List ℕ) (old new : ShelfState) (bytes : List ℕ) : Type 0 where
  pub file : IsFile old.files name (Some bytes)
  pub count : length bytes ≡ new.taken
  pub within : length bytes ≤ MAX_FILE
  pub failed : new.failed ≡ false
  pub ended : new.ended ≡ true

-- the file of that name is longer than the limit, of which one byte more was taken
pub record IsTooLong (name : List ℕ) (old new : ShelfState) : Type 0 where
  pub taken : new.taken ≡ MAX_FILE + 1
  pub file : IsFileAbove old.files name MAX_FILE

-- the last call, on the file of that name, was refused
pub record HasFailed (name : List ℕ) (old new : ShelfState) : Type 0 where
  pub rose : Rose old.faults new.faults
  pub within : new.taken ≤ MAX_FILE
  pub failed : new.failed ≡ true
  pub asked : new.asked ≡ asked_for name old.files
