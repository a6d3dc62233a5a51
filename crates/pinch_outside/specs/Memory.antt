-- A shelf in memory: its files, and where it stands in them.
use Rattle.std.specs.Prelude.{ℕ, Bool, List, [], map, drop, position, slice_get, Option, Some, string_bytes}
use Rattle.std.specs.Option.{option_map, option_map_or, option_and_then}
use Rattle.std.specs.Str.{bytes_eq}
use Rattle.pinch_outside.specs.declared.memory_shelf.MemoryFile.{MemoryFile}
use Rattle.pinch_outside.specs.Shelf.{NamedFile, ShelfState}
use Rattle.pinch_outside.specs.declared.memory_shelf.MemoryShelf.{MemoryShelf}

-- the files by their names and bytes
abbrev pub named_files : List MemoryFile → List NamedFile
named_files files = map (λ file. record { name = string_bytes file.name; bytes = file.bytes.items }) files

-- whether a file has that name
abbrev pub has_name : List ℕ → MemoryFile → Bool
has_name name file = bytes_eq (string_bytes file.name) name

-- the index of the first file of that name
abbrev pub index_of : List ℕ → List MemoryFile → Option ℕ
index_of name files = position (has_name name) files

-- the file at an index
abbrev pub file_at : List MemoryFile → Option ℕ → Option MemoryFile
file_at files at = option_and_then (slice_get files) at

-- the name of the file at an index
abbrev pub name_at : List MemoryFile → Option ℕ → Option (List ℕ)
name_at files at = option_map (λ file. string_bytes file.name) (file_at files at)

-- the bytes of the file at an index, without the first of them, `pos` many
abbrev pub bytes_from : List MemoryFile → Option ℕ → ℕ → List ℕ
bytes_from files at pos = drop pos (option_map_or (λ file. file.bytes.items) (file_at files at) [])

-- what a shelf in memory tells: everything
abbrev pub memory_state : MemoryShelf → ShelfState
memory_state shelf =
    record {
      files = Some (named_files shelf.files.items);
      left = Some (bytes_from shelf.files.items shelf.at shelf.pos);
      asked = name_at shelf.files.items shelf.at;
      taken = shelf.pos;
      begun = shelf.begun;
      failed = shelf.failed;
      ended = shelf.ended;
      faults = shelf.faults;
    }
