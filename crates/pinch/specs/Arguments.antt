-- The arguments of the program, and how it ends.
use Rattle.std.specs.Prelude.{◌≡◌, ℕ, List, [], map, drop, string_bytes, Option, Result, Ok, Err}
use Rattle.std.specs.Vec.Iter.{into_iter_items}
use Rattle.std.specs.declared.vec.IntoIter.{IntoIter}
use Rattle.std.specs.declared.string.String.{String}
use Rattle.pinch_outside.specs.Shelf.{ShelfState}
use Rattle.pinch.specs.Run.{Runs}
use Rattle.pinch.specs.declared.program.Done.{Done}

-- the words behind the first of the arguments, the program's name
abbrev pub words_behind_name : {Z : Type 0} → IntoIter (String Z) Z → List (List ℕ)
words_behind_name texts = map string_bytes (drop 1 (into_iter_items texts))

-- none where an argument is no text
abbrev pub words_of : {Z E : Type 0} → Result (IntoIter (String Z) Z) E → List (List ℕ)
words_of (Ok texts) = words_behind_name texts
words_of (Err e) = []

-- the program ran the words, with all that a run keeps, and ended with its status
pub record Ends {Sink : Type 0} (text_on : Sink → Option (List ℕ)) (faults_of : Sink → ℕ)
    (words : List (List ℕ)) (old new : ShelfState) (before now : Sink) (status : ℕ) : Type 0 where
  pub done : Done
  pub runs : Runs text_on faults_of words old new before now done
  pub is : status ≡ done.status
