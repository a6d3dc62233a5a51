-- The first file of a name, by its index.
use Rattle.pinch_outside.specs.Memory.{bytes_from, has_name, index_of, name_at, named_files}
use Rattle.pinch_outside.specs.Shelf.{asked_for, find_file}
use Rattle.pinch_outside.specs.declared.memory_shelf.MemoryFile.{MemoryFile}
use Rattle.std.proofs.Common.{List, MatchOption, None, Option, Some, [], ap, arith, cond, drop, false, inl, inr, is_some, length, length-append, length-drop}
use Rattle.std.proofs.Common.{length-take, min, refl, slice_get, string_bytes, subst, suc, sym, take, take-append-drop, true, zero-add, ℕ, ◌++◌, ◌+◌, ◌<◌, ◌↔◌}
use Rattle.std.proofs.Common.{◌∙◌, ◌∷◌, ◌≡◌}
use Rattle.std.proofs.lemmas.Bool.{cases_Bool}
use Rattle.std.proofs.lemmas.Iterator.Adapters.{position_from-zero}
use Rattle.std.proofs.lemmas.List.{drop-drop, nil_from_length, take_at}
use Rattle.std.proofs.lemmas.Slice.Eq.{bytes_eq-Decides}
use Rattle.std.specs.List.{position_from}

-- the file at index k, where the first of the list has index i, is the first of that name
pub record Found (name : List ℕ) (files : List MemoryFile) (i k : ℕ) : Type 0 where
  pub file : MemoryFile
  pub index : ℕ
  pub at : k ≡ i + index
  pub there : slice_get files index ≡ Some file
  pub first : find_file name (named_files files) ≡ Some file.bytes.items
  pub named : string_bytes file.name ≡ name

-- a search that answered so found the first file of that name, or there is none
abbrev pub Looked : List ℕ → List MemoryFile → ℕ → Option ℕ → Type 0
Looked name files i r = MatchOption r (find_file name (named_files files) ≡ None) (λ k. Found name files i k)

later : (name : List ℕ) (file : MemoryFile) (files : List MemoryFile) (i : ℕ) (r : Option ℕ)
    → has_name name file ≡ false → Looked name files (i + 1) r
    → Looked name (file ∷ files) i r
later name file files i None other missing = rw other missing
later name file files i (Some k) other found =
    record { file = found.file; index = suc found.index; at = omega (arith, found.at); there = found.there; first = rw other found.first; named = found.named }

looked : (name : List ℕ) (files : List MemoryFile) (i : ℕ) → Looked name files i (position_from (has_name name) i files)
looked name [] i = refl
looked name (file ∷ files) i = elim (cases_Bool (has_name name file)) [
  | inl same ↦
      rw same
      (record { file = file; index = 0; at = omega arith; there = refl; first = rw same; named = (bytes_eq-Decides (string_bytes file.name) name).0 same })
  | inr other ↦
      let rest = position_from (has_name name) (i + 1) files in
      subst (λ b. Looked name (file ∷ files) i (cond b (Some i) rest)) (sym other) (later name file files i rest other (looked name files (i + 1)))
]

pub looked_first : (name : List ℕ) (files : List MemoryFile) → Looked name files 0 (index_of name files)
looked_first name files = rw position_from-zero (looked name files 0)

asked_at : (name : List ℕ) (files : List MemoryFile) (r : Option ℕ) → Looked name files 0 r
    → name_at files r ≡ asked_for name (Some (named_files files))
asked_at name files None missing = rw missing
asked_at name files (Some k) found =
    let here : slice_get files k ≡ Some found.file
    = ap (slice_get files) (found.at ∙ zero-add found.index) ∙ found.there in
    rw (here, found.first, found.named)

-- a start asks for the name if a file has it
pub asked_first : (name : List ℕ) (files : List MemoryFile) (r : Option ℕ) → r ≡ index_of name files
    → name_at files r ≡ asked_for name (Some (named_files files))
asked_first name files r is = asked_at name files r (rw is (looked_first name files))

left_at : (name : List ℕ) (files : List MemoryFile) (r : Option ℕ) → Looked name files 0 r → is_some r ≡ true
    → find_file name (named_files files) ≡ Some (bytes_from files r 0)
left_at name files None missing some = cc
left_at name files (Some k) found some =
    let here : slice_get files k ≡ Some found.file
    = ap (slice_get files) (found.at ∙ zero-add found.index) ∙ found.there in
    rw here found.first

-- and then has the bytes of the first file of the name to come
pub left_first : (name : List ℕ) (files : List MemoryFile) (r : Option ℕ) → r ≡ index_of name files → is_some r ≡ true
    → find_file name (named_files files) ≡ Some (bytes_from files r 0)
left_first name files r is some = left_at name files r (rw is (looked_first name files)) some

-- a take of n bytes into a buffer puts the front of those to come
pub took : (xs buf new : List ℕ) (pos n : ℕ) → n ≡ min (length buf) (length (drop pos xs)) → new ≡ take n (drop pos xs)
    → (drop pos xs ≡ take n (new ++ drop n buf) ++ drop (pos + n) xs) × (n ≡ 0 → 0 < length (new ++ drop n buf) → drop (pos + n) xs ≡ [])
took xs buf new pos n count copied =
    let size : length new ≡ n = omega (arith, ap length copied, length-take n (drop pos xs)) in
    let front : take n (new ++ drop n buf) ≡ take n (drop pos xs) = take_at new (drop n buf) n size ∙ copied in
    let rest : drop (pos + n) xs ≡ drop n (drop pos xs) = sym (drop-drop n pos xs) in (
      rw (front, rest) (sym (take-append-drop n (drop pos xs))),
      λ none some. nil_from_length (drop (pos + n) xs)
          (omega (arith, length-append new (drop n buf), length-drop n buf, length-drop (pos + n) xs, length-drop pos xs)),
    )

-- into a buffer with room it puts none exactly where none was to come
pub took_none : (xs buf new : List ℕ) (pos n : ℕ) → n ≡ min (length buf) (length (drop pos xs))
    → new ≡ take n (drop pos xs)
    → 0 < length (new ++ drop n buf) → (n ≡ 0) ↔ (drop pos xs ≡ [])
took_none xs buf new pos n count copied some =
    let size : length new ≡ n = omega (arith, ap length copied, length-take n (drop pos xs)) in
    let room : 0 < length buf = omega (arith, length-append new (drop n buf), length-drop n buf) in (
      λ none. nil_from_length (drop pos xs) (omega arith),
      λ empty. omega (arith, ap length empty),
    )
