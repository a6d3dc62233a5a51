-- The first line of a text.
use Rattle.statements.proofs.Positions.{is_some-position, none_any, position-some}
use Rattle.statements.proofs.Words.{is_newline, lines, lines_of_parts, nat_tests, position_or_len, slice_split, strip_carriage_return}
use Rattle.std.proofs.Common.{List, None, Some, [], ap, arith, drop, false, is_some, length, position, refl, sym, take, ℕ, ◌+◌, ◌<◌, ◌==◌, ◌∙◌, ◌∷◌, ◌≡◌}
use Rattle.std.proofs.lemmas.List.Splits.{length-slice_split, slice_split_first, slice_split_none}

-- a part before another is a line
pub before_more : (part : List ℕ) (parts : List (List ℕ)) → 0 < length parts
    → lines_of_parts (part ∷ parts) ≡ strip_carriage_return part ∷ lines_of_parts parts
before_more part [] some = absurd (omega (arith, some))
before_more part (next ∷ more) some = refl

pub first_of_more : (text : List ℕ) (n : ℕ) → position is_newline text ≡ Some n
    → lines text ≡ strip_carriage_return (take n text) ∷ lines (drop (n + 1) text)
first_of_more text n e =
    let at = position-some is_newline text n e in
    let cut = slice_split_first is_newline text 0 (omega (arith, at.index_is, at.within)) in
    let some : 0 < length (slice_split is_newline (drop (position_or_len is_newline text + 1) text)) = omega
    (arith, length-slice_split is_newline (drop (position_or_len is_newline text + 1) text)) in
    ap lines_of_parts cut ∙ before_more _ _ some
    ∙ ap (λ k. strip_carriage_return (take k text) ∷ lines (drop (k + 1) text)) at.index_is

-- a last line without an end
pub last_alone : (text : List ℕ) → 0 < length text → position is_newline text ≡ None → lines text ≡ text ∷ lines []
last_alone text some e =
    let none = none_any is_newline text (sym (is_some-position is_newline text) ∙ ap is_some e) in
    ap lines_of_parts (slice_split_none is_newline text none) ∙ alone text some
  where
    alone : (l : List ℕ) → 0 < length l → lines_of_parts (l ∷ []) ≡ l ∷ []
    alone l some =
        let other : (length l == 0) ≡ false = grind (arith, nat_tests, some) in
        rw other refl
