-- The table that finds a part of a side by what a report names it by.
use Rattle.std.specs.Prelude.{◌≡◌, ℕ, ℤ, Bool, ◌&&◌, List, ◌++◌, Option, Some, None, if◌then◌else◌}
use Rattle.std.specs.Int.{cast_unsigned, to_le_bytes, w32}
use Rattle.std.specs.List.{flat_map}
use Rattle.std.specs.Option.{option_or}
use Rattle.std.specs.Ordering.{int_eq}
use Rattle.std.specs.Str.{bytes_eq}
use Rattle.indexmap.specs.IndexMap.{IndexMap, get}
use Rattle.stream_case.specs.declared.case.Case.{Case}
use Rattle.grid.specs.declared.part.Part.{Part}
use Rattle.certify.specs.Answers.{index_of, span_of}
use Rattle.certify.specs.declared.report.Span.{Span}

abbrev pub same_span : Span → Span → Bool
same_span s t = bytes_eq s.name t.name && (int_eq s.high t.high && int_eq s.low t.low)

-- ---- what the key of a table is drawn from

-- an end of a span as four bytes, the lowest first
abbrev pub bytes_of_end : ℤ → List ℕ
bytes_of_end e = to_le_bytes w32 (cast_unsigned w32 e)

abbrev pub bytes_of_span : Span → List ℕ
bytes_of_span s = s.name ++ bytes_of_end s.high ++ bytes_of_end s.low

-- the spans of parts, one behind the other
unfoldable pub bytes_of_parts : Case → List Part → List ℕ
bytes_of_parts c parts = flat_map (λ p. bytes_of_span (span_of c p)) parts

-- ---- the table

module _ {S : Type 0} where
  -- the index that a table has for a span
  abbrev pub index_in : IndexMap Span ℕ S → Span → Option ℕ
  index_in table s = get same_span table s

  -- a table has for each span the index of the part that the span names
  abbrev pub IsTableOf : Case → List Part → IndexMap Span ℕ S → Type 0
  IsTableOf c parts table = (s : Span) → index_in table s ≡ index_of c parts s

  -- a table with one span more, which keeps the index that it had if it was there
  abbrev pub IsWithSpan : Span → ℕ → IndexMap Span ℕ S → IndexMap Span ℕ S → Type 0
  IsWithSpan own index old new =
      (s : Span) → index_in new s ≡ option_or (index_in old s) (if same_span own s then Some index else None)
