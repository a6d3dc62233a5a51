-- Which parts reach which: heat passes downward or within an interval, unless the match is forbidden.
use Rattle.std.specs.Prelude.{ℕ, int_le, Bool, false, not, ◌&&◌, ◌||◌, List, Option, Some, None, slice_get}
use Rattle.std.specs.Ordering.{int_eq}
use Rattle.stream_case.specs.declared.case.Case.{Case}
use Rattle.stream_case.specs.Case.{is_forbidden}
use Rattle.grid.specs.declared.part.Part.{Part}

-- the hot part's low is at least the cold part's high, or both have the same high and the same low
abbrev pub passes_heat : Part → Part → Bool
passes_heat p q = int_le q.high p.low || (int_eq p.high q.high && int_eq p.low q.low)

-- hot part p reaches cold part q
abbrev pub part_reaches : Case → Part → Part → Bool
part_reaches c p q = passes_heat p q && not (is_forbidden c.forbids p.source q.source)

abbrev pub both_reach : Case → Option Part → Option Part → Bool
both_reach c None q = false
both_reach c (Some p) None = false
both_reach c (Some p) (Some q) = part_reaches c p q

-- the hot part at index a reaches the cold part at index b
abbrev pub reach_between : Case → List Part → List Part → ℕ → ℕ → Bool
reach_between c hot cold a b = both_reach c (slice_get hot a) (slice_get cold b)
