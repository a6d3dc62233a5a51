-- The offer of a cut of the parts of a case, with the forbidden matches of one part at a time.
use Rattle.std.specs.Prelude.{◌≡◌, ℕ, Bool, false, not, ◌&&◌, List, Option, Some, None, slice_get}
use Rattle.stream_case.specs.declared.source.Side.{Side}
use Rattle.stream_case.specs.declared.source.Side.TheVariants.{Hot, Cold}
use Rattle.stream_case.specs.declared.source.Source.{Source}
use Rattle.stream_case.specs.declared.case.Forbid.{Forbid}
use Rattle.stream_case.specs.Case.{is_forbidden}
use Rattle.stream_case.specs.Source.{same_source}
use Rattle.grid.specs.declared.part.Part.{Part}
use Rattle.heat_flow.specs.Reach.{passes_heat}

-- the forbidden match is one of this source, which is of this side
abbrev pub names : Side → Source → Forbid → Bool
names Hot source f = same_source f.hot source
names Cold source f = same_source f.cold source

-- the match of this source, which is of this side, with another one is forbidden
abbrev pub refuses : Side → List Forbid → Source → Source → Bool
refuses Hot forbids source other = is_forbidden forbids source other
refuses Cold forbids source other = is_forbidden forbids other source

-- both lists forbid the same matches of this source
abbrev pub ForbidAlike : Side → Source → List Forbid → List Forbid → Type 0
ForbidAlike side source forbids others =
    (other : Source) → refuses side forbids source other ≡ refuses side others source other

-- hot part p reaches cold part q, where these matches are forbidden
abbrev pub both_pass : List Forbid → Option Part → Option Part → Bool
both_pass forbids None q = false
both_pass forbids (Some p) None = false
both_pass forbids (Some p) (Some q) = passes_heat p q && not (is_forbidden forbids p.source q.source)

-- the hot part at index a reaches the cold part at index b, where these matches are forbidden
abbrev pub reach_unless : List Forbid → List Part → List Part → ℕ → ℕ → Bool
reach_unless forbids hot cold a b = both_pass forbids (slice_get hot a) (slice_get cold b)
