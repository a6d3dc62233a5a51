-- The parts of a cut, from the nodes that a cut of the net holds.
use Rattle.std.specs.Prelude.{ℕ, suc, ◌+◌, Bool, not, ◌&&◌, ℤ, pos, ◌*ℤ◌, int_lt, List, [], ◌∷◌}
use Rattle.stream_case.specs.declared.limits.TheConstants.{MOST_HEAT, MOST_PARTS}
use Rattle.stream_case.specs.declared.source.Side.{Side}
use Rattle.stream_case.specs.Limits.{IsBetween}
use Rattle.sums.specs.Pairing.{cons_if}
use Rattle.grid.specs.declared.part.Part.{Part}
use Rattle.heat_flow.specs.declared.cut.CutKind.{CutKind}
use Rattle.heat_flow.specs.declared.cut.CutKind.TheVariants.{Demand, Supply}
use Rattle.heat_flow.specs.Cuts.{opposite, parts_of, need_of, offer_of, IsCut}
use Rattle.flow_net.specs.Net.{is_in}

-- a demand cut names cold parts whose nodes are not reached, a supply cut hot parts whose nodes are
abbrev pub is_picked : CutKind → Bool → Bool
is_picked Demand reached = not reached
is_picked Supply reached = reached

-- the indexes of the picked parts that have to have some heat, of parts of which the first has index n
abbrev pub needing_from : (ℕ → Bool) → ℕ → List Part → List ℕ
needing_from picked n [] = []
needing_from picked n (p ∷ parts) = cons_if (picked n && int_lt (pos 0) p.least) n (needing_from picked (suc n) parts)

-- of parts whose nodes begin with this one
abbrev pub members_of : CutKind → ℕ → List Bool → List Part → List ℕ
members_of kind first reached parts = needing_from (λ i. is_picked kind (is_in reached (first + i))) 0 parts

-- from 0 to the most that the parts of a side can exchange
abbrev pub IsSideHeat : ℤ → Type 0
IsSideHeat = IsBetween (pos 0) (pos MOST_PARTS *ℤ MOST_HEAT)

-- parts that are a cut, with a need and an offer within that
pub record IsCutWithin (side : Side) (reach : ℕ → ℕ → Bool) (hot cold : List Part) (members : List ℕ) : Type 0 where
  pub cut : IsCut side reach hot cold members
  pub need : IsSideHeat (need_of (parts_of side hot cold) members)
  pub offer : IsSideHeat (offer_of side reach (parts_of (opposite side) hot cold) members)
