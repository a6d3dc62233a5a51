-- Cuts: parts of one side that need more heat than the other side has on offer for them.
use Rattle.std.specs.Prelude.{Bool, ℕ, ◌<◌, if◌then◌else◌, ℤ, pos, ◌<ℤ◌, List, slice_get, All, AllPairs}
use Rattle.std.specs.List.{list_any}
use Rattle.std.specs.Option.{option_map_or}
use Rattle.stream_case.specs.declared.source.Side.{Side}
use Rattle.stream_case.specs.declared.source.Side.TheVariants.{Hot, Cold}
use Rattle.sums.specs.Sum.{int_sum_by, int_sum_from}
use Rattle.grid.specs.declared.part.Part.{Part}
use Rattle.heat_flow.specs.declared.flow.Transfer.{Transfer}
use Rattle.heat_flow.specs.declared.cut.CutKind.{CutKind}
use Rattle.heat_flow.specs.declared.cut.CutKind.TheVariants.{Demand, Supply}
use Rattle.heat_flow.specs.Flow.{IsHeatFlow}

abbrev pub opposite : Side → Side
opposite Hot = Cold
opposite Cold = Hot

-- the parts of a side
abbrev pub parts_of : Side → List Part → List Part → List Part
parts_of Hot hot cold = hot
parts_of Cold hot cold = cold

-- the side whose parts a cut names: those that have to take heat, or those that have to give it
abbrev pub cut_side : CutKind → Side
cut_side Demand = Cold
cut_side Supply = Hot

-- the part at index i of this side and the one at index j of the other side reach
abbrev pub joins : Side → (ℕ → ℕ → Bool) → ℕ → ℕ → Bool
joins Hot reach i j = reach i j
joins Cold reach i j = reach j i

-- the part at index j of the other side reaches one of the members, or one of them reaches it
abbrev pub meets : Side → (ℕ → ℕ → Bool) → List ℕ → ℕ → Bool
meets side reach members j = list_any (λ i. joins side reach i j) members

-- the least of the part at an index, and 0 for none
abbrev pub least_at : List Part → ℕ → ℤ
least_at parts i = option_map_or (λ p. p.least) (slice_get parts i) (pos 0)

-- what the members have to give or take
abbrev pub need_of : List Part → List ℕ → ℤ
need_of parts members = int_sum_by (least_at parts) members

-- the most that the parts of the other side that meet a member can take or give
abbrev pub offer_of : Side → (ℕ → ℕ → Bool) → List Part → List ℕ → ℤ
offer_of side reach others members = int_sum_from (λ j p. if meets side reach members j then p.most else pos 0) 0 others

-- parts of a side, each with some heat that it has to have, that need more than is on offer
pub record IsCut (side : Side) (reach : ℕ → ℕ → Bool) (hot cold : List Part) (members : List ℕ) : Type 0 where
  pub ordered : AllPairs (λ i j. i < j) members
  pub needing : All (λ i. pos 0 <ℤ least_at (parts_of side hot cold) i) members
  pub short : offer_of side reach (parts_of (opposite side) hot cold) members <ℤ need_of (parts_of side hot cold) members

-- these parts have no heat flow
abbrev pub HasNoFlow : (ℕ → ℕ → Bool) → List Part → List Part → Type 0
HasNoFlow reach hot cold = (transfers : List Transfer) → IsHeatFlow reach hot cold transfers → ⊥
