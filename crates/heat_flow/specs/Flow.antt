-- Heat flows over hot and cold parts, and their cost.
use Rattle.std.specs.Prelude.{◌≡◌, ◌⊎◌, Bool, IsTrue, ℕ, ◌<◌, ◌==◌, if◌then◌else◌, ℤ, pos, ◌+ℤ◌, ◌*ℤ◌, ◌≤ℤ◌, ◌<ℤ◌, List, length, Some, slice_get, All, AllPairs}
use Rattle.stream_case.specs.declared.source.Side.{Side}
use Rattle.stream_case.specs.declared.source.Side.TheVariants.{Hot, Cold}
use Rattle.stream_case.specs.Limits.{IsBetween}
use Rattle.sums.specs.Sum.{int_sum_by, int_sum_from}
use Rattle.grid.specs.declared.part.Part.{Part}
use Rattle.heat_flow.specs.declared.flow.Transfer.{Transfer}

-- the index of a transfer's part of this side
abbrev pub part_index : Side → Transfer → ℕ
part_index Hot t = t.hot
part_index Cold t = t.cold

-- the sum of the transfers of the part at an index of this side: what a hot part gives, or a cold one takes
abbrev pub heat_at : Side → List Transfer → ℕ → ℤ
heat_at side transfers a = int_sum_by (λ t. if part_index side t == a then t.heat else pos 0) transfers

-- by the hot part, then by the cold part
abbrev pub precedes : Transfer → Transfer → Type 0
precedes s t = (s.hot < t.hot) ⊎ ((s.hot ≡ t.hot) × (s.cold < t.cold))

-- each transfer's part of this side is one of these
abbrev pub HaveParts : Side → List Part → List Transfer → Type 0
HaveParts side parts transfers = All (λ t. part_index side t < length parts) transfers

abbrev pub ArePositive : List Transfer → Type 0
ArePositive transfers = All (λ t. pos 0 <ℤ t.heat) transfers

-- the sum of the transfers of each part is within the part's range
abbrev pub KeepsRanges : Side → List Part → List Transfer → Type 0
KeepsRanges side parts transfers =
    (a : ℕ) (p : Part) → slice_get parts a ≡ Some p → IsBetween p.least p.most (heat_at side transfers a)

-- a heat flow of these parts, where `reach a b` tells whether hot part a reaches cold part b
pub record IsHeatFlow (reach : ℕ → ℕ → Bool) (hot cold : List Part) (transfers : List Transfer) : Type 0 where
  pub positive : ArePositive transfers
  pub hot_indexes : HaveParts Hot hot transfers
  pub cold_indexes : HaveParts Cold cold transfers
  pub joined : All (λ t. IsTrue (reach t.hot t.cold)) transfers
  pub ordered : AllPairs precedes transfers
  pub hot_ranges : KeepsRanges Hot hot transfers
  pub cold_ranges : KeepsRanges Cold cold transfers

-- the sum over the parts of a side of price times heat; a stream's part has the price 0
abbrev pub side_cost : Side → List Part → List Transfer → ℤ
side_cost side parts transfers = int_sum_from (λ a p. p.price *ℤ heat_at side transfers a) 0 parts

abbrev pub cost_of : List Part → List Part → List Transfer → ℤ
cost_of hot cold transfers = side_cost Hot hot transfers +ℤ side_cost Cold cold transfers

-- one heat flow costs this, and none costs less
pub record IsLeastCost (reach : ℕ → ℕ → Bool) (hot cold : List Part) (cost : ℤ) : Type 0 where
  pub transfers : List Transfer
  pub flow : IsHeatFlow reach hot cold transfers
  pub costs : cost_of hot cold transfers ≡ cost
  pub least : (others : List Transfer) → IsHeatFlow reach hot cold others → cost ≤ℤ cost_of hot cold others

-- there is at most one least cost
abbrev pub OneLeastCost : (ℕ → ℕ → Bool) → List Part → List Part → Type 0
OneLeastCost reach hot cold =
    (cost other : ℤ) → IsLeastCost reach hot cold cost → IsLeastCost reach hot cold other → cost ≡ other
