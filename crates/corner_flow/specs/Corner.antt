-- The corner flow of a standard case, and prices that prove it least.
use Rattle.std.specs.Prelude.{◌≡◌, ◌↔◌, ℕ, Bool, IsTrue, not, ◌||◌, ℤ, pos, ◌≤ℤ◌, List, map, Some, slice_get, if◌then◌else◌, All}
use Rattle.std.specs.Ordering.{int_eq}
use Rattle.stream_case.specs.declared.source.Side.{Side}
use Rattle.stream_case.specs.declared.source.Side.TheVariants.{Hot}
use Rattle.stream_case.specs.declared.case.Case.{Case}
use Rattle.stream_case.specs.declared.stream.Stream.{Stream}
use Rattle.stream_case.specs.Stream.{has_level_at}
use Rattle.sums.specs.declared.pairs.Pair.{Pair}
use Rattle.sums.specs.Spans.{ListsOverlaps}
use Rattle.problem_table.specs.Deficit.{hot_target, cold_target, IsPinch, IsReferencePlace, IsTightOver, CountsFromItself}
use Rattle.grid.specs.declared.part.Part.{Part}
use Rattle.grid.specs.Part.{stands_above}
use Rattle.stream_case.specs.Source.{is_stream}
use Rattle.heat_flow.specs.declared.flow.Transfer.{Transfer}
use Rattle.heat_flow.specs.declared.prices.Prices.{Prices}
use Rattle.heat_flow.specs.Certificate.{HoldsOfParts, IsFlowOf}
use Rattle.heat_flow.specs.Cuts.{parts_of}
use Rattle.heat_flow.specs.Flow.{heat_at}

-- the heat of a part: a stream's own, and the target for the utility of the side
abbrev pub part_heat : ℤ → Part → ℤ
part_heat target p = if is_stream p.source then p.least else target

abbrev pub heats_of : ℤ → List Part → List ℤ
heats_of target parts = map (part_heat target) parts

-- a transfer as a pair of an index of each side and an amount
abbrev pub as_pair : Transfer → Pair
as_pair t = record { first = t.hot; second = t.cold; amount = t.heat }

-- and back
abbrev pub as_transfer : Pair → Transfer
as_transfer p = record { hot = p.first; cold = p.second; heat = p.amount }

-- the heats of each side are laid end to end in the order of the parts: the transfers are exactly the pairs of parts
-- whose spans overlap, each with the length that they share
abbrev pub IsCornerFlow : Case → List Part → List Part → List Transfer → Type 0
IsCornerFlow c hot cold transfers =
    ListsOverlaps (heats_of (hot_target c.streams) hot) (heats_of (cold_target c.streams) cold) (map as_pair transfers)

-- parts stand above the reference place with their low where it counts from itself and where no latent stream stands
-- at it;
-- else with their high
abbrev pub counts_low : List Stream → Bool → ℤ → Bool
counts_low streams from_itself place = from_itself || not (has_level_at place streams)

-- where the hot target is 0 every price is 0; else it is 1 for a part that stands above the reference place, and 0
-- for the others
abbrev pub corner_price : ℤ → Bool → ℤ → Part → ℤ
corner_price target low place p =
    if int_eq target (pos 0) then pos 0 else if stands_above low place p then pos 1 else pos 0

-- the prices that the corner flow comes with
pub record AreCornerPrices (c : Case) (hot cold : List Part) (prices : Prices) : Type 0 where
  pub place : ℤ
  pub from_itself : Bool
  pub reference : IsReferencePlace c.streams place
  pub counts : IsTrue from_itself ↔ CountsFromItself c.streams place
  pub hot_prices : prices.hot
      ≡ map (corner_price (hot_target c.streams) (counts_low c.streams from_itself place) place) hot
  pub cold_prices : prices.cold
      ≡ map (corner_price (hot_target c.streams) (counts_low c.streams from_itself place) place) cold

-- the utility of this side gives or takes just this heat
abbrev pub UtilityHeat : Side → List Part → List Transfer → ℤ → Type 0
UtilityHeat side parts transfers heat =
    (a : ℕ) (p : Part) → slice_get parts a ≡ Some p → IsTrue (not (is_stream p.source))
    → heat_at side transfers a ≡ heat

-- and at least this heat
abbrev pub UtilityHeatAtLeast : Side → List Part → List Transfer → ℤ → Type 0
UtilityHeatAtLeast side parts transfers heat =
    (a : ℕ) (p : Part) → slice_get parts a ≡ Some p → IsTrue (not (is_stream p.source))
    → heat ≤ℤ heat_at side transfers a

-- in each heat flow of these parts the utility of this side gives or takes at least this heat
abbrev pub NeedsHeat : Case → List Part → List Part → Side → ℤ → Type 0
NeedsHeat c hot cold side heat =
    (transfers : List Transfer) → IsFlowOf c hot cold transfers
    → UtilityHeatAtLeast side (parts_of side hot cold) transfers heat

-- the same of the parts of the case
abbrev pub NeedsHeatOf : Case → Side → ℤ → Type 0
NeedsHeatOf c side heat = HoldsOfParts c (λ hot cold. NeedsHeat c hot cold side heat)

-- a transfer takes heat across a place where it joins a hot part that stands above the place to a cold part that does
-- not
pub record CrossesHeat (from_itself : Bool) (hot cold : List Part) (place : ℤ) (t : Transfer) : Type 0 where
  pub hot_part : Part
  pub cold_part : Part
  pub hot_at : slice_get hot t.hot ≡ Some hot_part
  pub cold_at : slice_get cold t.cold ≡ Some cold_part
  pub above : IsTrue (stands_above from_itself place hot_part)
  pub not_above : IsTrue (not (stands_above from_itself place cold_part))

-- none of the transfers does
abbrev pub NoHeatCrosses : Bool → List Part → List Part → ℤ → List Transfer → Type 0
NoHeatCrosses from_itself hot cold place transfers = All (λ t. CrossesHeat from_itself hot cold place t → ⊥) transfers

-- in each heat flow of these parts in which the hot utility gives just the hot target, no heat crosses a pinch of the
-- case.
-- Where the deficit above the pinch is the target, none goes from a part with its high above it to one with its high
-- at most there;
-- where the deficit from it is, none goes from a part with its low at least there to one with its low below
abbrev pub NoHeatCrossesPinch : Case → List Part → List Part → Type 0
NoHeatCrossesPinch c hot cold =
    (pinch : ℤ) → IsPinch c.streams pinch → (from_itself : Bool) → IsTightOver from_itself c.streams pinch
    → (transfers : List Transfer) → IsFlowOf c hot cold transfers → UtilityHeat Hot hot transfers (hot_target c.streams)
    → NoHeatCrosses from_itself hot cold pinch transfers
