-- What a report says of a case, and what the check of it answers: the first of its sentences that fails.
use Rattle.std.specs.Prelude.{◌≡◌, ◌⊎◌, ◌<◌, ℕ, ℤ, Bool, IsTrue, ◌&&◌, List, [], ◌∷◌, length, map, position, All, Option, Some, None, is_some, slice_get}
use Rattle.std.specs.List.{filter_map}
use Rattle.std.specs.Ordering.{int_eq}
use Rattle.std.specs.Str.{bytes_eq}
use Rattle.stream_case.specs.Case.{source_name}
use Rattle.stream_case.specs.Limits.{IsPartPrice}
use Rattle.stream_case.specs.declared.case.Case.{Case}
use Rattle.stream_case.specs.declared.utility.Utility.{Utility}
use Rattle.grid.specs.declared.part.Part.{Part}
use Rattle.heat_flow.specs.declared.cut.Cut.{Cut}
use Rattle.heat_flow.specs.declared.cut.CutKind.{CutKind}
use Rattle.heat_flow.specs.declared.flow.Transfer.{Transfer}
use Rattle.heat_flow.specs.Certificate.{HasNoFlowOf, HoldsOfParts, IsCutOf, IsFlowOf, IsLeastCostOf, utility_heat}
use Rattle.heat_flow.specs.Cuts.{cut_side, parts_of}
use Rattle.heat_flow.specs.Flow.{cost_of}
use Rattle.heat_flow.specs.Prices.{IsSupporting, value_of}
use Rattle.heat_flow.specs.Reach.{reach_between}
use Rattle.certify.specs.declared.report.Checked.{Checked}
use Rattle.certify.specs.declared.report.Checked.TheVariants.{Yes, No}
use Rattle.certify.specs.declared.report.Moved.{Moved}
use Rattle.certify.specs.declared.report.NoWhy.{NoWhy}
use Rattle.certify.specs.declared.report.NoWhy.TheVariants as why
use Rattle.certify.specs.declared.report.Priced.{Priced}
use Rattle.certify.specs.declared.report.Report.{Report}
use Rattle.certify.specs.declared.report.Report.TheVariants as report
use Rattle.certify.specs.declared.report.Span.{Span}
use Rattle.certify.specs.declared.report.Used.{Used}

-- ---- the parts that a report names

-- a part as a report names it
abbrev pub span_of : Case → Part → Span
span_of c p = record { name = source_name c p.source; high = p.high; low = p.low }

abbrev pub is_span_of : Case → Span → Part → Bool
is_span_of c s p = int_eq s.high p.high && int_eq s.low p.low && bytes_eq s.name (source_name c p.source)

-- the index of the part that a report names
abbrev pub index_of : Case → List Part → Span → Option ℕ
index_of c parts s = position (is_span_of c s) parts

abbrev pub transfer_by : ℤ → Option ℕ → Option ℕ → Option Transfer
transfer_by heat None b = None
transfer_by heat (Some a) None = None
transfer_by heat (Some a) (Some b) = Some (record { hot = a; cold = b; heat = heat })

-- the transfer between the parts that a move names
abbrev pub transfer_of : Case → List Part → List Part → Moved → Option Transfer
transfer_of c hot cold m = transfer_by m.heat (index_of c hot m.hot) (index_of c cold m.cold)

abbrev pub transfers_of : Case → List Part → List Part → List Moved → List Transfer
transfers_of c hot cold moves = filter_map (transfer_of c hot cold) moves

-- there is one price for each of these parts, in their order
pub record ArePricesOf (c : Case) (parts : List Part) (prices : List Priced) : Type 0 where
  pub one_each : length prices ≡ length parts
  pub named : (i : ℕ) (g : Priced) (p : Part) → slice_get prices i ≡ Some g → slice_get parts i ≡ Some p
      → g.part ≡ span_of c p

abbrev pub prices_of : List Priced → List ℤ
prices_of prices = map (λ g. g.price) prices

-- ---- the uses of the utilities

-- utility number i with what it gives or takes in all
abbrev pub use_of : List Part → List Part → List Transfer → ℕ → Utility → Used
use_of hot cold transfers i u = record {
  name = u.name;
  heat = utility_heat i u.side (parts_of u.side hot cold) transfers;
}

-- there is one use for each utility of the case, in their order
pub record AreUsesOf (c : Case) (hot cold : List Part) (transfers : List Transfer) (uses : List Used) : Type 0 where
  pub one_each : length uses ≡ length c.utilities
  pub is : (i : ℕ) (used : Used) (u : Utility) → slice_get uses i ≡ Some used
      → slice_get c.utilities i ≡ Some u → used ≡ use_of hot cold transfers i u

-- ---- what has to hold, each with the cause that tells where it fails

module _ (c : Case) (hot cold : List Part) where
  -- of the transfers that the moves say, and of the prices y of the hot parts and z of the cold parts
  abbrev pub HoldsOfTransfers : ℤ → List Used → List Transfer → List ℤ → List ℤ → NoWhy → Type 0
  HoldsOfTransfers cost uses transfers y z why.Flow = IsFlowOf c hot cold transfers
  HoldsOfTransfers cost uses transfers y z why.Cost = cost_of hot cold transfers ≡ cost
  HoldsOfTransfers cost uses transfers y z why.Uses = AreUsesOf c hot cold transfers uses
  HoldsOfTransfers cost uses transfers y z why.Support = IsSupporting (reach_between c hot cold) y z
  HoldsOfTransfers cost uses transfers y z why.Value = value_of hot cold y z ≡ cost
  HoldsOfTransfers cost uses transfers y z other = Unit {0}

  -- of a report of a heat flow
  abbrev pub HoldsOfFlow : ℤ → List Used → List Moved → List Priced → List Priced → NoWhy → Type 0
  HoldsOfFlow cost uses moves gives takes why.Parts = ArePricesOf c hot gives × ArePricesOf c cold takes
  HoldsOfFlow cost uses moves gives takes why.Moves = All (λ m. IsTrue (is_some (transfer_of c hot cold m))) moves
  HoldsOfFlow cost uses moves gives takes other =
      HoldsOfTransfers cost uses (transfers_of c hot cold moves) (prices_of gives) (prices_of takes) other

  -- the parts of a cut's side, and the cut of those that a report names
  abbrev pub own_parts : CutKind → List Part
  own_parts kind = parts_of (cut_side kind) hot cold

  abbrev pub cut_of : CutKind → ℤ → ℤ → List Span → Cut
  cut_of kind need offer parts = record {
    kind = kind;
    parts = filter_map (index_of c (own_parts kind)) parts;
    need = need;
    offer = offer;
  }

  -- of a report of a cut
  abbrev pub HoldsOfCut : CutKind → ℤ → ℤ → List Span → NoWhy → Type 0
  HoldsOfCut kind need offer parts why.Parts = All (λ s. IsTrue (is_some (index_of c (own_parts kind) s))) parts
  HoldsOfCut kind need offer parts why.Cut = IsCutOf (reach_between c hot cold) hot cold (cut_of kind need offer parts)
  HoldsOfCut kind need offer parts other = Unit {0}

-- yes where what each of these causes tells of holds, and no with the first cause whose sentence fails
abbrev pub IsFirstOf : List NoWhy → (NoWhy → Type 0) → Checked → Type 0
IsFirstOf [] Holds Yes = Unit {0}
IsFirstOf [] Holds (No why) = ⊥
IsFirstOf (cause ∷ causes) Holds Yes = Holds cause × IsFirstOf causes Holds Yes
IsFirstOf (cause ∷ causes) Holds (No why) =
    ((why ≡ cause) × (Holds cause → ⊥)) ⊎ (Holds cause × IsFirstOf causes Holds (No why))

-- the causes in the order of their checks
abbrev pub transfer_causes : List NoWhy
transfer_causes = why.Flow ∷ why.Cost ∷ why.Uses ∷ why.Support ∷ why.Value ∷ []

abbrev pub flow_causes : List NoWhy
flow_causes = why.Parts ∷ why.Moves ∷ transfer_causes

abbrev pub cut_causes : List NoWhy
cut_causes = why.Parts ∷ why.Cut ∷ []

-- the answer to a report, where these are the parts of the case
abbrev pub IsAnswerOver : Case → List Part → List Part → Report → Checked → Type 0
IsAnswerOver c hot cold (report.Flow cost uses moves gives takes) checked =
    IsFirstOf flow_causes (HoldsOfFlow c hot cold cost uses moves gives takes) checked
IsAnswerOver c hot cold (report.Cut kind need offer parts) checked =
    IsFirstOf cut_causes (HoldsOfCut c hot cold kind need offer parts) checked

-- the answer to a report of a case
abbrev pub IsAnswer : Case → Report → Checked → Type 0
IsAnswer c r checked = HoldsOfParts c (λ hot cold. IsAnswerOver c hot cold r checked)

-- a report names parts: those of both sides by their prices, or those of a cut
abbrev pub NamesParts : Report → Type 0
NamesParts (report.Flow cost uses moves gives takes) = (0 < length gives) × (0 < length takes)
NamesParts (report.Cut kind need offer parts) = 0 < length parts

-- ---- what a report proves: its cost is the least one, or there is no heat flow

abbrev pub IsTrueOf : Case → Report → Type 0
IsTrueOf c (report.Flow cost uses moves gives takes) = IsLeastCostOf c cost
IsTrueOf c (report.Cut kind need offer parts) = HasNoFlowOf c

abbrev pub Proves : Case → Report → Checked → Type 0
Proves c r Yes = IsTrueOf c r
Proves c r (No why) = Unit {0}

-- each price is within the limits of a certificate
abbrev pub HasPartPrices : Report → Type 0
HasPartPrices (report.Flow cost uses moves gives takes) =
    All (λ g. IsPartPrice g.price) gives × All (λ g. IsPartPrice g.price) takes
HasPartPrices (report.Cut kind need offer parts) = Unit {0}
