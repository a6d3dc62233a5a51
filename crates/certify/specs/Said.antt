-- The reports of a heat flow with its prices, and of a cut.
use Rattle.std.specs.Prelude.{ℕ, suc, ℤ, pos, List, [], ◌∷◌, map, slice_get}
use Rattle.std.specs.Option.{option_map_or}
use Rattle.stream_case.specs.Case.{IsComplete}
use Rattle.stream_case.specs.declared.case.Case.{Case}
use Rattle.grid.specs.Part.{AreCaseParts}
use Rattle.grid.specs.declared.part.Part.{Part}
use Rattle.heat_flow.specs.Certificate.{IsCertified, IsCutOf}
use Rattle.heat_flow.specs.Prices.{price_at}
use Rattle.heat_flow.specs.Reach.{reach_between}
use Rattle.heat_flow.specs.declared.cut.Cut.{Cut}
use Rattle.heat_flow.specs.declared.flow.Transfer.{Transfer}
use Rattle.certify.specs.Answers.{IsAnswer, own_parts, span_of, use_of}
use Rattle.certify.specs.Printed.{IsReadable}
use Rattle.certify.specs.declared.report.Checked.TheVariants.{Yes}
use Rattle.certify.specs.declared.report.Moved.{Moved}
use Rattle.certify.specs.declared.report.Priced.{Priced}
use Rattle.certify.specs.declared.report.Report.{Report}
use Rattle.certify.specs.declared.report.Report.TheVariants as report
use Rattle.certify.specs.declared.report.Span.{Span}

-- what is made of each element of a list and its index, of which the first is n
abbrev pub made_from : {X Y : Type 0} → (ℕ → X → Y) → ℕ → List X → List Y
made_from f n [] = []
made_from f n (x ∷ xs) = f n x ∷ made_from f (suc n) xs

-- the part at an index, as a report names it; where there is none, nothing
abbrev pub named_at : Case → List Part → ℕ → Span
named_at c parts index =
    option_map_or (span_of c) (slice_get parts index) (record { name = []; high = pos 0; low = pos 0 })

abbrev pub move_of : Case → List Part → List Part → Transfer → Moved
move_of c hot cold t = record { hot = named_at c hot t.hot; cold = named_at c cold t.cold; heat = t.heat }

-- a part with its price in a list
abbrev pub priced_by : Case → List ℤ → ℕ → Part → Priced
priced_by c prices index p = record { part = span_of c p; price = price_at prices index }

-- the report of transfers with prices of the hot parts and of the cold parts
abbrev pub flow_report : Case → List Part → List Part → List Transfer → List ℤ → List ℤ → ℤ → Report
flow_report c hot cold transfers y z cost =
    report.Flow cost (made_from (use_of hot cold transfers) 0 c.utilities) (map (move_of c hot cold) transfers)
    (made_from (priced_by c y) 0 hot) (made_from (priced_by c z) 0 cold)

-- the report of a cut
abbrev pub cut_report : Case → List Part → List Part → Cut → Report
cut_report c hot cold cut =
    report.Cut cut.kind cut.need cut.offer (map (named_at c (own_parts c hot cold cut.kind)) cut.parts)

-- the report of a heat flow of a case with prices that certify it is answered with yes
abbrev pub CertifiedFlowsPass : Type 0
CertifiedFlowsPass =
    (c : Case) (hot cold : List Part) (transfers : List Transfer) (y z : List ℤ) (cost : ℤ) → IsComplete c
    → AreCaseParts c hot cold
    → IsCertified (reach_between c hot cold) hot cold transfers y z cost
    → IsAnswer c (flow_report c hot cold transfers y z cost) Yes

-- and so is the report of a cut of a case
abbrev pub CutsPass : Type 0
CutsPass =
    (c : Case) (hot cold : List Part) (cut : Cut) → IsComplete c → AreCaseParts c hot cold
    → IsCutOf (reach_between c hot cold) hot cold cut
    → IsAnswer c (cut_report c hot cold cut) Yes

-- both are reports that the grammar can give
abbrev pub CertifiedFlowsAreReadable : Type 0
CertifiedFlowsAreReadable =
    (c : Case) (hot cold : List Part) (transfers : List Transfer) (y z : List ℤ) (cost : ℤ) → IsComplete c
    → AreCaseParts c hot cold
    → IsCertified (reach_between c hot cold) hot cold transfers y z cost
    → IsReadable (flow_report c hot cold transfers y z cost)

abbrev pub CutsAreReadable : Type 0
CutsAreReadable =
    (c : Case) (hot cold : List Part) (cut : Cut) → IsComplete c → AreCaseParts c hot cold
    → IsCutOf (reach_between c hot cold) hot cold cut
    → IsReadable (cut_report c hot cold cut)
