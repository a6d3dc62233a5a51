-- The text of a cut.
use Rattle.std.specs.Prelude.{ℕ, List, [], ◌∷◌, ◌++◌, codes}
use Rattle.std.specs.List.{flat_map}
use Rattle.std.specs.Fmt.{signed_decimal}
use Rattle.grid.specs.declared.part.Part.{Part}
use Rattle.grid.specs.declared.parts.Parts.{Parts}
use Rattle.heat_flow.specs.declared.cut.Cut.{Cut}
use Rattle.heat_flow.specs.declared.cut.CutKind.{CutKind}
use Rattle.heat_flow.specs.declared.cut.CutKind.TheVariants.{Demand, Supply}
use Rattle.heat_flow.specs.Cuts.{cut_side, parts_of}
use Rattle.reports.specs.Flow.{part_at}
use Rattle.reports.specs.Lines.{line}
use Rattle.reports.specs.declared.names.SourceNames.{SourceNames}

-- whether the parts have to take heat or to give it
abbrev pub cut_word : CutKind → List ℕ
cut_word Demand = codes "demand"
cut_word Supply = codes "supply"

-- cut KIND NEED OFFER
abbrev pub cut_line : Cut → List ℕ
cut_line cut = line (codes "cut " ++ (cut_word cut.kind ++ 32 ∷ signed_decimal cut.need)) cut.offer

-- part NAME HIGH LOW, of the part at an index of a list
abbrev pub member_line : SourceNames → List Part → ℕ → List ℕ
member_line names parts index = codes "part " ++ (part_at names parts index ++ 10 ∷ [])

-- that there is no heat flow, the cut and its parts
abbrev pub stuck_text : SourceNames → Parts → Cut → List ℕ
stuck_text names parts cut =
    let own = parts_of (cut_side cut.kind) parts.hot parts.cold in
    codes "infeasible\n" ++ cut_line cut ++ flat_map (member_line names own) cut.parts
