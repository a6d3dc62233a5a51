-- The text of a sweep.
use Rattle.std.specs.Prelude.{ℕ, List, ◌∷◌, ◌++◌, codes}
use Rattle.std.specs.List.{flat_map}
use Rattle.std.specs.Fmt.{signed_decimal}
use Rattle.study.specs.declared.row.SweepRow.{SweepRow}
use Rattle.reports.specs.Lines.{cost_line}

-- row CONTRIBUTION HOT COLD COST, or row CONTRIBUTION HOT COLD infeasible
abbrev pub row_line : SweepRow → List ℕ
row_line row =
    cost_line (codes "row " ++ (signed_decimal row.contribution ++ 32 ∷ (signed_decimal row.hot ++ 32 ∷ signed_decimal row.cold))) row.cost

-- the rows in their order
abbrev pub sweep_text : List SweepRow → List ℕ
sweep_text rows = flat_map row_line rows
