-- The texts of a report that was checked.
use Rattle.std.specs.Prelude.{ℕ, ℤ, List, [], ◌∷◌, ◌++◌, Option, Some, None, codes}
use Rattle.certify.specs.declared.report.NoWhy.{NoWhy}
use Rattle.certify.specs.declared.report.NoWhy.TheVariants as no
use Rattle.reports.specs.Lines.{line}

-- yes cost N, or yes infeasible
abbrev pub certified_text : Option ℤ → List ℕ
certified_text (Some cost) = line (codes "yes cost") cost
certified_text None = codes "yes infeasible\n"

-- the name of a check that fails
abbrev pub no_why_name : NoWhy → List ℕ
no_why_name no.Parts = codes "Parts"
no_why_name no.Moves = codes "Moves"
no_why_name no.Flow = codes "Flow"
no_why_name no.Cost = codes "Cost"
no_why_name no.Uses = codes "Uses"
no_why_name no.Support = codes "Support"
no_why_name no.Value = codes "Value"
no_why_name no.Cut = codes "Cut"

-- no WHY
abbrev pub not_certified_text : NoWhy → List ℕ
not_certified_text why = codes "no " ++ (no_why_name why ++ 10 ∷ [])
