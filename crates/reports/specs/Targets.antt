-- The text of the targets and the pinches.
use Rattle.std.specs.Prelude.{ℕ, ℤ, List, [], ◌∷◌, ◌++◌, codes}
use Rattle.std.specs.List.{flat_map}
use Rattle.problem_table.specs.declared.target.Target.{Target}
use Rattle.reports.specs.Lines.{line}

-- a line for each pinch, or one that there is none
abbrev pub pinch_lines : List ℤ → List ℕ
pinch_lines [] = codes "pinch none\n"
pinch_lines (pinch ∷ pinches) = flat_map (line (codes "pinch")) (pinch ∷ pinches)

-- the hot and the cold target, then the pinches
abbrev pub targets_text : Target → List ℤ → List ℕ
targets_text targets pinches = line (codes "hot") targets.hot ++ line (codes "cold") targets.cold ++ pinch_lines pinches
