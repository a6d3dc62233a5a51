-- The text of a sample.
use Rattle.std.specs.Prelude.{ℕ, ℤ, List, ◌++◌, codes}
use Rattle.reports.specs.Lines.{line}

-- the hot and the cold target, then the least cost
abbrev pub sample_text : ℤ → ℤ → ℤ → List ℕ
sample_text hot cold cost = line (codes "hot") hot ++ line (codes "cold") cold ++ line (codes "cost") cost
