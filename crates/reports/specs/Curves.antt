-- The text of the three curves.
use Rattle.std.specs.Prelude.{ℕ, List, ◌∷◌, ◌++◌, codes}
use Rattle.std.specs.List.{flat_map}
use Rattle.std.specs.Fmt.{signed_decimal}
use Rattle.curves.specs.declared.point.Point.{Point}
use Rattle.reports.specs.Lines.{line}

-- WORD HEAT TEMPERATURE
abbrev pub point_line : List ℕ → Point → List ℕ
point_line word p = line (word ++ 32 ∷ signed_decimal p.heat) p.temperature

abbrev pub curve_text : List ℕ → List Point → List ℕ
curve_text word curve = flat_map (point_line word) curve

-- the hot and the cold composite curve, then the grand composite curve
abbrev pub curves_text : List Point → List Point → List Point → List ℕ
curves_text hot cold net =
    curve_text (codes "hot") hot ++ curve_text (codes "cold") cold ++ curve_text (codes "net") net
