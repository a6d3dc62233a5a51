-- The penalties of a network in their order, each with its place.
use Rattle.std.specs.Prelude.{ℕ, ◌+◌, List, ◌++◌, map, Option, Some, None}
use Rattle.std.specs.List.{enumerate_from, filter_map}
use Rattle.stream_case.specs.declared.case.Case.{Case}
use Rattle.fractions.specs.Rationals.{Rational}
use Rattle.networks.specs.Lines.{Exchanger, exchangers_of}
use Rattle.networks.specs.declared.network.Line.{Line}
use Rattle.networks.specs.declared.network.Line.TheVariants as line
use Rattle.networks.specs.declared.network.Network.{Network}
use Rattle.network_values.specs.Heights.{View}
use Rattle.network_values.specs.Penalties.{height_at, penalty}
use Rattle.network_values.specs.Values.{Valuation}
use Rattle.network_values.specs.Weights.{mix_loss}
use Rattle.network_audit.specs.declared.findings.Place.TheVariants as place
use Rattle.penalties.specs.declared.list.Penalty.{Penalty}

abbrev pub exchanger_row : (ℕ → Rational) → Network → ℕ × Exchanger → Penalty
exchanger_row height network (number, e) = record {
  place = place.Exchanger number;
  value = penalty height network (number, e);
}

-- statements are counted from 1
abbrev pub mix_row : (ℕ → Rational) → ℕ × Line → Option Penalty
mix_row height (index, line.Exchanger name hot cold duty) = None
mix_row height (index, line.Split from first cp second) = None
mix_row height (index, line.Pass from exchanger to) = None
mix_row height (index, line.Mix first second to) =
    Some (record { place = place.Line (index + 1); value = mix_loss height (line.Mix first second to) })
mix_row height (index, line.End branch) = None

unfoldable pub exchanger_rows : (ℕ → Rational) → Network → List Penalty
exchanger_rows height network = map (exchanger_row height network) (enumerate_from 0 (exchangers_of network.lines))

unfoldable pub mix_rows : (ℕ → Rational) → List Line → List Penalty
mix_rows height lines = filter_map (mix_row height) (enumerate_from 0 lines)

-- the exchangers in their order, then the mixes in theirs
abbrev pub penalties_of : Case → View → Network → Valuation → List Penalty
penalties_of case view network values =
    exchanger_rows (height_at case view network values) network
    ++ mix_rows (height_at case view network values) network.lines
