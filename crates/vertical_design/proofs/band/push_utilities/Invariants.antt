use Rattle.std.proofs.Common.{take, ◌++◌, ◌≡◌}
use Rattle.vertical_design.proofs.Words.{enumerate_from, filter_map, utility_band}
use Rattle.vertical_design.proofs.band.push_utilities.Given as goal

abbrev pub invariant-loop-number : goal.invariant-loop-number
invariant-loop-number l = l.bands.items ≡ l.fn.bands.items ++ filter_map (utility_band l.side l.case.streams)
    (enumerate_from 0 (take l.number l.case.utilities))
