use Rattle.pieces.proofs.Words.{declared_line, exchangers_for}
use Rattle.std.proofs.Common.{map, take, ◌≡◌}
use Rattle.pieces.proofs.exchangers.exchanger_lines.Given as goal

abbrev pub invariant-loop-number : goal.invariant-loop-number
invariant-loop-number l = l.lines.items ≡ map declared_line (exchangers_for l.hot l.cold (take l.number l.exchanges))
