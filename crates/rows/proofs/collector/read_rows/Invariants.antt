use Rattle.first_fault.proofs.Reading.{Reads}
use Rattle.std.proofs.Common.{length, ◌≡◌}
use Rattle.rows.proofs.collector.read_rows.Given as goal

abbrev pub invariant-loop-row : goal.invariant-loop-row
invariant-loop-row g l =
    Reads (g.C.Collector.grammar l.initial.collector) l.initial.rows l.rows (g.C.Collector.given l.collector) l.number
    × (g.C.Collector.grammar l.collector ≡ g.C.Collector.grammar l.initial.collector)
    × g.C.Collector.is_sound l.collector

abbrev pub decreases-loop-row : goal.decreases-loop-row
decreases-loop-row g l = length l.rows
