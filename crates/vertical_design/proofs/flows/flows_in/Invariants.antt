use Rattle.std.proofs.Common.{take, ◌≡◌}
use Rattle.vertical_design.proofs.Words.{flows_in}
use Rattle.vertical_design.proofs.flows.flows_in.Given as goal

abbrev pub invariant-loop-band : goal.invariant-loop-band
invariant-loop-band l = l.flows.items ≡ flows_in l.low l.high (take l.band-index l.bands)
