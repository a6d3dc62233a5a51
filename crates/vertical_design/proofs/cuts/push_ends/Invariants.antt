use Rattle.std.proofs.Common.{take, ◌++◌, ◌≡◌}
use Rattle.vertical_design.proofs.Words.{ends_of}
use Rattle.vertical_design.proofs.cuts.push_ends.Given as goal

abbrev pub invariant-loop-band : goal.invariant-loop-band
invariant-loop-band l = l.ends.items ≡ l.fn.ends.items ++ ends_of (take l.band-index l.bands)
