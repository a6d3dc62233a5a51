use Rattle.std.proofs.Common.{map, take, ◌++◌, ◌≡◌}
use Rattle.vertical_design.proofs.interval.push_sources.Given as goal

abbrev pub invariant-loop-band : goal.invariant-loop-band
invariant-loop-band l = l.sources.items ≡ l.fn.sources.items ++ map (λ s. s.source) (take l.band-index l.bands)
