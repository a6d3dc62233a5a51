use Rattle.site_text.proofs.Words.{count_on, streams_of}
use Rattle.std.proofs.Common.{take, ◌≡◌}
use Rattle.site_text.proofs.given.count_streams.Given as goal

abbrev pub invariant-loop-plant : goal.invariant-loop-plant
invariant-loop-plant l = l.count ≡ count_on l.side (streams_of (take l.plant-index l.plants))
