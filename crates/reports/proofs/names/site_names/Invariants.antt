use Rattle.reports.proofs.Words.{flat_map, stream_names}
use Rattle.std.proofs.Common.{take, ◌≡◌}
use Rattle.reports.proofs.names.site_names.Given as goal

abbrev pub invariant-loop-plant : goal.invariant-loop-plant
invariant-loop-plant l = l.streams ≡ flat_map (λ plant. stream_names plant.streams) (take l.plant-index l.plant-items)
