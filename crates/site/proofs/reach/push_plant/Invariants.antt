use Rattle.std.proofs.Common.{map, take, ◌++◌, ◌≡◌}
use Rattle.site.proofs.reach.push_plant.Given as goal

abbrev pub invariant-loop-stream : goal.invariant-loop-stream
invariant-loop-stream l = l.plants.items ≡ l.initial.plants.items ++ map (λ s. l.plant) (take l._stream-index l.streams)
