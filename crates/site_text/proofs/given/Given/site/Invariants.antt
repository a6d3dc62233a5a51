use Rattle.site_text.proofs.Words.{plant_with}
use Rattle.std.proofs.Common.{map, take, ◌≡◌}
use Rattle.site_text.proofs.given.Given.site.Given as goal

abbrev pub invariant-loop-plant : goal.invariant-loop-plant
invariant-loop-plant l = l.plants.items ≡ map (plant_with l.contribution) (take l.plant-index l.given)
