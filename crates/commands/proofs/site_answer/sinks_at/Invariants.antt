use Rattle.commands.proofs.Words.{sink_profile}
use Rattle.std.proofs.Common.{map, take, ◌≡◌}
use Rattle.commands.proofs.site_answer.sinks_at.Given as goal

abbrev pub invariant-loop-place : goal.invariant-loop-place
invariant-loop-place l = l.heats ≡ map (sink_profile l.site) (take l.place-index l.places)
