use Rattle.std.proofs.Common.{map, string_bytes, ◌≡◌}
use Rattle.pinch.proofs.arguments.words_behind_name.Given as goal

abbrev pub invariant-loop-text : goal.invariant-loop-text
invariant-loop-text l = l.words ≡ map string_bytes l.yielded
