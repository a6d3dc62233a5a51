use Rattle.network_text.proofs.Words.{hasher_of, own_entries}
use Rattle.std.proofs.Common.{take, ◌≡◌}
use Rattle.network_text.proofs.given.own_branches.Given as goal

abbrev pub invariant-loop-index : goal.invariant-loop-index
invariant-loop-index l =
    record { own : l.branches.entries ≡ own_entries (take l.index l.streams); key : hasher_of l.branches ≡ l.fn.key }
