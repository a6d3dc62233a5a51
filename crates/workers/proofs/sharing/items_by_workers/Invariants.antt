use Rattle.std.proofs.Common.{Ok, Some, length, slice_get, suc, ℕ, ◌+◌, ◌-◌, ◌≡◌}
use Rattle.workers.proofs.Words.{AreItemsOfWorkers}
use Rattle.workers.proofs.sharing.items_by_workers.Given as goal

abbrev pub invariant-loop-left : goal.invariant-loop-left
invariant-loop-left g l = record {
  many : l.left + length l.items.items ≡ l.fn.count;
  workers : length l.shares.items ≡ l.fn.workers;
  shares : AreItemsOfWorkers (λ k x. goal.F-post g l.item k (Ok x)) l.left l.shares.items;
  each : (j : ℕ) (x : _) → slice_get l.items.items j ≡ Some x → goal.F-post g l.item (l.fn.count - suc j) (Ok x);
}

abbrev pub decreases-loop-left : goal.decreases-loop-left
decreases-loop-left g l = l.left
