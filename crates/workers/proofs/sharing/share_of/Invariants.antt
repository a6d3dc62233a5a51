use Rattle.std.proofs.Common.{Ok}
use Rattle.workers.proofs.ShareLemmas.{AreMade}
use Rattle.workers.proofs.sharing.share_of.Given as goal

abbrev pub invariant-loop-number : goal.invariant-loop-number
invariant-loop-number g l =
    AreMade (λ k x. goal.F-post g l.item k (Ok x)) l.count l.workers l.worker l.number l.items.items
