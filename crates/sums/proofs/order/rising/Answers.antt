-- What sorting and dropping repeats leaves of the values.
use Rattle.std.proofs.Common.{Contains, subst, sym}
use Rattle.sums.proofs.Words.{ListsRising, dedup_is}
use Rattle.sums.proofs.OrderLemmas.{ListsRising-sorted}
use Rattle.sums.proofs.order.rising.Goals as goal

pub returns : goal.returns
returns c =
    let values = c.args.values.items in
    let is = dedup_is _ _ _ c.dedup.ensures.filtered in
    subst (ListsRising (Contains values)) (sym is)
    (ListsRising-sorted values c.sort_unstable.new.self.items c.sort_unstable.ensures.permutation c.sort_unstable.ensures.sorted)
