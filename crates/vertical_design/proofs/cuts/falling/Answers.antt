-- What sorting and dropping repeats leaves of the heats, reversed.
use Rattle.std.proofs.Common.{Contains, subst, sym, ℤ}
use Rattle.vertical_design.proofs.Words.{Lists-reverse, ListsFalling, ListsRising, ListsRising-sorted, dedup_is, ◌<ℤ◌}
use Rattle.vertical_design.proofs.cuts.falling.Goals as goal

pub returns : goal.returns
returns c =
    let heats = c.args.heats.items in
    let sorted_is = ListsRising-sorted heats c.sort_unstable.new.self.items c.sort_unstable.ensures.permutation
    c.sort_unstable.ensures.sorted in
    let rises = subst (ListsRising (Contains heats)) (sym (dedup_is _ _ _ c.dedup.ensures.filtered)) sorted_is in
    let turned = Lists-reverse (λ (a b : ℤ). a <ℤ b) (Contains heats) c.dedup.new.self.items rises in
    subst (ListsFalling (Contains heats)) (sym c.reverse.ensures.items) turned
