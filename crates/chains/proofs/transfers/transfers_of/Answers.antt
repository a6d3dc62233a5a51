use Rattle.chains.proofs.GatherLemmas.{AreGathered-more, AreGathered-permutation, IsShareAt, Neighbours, neighbours_from_sort, room_for_it, share_at}
use Rattle.chains.proofs.transfers.transfers_of.Goals.{After-deref-share-items, In-loop-share}
use Rattle.chains.proofs.Words.{All, AreGathered, Share, held_of, take_all}
use Rattle.std.proofs.Common.{get_or, pos, rules, subst, sym, ℤ, ◌≤ℤ◌}
use Rattle.std.specs.Prelude.{IsPermutation}
use Rattle.chains.proofs.transfers.transfers_of.Goals as goal

abbrev no_share : Share
no_share = record { hot = 0; node = 0; heat = pos 0 }

same : (c : After-deref-share-items) → IsPermutation c.args.shares.items c.deref-share-items.result.now
same c =
    subst (IsPermutation c.args.shares.items) (sym c.deref-share-items.ensures.value) c.sort_by_key.ensures.permutation

-- the share that is added
here : (c : In-loop-share) (most : ℤ)
    → All (λ (u : Share). held_of c.args.shares.items u.hot ≤ℤ most) c.args.shares.items
    → IsShareAt c.args.hots most c.deref-share-items.result.now c.loop-share.share-index
    (get_or c.deref-share-items.result.now c.loop-share.share-index no_share)
here c most fits =
    let next = subst Neighbours (sym c.deref-share-items.ensures.value)
    (neighbours_from_sort c.sort_by_key.new.self.items c.in_ok-sort_by_key.ensures.sorted (λ a r q k. search rules)) in
    let same_share = same (goal.at.In-loop-share c).After-deref-share-items in
    share_at c.args.hots most c.args.shares.items c.deref-share-items.result.now same_share next c.requires.at_cold
    c.requires.positive fits c.loop-share.share-index no_share c.loop-share-test.true

pub add_share-requires : goal.add_share-requires
add_share-requires c =
    let items = c.deref-share-items.result.now in
    let i = c.loop-share.share-index in
    let transfers = c.loop-share.transfers.items in
    let at = here (goal.at.add_share-requires c).In-loop-share _ c.requires.fits in
    let fits =
    room_for_it c.args.hots _ items i (get_or items i no_share) at transfers transfers c.loop-share.invariant in
    record { at_cold = at.at_cold; positive = at.some; fits = fits }

pub loop-share-preserved : goal.loop-share-preserved
loop-share-preserved c =
    let items = c.deref-share-items.result.now in
    let i = c.loop-share.share-index in
    AreGathered-more c.args.hots _ items i (get_or items i no_share)
    (here (goal.at.loop-share-preserved c).In-loop-share _ c.requires.fits) c.loop-share.transfers.items
    c.add_share.new.transfers.items c.loop-share.invariant c.in_ok-add_share.ensures

pub returns : goal.returns
returns c =
    let items = c.deref-share-items.result.now in
    let all_taken = take_all c.loop-share.share-index items c.loop-share-test.false in
    let all = subst (λ xs. AreGathered c.args.hots xs c.loop-share.transfers.items) all_taken c.loop-share.invariant in
    let same_shares = same (goal.at.returns c).After-deref-share-items in
    let gathered =
    AreGathered-permutation c.args.hots c.args.shares.items items c.loop-share.transfers.items same_shares all in
    subst (AreGathered c.args.hots c.args.shares.items) (sym c.from_vec.ensures) gathered
