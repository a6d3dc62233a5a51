-- The flow is under way from the first share to the last, and then its shares at the cold parts are gathered.
use Rattle.chains.proofs.HeatSetOut.{IsUnderWay-first}
use Rattle.chains.proofs.PassedShares.{IsUnderWay-arrived, IsUnderWay-passed, carried_in_all}
use Rattle.chains.proofs.SpreadLemmas.{IsSpread-gathered, carried_smaller, given_fits}
use Rattle.chains.proofs.PassedShares.{length_passed, share_popped, some_way_left}
use Rattle.chains.proofs.SpreadLemmas.{left_not_negative}
use Rattle.chains.proofs.spreading.spread.Goals.{In-Some, In_default}
use Rattle.chains.proofs.Words.{AreGathered, Flow, IfOk-weaker, IsShare, IsSpread, IsUnderWay, ints, left_in_all, length_push, nil_from_length}
use Rattle.std.proofs.Common.{[], ap, arith, length, subst, sym, ◌++◌, ◌+◌, ◌<◌, ◌∙◌, ◌∷◌, ◌≤◌}
use Rattle.chains.proofs.spreading.spread.Goals as goal

pub loop-share-init : goal.loop-share-init
loop-share-init c =
    let hots = length c.args.parts.now.hot in
    let colds = length c.args.parts.now.cold in
    let net = c.args.chains.now.net in
    let flow = c.args.flow.now in
    let shares = c.in_ok-shares.field-0.shares.items in
    let ways = c.in_ok-shares.field-0.ways.items in
    let out = rw (c.len-hots.ensures, c.as_slice-links.ensures, c.as_slice.ensures) at c.in_ok-shares.ensures in
    let first = IsUnderWay-first hots colds net flow c.requires.inner shares ways
    c.in_ok-open_ways.open_ways.sorted.items out c.in_ok-open_ways.ensures.same_ways in
    record {
      under_way =
          subst (λ xs. IsUnderWay hots colds net flow shares xs c.in_ok-open_ways.open_ways.sorted.items)
          (sym c.new-arrived.ensures.items) first;
      are_open = c.in_ok-open_ways.ensures.open;
      one_each = c.in_ok-open_ways.ensures.one_each;
    }

-- the share that is taken is one of those under way
popped : (c : In-Some)
    → IsUnderWay (length c.args.parts.now.hot) (length c.args.parts.now.cold) c.args.chains.now.net c.args.flow.now
    (c.pop.new.self.items ++ c.in-Some.share ∷ []) c.loop-share.arrived.items c.loop-share.open_ways.sorted.items
popped c =
    subst (λ xs.
    IsUnderWay (length c.args.parts.now.hot) (length c.args.parts.now.cold) c.args.chains.now.net c.args.flow.now xs
    c.loop-share.arrived.items c.loop-share.open_ways.sorted.items)
    c.in-Some.ensures.items c.loop-share.invariant.under_way

is_share : (c : In-Some) → IsShare (length c.args.parts.now.hot) c.args.chains.now.net c.in-Some.share
is_share c =
    share_popped (length c.args.parts.now.hot) (length c.args.parts.now.cold) c.args.chains.now.net c.args.flow.now
    c.pop.new.self.items c.loop-share.arrived.items c.in-Some.share c.loop-share.open_ways.sorted.items (popped c)

pub loop-share-preserved-in-Continue-branch-3 : goal.loop-share-preserved-in-Continue-branch-3
loop-share-preserved-in-Continue-branch-3 c =
    let hots = length c.args.parts.now.hot in
    let colds = length c.args.parts.now.cold in
    let net = c.args.chains.now.net in
    let flow = c.args.flow.now in
    let ways = c.loop-share.open_ways.sorted.items in
    let moving = c.pop.new.self.items in
    let cold : c.in-Some.share.node < (hots + colds)
    = omega (arith, c.if-share-first_chain_node.true, c.len.ensures, c.len-2.ensures) in
    let there = IsUnderWay-arrived hots colds net flow moving c.loop-share.arrived.items c.in-Some.share ways
    (popped (goal.at.loop-share-preserved-in-Continue-branch-3 c).In-Some) cold in
    record {
      under_way = subst (λ xs. IsUnderWay hots colds net flow moving xs ways) (sym c.in_ok-push.ensures.items) there;
      are_open = c.loop-share.invariant.are_open;
      one_each = c.loop-share.invariant.one_each;
    }

pub pass_on-requires-clause-node : goal.pass_on-requires-clause-node
pass_on-requires-clause-node c =
    let within = (is_share (goal.at.pass_on-requires-clause-node c).In-Some).node_in in
    let long = c.loop-share.invariant.one_each in omega (arith, within, long)

pub pass_on-requires-clause-some_left : goal.pass_on-requires-clause-some_left
pass_on-requires-clause-some_left c =
    let p = (goal.at.pass_on-requires-clause-some_left c).In-Some in
    let hots = length c.args.parts.now.hot in
    let colds = length c.args.parts.now.cold in
    let within = (is_share p).node_in in
    let chain : (hots + colds) ≤ c.in-Some.share.node
    = omega (arith, c.if-share-first_chain_node.false, c.len.ensures, c.len-2.ensures) in
    let balanced = c.requires.heat.balances c.in-Some.share.node chain within in
    some_way_left hots colds c.args.chains.now.net c.args.flow.now c.pop.new.self.items c.loop-share.arrived.items
    c.in-Some.share c.loop-share.open_ways.sorted.items (popped p) balanced

pub pass_on-requires-clause-some_heat : goal.pass_on-requires-clause-some_heat
pass_on-requires-clause-some_heat c = (is_share (goal.at.pass_on-requires-clause-some_heat c).In-Some).positive

pub loop-share-smaller : goal.loop-share-smaller
loop-share-smaller c =
    let p = (goal.at.loop-share-smaller c).In-Some in
    let hots = length c.args.parts.now.hot in
    let colds = length c.args.parts.now.cold in
    let net = c.args.chains.now.net in
    let s = c.in-Some.share in
    let ways = c.loop-share.open_ways.sorted.items in
    let after = c.pass_on.new.ways.sorted.items in
    let passed = c.in_ok-pass_on.ensures.passed in
    let under_way = IsUnderWay-passed hots colds net c.args.flow.now c.pop.new.self.items c.loop-share.arrived.items s
    ways (popped p) c.requires.inner c.pass_on.new.shares.items after passed in
    let left = left_not_negative hots net.links after under_way.ways_stand in
    let sum = carried_in_all ways after s.node s.heat passed.part passed.carried in
    let positive = passed.carried.positive in
    let more = length_passed s c.pop.new.self.items c.pass_on.new.shares.items ways after passed in
    let was = ap length c.in-Some.ensures.items in
    let one = length_push c.pop.new.self.items s in
    carried_smaller (left_in_all ways) (left_in_all after) (length c.loop-share.shares.items)
    (length c.pass_on.new.shares.items) left (omega (arith, ints, sum, positive)) (omega (arith, more, was, one))

pub loop-share-preserved : goal.loop-share-preserved
loop-share-preserved c =
    let p = (goal.at.loop-share-preserved c).In-Some in
    let passed = c.in_ok-pass_on.ensures in
    record {
      under_way =
          IsUnderWay-passed (length c.args.parts.now.hot) (length c.args.parts.now.cold) c.args.chains.now.net
          c.args.flow.now c.pop.new.self.items c.loop-share.arrived.items c.in-Some.share
          c.loop-share.open_ways.sorted.items (popped p) c.requires.inner c.pass_on.new.shares.items
          c.pass_on.new.ways.sorted.items passed.passed;
      are_open = passed.open;
      one_each = passed.one_each ∙ c.loop-share.invariant.one_each;
    }

-- at the end no share is on its way
ended : (c : In_default)
    → IsUnderWay (length c.args.parts.now.hot) (length c.args.parts.now.cold) c.args.chains.now.net c.args.flow.now []
    c.loop-share.arrived.items c.loop-share.open_ways.sorted.items
ended c =
    let none =
    nil_from_length c.loop-share.shares.items (omega (arith, c.in_default.ensures.cases.0, c.loop-share.shares.ok.0)) in
    subst (λ xs.
    IsUnderWay (length c.args.parts.now.hot) (length c.args.parts.now.cold) c.args.chains.now.net c.args.flow.now xs
    c.loop-share.arrived.items c.loop-share.open_ways.sorted.items)
    none c.loop-share.invariant.under_way

pub transfers_of-requires-clause-fits : goal.transfers_of-requires-clause-fits
transfers_of-requires-clause-fits c =
    let parts = c.args.parts.now in
    let few = given_fits parts.hot parts.cold c.args.chains.now.net c.args.flow.now c.loop-share.arrived.items
    c.loop-share.open_ways.sorted.items parts.hot_bounded c.requires.heat (ended c) in
    λ k d within. (let upto = few k d within in omega (arith, ints, upto))

pub returns : goal.returns
returns c =
    let hots = length c.args.parts.now.hot in
    let colds = length c.args.parts.now.cold in
    let net = c.args.chains.now.net in
    let there = c.loop-share.arrived.items in
    IfOk-weaker c.transfers_of.result (λ (flow : Flow). AreGathered c.len-hots.result there flow.transfers)
    (λ (flow : Flow). IsSpread hots colds net.links c.args.flow.now flow.transfers)
    (λ flow gathered.
    IsSpread-gathered hots colds net c.args.flow.now c.requires.inner c.requires.heat.balances there
    c.loop-share.open_ways.sorted.items (ended (goal.at.returns c).In_default) flow.transfers
    (subst (λ n. AreGathered n there flow.transfers) c.len-hots.ensures gathered))
    c.transfers_of.ensures
