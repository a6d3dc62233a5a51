use Rattle.transport.proofs.Words.{IfOk-weaker, IsAnswer, IsCutWithin, IsSideHeat, PathsAreReaches, cut_side, offer_of, opposite, parts_of, to_z-of_z, w128}
use Rattle.heat_flow.specs.Table.{reaches}
use Rattle.std.proofs.Common.{Bool, FitsSigned, length, of_z, rules, subst, sym, to_z, ℕ, ◌∙◌, ◌≡◌}
use Rattle.transport.proofs.AroundLimits.{IsAround}
use Rattle.transport.proofs.PairNet.{IsAround-pairs, PathsAreReaches-pairs}
use Rattle.transport.proofs.CutLemmas.{IsAnswer-cut, IsCutOf-members}
use Rattle.transport.proofs.least_cost.least.Goals.{After-offer_of-offer, In_ok-net}
use Rattle.transport.proofs.least_cost.least.Goals as goal

paths : (c : In_ok-net) → PathsAreReaches (length c.args.parts.now.hot) (length c.args.parts.now.cold) c.in_ok-net.net.links (reaches c.args.reach.now)
paths c =
    PathsAreReaches-pairs c.args.reach.now c.in_ok-net.net c.in_ok-net.ensures c.args.parts.now.hot c.args.parts.now.cold c.requires.sizes

around : (c : In_ok-net) → IsAround c.args.parts.now.hot c.args.parts.now.cold c.in_ok-net.net
around c =
    IsAround-pairs c.args.reach.now c.in_ok-net.net c.in_ok-net.ensures c.args.parts.now c.requires.sizes c.requires.few

pub route-requires : goal.route-requires
route-requires c =
    let g = around (goal.at.route-requires c).In_ok-net in
    record { inner = g.inner_net; few_nodes = g.few_nodes; few_links = g.few_links }

pub blocked_members-requires-clause-inner : goal.blocked_members-requires-clause-inner
blocked_members-requires-clause-inner c = (around (goal.at.blocked_members-requires-clause-inner c).In_ok-net).inner_net

pub blocked_members-requires-clause-few_links : goal.blocked_members-requires-clause-few_links
blocked_members-requires-clause-few_links c =
    (around (goal.at.blocked_members-requires-clause-few_links c).In_ok-net).few_links

-- ---- the heat flow

pub routed-requires : goal.routed-requires
routed-requires c =
    let made = (goal.at.routed-requires c).In_ok-net in
    let g = around made in
    record {
      inner = g.inner_net;
      few_nodes = g.few_nodes;
      few_links = g.few_links;
      paths = (reaches c.args.reach.now, paths made);
      routes = rw c.as_slice.ensures (rw c.in-Routed.is at c.in_ok-flow.ensures.routed);
    }

pub returns-in-Routed : goal.returns-in-Routed
returns-in-Routed c =
    let parts = c.args.parts.now in
    IfOk-weaker c.routed.result
    (λ a. (r : ℕ → ℕ → Bool) → PathsAreReaches (length parts.hot) (length parts.cold) c.in_ok-net.net.links r → IsAnswer r parts.hot parts.cold a)
    (IsAnswer (reaches c.args.reach.now) parts.hot parts.cold) (λ a each. each (reaches c.args.reach.now) (paths (goal.at.returns-in-Routed c).In_ok-net))
    c.routed.ensures

-- ---- the cut

within : (c : After-offer_of-offer)
    → IsCutWithin (cut_side c.in_ok-members-in-Blocked.members.kind) (reaches c.args.reach.now) c.args.parts.now.hot c.args.parts.now.cold
    c.in_ok-members-in-Blocked.members.indexes
within c =
    c.in_ok-members-in-Blocked.ensures (reaches c.args.reach.now) (paths (goal.at.After-offer_of-offer c).In_ok-net)

offer_is : (c : After-offer_of-offer)
    → to_z w128 (of_z w128 c.offer_of-offer.result)
    ≡ offer_of (cut_side c.in_ok-members-in-Blocked.members.kind) (reaches c.args.reach.now)
    (parts_of (opposite (cut_side c.in_ok-members-in-Blocked.members.kind)) c.args.parts.now.hot c.args.parts.now.cold)
    c.in_ok-members-in-Blocked.members.indexes
offer_is c =
    let fits : FitsSigned w128 c.offer_of-offer.result = search rules in
    to_z-of_z w128 c.offer_of-offer.result fits
    ∙ rw (c.parts_of-others.ensures, c.opposite.ensures, c.side-side.ensures, c.as_slice-indexes.ensures) at c.offer_of-offer.ensures

pub cut_of-requires-clause-needed : goal.cut_of-requires-clause-needed
cut_of-requires-clause-needed c = (within (goal.at.cut_of-requires-clause-needed c).After-offer_of-offer).need

pub cut_of-requires-clause-offered : goal.cut_of-requires-clause-offered
cut_of-requires-clause-offered c =
    let p = (goal.at.cut_of-requires-clause-offered c).After-offer_of-offer in
    subst IsSideHeat (sym (offer_is p)) (within p).offer

pub returns-in_ok-members-in-Blocked : goal.returns-in_ok-members-in-Blocked
returns-in_ok-members-in-Blocked c =
    let parts = c.args.parts.now in
    let members = c.in_ok-members-in-Blocked.members in
    let p = (goal.at.returns-in_ok-members-in-Blocked c).After-offer_of-offer in
    IsAnswer-cut (reaches c.args.reach.now) parts.hot parts.cold c.cut_of.result
    (IsCutOf-members (reaches c.args.reach.now) parts.hot parts.cold members.kind members.indexes c.cut_of.result
    (within p) c.cut_of.ensures.kind c.cut_of.ensures.parts c.cut_of.ensures.need (c.cut_of.ensures.offer ∙ offer_is p))
