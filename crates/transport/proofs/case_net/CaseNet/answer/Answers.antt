use Rattle.transport.proofs.Words.{IfOk-weaker, IsAnswer, PathsAreReaches, reach_between, to_z-of_z, w128}
use Rattle.std.proofs.Common.{Bool, FitsSigned, length, rules, ℕ, ◌∙◌}
use Rattle.transport.proofs.CutLemmas.{IsAnswer-cut, IsCutOf-members}
use Rattle.transport.proofs.case_net.CaseNet.answer.Goals as goal

-- ---- the heat flow

pub routed-requires-clause-paths : goal.routed-requires-clause-paths
routed-requires-clause-paths c =
    (reach_between c.args.case.now c.args.parts.now.hot c.args.parts.now.cold, c.requires.paths)

pub routed-requires-clause-routes : goal.routed-requires-clause-routes
routed-requires-clause-routes c = rw c.as_slice.ensures (rw c.in-Routed.is at c.in_ok-flow.ensures.routed)

pub returns-in-Routed : goal.returns-in-Routed
returns-in-Routed c =
    let parts = c.args.parts.now in
    let reach = reach_between c.args.case.now parts.hot parts.cold in
    IfOk-weaker c.routed.result
    (λ a. (r : ℕ → ℕ → Bool) → PathsAreReaches (length parts.hot) (length parts.cold) c.args.self.now.chains.net.links r → IsAnswer r parts.hot parts.cold a)
    (IsAnswer reach parts.hot parts.cold) (λ a each. each reach c.requires.paths) c.routed.ensures

-- ---- the cut

pub returns-in_ok-offer-in-Blocked : goal.returns-in_ok-offer-in-Blocked
returns-in_ok-offer-in-Blocked c =
    let parts = c.args.parts.now in
    let reach = reach_between c.args.case.now parts.hot parts.cold in
    let within = c.in_ok-members-in-Blocked.ensures reach c.requires.paths in
    let members = c.in_ok-members-in-Blocked.members in
    let cut = c.cut_of.ensures in
    let offer = c.in_ok-offer-in-Blocked in
    let fits : FitsSigned w128 offer.offer = search rules in
    IsAnswer-cut reach parts.hot parts.cold c.cut_of.result
    (IsCutOf-members reach parts.hot parts.cold members.kind members.indexes c.cut_of.result within cut.kind cut.parts cut.need
    (cut.offer ∙ to_z-of_z w128 offer.offer fits ∙ offer.ensures))
