use Rattle.std.proofs.Common.{FitsSigned, inr, of_z, rules, subst, sym, to_z, w64}
use Rattle.study.proofs.LeastCosts.{has_flow, no_flow-moves}
use Rattle.study.proofs.Words.{CostsWith, IsCost, IsPrice, to_z-of_z, w128}
use Rattle.study.proofs.segments.span_segments.Goals as goal

pub new-curve-requires-clause-flow : goal.new-curve-requires-clause-flow
new-curve-requires-clause-flow c =
    let found = rw c.in-Some.is at c.in_ok-cost.ensures.cost in
    has_flow c.args.priced.now.case.now c.args.utility c.requires.span.utility _ _ found

pub keep-requires : goal.keep-requires
keep-requires c =
    let case = c.args.priced.now.case.now in
    let i = c.args.utility in
    let cost = c.in-Some.cost in
    let from = to_z w64 (of_z w64 c.args.from) in
    let found = rw c.in-Some.is at c.in_ok-cost.ensures.cost in
    let range = rw c.in-Some.is at c.in_ok-cost.ensures.range in
    let fits : FitsSigned w128 cost = search rules in
    let cost_is = sym (to_z-of_z w128 cost fits) in
    rw c.new-curve.ensures.curve (record {
      small = record {
        price = subst IsPrice (sym (to_z-of_z w64 c.args.from c.ranges.from)) c.requires.span.first;
        cost = subst IsCost cost_is range;
      };
      least = subst (CostsWith case i from) cost_is found;
    })

pub returns-in-None : goal.returns-in-None
returns-in-None c = let none = rw c.in-None.is at c.in_ok-cost.ensures.cost in
    inr (c.new.ensures, λ p within. no_flow-moves c.args.priced.now.case.now c.args.utility c.requires.span.utility _ p none)
