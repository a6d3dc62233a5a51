-- One utility more.
use Rattle.chains.proofs.GroupLemmas.{item_pushed}
use Rattle.chains.proofs.groups.push_utilities.Goals.{else-eq, then-eq+in_ok-push}
use Rattle.chains.proofs.Words.{Utility, take_all, true_same, utilities_on}
use Rattle.std.proofs.Common.{ap, inl, inr, rules, ◌++◌, ◌∙◌}
use Rattle.stream_case.specs.contracts.source.Side.{the_type}
use Rattle.chains.proofs.groups.push_utilities.Goals as goal
use Rattle.stream_case.specs.declared.source.Source.TheVariants.{Utility as of_utility}

pub loop-index-preserved : goal.loop-index-preserved
loop-index-preserved c =
    let item = c.index-utilities-index.result in
    item_pushed (λ (x : Utility). x.side) of_utility c.args.side c.as_slice-utilities.result.now c.loop-index.index item
    c.args.sources.now.items c.loop-index.sources.items _ c.eq.result c.loop-index-test.true c.index-utilities-index.is
    c.loop-index.invariant (λ test. search (rules, test, c.eq.ensures))
    (λ own. c.eq.ensures ∙ true_same the_type item.side c.args.side own) (elim c.if-eq.branch [
      | then-eq+in_ok-push w ↦ inl (w.if-eq.true, ap (λ v. v.items) w.sources-is ∙ w.in_ok-push.ensures.items)
      | else-eq w ↦ inr (w.if-eq.false, ap (λ v. v.items) w.sources-is)
    ])

pub returns : goal.returns
returns c =
    let whole = take_all c.loop-index.index c.as_slice-utilities.result.now c.loop-index-test.false
    ∙ c.as_slice-utilities.ensures in
    c.loop-index.invariant ∙ ap (λ items. c.args.sources.now.items ++ utilities_on c.args.side items) whole
