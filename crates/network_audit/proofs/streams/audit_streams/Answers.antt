use Rattle.network_audit.proofs.ItemLemmas.{found-append, found-failed, found-nothing, found-passed}
use Rattle.network_audit.proofs.Words.{ends_stream, first-here, first-more, first-none, first_finding, is_ended, length-AreStreams, list_any, stream_items}
use Rattle.network_audit.proofs.Words.{stream_items_at}
use Rattle.std.proofs.Common.{None, Some, ap, arith, false, get_or, length, subst, sym, true, ◌<◌, ◌∙◌, ◌≡◌, ◌≤◌}
use Rattle.network_audit.proofs.streams.audit_streams.Goals as goal
use Rattle.network_audit.specs.declared.findings.Finding.TheVariants as finding
use Rattle.network_audit.specs.declared.findings.Place.TheVariants as place
use Rattle.network_audit.specs.declared.findings.Reason.TheVariants as reason

pub overflow_cast-index : goal.overflow_cast-index
overflow_cast-index c =
    omega (arith, ap length c.as_slice-stream-items.ensures, length-AreStreams c.args.case.now.streams c.requires)

pub overflow_cast-result : goal.overflow_cast-result
overflow_cast-result c =
    omega (arith, ap length c.as_slice-stream-items.ensures, length-AreStreams c.args.case.now.streams c.requires)

pub loop-index-init : goal.loop-index-init
loop-index-init c = found-nothing

pub returns-then-not-is_ended : goal.returns-then-not-is_ended
unfolding is_ended stream_items
returns-then-not-is_ended c =
    let streams = c.args.case.now.streams in
    let n = c.loop-index.index in
    let d = c.stream-item.result in
    let ended : is_ended c.args.network.now n ≡ false =
    (λ i. list_any (ends_stream (sym c.as_slice-branches.ensures i) n) (sym c.as_slice-lines.ensures i))
    ∙ sym c.is_ended.ensures ∙ c.if-not-is_ended.true in
    let within : n < length streams
    = omega (arith, ap length c.as_slice-stream-items.ensures, c.loop-index-test.true) in
    let read : d ≡ get_or streams n d = c.stream-item.is ∙ ap (λ ss. get_or ss n d) c.as_slice-stream-items.ensures in
    let found = finding.Failed (place.Stream n) (reason.Unfinished c.whole.result c.full_size.result) in
    let here : first_finding (stream_items_at c.args.network.now (n, d)) ≡ Some found =
    found-failed _ _ ended ∙ (λ i. Some (finding.Failed (place.Stream n) (reason.Unfinished (sym c.whole.ensures i) (sym c.full_size.ensures i)))) in
    first-here first_finding found-append (stream_items_at c.args.network.now) streams n d found within c.loop-index.invariant
    (subst (λ s. first_finding (stream_items_at c.args.network.now (n, s)) ≡ Some found) read here)

pub loop-index-preserved : goal.loop-index-preserved
unfolding is_ended
loop-index-preserved c =
    let streams = c.args.case.now.streams in
    let n = c.loop-index.index in
    let d = c.stream-item.result in
    let ended : is_ended c.args.network.now n ≡ true =
    (λ i. list_any (ends_stream (sym c.as_slice-branches.ensures i) n) (sym c.as_slice-lines.ensures i))
    ∙ sym c.is_ended.ensures ∙ c.if-not-is_ended.false in
    let within : n < length streams
    = omega (arith, ap length c.as_slice-stream-items.ensures, c.loop-index-test.true) in
    let here : first_finding (stream_items_at c.args.network.now (n, get_or streams n d)) ≡ None
    = found-passed _ _ ended ∙ found-nothing in
    first-more first_finding found-append (stream_items_at c.args.network.now) streams n d within c.loop-index.invariant here

pub returns : goal.returns
unfolding stream_items
returns c =
    let streams = c.args.case.now.streams in
    let long : length streams ≤ c.loop-index.index = omega (arith, ap length c.as_slice-stream-items.ensures) in
    (first-none first_finding found-append (stream_items_at c.args.network.now) streams c.loop-index.index long c.loop-index.invariant, tt)
