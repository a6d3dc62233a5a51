use Rattle.reports.proofs.TextLemmas.{texts_step}
use Rattle.reports.proofs.Words.{use_line}
use Rattle.std.proofs.Common.{ap, ap₂, sym, ◌++◌, ◌∙◌}
use Rattle.reports.proofs.flow.use_lines.Goals as goal

pub loop-index-preserved : goal.loop-index-preserved
loop-index-preserved c =
    let f = use_line c.args.parts.now c.args.transfers.now in
    let items = c.as_slice-utility-items.result.now in
    c.in_ok-push_str.ensures.bytes
    ∙ ap₂ ◌++◌ c.loop-index.invariant (c.deref.ensures ∙ c.in_ok-use_line.ensures ∙ ap (f c.loop-index.index) c.utility-item.is)
    ∙ sym (texts_step f items c.loop-index.index c.utility-item.result c.loop-index-test.true)
