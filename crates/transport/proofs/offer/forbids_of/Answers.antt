use Rattle.std.proofs.Common.{ap, subst, sym, take, ◌+◌, ◌∙◌}
use Rattle.transport.proofs.Words.{Forbid, ForbidAlike}
use Rattle.transport.proofs.LoopLemmas.{forbid_pass, forbid_push}
use Rattle.transport.proofs.offer.forbids_of.Goals.{else-names, then-names+in_ok-push}
use Rattle.stream_case.specs.declared.source.Source.TheVariants.{Stream as of_stream}
use Rattle.transport.proofs.offer.forbids_of.Goals as goal

pub loop-forbid-preserved : goal.loop-forbid-preserved
loop-forbid-preserved c =
    let none : Forbid = record { hot = of_stream 0; cold = of_stream 0 } in
    let side = c.args.side in
    let source = c.args.source in
    let all = c.as_slice-forbid-items.result.now in
    let same = c.as_slice-forbid-items.ensures in
    let i = c.loop-forbid.forbid-index in
    let within = c.loop-forbid-test.true in
    let old = c.loop-forbid.forbids.items in
    let before = subst (λ fs. ForbidAlike side source old (take i fs)) (sym same) c.loop-forbid.invariant in
    subst (λ fs. ForbidAlike side source c.if-names.forbids.items (take (i + 1) fs)) same
    (elim c.if-names.branch [
      | then-names+in_ok-push w ↦
          forbid_push side source all i none within old _ before (ap (λ v. v.items) w.forbids-is ∙ w.in_ok-push.ensures.items)
      | else-names w ↦
          forbid_pass side source all i none within old _ before (ap (λ v. v.items) w.forbids-is) (sym c.names.ensures ∙ w.if-names.false)
    ])
