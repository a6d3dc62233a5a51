use Rattle.network_audit.proofs.JointLemmas.{declared-other, declared-some, joints-none}
use Rattle.network_audit.proofs.joints.declared.Goals.{in-Exchanger+in_ok-push, in_default}
use Rattle.network_audit.proofs.Words.{Joint, exchangers_of}
use Rattle.std.proofs.Common.{None, [], ap, sym, ◌++◌, ◌∙◌, ◌∷◌}
use Rattle.network_audit.proofs.joints.declared.Goals as goal

pub loop-line-init : goal.loop-line-init
unfolding exchangers_of
loop-line-init c = λ branches. c.new-joints.ensures.items ∙ sym (joints-none branches)

pub loop-line-preserved : goal.loop-line-preserved
loop-line-preserved c =
    let n = c.loop-line.line-index in
    let l = c.line-item.result in
    elim c.match-line.branch [
      | in-Exchanger+in_ok-push w ↦ λ branches. let e = w.in-Exchanger in
          let new : Joint = record { hot = e.hot; cold = e.cold; duty = e.duty; given = None; taken = None } in
          ap (λ v. v.items) w.joints-is ∙ w.in_ok-push.ensures.items
          ∙ ap (λ js. js ++ new ∷ []) (c.loop-line.invariant branches)
          ∙ sym (declared-some branches c.args.lines.now n l e.name e.hot e.cold e.duty c.loop-line-test.true c.line-item.is e.is)
      | in_default w ↦ λ branches. ap (λ v. v.items) w.joints-is ∙ c.loop-line.invariant branches
          ∙ sym (declared-other branches c.args.lines.now n l c.loop-line-test.true c.line-item.is w.in_default.not-Exchanger)
    ]
