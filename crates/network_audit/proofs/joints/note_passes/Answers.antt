use Rattle.network_audit.proofs.JointLemmas.{joints-passed, joints-same, length-joints, no_pass}
use Rattle.network_audit.proofs.joints.note_passes.Goals.{in-Pass, in_default}
use Rattle.network_audit.proofs.Words.{PassesBelow, joints_among, passed_joint, stream_at, take_more}
use Rattle.std.proofs.Common.{[], ap, arith, get_or, length, set, subst, sym, take, ◌++◌, ◌+◌, ◌<◌, ◌∙◌, ◌∷◌, ◌≡◌}
use Rattle.network_audit.proofs.joints.note_passes.Goals as goal

pub loop-line-preserved : goal.loop-line-preserved
loop-line-preserved c =
    let n = c.loop-line.line-index in
    let l = c.line-item.result in
    let branches = c.args.branches.now in
    let before = take n c.args.lines.now in
    let more : take (n + 1) c.args.lines.now ≡ before ++ l ∷ [] = take_more c.args.lines.now n l c.loop-line-test.true
    ∙ ap (λ m. before ++ m ∷ []) (sym c.line-item.is) in elim c.match-line.branch [
      | in-Pass w ↦ λ es start. let p = w.in-Pass in
          let d = w.index-joints-exchanger.result in
          let known : p.exchanger < length c.args.joints.now
          = subst (PassesBelow (length c.args.joints.now)) (sym c.line-item.is ∙ p.is)
          (c.requires n l c.loop-line-test.true) in
          let within : p.exchanger < length es = omega (arith, known, ap length start, length-joints branches [] es) in
          let table = c.loop-line.invariant es start in
          w.joints-is ∙ ap (set c.loop-line.joints p.exchanger)
          (w.passed.ensures ∙ (λ i. passed_joint (w.stream_at.ensures i) (record { from = p.from; to = p.to }) (w.index-joints-exchanger.is i)))
          ∙ ap (λ js. set js p.exchanger (passed_joint (stream_at branches p.from) (record { from = p.from; to = p.to }) (get_or js p.exchanger d))) table
          ∙ sym (joints-passed branches before es p.from p.exchanger p.to d within)
          ∙ ap (λ m. joints_among branches (before ++ m ∷ []) es) (sym p.is)
          ∙ ap (λ ls. joints_among branches ls es) (sym more)
      | in_default w ↦
          λ es start. w.joints-is ∙ c.loop-line.invariant es start
          ∙ sym (joints-same branches before es l (no_pass l w.in_default.not-Pass))
          ∙ ap (λ ls. joints_among branches ls es) (sym more)
    ]
