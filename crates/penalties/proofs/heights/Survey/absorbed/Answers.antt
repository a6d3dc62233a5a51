use Rattle.network_audit.proofs.ItemLemmas.{found-nothing}
use Rattle.penalties.proofs.Words.{absorbed_by, absorbed_steps, first_finding, seen_height, seen_steps}
use Rattle.std.proofs.Common.{ap, ap₂, sym, ◌∙◌}
use Rattle.penalties.proofs.heights.Survey.absorbed.Goals as goal

pub returns-in-Utility : goal.returns-in-Utility
returns-in-Utility c =
    let s = c.args.self.now in
    let joint = c.args.joint.now in (
      ap (λ of. first_finding (absorbed_steps (seen_height s) (seen_steps s) c.args.place of joint.taken)) c.in-Utility.is
          ∙ found-nothing,
      c.whole.ensures ∙ sym (ap (λ of. absorbed_by (seen_height s) of joint.taken) c.in-Utility.is),
    )

pub returns-in-None : goal.returns-in-None
returns-in-None c =
    let s = c.args.self.now in
    let joint = c.args.joint.now in (
      ap₂ (λ of pass. first_finding (absorbed_steps (seen_height s) (seen_steps s) c.args.place of pass)) c.in_default.is c.in-None.is
          ∙ found-nothing,
      c.whole-in-None.ensures ∙ sym (ap₂ (λ of pass. absorbed_by (seen_height s) of pass) c.in_default.is c.in-None.is),
    )
