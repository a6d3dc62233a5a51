use Rattle.network_audit.proofs.ItemLemmas.{found-nothing}
use Rattle.penalties.proofs.Words.{first_finding, released_by, released_steps, seen_height, seen_steps}
use Rattle.std.proofs.Common.{ap, ap₂, sym, ◌∙◌}
use Rattle.penalties.proofs.heights.Survey.released.Goals as goal

pub returns-in-Utility : goal.returns-in-Utility
returns-in-Utility c =
    let s = c.args.self.now in
    let joint = c.args.joint.now in (
      ap (λ of. first_finding (released_steps (seen_height s) (seen_steps s) c.args.place of joint.given)) c.in-Utility.is
          ∙ found-nothing,
      sym (ap (λ of. released_by (seen_height s) joint.duty of joint.given) c.in-Utility.is),
    )

pub returns-in-None : goal.returns-in-None
returns-in-None c =
    let s = c.args.self.now in
    let joint = c.args.joint.now in (
      ap₂ (λ of pass. first_finding (released_steps (seen_height s) (seen_steps s) c.args.place of pass)) c.in_default.is c.in-None.is
          ∙ found-nothing,
      c.whole.ensures ∙ sym (ap₂ (λ of pass. released_by (seen_height s) joint.duty of pass) c.in_default.is c.in-None.is),
    )
