use Rattle.design_lines.proofs.DrawSteps.{stage_joined}
use Rattle.std.proofs.Common.{length, refl, ◌-◌}
use Rattle.design_lines.proofs.stage.push_stage.Goals as goal

pub returns-clause-lines : goal.returns-clause-lines
returns-clause-lines c =
    stage_joined c.args.next c.args.from c.in_ok-rest.rest (length c.args.shares.now - 1) c.args.shares.now
    c.args.lines.now.items c.push_splits.new.lines.items c.push_passes.new.lines.items c.push_mixes.new.lines.items
    c.requires.some refl c.in_ok-rest.ensures.lines c.in_ok-rest.ensures.rest c.in_ok-push_passes.ensures
    (c.in_ok-push_mixes.ensures)
