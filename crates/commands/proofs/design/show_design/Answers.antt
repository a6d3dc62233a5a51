use Rattle.commands.proofs.Designs.{of_least}
use Rattle.std.proofs.Common.{refl}
use Rattle.commands.proofs.design.show_design.Goals as goal
use Rattle.transport.specs.declared.answer.Answer.TheVariants as answer

pub returns-in-Least : goal.returns-in-Least
returns-in-Least c =
    let found = rw c.in-Least.is at c.in_ok-flow.ensures in
    of_least c.args.case c.in_ok-parts.parts c.in-Least.flow c.in-Least.prices c.in-Least.cost
    (record { parts_are = c.in_ok-parts.ensures; answers = found.answer; standard = found.standard })
    c.design_flow.result c.design_flow.ensures.design c.design_flow.ensures.tight

pub returns-in-Stuck : goal.returns-in-Stuck
returns-in-Stuck c =
    let found = rw c.in-Stuck.is at c.in_ok-flow.ensures in
    record {
      parts = c.in_ok-parts.parts;
      answer = answer.Stuck c.in-Stuck.cut;
      is_answer = record { parts_are = c.in_ok-parts.ensures; answers = found.answer; standard = found.standard };
      shows = refl;
    }
