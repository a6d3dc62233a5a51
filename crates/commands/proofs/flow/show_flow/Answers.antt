use Rattle.commands.proofs.Flows.{answered}
use Rattle.commands.proofs.Words.{IsCaseAnswer}
use Rattle.commands.proofs.flow.show_flow.Goals as goal

pub returns : goal.returns
returns c =
    let found = c.in_ok-answer.ensures in
    let is_answer : IsCaseAnswer c.args.case c.in_ok-parts.parts c.in_ok-answer.answer =
    record { parts_are = c.in_ok-parts.ensures; answers = found.answer; standard = found.standard } in
    answered _ _ _ c.shown_answer.result is_answer c.shown_answer.ensures
