use Rattle.design_lines.proofs.DrawSteps.{AreCoursesLed}
use Rattle.design_lines.proofs.Words.{own_branches}
use Rattle.std.proofs.Common.{length}
use Rattle.design_lines.proofs.drawing.draw.Given as goal

abbrev pub invariant-loop-number : goal.invariant-loop-number
invariant-loop-number l =
    AreCoursesLed l.courses (length l.case.streams) l.fn.declarations.items (own_branches l.case) l.number l.lines.items
    l.branches.items
