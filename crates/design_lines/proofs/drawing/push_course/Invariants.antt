use Rattle.design_lines.proofs.DrawSteps.{IsCourseLed}
use Rattle.design_lines.proofs.drawing.push_course.Given as goal

abbrev pub invariant-loop-shares : goal.invariant-loop-shares
invariant-loop-shares l = IsCourseLed l.course l.stream l.next l.fn.lines.items l.shares-index l.lines.items l.free l.at
