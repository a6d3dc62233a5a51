use Rattle.design_lines.proofs.DrawSteps.{AreCoursesLed, courses_next, courses_start, next_item}
use Rattle.design_lines.proofs.Words.{course_branches, course_lines, many_own, numbered, own_branches}
use Rattle.std.proofs.Common.{ap, arith, length, subst, sym, ◌++◌, ◌+◌, ◌-◌, ◌∙◌, ◌≡◌}
use Rattle.design_lines.proofs.drawing.draw.Goals as goal

pub loop-number-init : goal.loop-number-init
loop-number-init c =
    let case = c.args.case.now in
    let courses = c.args.courses.now in
    let declared = c.args.declarations.items in
    let start = courses_start courses (length case.streams) declared (own_branches case) (many_own case) in
    subst (AreCoursesLed courses (length case.streams) declared (own_branches case) 0 declared)
    (sym c.in_ok-branches.ensures) start

pub loop-number-preserved : goal.loop-number-preserved
loop-number-preserved c =
    let case = c.args.case.now in
    let courses = c.args.courses.now in
    let number = c.loop-number.number in
    let lines = c.loop-number.lines.items in
    let branches = c.loop-number.branches.items in
    let course = c.index-courses-number.result in
    let own = length case.streams in
    let left = next_item courses number course c.loop-number-test.true c.index-courses-number.is in
    let same : c.as_slice.result.now ≡ course = c.as_slice.ensures in
    let size = ap course_branches same in
    let first : c.len-next.result ≡ length branches = omega arith in
    let streams : c.len-own.result ≡ own = omega arith in
    let drawn = c.in_ok-free.ensures.lines ∙ ap (λ k. lines ++ course_lines k number c.as_slice.result.now) first
    ∙ ap (λ cs. lines ++ course_lines (length branches) number cs) same in
    let free : c.in_ok-free.free ≡ length branches + course_branches course
    = omega (arith, c.in_ok-free.ensures.free, first, size) in
    let made = c.in_ok-push_branches.ensures
    ∙ ap (λ k. branches ++ numbered (k - c.len-own.result) number (c.in_ok-free.free - k)) first
    ∙ ap (λ k. branches ++ numbered (length branches - k) number (c.in_ok-free.free - length branches)) streams in
    courses_next courses own c.args.declarations.items (own_branches case) number lines branches c.loop-number.invariant
    c.push_course.new.lines.items c.push_branches.new.branches.items course c.in_ok-free.free left drawn free made
