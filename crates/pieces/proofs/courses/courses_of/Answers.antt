use Rattle.pieces.proofs.Words.{course_of, item_there, map-enumerate_more, on_side, stream_course}
use Rattle.pieces.proofs.courses.courses_of.Goals.{in-Cold, in-Hot}
use Rattle.std.proofs.Common.{[], ap, sym, ◌++◌, ◌∙◌, ◌∷◌, ◌≡◌}
use Rattle.pieces.proofs.courses.courses_of.Goals as goal

pub loop-number-preserved : goal.loop-number-preserved
loop-number-preserved c =
    let s = c.stream-item.result in
    let number = c.loop-number.number in
    let streams = c.args.case.now.streams in
    let hot = c.args.hot.now in
    let cold = c.args.cold.now in
    let exchanges = c.args.exchanges.now in
    let (within, is) = item_there number s c.as_slice-stream-items.ensures c.loop-number-test.true c.stream-item.is in
    let sources : c.match-stream.sources.now ≡ on_side s.side hot cold = elim c.match-stream.branch [
      | in-Hot w ↦ (λ i. (w.sources-is i).now) ∙ ap (λ d. on_side d hot cold) (sym w.in-Hot.is)
      | in-Cold w ↦ (λ i. (w.sources-is i).now) ∙ ap (λ d. on_side d hot cold) (sym w.in-Cold.is)
    ] in
    let course = c.in_ok-course.ensures ∙ ap (λ ss. course_of s.side ss exchanges number) sources in
    let pushed : c.push.new.self.items ≡ c.loop-number.courses.items ++ c.in_ok-course.course ∷ []
    = cc c.in_ok-push.ensures.items in
    pushed ∙ (λ i. c.loop-number.invariant i ++ course i ∷ [])
    ∙ sym (map-enumerate_more (stream_course hot cold exchanges) streams number s within is)
