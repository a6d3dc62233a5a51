use Rattle.std.proofs.Common.{ap, arith, ◌*◌, ◌+◌, ◌∙◌, ◌≡◌}
use Rattle.study.proofs.SampleLemmas.{state_after-add, streams_push}
use Rattle.study.proofs.Words.{drawn_stream, state_after}
use Rattle.study.proofs.sample.push_streams.Goals as goal

pub loop-index-preserved : goal.loop-index-preserved
loop-index-preserved c =
    let x = c.args.generator.now.state in
    let i = c.loop-index.index in
    let so_far = c.loop-index.invariant in
    let stream = c.in_ok-draw_stream.ensures.stream ∙ ap (λ s. drawn_stream c.args.side s (i + 1)) so_far.state in
    let draws : 3 * i + 3 ≡ 3 * (i + 1) = omega arith in
    record {
      streams =
          streams_push c.args.side x i c.args.streams.now.items c.loop-index.streams.items _ c.in_ok-draw_stream.field-0 so_far.streams stream
          c.in_ok-push.ensures.items;
      state =
          c.draw_stream.ensures.state ∙ ap (λ s. state_after s 3) so_far.state ∙ state_after-add x (3 * i) 3
          ∙ ap (state_after x) draws;
    }
