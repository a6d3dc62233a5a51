use Rattle.case_text.proofs.Words.{flat_map, row_text, stream_row}
use Rattle.std.proofs.Common.{take, ◌++◌, ◌≡◌}
use Rattle.case_text.proofs.printer.push_streams.Given as goal

abbrev pub invariant-loop-stream : goal.invariant-loop-stream
invariant-loop-stream l =
    l.text.items ≡ l.initial.text.items ++ flat_map (λ x. row_text (stream_row l.case x)) (take l.stream-index l.streams)
