-- The count of either side.
use Rattle.std.proofs.Common.{arith, ◌≤◌}
use Rattle.stream_case.proofs.Words.{Cold, Hot, MOST_STREAMS, count_on, false≢true, nat_tests}
use Rattle.stream_case.proofs.SourceLemmas.{each_side}
use Rattle.stream_case.proofs.validity.are_streams.Goals as goal

pub returns-then-count_on-gt-MOST_STREAMS : goal.returns-then-count_on-gt-MOST_STREAMS
returns-then-count_on-gt-MOST_STREAMS c = (λ e. absurd (false≢true e), λ h. absurd (let few = h.few Hot in omega arith))

pub returns : goal.returns
returns c = (
  λ e. record {
    each = c.are_valid_streams.ensures.0 c.if-not-are_valid_streams.false;
    few =
        each_side (λ side. count_on side c.args.streams.now ≤ MOST_STREAMS) (omega arith) (grind (arith, nat_tests, e));
  },
  λ h. let few = h.few Cold in grind (arith, nat_tests),
)
