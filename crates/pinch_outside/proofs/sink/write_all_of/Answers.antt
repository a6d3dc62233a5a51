use Rattle.pinch_outside.proofs.Fronts.{Wrote-front, Wrote-more}
use Rattle.std.proofs.Common.{refl, rules}
use Rattle.std.proofs.KnownBytes.{Keeps-refl}
use Rattle.pinch_outside.proofs.sink.write_all_of.Goals as goal

pub returns-in_err-count-clause-front : goal.returns-in_err-count-clause-front
returns-in_err-count-clause-front g c = Wrote-front _ _ _ _ _ c.loop-rest.invariant.wrote c.in_err-count.ensures.written

pub returns-clause-front : goal.returns-clause-front
returns-clause-front g c = Wrote-front _ _ _ _ _ c.loop-rest.invariant.wrote (Keeps-refl _)

pub loop-rest-preserved : goal.loop-rest-preserved
loop-rest-preserved g c = record {
  wrote = Wrote-more _ _ _ _ _ _ c.in_ok-count.count refl c.loop-rest.invariant.wrote c.in_ok-count.ensures.written;
  later = search rules;
}
