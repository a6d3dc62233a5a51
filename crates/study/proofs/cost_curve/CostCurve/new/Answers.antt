use Rattle.std.proofs.Common.{subst, sym}
use Rattle.std.proofs.lemmas.List.Elements.{All-nil}
use Rattle.study.proofs.Words.{All, IsPoint}
use Rattle.study.proofs.cost_curve.CostCurve.new.Goals as goal

pub invariant_of-result : goal.invariant_of-result
invariant_of-result c =
    let is = IsPoint c.args.priced.now.case.now c.args.utility in
    record {
      priced = c.requires.priced;
      utility = c.requires.utility;
      flow = c.requires.flow;
      points = subst (All is) (sym c.new.ensures.items) (All-nil is);
    }
