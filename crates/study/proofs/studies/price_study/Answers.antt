use Rattle.study.proofs.Words.{parts_on_grid}
use Rattle.study.proofs.studies.price_study.Goals as goal

pub new-requires-clause-parts : goal.new-requires-clause-parts
new-requires-clause-parts g c =
    parts_on_grid c.args.case.now c.in_ok-parts.parts.hot c.in_ok-parts.parts.cold c.in_ok-parts.ensures
