use Rattle.grid.proofs.OnGridLemmas.{parts_on_grid}
use Rattle.limit_tests.proofs.flows.answer_of.Goals as goal

pub least_case-requires-clause-parts : goal.least_case-requires-clause-parts
least_case-requires-clause-parts c =
    parts_on_grid c.args.case.now c.args.parts.now.hot c.args.parts.now.cold c.requires.parts
