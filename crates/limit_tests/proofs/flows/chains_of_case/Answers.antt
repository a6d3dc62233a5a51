use Rattle.grid.proofs.OnGridLemmas.{parts_on_grid}
use Rattle.limit_tests.proofs.flows.chains_of_case.Goals as goal

pub chains_of-requires-clause-parts : goal.chains_of-requires-clause-parts
chains_of-requires-clause-parts c =
    parts_on_grid c.args.case.now c.args.parts.now.hot c.args.parts.now.cold c.requires.parts
