use Rattle.heat_flow.proofs.ReachLemmas.{sources_of_parts}
use Rattle.stream_case.specs.declared.source.Side.TheVariants.{Cold, Hot}
use Rattle.limit_tests.proofs.flows.reach_of_case.Goals as goal

pub reach_of-requires-clause-hot_sources : goal.reach_of-requires-clause-hot_sources
reach_of-requires-clause-hot_sources c =
    sources_of_parts c.args.case.now c.requires.parts.grid Hot c.args.parts.now.hot c.requires.parts.hot_parts

pub reach_of-requires-clause-cold_sources : goal.reach_of-requires-clause-cold_sources
reach_of-requires-clause-cold_sources c =
    sources_of_parts c.args.case.now c.requires.parts.grid Cold c.args.parts.now.cold c.requires.parts.cold_parts
