-- The greater of the greatest of each of the two deficits.
use Rattle.problem_table.proofs.DeficitLemmas.{hot_target-between, hot_target-is}
use Rattle.std.proofs.Common.{FitsSigned, ap₂, rules, subst, sym, w64, ◌∙◌}
use Rattle.problem_table.proofs.Words.{IsStreamsHeat, int_max, to_z-of_z}
use Rattle.problem_table.proofs.target.hot_target.Goals as goal

pub returns-clause-value : goal.returns-clause-value
returns-clause-value c =
    let above_fits : FitsSigned w64 c.greatest_deficit.result = search rules in
    let from_fits : FitsSigned w64 c.greatest_deficit-2.result = search rules in
    let max_fits : FitsSigned w64 c.max.result = search rules in
    let above = to_z-of_z w64 _ above_fits ∙ c.greatest_deficit.ensures in
    let from = to_z-of_z w64 _ from_fits ∙ c.greatest_deficit-2.ensures in
    to_z-of_z w64 _ max_fits ∙ c.max.ensures.value ∙ ap₂ int_max above from ∙ hot_target-is c.args.streams.now

pub returns-clause-range : goal.returns-clause-range
returns-clause-range c =
    subst IsStreamsHeat (sym (returns-clause-value c)) (hot_target-between c.args.streams.now c.requires)
