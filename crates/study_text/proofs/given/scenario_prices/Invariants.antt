use Rattle.std.proofs.Common.{drop, length, ◌≡◌}
use Rattle.study_text.specs.Given.{prices_by}
use Rattle.study_text.specs.Study.{case_prices}
use Rattle.study_text.proofs.given.scenario_prices.Given as goal

abbrev pub invariant-loop-entry : goal.invariant-loop-entry
invariant-loop-entry l = record {
  same : prices_by l.prices.items (drop l.entry-index l.behind) ≡ prices_by (case_prices l.case) l.behind;
  long : length l.prices.items ≡ length l.case.utilities;
}
