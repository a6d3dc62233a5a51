use Rattle.network_values.proofs.ValuationLemmas.{valuation_ends, valuation_less, valuation_more, valuation_start}
use Rattle.std.proofs.Common.{add-one}
use Rattle.network_values.proofs.valuations.valuations_go_line_by_line.Goals as goal

pub returns-clause-start : goal.returns-clause-start
returns-clause-start c = valuation_start

pub returns-clause-next : goal.returns-clause-next
returns-clause-next c case network n l values shape here is room =
    rw add-one (valuation_more case network n values l shape here is room)

pub returns-clause-before : goal.returns-clause-before
returns-clause-before c case network n values shape is = valuation_less case network n values shape (rw add-one at is)

pub returns-clause-room : goal.returns-clause-room
returns-clause-room c case network n l values shape here is =
    (valuation_ends case network n values l shape here (rw add-one at is)).room
