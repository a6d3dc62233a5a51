use Rattle.network_values.proofs.ValuationLemmas.{room_left, valuation_from_room}
use Rattle.network_values.proofs.valuations.valuations_exist_where_splits_leave_room.Goals as goal

pub returns : goal.returns
returns c case network n complete shape within =
    (λ (values, is). room_left case network n values shape is, valuation_from_room case network n complete shape within)
