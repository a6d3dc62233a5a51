use Rattle.network_text.proofs.Tables.{first_new, second_new}
use Rattle.network_text.proofs.Words.{members}
use Rattle.std.proofs.Common.{[], ap, eqb-true, nat_eq, ◌∷◌}
use Rattle.network_text.proofs.given.mark_all_used.Goals as goal

pub mark_used-requires : goal.mark_used-requires
mark_used-requires c =
    first_new nat_eq eqb-true c.args.used.now.keys c.args.numbers c.in-One.number [] (ap members c.in-One.is) c.requires

pub mark_used-requires-in-Two : goal.mark_used-requires-in-Two
mark_used-requires-in-Two c =
    first_new nat_eq eqb-true c.args.used.now.keys c.args.numbers c.in-Two.first (c.in-Two.second ∷ [])
    (ap members c.in-Two.is) c.requires

pub mark_used-requires-in-Two-2 : goal.mark_used-requires-in-Two-2
mark_used-requires-in-Two-2 c =
    second_new nat_eq eqb-true c.args.used.now.keys c.mark_used-in-Two.new.used.keys c.args.numbers c.in-Two.first c.in-Two.second
    (ap members c.in-Two.is) c.requires c.in_ok-mark_used-in-Two.ensures.added
