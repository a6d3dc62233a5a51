use Rattle.std.proofs.lemmas.Slice.Eq.{slice_eq-Decides}
use Rattle.std.specs.Cmp.{booleans_Decides}
use Rattle.chains.proofs.partners.are_alike.Goals as goal

pub returns : goal.returns
returns c =
    slice_eq-Decides booleans_Decides c.args.first.now.allowed.items c.args.second.now.allowed.items c.eq.result
    c.eq.ensures
