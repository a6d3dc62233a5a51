use Rattle.std.proofs.Common.{subst, sym}
use Rattle.grid.proofs.Words.{All, IsPlaced, IsPlaced-IsComplete}
use Rattle.grid.proofs.places.grid_of.Goals as goal

pub places_of-requires-clause-utilities : goal.places_of-requires-clause-utilities
places_of-requires-clause-utilities c =
    subst (All IsPlaced) (sym c.as_slice-2.ensures) (IsPlaced-IsComplete c.args.case.now c.requires)
