-- The grid of a completed case holds its places, and they are few.
use Rattle.grid.proofs.MakingLemmas.{HoldsPlaces-IsGrid}
use Rattle.grid.proofs.SizeLemmas.{length-grid}
use Rattle.std.proofs.Common.{subst, sym}
use Rattle.grid.proofs.Words.{All, IsPlaced, IsPlaced-IsComplete}
use Rattle.grid.proofs.making.parts_of.Goals as goal

pub parts_on-requires-clause-utilities : goal.parts_on-requires-clause-utilities
parts_on-requires-clause-utilities c =
    subst (All IsPlaced) (sym c.as_slice-utilities.ensures) (IsPlaced-IsComplete c.args.case.now c.requires.complete)

pub parts_on-requires-clause-places : goal.parts_on-requires-clause-places
parts_on-requires-clause-places c = rw (c.as_slice-streams.ensures, c.as_slice-utilities.ensures, c.as_slice.ensures)
    (HoldsPlaces-IsGrid c.args.case.now c.args.grid.now.places c.requires.grid)

pub parts_on-requires-clause-few_places : goal.parts_on-requires-clause-few_places
parts_on-requires-clause-few_places c =
    rw c.as_slice.ensures (length-grid c.args.case.now c.args.grid.now.places c.requires.complete c.requires.grid)
