use Rattle.pinch_outside.specs.Shelf.{KeepsFiles}
use Rattle.pinch_outside.specs.declared.limits.TheConstants.{MAX_FILE}
use Rattle.std.proofs.Common.{length, true, ◌-◌, ◌≡◌, ◌≤◌}
use Rattle.std.specs.Io.KnownBytes.{Consumes}
use Rattle.pinch_outside.proofs.shelf.take_all.Given as goal

abbrev pub invariant-loop-bytes : goal.invariant-loop-bytes
invariant-loop-bytes g l = record {
  left : Consumes (g.S.Shelf.state l.initial.shelf).left (g.S.Shelf.state l.shelf).left l.bytes.items;
  taken : (g.S.Shelf.state l.shelf).taken ≡ length l.bytes.items;
  small : length l.bytes.items ≤ MAX_FILE;
  begun : (g.S.Shelf.state l.shelf).begun ≡ true;
  asked : (g.S.Shelf.state l.shelf).asked ≡ (g.S.Shelf.state l.initial.shelf).asked;
  keeps : KeepsFiles (g.S.Shelf.state l.initial.shelf) (g.S.Shelf.state l.shelf);
}

abbrev pub decreases-loop-bytes : goal.decreases-loop-bytes
decreases-loop-bytes g l = MAX_FILE - length l.bytes.items
