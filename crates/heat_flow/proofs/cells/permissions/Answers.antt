use Rattle.heat_flow.proofs.ReachLemmas.{forbids_of_complete}
use Rattle.std.proofs.Common.{arith, subst, sym}
use Rattle.heat_flow.proofs.Words.{All, AreStreams-IsComplete, IsSourceOf, length-AreStreams, length-utilities}
use Rattle.heat_flow.proofs.cells.permissions.Goals as goal

pub overflow_add-len : goal.overflow_add-len
overflow_add-len c = omega (
  arith,
  c.len.ensures,
  c.len-2.ensures,
  length-AreStreams c.args.case.now.streams (AreStreams-IsComplete c.args.case.now c.requires),
  length-utilities c.args.case.now c.requires,
)

pub forbid_matches-requires-clause-sources : goal.forbid_matches-requires-clause-sources
forbid_matches-requires-clause-sources c =
    subst (All (λ f. IsSourceOf c.args.case.now f.cold)) (sym c.as_slice.ensures) (forbids_of_complete c.args.case.now c.requires)
