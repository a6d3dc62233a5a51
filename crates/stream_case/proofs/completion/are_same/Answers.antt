-- Two lists of utilities are the same exactly where their items are.
use Rattle.std.proofs.lemmas.Slice.Eq.{slice_eq-Decides}
use Rattle.stream_case.proofs.SameLemmas.{Decides-same_utility}
use Rattle.stream_case.proofs.completion.are_same.Goals as goal

pub returns : goal.returns
returns c = slice_eq-Decides Decides-same_utility c.args.a.now c.args.b.now c.eq.result c.eq.ensures
