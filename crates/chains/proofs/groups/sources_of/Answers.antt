use Rattle.chains.proofs.GroupLemmas.{AreSources-on}
use Rattle.chains.proofs.Words.{AreSources, AreStreams-IsComplete, length-AreStreams, length-utilities, streams_on, utilities_on}
use Rattle.std.proofs.Common.{ap, arith, subst, sym, ◌++◌, ◌∙◌}
use Rattle.chains.proofs.groups.sources_of.Goals as goal

pub push_streams-requires : goal.push_streams-requires
push_streams-requires c =
    record {
      few =
          omega (
            arith,
            length-AreStreams c.args.case.now.streams (AreStreams-IsComplete c.args.case.now c.requires),
          );
    }

pub push_utilities-requires : goal.push_utilities-requires
push_utilities-requires c = record { few = omega (arith, length-utilities c.args.case.now c.requires) }

pub returns : goal.returns
returns c =
    let case = c.args.case.now in
    let side = c.args.side in
    let streams = c.in_ok-push_streams.ensures
    ∙ ap (λ sources. sources ++ streams_on side case.streams) c.new-sources.ensures.items in
    let both = c.in_ok-push_utilities.ensures ∙ ap (λ sources. sources ++ utilities_on side case.utilities) streams in
    subst (AreSources case.streams case.utilities side) (sym both) (AreSources-on case.streams case.utilities side)
