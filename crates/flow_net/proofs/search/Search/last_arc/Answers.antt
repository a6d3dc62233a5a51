use Rattle.flow_net.proofs.Words.{arc_by_index, option_map}
use Rattle.std.proofs.Common.{Some, ap, sym, ◌∙◌}
use Rattle.flow_net.proofs.search.Search.last_arc.Goals as goal

pub arc-requires : goal.arc-requires
arc-requires c = c.requires.tree.indices c.args.node c.in_ok-index.index (sym c.last_index.ensures ∙ c.in_ok-index.was)

pub returns : goal.returns
returns c =
    ap Some c.arc.ensures
    ∙ sym (ap (option_map (arc_by_index c.args.problem.now)) (sym c.last_index.ensures ∙ c.in_ok-index.was))
