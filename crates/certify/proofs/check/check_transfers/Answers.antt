use Rattle.certify.proofs.Words.{ReachesAmong, reach_between, reach_between-among}
use Rattle.std.proofs.Common.{ap, length, subst₂, sym, ◌∙◌}
use Rattle.certify.proofs.check.check_transfers.Goals as goal

pub are_supporting-requires-clause-parts : goal.are_supporting-requires-clause-parts
are_supporting-requires-clause-parts c =
    let s = c.args.setting.now in
    let hots = ap length c.as_slice.ensures ∙ c.requires.hot_count in
    let colds = ap length c.as_slice-2.ensures ∙ c.requires.cold_count in
    subst₂ (ReachesAmong (reach_between s.case.now s.parts.now.hot s.parts.now.cold)) (sym hots) (sym colds)
    (reach_between-among s.case.now s.parts.now)
