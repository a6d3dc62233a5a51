use Rattle.std.proofs.Common.{ap, subst, sym, w32, ◌∙◌}
use Rattle.study.proofs.Words.{AreStreams-IsComplete, IsValid, to_z-of_z, with_contribution}
use Rattle.study.proofs.SweepLemmas.{IsComplete-with, IsValid-with}
use Rattle.study.proofs.row.sweep_row.Goals as goal

pub complete-requires : goal.complete-requires
complete-requires c =
    let changed = c.in_ok-given.ensures
    ∙ ap (λ z. with_contribution z c.args.case.now) (to_z-of_z w32 c.args.contribution c.ranges.contribution) in
    subst IsValid (sym changed) (IsValid-with c.args.contribution c.requires.contribution c.args.case.now c.requires.valid)

pub cost_of-requires-clause-complete : goal.cost_of-requires-clause-complete
cost_of-requires-clause-complete c =
    let changed = c.in_ok-given.ensures
    ∙ ap (λ z. with_contribution z c.args.case.now) (to_z-of_z w32 c.args.contribution c.ranges.contribution) in
    IsComplete-with c.args.contribution c.requires.contribution c.args.case.now c.in_ok-given.given c.in_ok-case.case c.requires.valid changed
    c.in_ok-case.ensures

pub targets-targets-requires : goal.targets-targets-requires
targets-targets-requires c =
    let changed = c.in_ok-given.ensures
    ∙ ap (λ z. with_contribution z c.args.case.now) (to_z-of_z w32 c.args.contribution c.ranges.contribution) in
    AreStreams-IsComplete c.in_ok-case.case
    (IsComplete-with c.args.contribution c.requires.contribution c.args.case.now c.in_ok-given.given c.in_ok-case.case c.requires.valid changed
    c.in_ok-case.ensures)
