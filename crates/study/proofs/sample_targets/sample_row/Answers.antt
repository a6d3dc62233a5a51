use Rattle.std.proofs.Common.{ap, subst, sym, ◌∙◌}
use Rattle.study.proofs.Words.{AreStreams-IsComplete, IsComplete, completed, cut_side}
use Rattle.study.proofs.NoCut.{IsSupplied, no_cut}
use Rattle.study.proofs.SampleLemmas.{IsComplete-sample, IsSupplied-sample}
use Rattle.study.proofs.sample_targets.sample_row.Goals as goal

pub targets-targets-requires : goal.targets-targets-requires
targets-targets-requires c =
    let is = c.in_ok-case.ensures ∙ ap completed c.in_ok-given.ensures.case in
    AreStreams-IsComplete c.in_ok-case.case
    (subst IsComplete (sym is) (IsComplete-sample c.args.number c.args.count c.requires.some_streams c.requires.few_streams))

pub case_cost-requires-clause-complete : goal.case_cost-requires-clause-complete
case_cost-requires-clause-complete c =
    let is = c.in_ok-case.ensures ∙ ap completed c.in_ok-given.ensures.case in
    subst IsComplete (sym is) (IsComplete-sample c.args.number c.args.count c.requires.some_streams c.requires.few_streams)

pub unreachable-requires : goal.unreachable-requires
unreachable-requires c =
    let case = c.in_ok-case.case in
    let is = c.in_ok-case.ensures ∙ ap completed c.in_ok-given.ensures.case in
    let complete =
    subst IsComplete (sym is) (IsComplete-sample c.args.number c.args.count c.requires.some_streams c.requires.few_streams) in
    let supplied = subst IsSupplied (sym is) (IsSupplied-sample c.args.number c.args.count) in
    let cut = c.in-Err.field-0 in
    let found = rw c.in-Err.is at c.in_ok-cost.ensures in
    let (hot, cold, parts) = found.some in
    no_cut case hot cold complete supplied parts (cut_side cut.kind) cut.parts (found.each hot cold parts).parts
