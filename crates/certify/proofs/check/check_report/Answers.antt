use Rattle.certify.proofs.Firsts.{answered}
use Rattle.certify.proofs.Words.{Cold, Hot, sources_of_parts}
use Rattle.certify.proofs.check.check_report.Goals as goal

pub check_over-requires-clause-setting : goal.check_over-requires-clause-setting
check_over-requires-clause-setting c =
    let case = c.args.case.now in
    let parts = c.in_ok-parts.ensures in
    record {
      complete = c.requires.complete;
      hot_sources = sources_of_parts case parts.grid Hot c.in_ok-parts.parts.hot parts.hot_parts;
      cold_sources = sources_of_parts case parts.grid Cold c.in_ok-parts.parts.cold parts.cold_parts;
      permits = c.in_ok-permits.ensures;
    }

pub returns-in-Some-clause-answer : goal.returns-in-Some-clause-answer
returns-in-Some-clause-answer c =
    rw c.in-Some.is at (c.why_unnamed.ensures.answer c.args.case.now c.requires.complete)

pub returns-clause-answer : goal.returns-clause-answer
returns-clause-answer c =
    let parts = c.in_ok-parts.parts in
    (answered c.args.case.now parts.hot parts.cold c.args.report.now c.check_over.result c.in_ok-parts.ensures c.check_over.ensures).0

pub returns-clause-proves : goal.returns-clause-proves
returns-clause-proves c =
    let parts = c.in_ok-parts.parts in
    (answered c.args.case.now parts.hot parts.cold c.args.report.now c.check_over.result c.in_ok-parts.ensures c.check_over.ensures).1
