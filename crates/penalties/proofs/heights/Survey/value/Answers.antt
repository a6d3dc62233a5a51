use Rattle.penalties.proofs.Words.{BranchValue, no_value}
use Rattle.penalties.proofs.SurveyLemmas.{value-read}
use Rattle.std.proofs.Common.{ap₂, unwrap_or, ◌∙◌, ◌≡◌}
use Rattle.penalties.proofs.heights.Survey.value.Goals as goal

pub returns : goal.returns
returns c =
    let none : BranchValue = record { cp = c.whole.result; t = c.whole-2.result } in
    let nothing : none ≡ no_value = λ i. record { cp = c.whole.ensures i; t = c.whole-2.ensures i } in
    c.unwrap_or.ensures ∙ ap₂ unwrap_or c.value.ensures nothing ∙ value-read c.args.self.now.auditor.now c.args.branch
