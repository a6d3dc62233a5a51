use Rattle.commands.proofs.Early.{by_completed, by_last, form_ends, with_form, without_form, without_second, without_text}
use Rattle.commands.proofs.Words.{Case, Prices, Request, case_file, file, ready, study_file, study_words}
use Rattle.commands.specs.Reading.{prices_form}
use Rattle.study_text.specs.declared.study.Study.{Study}
use Rattle.commands.proofs.request.request_prices.Goals as goal

pub returns-in_err-case-clause-reads : goal.returns-in_err-case-clause-reads
unfolding prices_form
returns-in_err-case-clause-reads g c =
    without_form (study_words c.args.words.now) _ _ _ c.in_err-case.ensures.words c.from_residual.ensures.1

pub returns-in_err-case-2-clause-reads : goal.returns-in_err-case-2-clause-reads
unfolding prices_form
returns-in_err-case-2-clause-reads g c =
    with_form (study_words c.args.words.now) _ _ _ _ _ c.in_ok-case.ensures.words
    (without_text case_file _ _ _ _ _ _ c.from_residual-in_err-case-2.ensures.1 c.in_err-case-2.ensures.stop)

pub returns-in_err-study-clause-reads : goal.returns-in_err-study-clause-reads
unfolding prices_form
returns-in_err-study-clause-reads g c =
    with_form (study_words c.args.words.now) _ _ _ _ _ c.in_ok-case.ensures.words
    (without_second study_file (λ k s. ready (Prices k s c.in_ok-case.workers)) _ _ _ _ _ _ _ _
    c.from_residual-in_err-study.ensures.1 c.in_ok-case-2.ensures.case c.in_err-study.ensures.stop)

pub returns-clause-reads : goal.returns-clause-reads
unfolding prices_form
returns-clause-reads g c =
    let asks : Case → Study → Request = λ k s. Prices k s c.in_ok-case.workers in
    form_ends (study_words c.args.words.now) _ _ _ _ _ c.in_ok-case.ensures.words
    (by_completed _ (λ k. file (study_file k) c.in_ok-case.study.now (λ s. ready (asks k s))) _ _ _ _ _
    c.in_ok-case-2.ensures.case (by_last _ _ (asks c.in_ok-case-2.case) _ _ _ c.in_ok-study.ensures.reads))
