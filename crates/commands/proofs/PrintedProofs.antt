-- A report that is the text of a proof is answered with yes.
use Rattle.case_text.proofs.Accepted.{case-is_valid}
use Rattle.commands.proofs.Words.{Answered, Answers, Case, Checked, ChecksProof, EndsIn, Holds, HoldsOfCut}
use Rattle.commands.proofs.Words.{HoldsOfFlow, HoldsProof, HoldsText, IsAnswer, IsAnswerOver, IsCheckOf, IsComplete, IsFirstOf, No, NoWhy}
use Rattle.commands.proofs.Words.{Part, Report, Request, Rose, ShelfState, Shown, Shows, ShowsCommand, Yes, case_file, completed, cut_causes, file}
use Rattle.commands.proofs.Words.{flow_causes, of_completed, proofs-pass, reading_of, ready, report_file, rows_of, shown_check, status_of, text, two_files}
use Rattle.commands.proofs.Complete.{no_later_fault, of_held}
use Rattle.commands.proofs.Early.{formed_ends}
use Rattle.commands.proofs.Formats.{lawful_case, lawful_report}
use Rattle.commands.specs.Reading.{certify_form, reading_behind}
use Rattle.std.proofs.Common.{List, Ok, Result, [], ap, inl, inr, refl, subst, sym, ℕ, ◌∙◌, ◌∷◌, ◌≡◌}
use Rattle.certify.specs.declared.report.Report.TheVariants as report
use Rattle.commands.specs.declared.request.Request.TheVariants as request

-- ---- a report has one answer

first_yes : (causes : List NoWhy) (Holds : NoWhy → Type 0) (checked : Checked) → IsFirstOf causes Holds Yes
    → IsFirstOf causes Holds checked → checked ≡ Yes
first_yes causes Holds Yes passes is = refl
first_yes [] Holds (No why) passes is = absurd is
first_yes (cause ∷ causes) Holds (No why) passes (inl fails) = absurd (fails.1 passes.0)
first_yes (cause ∷ causes) Holds (No why) passes (inr later) = first_yes causes Holds (No why) passes.1 later.1

yes_over : (c : Case) (hot cold : List Part) (r : Report) (checked : Checked) → IsAnswerOver c hot cold r Yes
    → IsAnswerOver c hot cold r checked
    → checked ≡ Yes
yes_over c hot cold (report.Flow cost uses moves gives takes) checked passes is =
    first_yes flow_causes (HoldsOfFlow c hot cold cost uses moves gives takes) checked passes is
yes_over c hot cold (report.Cut kind need offer parts) checked passes is =
    first_yes cut_causes (HoldsOfCut c hot cold kind need offer parts) checked passes is

only_yes : (c : Case) (r : Report) (checked : Checked) → IsAnswer c r Yes → IsAnswer c r checked → checked ≡ Yes
only_yes c r checked passes is =
    let (hot, cold, are) = passes.some in
    yes_over c hot cold r checked (passes.each hot cold are) (is.each hot cold are)

-- so it is shown that the report proves what it says
shown_yes : (c : Case) (r : Report) (shown : Shown) → IsAnswer c r Yes → IsCheckOf c r shown
    → status_of shown ≡ Answered
shown_yes c r shown passes is =
    let checked = only_yes c r is.checked passes is.is_answer in
    ap status_of (is.is ∙ ap (shown_check r) checked)

-- ---- reading

-- what the report's file says is answered with yes
reads_yes : (c : Case) (name : List ℕ) (old new : ShelfState) (end : Result Request Shown) (shown : Shown)
    → (Rose old.faults new.faults → ⊥)
    → IsComplete c → HoldsProof old.files name c
    → EndsIn (file report_file name (λ r. ready (request.Certify c r))) old new end → Shows end shown
    → status_of shown ≡ Answered
unfolding EndsIn Answers
reads_yes c name old new end shown no_fault complete held ends shows =
    let passed = proofs-pass c held.shown complete held.proof in
    of_held report_file lawful_report name old new end no_fault (λ r. IsAnswer c r Yes)
    (λ mid r. (end ≡ Ok (request.Certify c r)) × (new ≡ mid)) (status_of shown ≡ Answered)
    (record { bytes = text held.shown; file = held.file; value = passed.report; says = passed.is; then = passed.answer })
    (λ mid r keeps passes last. shown_yes c r shown passes (subst (λ e. Shows e shown) last.0 shows)) ends

-- and so are the files of these names
names_yes : (names : List ℕ × List ℕ) (old new : ShelfState) (end : Result Request Shown) (shown : Shown)
    → (Rose old.faults new.faults → ⊥) → HoldsText case_file old.files names.0 (λ c. HoldsProof old.files names.1 (completed c))
    → EndsIn (of_completed names.0 (λ c. file report_file names.1 (λ r. ready (request.Certify c r)))) old new end
    → Shows end shown → status_of shown ≡ Answered
unfolding EndsIn
names_yes names old new end shown no_fault proof ends shows =
    let valid = case-is_valid (rows_of proof.bytes) proof.value proof.says in
    let is_proof : Case → Type 0 = λ c. IsComplete (completed c) × HoldsProof old.files names.1 (completed c) in
    let held : HoldsText case_file old.files names.0 is_proof =
    record { bytes = proof.bytes; file = proof.file; value = proof.value; says = proof.says; then = ((proof.value, valid, refl), proof.then) } in
    of_held case_file lawful_case names.0 old new end no_fault is_proof _ (status_of shown ≡ Answered) held
    (λ mid c keeps then later.
    reads_yes (completed c) names.1 mid new end shown (no_later_fault old mid new keeps no_fault) then.0
    (subst (λ files. HoldsProof files names.1 (completed c)) (sym keeps.files) then.1) later shows) ends

pub certified : (words : List (List ℕ)) (old new : ShelfState) (shown : Shown)
    → ShowsCommand words old new shown → ChecksProof words old.files
    → (Rose old.faults new.faults → ⊥) → status_of shown ≡ Answered
unfolding reading_of reading_behind certify_form
certified words old new shown is proof no_fault =
    let reads = subst (λ w. EndsIn (reading_of w) old new is.end) proof.are is.reads in
    let ends = formed_ends (two_files proof.rest) _ proof.names old new is.end proof.form reads in
    names_yes proof.names old new is.end shown no_fault proof.holds ends is.shows
