-- A network that is the text of a design is accepted with the balance of the design.
use Rattle.commands.proofs.Words.{AcceptsDesign, Answer, Answered, Answers, AnswersDesign, AuditsDesign, Balance, Case, EndsIn, Holds, HoldsDesign, IsAccepted, IsAuditOf}
use Rattle.commands.proofs.Words.{IsNetwork, IsShownNetwork, IsStandard, IsTightDesign, IsVerdict, IsVerticalAnswer, IsWithinCounts, Network, Parts, Request, Rose}
use Rattle.commands.proofs.Words.{ShelfState, Shown, Shows, ShowsCommand, ShowsDesignOf, ShowsVerdict, case_file, completed, file, network_file}
use Rattle.commands.proofs.Words.{HoldsText, of_completed, one_verdict, rational_zero, reading_of, ready, statements_of, status_of, text, two_files}
use Rattle.commands.proofs.Complete.{no_later_fault, of_held}
use Rattle.commands.proofs.Early.{formed_ends}
use Rattle.commands.proofs.Formats.{lawful_case, lawful_network}
use Rattle.std.proofs.Common.{List, Ok, Result, ap, inl, inr, refl, subst, sym, ℕ, ◌≡◌, ◌⊎◌}
use Rattle.network_audit.specs.declared.verdict.Verdict.TheVariants as verdict
use Rattle.commands.specs.Reading.{audit_form, reading_behind}
use Rattle.commands.specs.declared.request.Request.TheVariants as request
use Rattle.reports.specs.declared.shown.Shown.TheVariants as show
use Rattle.transport.specs.declared.answer.Answer.TheVariants as answer

-- a network of a completed case is shown with its balance, which has no excess where the case is standard
record IsDrawn (c : Case) (design : Shown) : Type 0 where
  pub network : Network
  pub balance : Balance
  pub shows : IsShownNetwork c network balance design
  pub tight : IsStandard c → balance.excess ≡ rational_zero

-- a cut is no network
of_answer : (c : Case) (parts : Parts) (a : Answer) (design : Shown) → IsWithinCounts design
    → ShowsDesignOf c parts a design → IsDrawn c design
of_answer c parts (answer.Least flow prices cost) design counts is = record {
  network = is.0.network;
  balance = is.0.balance;
  shows = is.0.shows;
  tight = λ standard. (subst IsTightDesign is.0.shows.is (is.1 standard)).0;
}
of_answer c parts (answer.Stuck cut) design counts is = absurd (subst IsWithinCounts is counts)

of_design : (c : Case) (design : Shown) → IsWithinCounts design
    → AnswersDesign c design ⊎ IsVerticalAnswer c design → IsDrawn c design
of_design c design counts (inl is) = of_answer c is.parts is.answer design counts is.shows
of_design c design counts (inr is) =
    record { network = is.network; balance = is.balance; shows = is.shows; tight = λ standard. is.tight }

-- there is no other verdict on a network without a finding
of_audit : (c : Case) (network : Network) (balance : Balance) (design shown : Shown)
    → IsShownNetwork c network balance design → IsAuditOf c network shown
    → IsAccepted c network balance shown
of_audit c network balance design shown drawn audit =
    let accepted : IsVerdict c network (verdict.Accepted balance) = (drawn.accepted, drawn.sums) in
    let same = one_verdict c network audit.verdict (verdict.Accepted balance) drawn.shape audit.is_verdict accepted in
    subst (λ v. ShowsVerdict c network v shown) same audit.shows

-- what is printed of it is read as this network, which is audited
of_text : (c : Case) (name : List ℕ) (old new : ShelfState) (end : Result Request Shown) (design shown : Shown)
    → (Rose old.faults new.faults → ⊥)
    → IsDrawn c design → IsWithinCounts design → Holds old.files name (text design)
    → EndsIn (file (network_file c) name (λ n. ready (request.Audit c n))) old new end → Shows end shown
    → AcceptsDesign design shown
unfolding EndsIn Answers text
of_text c name old new end design shown no_fault drawn counts held ends shows =
    let network = drawn.network in
    let is = drawn.shows.is in
    let says = subst (λ d. IsNetwork c (statements_of (text d)) network) (sym is) (drawn.shows.read_back (subst IsWithinCounts is counts)) in
    of_held (network_file c) (lawful_network c) name old new end no_fault (λ n. n ≡ network)
    (λ mid n. (end ≡ Ok (request.Audit c n)) × (new ≡ mid)) (AcceptsDesign design shown)
    (record { bytes = text design; file = held; value = network; says = says; then = refl })
    (λ mid n keeps same last.
    let audit : IsAuditOf c n shown = subst (λ e. Shows e shown) last.0 shows in
    let accepted = of_audit c network drawn.balance design shown drawn.shows (subst (λ k. IsAuditOf c k shown) same audit) in
    subst (λ d. AcceptsDesign d shown) (sym is) (accepted, drawn.tight)) ends

-- and so are the files of these names
of_names : (names : List ℕ × List ℕ) (old new : ShelfState) (end : Result Request Shown) (design shown : Shown)
    → (Rose old.faults new.faults → ⊥)
    → HoldsText case_file old.files names.0 (λ c. HoldsDesign old.files names.1 design (completed c))
    → EndsIn (of_completed names.0 (λ c. file (network_file c) names.1 (λ n. ready (request.Audit c n)))) old new end
    → Shows end shown → AcceptsDesign design shown
unfolding EndsIn
of_names names old new end design shown no_fault held ends shows =
    of_held case_file lawful_case names.0 old new end no_fault (λ c. HoldsDesign old.files names.1 design (completed c)) _
    (AcceptsDesign design shown) held
    (λ mid c keeps then last.
    let later = no_later_fault old mid new keeps no_fault in
    of_text (completed c) names.1 mid new end design shown later (of_design (completed c) design then.counts then.drawn)
    then.counts (subst (λ files. Holds files names.1 (text design)) (sym keeps.files) then.file) last shows) ends

pub audited : (words : List (List ℕ)) (old new : ShelfState) (shown : Shown)
    → ShowsCommand words old new shown → (design : Shown)
    → AuditsDesign words old.files design → (Rose old.faults new.faults → ⊥) → AcceptsDesign design shown
unfolding reading_of reading_behind audit_form
audited words old new shown is design held no_fault =
    let reads = subst (λ w. EndsIn (reading_of w) old new is.end) held.are is.reads in
    let ends = formed_ends (two_files held.rest) _ held.names old new is.end held.form reads in
    of_names held.names old new is.end design shown no_fault held.holds ends is.shows

pub accepted-answered : (design shown : Shown) → AcceptsDesign design shown → status_of shown ≡ Answered
accepted-answered (show.Design c network balance) shown accepts = ap status_of accepts.0.is
accepted-answered other shown accepts = absurd accepts
