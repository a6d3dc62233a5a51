-- What is shown of a request is a result, and can be printed.
use Rattle.commands.proofs.Words.{Answer, Answers, Case, CaseTask, Checked, Curves, Design, Flow, IsAnswered, IsPrintable, Network, No, OfSite, Parts, Prices}
use Rattle.commands.proofs.Words.{Report, Request, Shown, ShowsDesignOf, ShowsTask, ShowsVerdict, Targets, Verdict, Yes, shown_answer}
use Rattle.commands.proofs.Words.{shown_check, status_of, status_of_site}
use Rattle.commands.specs.declared.request.Request.TheVariants.{Audit, Certify, OfCase, Sample, Sweep, Vertical}
use Rattle.std.proofs.Common.{subst, sym, ◌≡◌}
use Rattle.network_audit.specs.declared.verdict.Verdict.TheVariants as verdict
use Rattle.transport.specs.declared.answer.Answer.TheVariants as answer

pub record IsResult (shown : Shown) : Type 0 where
  pub answered : IsAnswered (status_of shown)
  pub printable : IsPrintable shown

of_is : (shown result : Shown) → shown ≡ result → IsAnswered (status_of result) → IsPrintable result → IsResult shown
of_is shown result is answered printable =
    subst IsResult (sym is) (record { answered = answered; printable = printable })

-- a heat flow is a result, and so is a cut
of_flow : (c : Case) (parts : Parts) (a : Answer) (shown : Shown) → shown ≡ shown_answer c parts a → IsResult shown
unfolding IsPrintable
of_flow c parts (answer.Least flow prices cost) shown is = of_is shown _ is tt tt
of_flow c parts (answer.Stuck cut) shown is = of_is shown _ is tt tt

of_design : (c : Case) (parts : Parts) (a : Answer) (shown : Shown) → ShowsDesignOf c parts a shown → IsResult shown
unfolding IsPrintable
of_design c parts (answer.Least flow prices cost) shown design =
    of_is shown _ design.0.shows.is tt (design.0.shows.complete, design.0.shows.shape)
of_design c parts (answer.Stuck cut) shown is = of_is shown _ is tt tt

of_task : (task : CaseTask) (c : Case) (shown : Shown) → ShowsTask task c shown → IsResult shown
unfolding IsPrintable
of_task Targets c shown is = of_is shown _ is.is tt tt
of_task Flow c shown is = of_flow c is.parts is.answer shown is.is
of_task Design c shown is = of_design c is.parts is.answer shown is.shows
of_task Curves c shown is = of_is shown _ is.is tt tt

of_verdict : (c : Case) (network : Network) (v : Verdict) (shown : Shown) → ShowsVerdict c network v shown
    → IsResult shown
unfolding IsPrintable
of_verdict c network (verdict.Accepted balance) shown accepted = of_is shown _ accepted.is tt tt
of_verdict c network (verdict.Rejected place reason) shown is = of_is shown _ is tt tt
of_verdict c network (verdict.TooFine place step) shown is = of_is shown _ is tt tt

of_check : (r : Report) (checked : Checked) (shown : Shown) → shown ≡ shown_check r checked → IsResult shown
unfolding IsPrintable
of_check r Yes shown is = of_is shown _ is tt tt
of_check r (No why) shown is = of_is shown _ is tt tt

site_is_answered : (a : Answer) → IsAnswered (status_of_site a)
site_is_answered (answer.Least flow prices cost) = tt
site_is_answered (answer.Stuck cut) = tt

pub is_result : (request : Request) (shown : Shown) → Answers request shown → IsResult shown
unfolding Answers IsPrintable
is_result (OfCase case task) shown is = of_task task case shown is
is_result (Vertical case) shown is = of_is shown _ is.shows.is tt (is.shows.complete, is.shows.shape)
is_result (Audit case network) shown is = of_verdict case network is.verdict shown is.shows
is_result (Certify case report) shown is = of_check report is.checked shown is.is
is_result (Prices case study workers) shown is = of_is shown _ is.is tt tt
is_result (Sweep case plan workers) shown is = of_is shown _ is.is tt tt
is_result (OfSite site) shown is = of_is shown _ is.is (site_is_answered is.answer) tt
is_result (Sample number count) shown is = of_is shown _ is.is tt tt
