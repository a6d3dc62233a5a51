-- The text of what is shown.
use Rattle.std.specs.Prelude.{ℕ, List, ⊤, codes}
use Rattle.stream_case.specs.Case.{IsComplete}
use Rattle.networks.specs.Shape.{HasShape}
use Rattle.reports.specs.Audit.{accepted_text, rejected_text, too_fine_text}
use Rattle.reports.specs.Certified.{certified_text, not_certified_text}
use Rattle.reports.specs.Curves.{curves_text}
use Rattle.reports.specs.Cut.{stuck_text}
use Rattle.reports.specs.Design.{design_text}
use Rattle.reports.specs.Flow.{flow_text}
use Rattle.reports.specs.Names.{case_names}
use Rattle.reports.specs.Prices.{prices_text}
use Rattle.reports.specs.Refusals.{bad_case_text, bad_network_text, bad_report_text, bad_site_text, bad_study_text, file_text}
use Rattle.reports.specs.Sample.{sample_text}
use Rattle.reports.specs.Site.{total_site_text}
use Rattle.reports.specs.Sweep.{sweep_text}
use Rattle.reports.specs.Targets.{targets_text}
use Rattle.reports.specs.declared.shown.Shown.{Shown}
use Rattle.reports.specs.declared.shown.Shown.TheVariants.{Targets, Flow, Stuck, Curves, Design, Accepted, Rejected, TooFine, SiteShown, Sweep, Sample, Certified, NotCertified, Prices, BadWords, BadCase, NotStandard, Latent, BadSite, BadNetwork, BadReport, BadStudy, ReadFault, TooLong}

-- a design has the shape of a network of its completed case
unfoldable pub IsPrintable : Shown → Type 0
IsPrintable (Design case network balance) = IsComplete case × HasShape case network
IsPrintable other = ⊤

-- what the program prints of what is shown
unfoldable pub text : Shown → List ℕ
text (Targets targets pinches) = targets_text targets pinches
text (Flow case parts flow prices cost) = flow_text case parts flow.transfers prices cost
text (Stuck case parts cut) = stuck_text (case_names case) parts cut
text (Curves hot cold net) = curves_text hot cold net
text (Design case network balance) = design_text case network balance
text (Accepted case network balance place floor penalties) = accepted_text case network balance place floor penalties
text (Rejected case network place reason) = rejected_text case network place reason
text (TooFine case network place step) = too_fine_text case network place step
text (SiteShown site parts sinks sources answer) = total_site_text site parts sinks sources answer
text (Sweep rows) = sweep_text rows
text (Sample hot cold cost) = sample_text hot cold cost
text (Certified cost) = certified_text cost
text (NotCertified why) = not_certified_text why
text (Prices case study answers) = prices_text case study answers
text BadWords = codes "words: targets flow curves design vertical audit site sweep sample certify prices\n"
text (BadCase row why) = bad_case_text row why
text NotStandard = codes "case not standard\n"
text Latent = codes "case has latent streams\n"
text (BadSite row why) = bad_site_text row why
text (BadNetwork line why) = bad_network_text line why
text (BadReport line why) = bad_report_text line why
text (BadStudy row why) = bad_study_text row why
text (TooLong file) = file_text (codes "too long") file
text (ReadFault file) = file_text (codes "read fault") file
