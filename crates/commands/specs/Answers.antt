-- What is shown for the words and the files: all is read first, and then it is answered.
use Rattle.std.specs.Prelude.{◌≡◌, ℕ, List, Result, Ok, Err}
use Rattle.stream_case.specs.Case.{IsComplete, IsStandard, IsValid}
use Rattle.stream_case.specs.Stream.{AreSensible}
use Rattle.site_text.specs.Site.{IsValidSite}
use Rattle.networks.specs.Shape.{HasShape}
use Rattle.certify.specs.Answers.{HasPartPrices}
use Rattle.study_text.specs.Study.{IsStudy}
use Rattle.pinch_outside.specs.Shelf.{ShelfState}
use Rattle.reports.specs.declared.shown.Shown.{Shown}
use Rattle.study.specs.Plan.{IsSweepPlan}
use Rattle.commands.specs.Audit.{IsAuditOf}
use Rattle.commands.specs.Certify.{IsCheckOf}
use Rattle.commands.specs.Files.{EndsIn}
use Rattle.commands.specs.Numbers.{CanWork, IsSampleOf}
use Rattle.commands.specs.Prices.{AnswersStudy}
use Rattle.commands.specs.Reading.{reading_of}
use Rattle.commands.specs.Sample.{ShowsSample}
use Rattle.commands.specs.Site.{ShowsSite}
use Rattle.commands.specs.Sweep.{ShowsSweep}
use Rattle.commands.specs.Tasks.{ShowsTask}
use Rattle.commands.specs.Vertical.{IsVerticalAnswer}
use Rattle.commands.specs.declared.request.Request.{Request}
use Rattle.commands.specs.declared.request.Request.TheVariants.{OfCase, Vertical, Audit, Certify, Prices, Sweep, OfSite, Sample}

-- a request that can be answered
abbrev pub IsRequest : Request → Type 0
IsRequest (OfCase case task) = IsComplete case
IsRequest (Vertical case) = IsComplete case × IsStandard case × AreSensible case.streams
IsRequest (Audit case network) = IsComplete case × HasShape case network
IsRequest (Certify case report) = IsComplete case × HasPartPrices report
IsRequest (Prices case study workers) = IsComplete case × IsStudy case study × CanWork workers
IsRequest (Sweep case plan workers) = IsValid case × IsSweepPlan plan × CanWork workers
IsRequest (OfSite site) = IsValidSite site
IsRequest (Sample number count) = IsSampleOf number count

-- what is shown of a request
unfoldable pub Answers : Request → Shown → Type 0
Answers (OfCase case task) shown = ShowsTask task case shown
Answers (Vertical case) shown = IsVerticalAnswer case shown
Answers (Audit case network) shown = IsAuditOf case network shown
Answers (Certify case report) shown = IsCheckOf case report shown
Answers (Prices case study workers) shown = AnswersStudy case study shown
Answers (Sweep case plan workers) shown = ShowsSweep plan case shown
Answers (OfSite site) shown = ShowsSite site shown
Answers (Sample number count) shown = ShowsSample number count shown

-- what is shown where reading ended with a request, or with something to show in its place
abbrev pub Shows : Result Request Shown → Shown → Type 0
Shows (Ok request) shown = Answers request shown
Shows (Err early) shown = shown ≡ early

-- what is shown for the words of a command, or for words that form none
pub record ShowsCommand (words : List (List ℕ)) (old new : ShelfState) (shown : Shown) : Type 0 where
  pub end : Result Request Shown
  pub reads : EndsIn (reading_of words) old new end
  pub shows : Shows end shown
