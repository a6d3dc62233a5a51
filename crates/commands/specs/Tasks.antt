-- What is shown of a completed case, by the task.
use Rattle.std.specs.Prelude.{◌≡◌, List, ℤ}
use Rattle.stream_case.specs.declared.case.Case.{Case}
use Rattle.stream_case.specs.declared.source.Side.TheVariants.{Hot, Cold}
use Rattle.stream_case.specs.declared.stream.Stream.{Stream}
use Rattle.sums.specs.Order.{ListsFalling}
use Rattle.problem_table.specs.Deficit.{hot_target, cold_target, IsPinch}
use Rattle.curves.specs.declared.point.Point.{Point}
use Rattle.curves.specs.Curve.{IsSideCurve, IsGrandCurve}
use Rattle.reports.specs.declared.shown.Shown.{Shown}
use Rattle.reports.specs.declared.shown.Shown.TheVariants as show
use Rattle.commands.specs.Design.{AnswersDesign}
use Rattle.commands.specs.Flow.{AnswersFlow}
use Rattle.commands.specs.declared.request.CaseTask.{CaseTask}
use Rattle.commands.specs.declared.request.CaseTask.TheVariants.{Targets, Flow, Design, Curves}

-- the targets of streams, and their pinches from the highest down
pub record AreTargetsOf (streams : List Stream) (shown : Shown) : Type 0 where
  pub pinches : List ℤ
  pub falling : ListsFalling (IsPinch streams) pinches
  pub is : shown ≡ show.Targets (record { hot = hot_target streams; cold = cold_target streams }) pinches

-- the three curves of streams
pub record AreCurvesOf (streams : List Stream) (shown : Shown) : Type 0 where
  pub hot : List Point
  pub cold : List Point
  pub net : List Point
  pub hot_curve : IsSideCurve Hot streams hot
  pub cold_curve : IsSideCurve Cold streams cold
  pub grand_curve : IsGrandCurve streams net
  pub is : shown ≡ show.Curves hot cold net

-- what is shown of a completed case for a task. Its streams are those of the case that was given
abbrev pub ShowsTask : CaseTask → Case → Shown → Type 0
ShowsTask Targets case shown = AreTargetsOf case.streams shown
ShowsTask Flow case shown = AnswersFlow case shown
ShowsTask Curves case shown = AreCurvesOf case.streams shown
ShowsTask Design case shown = AnswersDesign case shown
