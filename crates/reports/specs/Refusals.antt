-- The texts of what is no result of a command.
use Rattle.std.specs.Prelude.{ℕ, List, [], ◌∷◌, ◌++◌, codes}
use Rattle.std.specs.Fmt.{decimal}
use Rattle.case_text.specs.declared.fault.CaseWhy.{CaseWhy}
use Rattle.case_text.specs.declared.fault.CaseWhy.TheVariants as why
use Rattle.certify.specs.declared.fault.ReportWhy.{ReportWhy}
use Rattle.certify.specs.declared.fault.ReportWhy.TheVariants as report
use Rattle.network_text.specs.declared.fault.NetWhy.{NetWhy}
use Rattle.network_text.specs.declared.fault.NetWhy.TheVariants as net
use Rattle.site_text.specs.declared.fault.SiteWhy.{SiteWhy}
use Rattle.site_text.specs.declared.fault.SiteWhy.TheVariants as site
use Rattle.study_text.specs.declared.fault.StudyWhy.{StudyWhy}
use Rattle.study_text.specs.declared.fault.StudyWhy.TheVariants as study
use Rattle.reports.specs.declared.shown.FileRole.{FileRole}
use Rattle.reports.specs.declared.shown.FileRole.TheVariants.{Case, Network, Site, Report, Study}

-- the name of a cause for which a case file is refused
abbrev pub case_why_name : CaseWhy → List ℕ
case_why_name why.UnknownKind = codes "UnknownKind"
case_why_name why.FieldCount = codes "FieldCount"
case_why_name why.BadNumber = codes "BadNumber"
case_why_name why.OutOfRange = codes "OutOfRange"
case_why_name why.BadName = codes "BadName"
case_why_name why.SameName = codes "SameName"
case_why_name why.WrongWay = codes "WrongWay"
case_why_name why.Repeated = codes "Repeated"
case_why_name why.TooMany = codes "TooMany"
case_why_name why.UnknownName = codes "UnknownName"
case_why_name why.NoContribution = codes "NoContribution"
case_why_name why.NoStream = codes "NoStream"
case_why_name why.BadRange = codes "BadRange"
case_why_name why.NoLoad = codes "NoLoad"
case_why_name why.NotLatent = codes "NotLatent"

-- case row ROW WHY
abbrev pub bad_case_text : ℕ → CaseWhy → List ℕ
bad_case_text row why = codes "case row " ++ (decimal row ++ 32 ∷ (case_why_name why ++ 10 ∷ []))

-- the name of a cause for which a site file is refused
abbrev pub site_why_name : SiteWhy → List ℕ
site_why_name site.UnknownKind = codes "UnknownKind"
site_why_name site.FieldCount = codes "FieldCount"
site_why_name site.BadNumber = codes "BadNumber"
site_why_name site.OutOfRange = codes "OutOfRange"
site_why_name site.BadName = codes "BadName"
site_why_name site.SameName = codes "SameName"
site_why_name site.WrongWay = codes "WrongWay"
site_why_name site.Repeated = codes "Repeated"
site_why_name site.TooMany = codes "TooMany"
site_why_name site.NoPlant = codes "NoPlant"
site_why_name site.NoContribution = codes "NoContribution"
site_why_name site.NoMain = codes "NoMain"
site_why_name site.NoStream = codes "NoStream"

-- site row ROW WHY
abbrev pub bad_site_text : ℕ → SiteWhy → List ℕ
bad_site_text row why = codes "site row " ++ (decimal row ++ 32 ∷ (site_why_name why ++ 10 ∷ []))

-- the name of a cause for which a network file is refused
abbrev pub net_why_name : NetWhy → List ℕ
net_why_name net.UnknownWord = codes "UnknownWord"
net_why_name net.FieldCount = codes "FieldCount"
net_why_name net.BadNumber = codes "BadNumber"
net_why_name net.UnknownName = codes "UnknownName"
net_why_name net.WrongSide = codes "WrongSide"
net_why_name net.SameName = codes "SameName"
net_why_name net.UnknownBranch = codes "UnknownBranch"
net_why_name net.SpentBranch = codes "SpentBranch"
net_why_name net.WrongPass = codes "WrongPass"
net_why_name net.MissingPass = codes "MissingPass"
net_why_name net.TooMany = codes "TooMany"
net_why_name net.NotPositive = codes "NotPositive"
net_why_name net.OtherStream = codes "OtherStream"
net_why_name net.BadName = codes "BadName"

-- network line LINE WHY
abbrev pub bad_network_text : ℕ → NetWhy → List ℕ
bad_network_text line why = codes "network line " ++ (decimal line ++ 32 ∷ (net_why_name why ++ 10 ∷ []))

-- the name of a cause for which a report is refused
abbrev pub report_why_name : ReportWhy → List ℕ
report_why_name report.UnknownWord = codes "UnknownWord"
report_why_name report.FieldCount = codes "FieldCount"
report_why_name report.OutOfOrder = codes "OutOfOrder"
report_why_name report.BadKind = codes "BadKind"
report_why_name report.BadName = codes "BadName"
report_why_name report.BadNumber = codes "BadNumber"
report_why_name report.OutOfRange = codes "OutOfRange"
report_why_name report.Ended = codes "Ended"

-- report line LINE WHY
abbrev pub bad_report_text : ℕ → ReportWhy → List ℕ
bad_report_text line why = codes "report line " ++ (decimal line ++ 32 ∷ (report_why_name why ++ 10 ∷ []))

-- the name of a cause for which a study file is refused
abbrev pub study_why_name : StudyWhy → List ℕ
study_why_name study.UnknownKind = codes "UnknownKind"
study_why_name study.FieldCount = codes "FieldCount"
study_why_name study.BadNumber = codes "BadNumber"
study_why_name study.OutOfRange = codes "OutOfRange"
study_why_name study.BadName = codes "BadName"
study_why_name study.SameName = codes "SameName"
study_why_name study.UnknownName = codes "UnknownName"
study_why_name study.Repeated = codes "Repeated"
study_why_name study.TooMany = codes "TooMany"
study_why_name study.NoScenario = codes "NoScenario"
study_why_name study.BadRange = codes "BadRange"
study_why_name study.TooWide = codes "TooWide"
study_why_name study.NoItem = codes "NoItem"

-- study row ROW WHY
abbrev pub bad_study_text : ℕ → StudyWhy → List ℕ
bad_study_text row why = codes "study row " ++ (decimal row ++ 32 ∷ (study_why_name why ++ 10 ∷ []))

abbrev pub role_name : FileRole → List ℕ
role_name Case = codes "case"
role_name Network = codes "network"
role_name Site = codes "site"
role_name Report = codes "report"
role_name Study = codes "study"

-- FAULT FILE
abbrev pub file_text : List ℕ → FileRole → List ℕ
file_text fault file = fault ++ 32 ∷ (role_name file ++ 10 ∷ [])
