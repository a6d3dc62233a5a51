-- How a report is printed.
use Rattle.std.specs.Prelude.{ℕ, ℤ, List, [], ◌∷◌, ◌++◌, map, All, codes}
use Rattle.std.specs.Fmt.{signed_decimal}
use Rattle.std.specs.List.{flat_map}
use Rattle.stream_case.specs.Name.{IsName}
use Rattle.heat_flow.specs.Ranges.{IsWithin}
use Rattle.heat_flow.specs.declared.cut.CutKind.{CutKind}
use Rattle.heat_flow.specs.declared.cut.CutKind.TheVariants as cut
use Rattle.statements.specs.Statements.{Statement, statement_text}
use Rattle.certify.specs.Outcome.{IsReportOf}
use Rattle.certify.specs.declared.limits.TheConstants.{MOST_AMOUNT, MOST_COST, MOST_LEVEL}
use Rattle.certify.specs.declared.report.Moved.{Moved}
use Rattle.certify.specs.declared.report.Priced.{Priced}
use Rattle.certify.specs.declared.report.Report.{Report}
use Rattle.certify.specs.declared.report.Report.TheVariants as report
use Rattle.certify.specs.declared.report.Span.{Span}
use Rattle.certify.specs.declared.report.Used.{Used}

-- ---- statements

-- the fields of a part, before others
abbrev pub span_fields : Span → List (List ℕ) → List (List ℕ)
span_fields s fields = s.name ∷ signed_decimal s.high ∷ signed_decimal s.low ∷ fields

abbrev pub cost_statement : ℤ → Statement
cost_statement cost = codes "cost" ∷ signed_decimal cost ∷ []

abbrev pub use_statement : Used → Statement
use_statement u = codes "use" ∷ u.name ∷ signed_decimal u.heat ∷ []

abbrev pub move_statement : Moved → Statement
move_statement m = codes "move" ∷ span_fields m.hot (span_fields m.cold (signed_decimal m.heat ∷ []))

-- with the word for the side of the part
abbrev pub priced_statement : List ℕ → Priced → Statement
priced_statement word g = word ∷ span_fields g.part (signed_decimal g.price ∷ [])

abbrev pub kind_word : CutKind → List ℕ
kind_word cut.Demand = codes "demand"
kind_word cut.Supply = codes "supply"

abbrev pub cut_statement : CutKind → ℤ → ℤ → Statement
cut_statement kind need offer = codes "cut" ∷ kind_word kind ∷ signed_decimal need ∷ signed_decimal offer ∷ []

abbrev pub part_statement : Span → Statement
part_statement s = codes "part" ∷ span_fields s []

-- the statements of a report, in their order
abbrev pub statements_in : Report → List Statement
statements_in (report.Flow cost uses moves gives takes) =
    (((((cost_statement cost ∷ []) ++ map use_statement uses) ++ map move_statement moves) ++ map (priced_statement (codes "give")) gives)
    ++ map (priced_statement (codes "take")) takes)
statements_in (report.Cut kind need offer parts) =
    ((codes "infeasible" ∷ []) ∷ cut_statement kind need offer ∷ []) ++ map part_statement parts

-- the text of a report: its statements, one a line
abbrev pub report_text : Report → List ℕ
report_text r = flat_map statement_text (statements_in r)

-- ---- reports that the grammar can give

pub record IsSpan (s : Span) : Type 0 where
  pub name : IsName s.name
  pub high : IsWithin MOST_LEVEL s.high
  pub low : IsWithin MOST_LEVEL s.low

pub record IsUse (u : Used) : Type 0 where
  pub name : IsName u.name
  pub heat : IsWithin MOST_AMOUNT u.heat

pub record IsMove (m : Moved) : Type 0 where
  pub hot : IsSpan m.hot
  pub cold : IsSpan m.cold
  pub heat : IsWithin MOST_AMOUNT m.heat

pub record IsPrice (g : Priced) : Type 0 where
  pub part : IsSpan g.part
  pub price : IsWithin MOST_AMOUNT g.price

-- its names are undotted, and its numbers within their ranges
abbrev pub IsReadable : Report → Type 0
IsReadable (report.Flow cost uses moves gives takes) =
    IsWithin MOST_COST cost × All IsUse uses × All IsMove moves × All IsPrice gives × All IsPrice takes
IsReadable (report.Cut kind need offer parts) =
    IsWithin MOST_AMOUNT need × IsWithin MOST_AMOUNT offer × All IsSpan parts

-- such a report is what the grammar gives for its text
abbrev pub PrintedReportsAreReadAgain : Type 0
PrintedReportsAreReadAgain = (r : Report) → IsReadable r → IsReportOf (report_text r) r
