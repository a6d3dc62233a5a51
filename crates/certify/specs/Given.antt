-- What the statements of a report say, and the report that they give.
use Rattle.std.specs.Prelude.{ℕ, ◌+◌, ℤ, pos, Bool, true, false, ◌==◌, ◌&&◌, List, [], ◌∷◌, ◌++◌, length, Option, Some, None, unwrap_or, if◌then◌else◌, codes, ⊤}
use Rattle.std.specs.Str.{bytes_eq}
use Rattle.heat_flow.specs.declared.cut.CutKind.{CutKind}
use Rattle.heat_flow.specs.declared.cut.CutKind.TheVariants as cut
use Rattle.stream_case.specs.Digits.{integer_in}
use Rattle.statements.specs.Statements.{Statement, field}
use Rattle.certify.specs.declared.given.Given.{Given}
use Rattle.certify.specs.declared.given.Given.TheVariants as gave
use Rattle.certify.specs.declared.entry.Entry.{Entry}
use Rattle.certify.specs.declared.entry.Entry.TheVariants as entry
use Rattle.certify.specs.declared.kind.Kind.{Kind}
use Rattle.certify.specs.declared.kind.Kind.TheVariants as kind
use Rattle.certify.specs.declared.limits.TheConstants.{MOST_DIGITS}
use Rattle.certify.specs.declared.report.Priced.{Priced}
use Rattle.certify.specs.declared.report.Report.{Report}
use Rattle.certify.specs.declared.report.Report.TheVariants as report
use Rattle.certify.specs.declared.report.Span.{Span}

-- ---- words

abbrev pub kind_in : List ℕ → Option Kind
kind_in word =
    if bytes_eq word (codes "cost") then Some kind.Cost
    else if bytes_eq word (codes "use") then Some kind.Use
    else if bytes_eq word (codes "move") then Some kind.Move
    else if bytes_eq word (codes "give") then Some kind.Give
    else if bytes_eq word (codes "take") then Some kind.Take
    else if bytes_eq word (codes "infeasible") then Some kind.Infeasible
    else if bytes_eq word (codes "cut") then Some kind.Cut
    else if bytes_eq word (codes "part") then Some kind.Part
    else None

-- the first field says what kind of statement it is
abbrev pub kind_of : Statement → Option Kind
kind_of s = kind_in (field s 0)

abbrev pub field_count : Kind → ℕ
field_count kind.Cost = 2
field_count kind.Use = 3
field_count kind.Move = 8
field_count kind.Give = 5
field_count kind.Take = 5
field_count kind.Infeasible = 1
field_count kind.Cut = 4
field_count kind.Part = 4

abbrev pub cut_kind_in : List ℕ → Option CutKind
cut_kind_in word =
    if bytes_eq word (codes "demand") then Some cut.Demand
    else if bytes_eq word (codes "supply") then Some cut.Supply
    else None

-- the same where it is known; the first of them where it is not
unfoldable pub cut_kind : List ℕ → CutKind
cut_kind word = unwrap_or (cut_kind_in word) cut.Demand

-- ---- what a statement says

-- the number that a field spells; 0 where it spells none
unfoldable pub number : List ℕ → ℤ
number text = unwrap_or (integer_in MOST_DIGITS text) (pos 0)

-- the part that three fields from this one on name
unfoldable pub span_at : Statement → ℕ → Span
span_at s at = record { name = field s at; high = number (field s (at + 1)); low = number (field s (at + 2)) }

-- the price that a statement gives a part
abbrev pub priced_in : Statement → Priced
priced_in s = record { part = span_at s 1; price = number (field s 4) }

abbrev pub entry_as : Kind → Statement → Entry
entry_as kind.Cost s = entry.Cost (number (field s 1))
entry_as kind.Use s = entry.Use (record { name = field s 1; heat = number (field s 2) })
entry_as kind.Move s = entry.Move (record { hot = span_at s 1; cold = span_at s 4; heat = number (field s 7) })
entry_as kind.Give s = entry.Give (priced_in s)
entry_as kind.Take s = entry.Take (priced_in s)
entry_as kind.Infeasible s = entry.Infeasible
entry_as kind.Cut s = entry.Cut (cut_kind (field s 1)) (number (field s 2)) (number (field s 3))
entry_as kind.Part s = entry.Part (span_at s 1)

abbrev pub entry_by : Option Kind → Statement → Option Entry
entry_by None s = None
entry_by (Some kind) s = Some (entry_as kind s)

unfoldable pub entry_in : Statement → Option Entry
entry_in s = entry_by (kind_of s) s

-- ---- the report of statements

abbrev pub is_empty : {X : Type 0} → List X → Bool
is_empty xs = length xs == 0

-- a statement of this kind may come next: first a cost or the word that there is no heat flow; behind a cost uses, then
-- moves, then gives, then takes; behind the word a cut, and then parts
abbrev pub admits : Given → Kind → Bool
admits gave.Nothing kind.Cost = true
admits gave.Nothing kind.Infeasible = true
admits gave.Infeasible kind.Cut = true
admits (gave.Whole (report.Flow cost uses moves gives takes)) kind.Use =
    is_empty moves && is_empty gives && is_empty takes
admits (gave.Whole (report.Flow cost uses moves gives takes)) kind.Move = is_empty gives && is_empty takes
admits (gave.Whole (report.Flow cost uses moves gives takes)) kind.Give = is_empty takes
admits (gave.Whole (report.Flow cost uses moves gives takes)) kind.Take = true
admits (gave.Whole (report.Cut side need offer parts)) kind.Part = true
admits d k = false

-- a report with one statement more; what may not come next changes nothing
abbrev pub lengthened : Report → Entry → Report
lengthened (report.Flow cost uses moves gives takes) (entry.Use u) = report.Flow cost (uses ++ u ∷ []) moves gives takes
lengthened (report.Flow cost uses moves gives takes) (entry.Move m) =
    report.Flow cost uses (moves ++ m ∷ []) gives takes
lengthened (report.Flow cost uses moves gives takes) (entry.Give g) =
    report.Flow cost uses moves (gives ++ g ∷ []) takes
lengthened (report.Flow cost uses moves gives takes) (entry.Take t) =
    report.Flow cost uses moves gives (takes ++ t ∷ [])
lengthened (report.Cut kind need offer parts) (entry.Part p) = report.Cut kind need offer (parts ++ p ∷ [])
lengthened r e = r

-- the same of what the statements so far give
abbrev pub with_entry : Given → Entry → Given
with_entry gave.Nothing (entry.Cost n) = gave.Whole (report.Flow n [] [] [] [])
with_entry gave.Nothing entry.Infeasible = gave.Infeasible
with_entry gave.Infeasible (entry.Cut kind need offer) = gave.Whole (report.Cut kind need offer [])
with_entry (gave.Whole r) e = gave.Whole (lengthened r e)
with_entry d e = d

-- a statement that a list of the report is lengthened by, which takes memory
abbrev pub Lengthens : Given → Entry → Type 0
Lengthens (gave.Whole (report.Flow cost uses moves gives takes)) (entry.Use u) = ⊤
Lengthens (gave.Whole (report.Flow cost uses moves gives takes)) (entry.Move m) = ⊤
Lengthens (gave.Whole (report.Flow cost uses moves gives takes)) (entry.Give g) = ⊤
Lengthens (gave.Whole (report.Flow cost uses moves gives takes)) (entry.Take t) = ⊤
Lengthens (gave.Whole (report.Cut kind need offer parts)) (entry.Part p) = ⊤
Lengthens d e = ⊥

abbrev pub with_any : Given → Option Entry → Given
with_any given None = given
with_any given (Some e) = with_entry given e

-- what there is with one statement more
abbrev pub next : Given → Statement → Given
next given s = with_any given (entry_in s)

-- a cost or a cut was read
abbrev pub is_whole : Given → Bool
is_whole gave.Nothing = false
is_whole gave.Infeasible = false
is_whole (gave.Whole r) = true

-- the report that is read; where none is, one of which no rule speaks
abbrev pub report_in : Given → Report
report_in gave.Nothing = report.Flow (pos 0) [] [] [] []
report_in gave.Infeasible = report.Flow (pos 0) [] [] [] []
report_in (gave.Whole r) = r
