-- The prices of a report that the grammar gives are within the limits of a certificate.
use Rattle.certify.proofs.Words.{All-nil, All-push, Check, CutKind, Entry, Given, HasPartPrices, IsKept, IsPartPrice, IsReport, Kind, Passes, Priced, Report}
use Rattle.certify.proofs.Words.{Span, Statement, and_parts, checks, entry_as, entry_by, entry_in, field, field_checks, given_by, given_has, grammar}
use Rattle.certify.proofs.Words.{int_le-true, kind_checks, kind_of, lengthened, number, priced_checks, report_in, span_checks, with_any, with_entry}
use Rattle.std.proofs.Common.{List, None, Option, Some, [], arith, ℤ, ◌++◌, ◌∷◌, ◌≡◌}
use Rattle.certify.specs.declared.given.Given.TheVariants as gave
use Rattle.certify.specs.declared.entry.Entry.TheVariants as entry
use Rattle.certify.specs.declared.kind.Kind.TheVariants as kind
use Rattle.certify.specs.declared.report.Report.TheVariants as report

-- what statements gave, with such prices
abbrev HasPrices : Given → Type 0
HasPrices gave.Nothing = Unit {0}
HasPrices gave.Infeasible = Unit {0}
HasPrices (gave.Whole r) = HasPartPrices r

passes_behind : {Cause : Type 0} → (group others : List (Check Cause)) → Passes (group ++ others) → Passes others
passes_behind [] others h = h
passes_behind (check ∷ group) others h = passes_behind group others h.1

-- the price of a statement that is not at fault
price_within : (s : Statement) → Passes (priced_checks s) → IsPartPrice (number (field s 4))
price_within s h =
    let both = and_parts _ _ (passes_behind (span_checks s 1) _ h).1.0 in
    record { from = int_le-true _ _ both.0; upto = int_le-true _ _ both.1 }

-- what a statement that is not at fault adds
abbrev IsPriced : Entry → Type 0
IsPriced (entry.Give g) = IsPartPrice g.price
IsPriced (entry.Take t) = IsPartPrice t.price
IsPriced e = Unit {0}

entry_priced : (k : Kind) (s : Statement) → Passes (field_checks k s) → IsPriced (entry_as k s)
unfolding field_checks
entry_priced kind.Give s h = price_within s h
entry_priced kind.Take s h = price_within s h
entry_priced other s h = tt

cut_longer : (side : CutKind) (need offer : ℤ) (parts : List Span) (e : Entry)
    → HasPartPrices (lengthened (report.Cut side need offer parts) e)
cut_longer = grind arith

longer : (r : Report) (e : Entry) → HasPartPrices r → IsPriced e → HasPartPrices (lengthened r e)
longer (report.Flow cost uses moves gives takes) (entry.Give g) has priced =
    (All-push (λ x. IsPartPrice x.price) gives g has.0 priced, has.1)
longer (report.Flow cost uses moves gives takes) (entry.Take t) has priced =
    (has.0, All-push (λ x. IsPartPrice x.price) takes t has.1 priced)
longer (report.Flow cost uses moves gives takes) other has priced = has
longer (report.Cut side need offer parts) e has priced = cut_longer side need offer parts e

first : (e : Entry) → HasPrices (with_entry gave.Nothing e)
first = grind (arith, All-nil {X = Priced} (λ g. IsPartPrice g.price))

behind_the_word : (e : Entry) → HasPrices (with_entry gave.Infeasible e)
behind_the_word = grind arith

step : (given : Given) (e : Entry) → HasPrices given → IsPriced e → HasPrices (with_entry given e)
step gave.Nothing e has priced = first e
step gave.Infeasible e has priced = behind_the_word e
step (gave.Whole r) e has priced = longer r e has priced

kept : IsKept grammar HasPrices
unfolding checks entry_in
kept given s has passes = by (kind_of s) passes.1
  where
    by : (k : Option Kind) → Passes (kind_checks k given s) → HasPrices (with_any given (entry_by k s))
    by None h = has
    by (Some k) h = step given (entry_as k s) has (entry_priced k s h.1.1)

priced : (given : Given) (r : Report) → HasPrices given → r ≡ report_in given → HasPartPrices r
priced gave.Nothing r has is = rw is (All-nil _, All-nil _)
priced gave.Infeasible r has is = rw is (All-nil _, All-nil _)
priced (gave.Whole w) r has is = rw is has

pub report_prices : (statements : List Statement) (r : Report) → IsReport statements r → HasPartPrices r
report_prices statements r is =
    priced (given_by grammar statements) r (given_has grammar HasPrices tt kept statements is.sound) is.value_is
