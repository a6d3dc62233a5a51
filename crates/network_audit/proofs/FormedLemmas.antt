-- A valid network has no finding where each number that is formed on the way is within the limits.
use Rattle.network_audit.proofs.Words.{All-cons, All-nil, Case, Decides-is_within_limits, Finding, HasNoFinding, HasShape, IsFormed, IsValidNetwork}
use Rattle.network_audit.proofs.Words.{IsWholeValuation, IsWithinLimits, Item, Network, Place, Rational, Step, Test, Valuation, false≢true, finding_of}
use Rattle.network_audit.proofs.Words.{first_finding, is_passed, items}
use Rattle.network_audit.proofs.ItemLemmas.{found-item}
use Rattle.network_audit.proofs.ValidLemmas.{invalid_network}
use Rattle.std.proofs.Common.{All, List, None, Option, Some, [], false, length, refl, sym, ℕ, ◌∙◌, ◌∷◌, ◌≡◌}
use Rattle.network_audit.specs.declared.findings.Finding.TheVariants as finding

-- ---- items whose numbers are formed

abbrev pub AreFormed : List Item → Type 0
AreFormed items = All IsFormed items

pub formed-none : AreFormed []
formed-none = All-nil IsFormed

pub formed-step : (at : Place) (number : ℕ) (value : Rational) (items : List Item) → IsWithinLimits value
    → AreFormed items
    → AreFormed (Step at number value ∷ items)
formed-step at number value items within formed = All-cons IsFormed _ _ within formed

-- a step that failed is not found among them
formed-no_step : (items : List Item) (at : Place) (number : ℕ) → AreFormed items
    → first_finding items ≡ Some (finding.TooFine at number) → ⊥
formed-no_step items at number formed found =
    let (item, is, failed, same) = found-item IsFormed items
    (finding.TooFine at number) formed found in by item is failed same
  where
    by : (item : Item) → IsFormed item → is_passed item ≡ false → finding_of item ≡ finding.TooFine at number → ⊥
    by (Test here passed because) is failed same = cc same
    by (Step here step value) is failed same = false≢true (sym failed ∙ (Decides-is_within_limits value).1 is)

-- ---- a network

module _ (case : Case) (network : Network) where
  pub no_finding : (values : Valuation) → HasShape case network → IsWholeValuation case network values
      → IsValidNetwork case network → All IsFormed (items case network values (length network.lines))
      → HasNoFinding case network
  no_finding values shape valuation valid formed =
      record { values = values; valuation = valuation; none = by (first_finding (items case network values (length network.lines))) refl }
    where
      by : (o : Option Finding) → first_finding (items case network values (length network.lines)) ≡ o
          → first_finding (items case network values (length network.lines)) ≡ None
      by None is = is
      by (Some (finding.Failed at because)) is = absurd
          (invalid_network case network at because shape (record { n = length network.lines; values = values; valuation = valuation; first = is }) valid)
      by (Some (finding.TooFine at number)) is =
          absurd (formed-no_step (items case network values (length network.lines)) at number formed is)
