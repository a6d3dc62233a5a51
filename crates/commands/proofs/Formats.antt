-- Bytes of a format have one outcome: they say one thing, or are refused in one way.
use Rattle.commands.proofs.Words.{Case, Format, IsPrintable, IsRefused, Shown, case_file, grammar, network_file, one_outcome, report_file, rows_of, site_file}
use Rattle.commands.proofs.Words.{statements_of, study_file}
use Rattle.commands.proofs.Plain.{is_plain}
use Rattle.std.proofs.Common.{Err, List, Ok, Result, ap, refl, sym, true, ℕ, ◌∙◌, ◌≡◌}
use Rattle.certify.specs.Outcome as report
use Rattle.network_text.specs.Outcome as network
use Rattle.site_text.specs.Outcome as site
use Rattle.study_text.specs.Outcome as study

pub record IsLawful {Value Cause : Type 0} (format : Format Value Cause) : Type 0 where
  pub one_outcome : (bytes : List ℕ) (a b : Result Value (ℕ × Cause)) → format.Gives bytes a
      → format.Gives bytes b → a ≡ b
  pub plain : (at : ℕ) (why : Cause) → is_plain (format.bad at why) ≡ true
  pub printable : (at : ℕ) (why : Cause) → IsPrintable (format.bad at why)

pub lawful_case : IsLawful case_file
unfolding IsPrintable
lawful_case =
    record { one_outcome = λ bytes. one_outcome grammar (rows_of bytes); plain = λ at why. refl; printable = λ at why. tt }

pub lawful_network : (case : Case) → IsLawful (network_file case)
unfolding IsPrintable
lawful_network case =
    record { one_outcome = λ bytes. one_outcome (network.grammar case) (statements_of bytes); plain = λ at why. refl; printable = λ at why. tt }

pub lawful_report : IsLawful report_file
unfolding IsPrintable
lawful_report =
    record { one_outcome = λ bytes. one_outcome report.grammar (statements_of bytes); plain = λ at why. refl; printable = λ at why. tt }

pub lawful_site : IsLawful site_file
unfolding IsPrintable
lawful_site =
    record { one_outcome = λ bytes. one_outcome site.grammar (rows_of bytes); plain = λ at why. refl; printable = λ at why. tt }

pub lawful_study : (case : Case) → IsLawful (study_file case)
unfolding IsPrintable
lawful_study case =
    record { one_outcome = λ bytes. one_outcome (study.grammar case) (rows_of bytes); plain = λ at why. refl; printable = λ at why. tt }

module _ {Value Cause : Type 0} (format : Format Value Cause) (lawful : IsLawful format) (bytes : List ℕ) where
  pub one_value : (a b : Value) → format.Gives bytes (Ok a) → format.Gives bytes (Ok b) → a ≡ b
  one_value a b says other = let same = lawful.one_outcome bytes (Ok a) (Ok b) says other in cc

  pub one_refusal : (a b : Shown) → IsRefused format bytes a → IsRefused format bytes b → a ≡ b
  one_refusal a b one other =
      let same = lawful.one_outcome bytes (Err (one.at, one.why)) (Err (other.at, other.why)) one.fault other.fault in
      let fault : (one.at, one.why) ≡ (other.at, other.why) = cc in
      one.is ∙ ap (λ (f : ℕ × Cause). format.bad f.0 f.1) fault ∙ sym other.is

  pub not_both : (value : Value) (shown : Shown) → format.Gives bytes (Ok value) → IsRefused format bytes shown → ⊥
  not_both value shown says one =
      let same = lawful.one_outcome bytes (Ok value) (Err (one.at, one.why)) says one.fault in
      cc
