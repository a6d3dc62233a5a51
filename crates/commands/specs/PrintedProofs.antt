-- Reports that are what the program prints of a heat flow with its certificate, or of a cut.
use Rattle.std.specs.Prelude.{◌≡◌, List, ◌∷◌, ℕ, Option, Some, codes}
use Rattle.stream_case.specs.Case.{completed}
use Rattle.stream_case.specs.declared.case.Case.{Case}
use Rattle.pinch_outside.specs.Shelf.{NamedFile}
use Rattle.reports.specs.Proofs.{IsProofOf}
use Rattle.reports.specs.Text.{text}
use Rattle.reports.specs.declared.shown.Shown.{Shown}
use Rattle.commands.specs.Formats.{case_file}
use Rattle.commands.specs.Forms.{two_files}
use Rattle.commands.specs.Complete.{Holds, HoldsText}

-- the file of that name has the text of a proof of the case
pub record HoldsProof (files : Option (List NamedFile)) (name : List ℕ) (c : Case) : Type 0 where
  pub shown : Shown
  pub proof : IsProofOf c shown
  pub file : Holds files name (text shown)

-- the words are `certify CASE REPORT`, and the report is the text of a proof of the completed case
pub record ChecksProof (words : List (List ℕ)) (files : Option (List NamedFile)) : Type 0 where
  pub rest : List (List ℕ)
  pub names : List ℕ × List ℕ
  pub are : words ≡ codes "certify" ∷ rest
  pub form : two_files rest ≡ Some names
  pub holds : HoldsText case_file files names.0 (λ c. HoldsProof files names.1 (completed c))
