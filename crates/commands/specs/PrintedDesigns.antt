-- Networks that are what the program prints of a design, and how they are audited.
use Rattle.std.specs.Prelude.{◌≡◌, ◌⊎◌, List, ◌∷◌, ℕ, Option, Some, codes}
use Rattle.fractions.specs.Rationals.{rational_zero}
use Rattle.networks.specs.Shape.{KeepsCounts}
use Rattle.pinch_outside.specs.Shelf.{NamedFile}
use Rattle.stream_case.specs.Case.{completed, IsStandard}
use Rattle.stream_case.specs.declared.case.Case.{Case}
use Rattle.reports.specs.Text.{text}
use Rattle.reports.specs.declared.shown.Shown.{Shown}
use Rattle.reports.specs.declared.shown.Shown.TheVariants.{Design}
use Rattle.commands.specs.Formats.{case_file}
use Rattle.commands.specs.Forms.{two_files}
use Rattle.commands.specs.Complete.{Holds, HoldsText}
use Rattle.commands.specs.Design.{AnswersDesign}
use Rattle.commands.specs.Audit.{IsAccepted}
use Rattle.commands.specs.Vertical.{IsVerticalAnswer}

-- a network is shown, within the two counts of a text
abbrev pub IsWithinCounts : Shown → Type 0
IsWithinCounts (Design c network balance) = KeepsCounts network
IsWithinCounts other = ⊥

-- the file of that name has the text of what `design` or `vertical` shows of a completed case: a network below its balance
pub record HoldsDesign (files : Option (List NamedFile)) (name : List ℕ) (design : Shown) (c : Case) : Type 0 where
  pub drawn : AnswersDesign c design ⊎ IsVerticalAnswer c design
  pub counts : IsWithinCounts design
  pub file : Holds files name (text design)

-- the words are `audit CASE NETWORK`, and the network is the text of this design of the completed case
pub record AuditsDesign (words : List (List ℕ)) (files : Option (List NamedFile)) (design : Shown) : Type 0 where
  pub rest : List (List ℕ)
  pub names : List ℕ × List ℕ
  pub are : words ≡ codes "audit" ∷ rest
  pub form : two_files rest ≡ Some names
  pub holds : HoldsText case_file files names.0 (λ c. HoldsDesign files names.1 design (completed c))

-- the network of a design is accepted with the balance of the design, which has no excess where the case is standard
abbrev pub AcceptsDesign : Shown → Shown → Type 0
AcceptsDesign (Design c network balance) shown =
    IsAccepted c network balance shown × (IsStandard c → balance.excess ≡ rational_zero)
AcceptsDesign other shown = ⊥
