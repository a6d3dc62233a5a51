-- What a run of the program keeps: of its words and files, of what it shows, and of what it writes.
use Rattle.std.specs.Prelude.{◌≡◌, ◌⊎◌, ◌↔◌, ℕ, List, Option, IsNone, IfSome}
use Rattle.std.specs.Io.KnownBytes.{Appends}
use Rattle.pinch_outside.specs.Faults.{Rose}
use Rattle.pinch_outside.specs.Shelf.{ShelfState}
use Rattle.pinch_outside.specs.Sink.{AppendsFront}
use Rattle.reports.specs.Text.{text}
use Rattle.reports.specs.declared.shown.Shown.{Shown}
use Rattle.commands.specs.Answers.{ShowsCommand}
use Rattle.commands.specs.PrintedDesigns.{AcceptsDesign, AuditsDesign}
use Rattle.pinch.specs.Causes.{HasCause}
use Rattle.commands.specs.Complete.{CanAnswer, HasBadFile}
use Rattle.commands.specs.PrintedProofs.{ChecksProof}
use Rattle.commands.specs.Reading.{reading_of}
use Rattle.commands.specs.Status.{number_of, status_of, IsAnswered}
use Rattle.pinch.specs.declared.program.Done.{Done}
use Rattle.commands.specs.declared.status.Status.{Status}
use Rattle.commands.specs.declared.status.Status.TheVariants.{Answered, WriteFault, OutOfMemory}

-- `text_on` tells what was written to a sink, and `faults_of` how often it refused a write
pub record Runs {Sink : Type 0} (text_on : Sink → Option (List ℕ)) (faults_of : Sink → ℕ)
    (words : List (List ℕ)) (old new : ShelfState) (before now : Sink) (done : Done) : Type 0 where
  pub shown : IfSome done.shown (ShowsCommand words old new)
  pub causes : IfSome done.shown (HasCause (reading_of words) old new)
  pub status : IfSome done.shown (λ shown. (done.status ≡ number_of (status_of shown)) ⊎ (done.status ≡ number_of WriteFault))
  -- nothing is shown exactly where memory is wanted, and then nothing was written
  pub memory : IsNone done.shown ↔ (done.status ≡ number_of OutOfMemory)
  pub untouched : done.status ≡ number_of OutOfMemory → now ≡ before
  pub written : IfSome done.shown (λ shown. (done.status ≡ number_of WriteFault) ⊎ Appends (text_on before) (text_on now) (text shown))
  pub front : IfSome done.shown (λ shown. AppendsFront (text_on before) (text_on now) (text shown))
  pub write_fault : done.status ≡ number_of WriteFault → Rose (faults_of before) (faults_of now)
  -- files that the command can read are answered, where no call is refused and memory is found
  pub complete : CanAnswer (reading_of words) old.files → ¬ Rose old.faults new.faults
      → ¬ Rose (faults_of before) (faults_of now)
      → IfSome done.shown (λ shown. (done.status ≡ number_of (status_of shown)) × IsAnswered (status_of shown))
  -- a file that is refused is told to be refused, with where and why
  pub refused : (refusal : Shown) → HasBadFile (reading_of words) old.files refusal
      → ¬ Rose old.faults new.faults → IfSome done.shown (λ shown. shown ≡ refusal)
  -- a report that is what the program prints of a heat flow with its certificate, or of a cut, is answered with yes
  pub certified : ChecksProof words old.files → ¬ Rose old.faults new.faults → ¬ Rose (faults_of before) (faults_of now)
      → IfSome done.shown (λ shown. done.status ≡ number_of Answered)
  -- a network that is what the program prints of a design is accepted, with the balance that is printed above it
  pub audited : (design : Shown) → AuditsDesign words old.files design → ¬ Rose old.faults new.faults
      → ¬ Rose (faults_of before) (faults_of now)
      → IfSome done.shown (λ shown. (done.status ≡ number_of Answered) × AcceptsDesign design shown)

-- what is shown was written whole, or in front where a write was refused
pub data Prints (before now : Option (List ℕ)) (faults_before faults_now : ℕ) (shown : Shown)
    (status : Status) : Type 0 where
  whole : status ≡ status_of shown → Appends before now (text shown) → AppendsFront before now (text shown)
      → Prints before now faults_before faults_now shown status
  cut : status ≡ WriteFault → AppendsFront before now (text shown) → Rose faults_before faults_now
      → Prints before now faults_before faults_now shown status
