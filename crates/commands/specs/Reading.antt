-- The forms of a command: what its words ask to be read, and what is asked then. Nothing is answered before all is read.
use Rattle.std.specs.Prelude.{ℕ, Bool, true, false, List, [], ◌∷◌, Option, Some, None, codes, ⊤}
use Rattle.std.specs.Str.{bytes_eq}
use Rattle.stream_case.specs.Case.{completed, IsStandard}
use Rattle.stream_case.specs.Stream.{AreSensible}
use Rattle.stream_case.specs.declared.case.Case.{Case}
use Rattle.reports.specs.declared.shown.Shown.{Shown}
use Rattle.reports.specs.declared.shown.Shown.TheVariants.{BadWords, Latent, NotStandard}
use Rattle.commands.specs.Formats.{Format, case_file, network_file, report_file, site_file, study_file}
use Rattle.commands.specs.Forms.{one_file, sample_words, study_words, sweep_words, two_files}
use Rattle.commands.specs.declared.request.CaseTask.{CaseTask}
use Rattle.commands.specs.declared.request.CaseTask.TheVariants.{Curves, Design, Flow, Targets}
use Rattle.commands.specs.declared.request.Request.{Request}
use Rattle.commands.specs.declared.request.Request.TheVariants as request

-- what is read, one file after another, up to a request
pub data Reading : Type 1 where
  -- all is read, and this is asked
  ready : Request → Reading
  -- nothing is asked, and this is shown
  stop : Shown → Reading
  -- this is wanted of what was read; where it does not hold, that is shown
  wanted : Type 0 → Shown → Reading → Reading
  -- the file of that name is read by the format, and then what its value asks for
  file : {Value Cause : Type 0} → Format Value Cause → List ℕ → (Value → Reading) → Reading

-- the words behind the first one have a form, or they form no command
abbrev pub formed : {Words : Type 0} → Option Words → (Words → Reading) → Reading
formed (Some words) next = next words
formed None next = stop BadWords

-- the case of a file is read and completed, and then what it asks for
abbrev pub of_completed : List ℕ → (Case → Reading) → Reading
of_completed name next = file case_file name (λ given. next (completed given))

-- ---- what each command asks, by the words behind its word

unfoldable pub task_form : CaseTask → List (List ℕ) → Reading
task_form what words = formed (one_file words) (λ case. of_completed case (λ c. ready (request.OfCase c what)))

unfoldable pub vertical_form : List (List ℕ) → Reading
vertical_form words = formed (one_file words) (λ case. of_completed case (λ c.
    wanted (IsStandard c) NotStandard (wanted (AreSensible c.streams) Latent (ready (request.Vertical c)))))

unfoldable pub audit_form : List (List ℕ) → Reading
audit_form words = formed (two_files words) (λ names.
    of_completed names.0 (λ c. file (network_file c) names.1 (λ n. ready (request.Audit c n))))

unfoldable pub site_form : List (List ℕ) → Reading
site_form words = formed (one_file words) (λ name. file site_file name (λ s. ready (request.OfSite s)))

-- a sweep completes its case for each contribution
unfoldable pub sweep_form : List (List ℕ) → Reading
sweep_form words = formed (sweep_words words) (λ found.
    file case_file found.0 (λ c. ready (request.Sweep c found.1 found.2)))

unfoldable pub sample_form : List (List ℕ) → Reading
sample_form words = formed (sample_words words) (λ found. ready (request.Sample found.0 found.1))

unfoldable pub certify_form : List (List ℕ) → Reading
certify_form words = formed (two_files words) (λ names.
    of_completed names.0 (λ c. file report_file names.1 (λ r. ready (request.Certify c r))))

unfoldable pub prices_form : List (List ℕ) → Reading
prices_form words = formed (study_words words) (λ found.
    of_completed found.0 (λ c. file (study_file c) found.1 (λ s. ready (request.Prices c s found.2))))

-- ---- the table of the commands, in the order in which they are told where words form none

infixr 10 when◌read◌else◌
abbrev pub when◌read◌else◌ : Bool → Reading → Reading → Reading
when true read this else others = this
when false read this else others = others

unfoldable pub reading_behind : List ℕ → List (List ℕ) → Reading
reading_behind word words =
    when bytes_eq word (codes "targets") read task_form Targets words
    else when bytes_eq word (codes "flow") read task_form Flow words
    else when bytes_eq word (codes "curves") read task_form Curves words
    else when bytes_eq word (codes "design") read task_form Design words
    else when bytes_eq word (codes "vertical") read vertical_form words
    else when bytes_eq word (codes "audit") read audit_form words
    else when bytes_eq word (codes "site") read site_form words
    else when bytes_eq word (codes "sweep") read sweep_form words
    else when bytes_eq word (codes "sample") read sample_form words
    else when bytes_eq word (codes "certify") read certify_form words
    else when bytes_eq word (codes "prices") read prices_form words
    else stop BadWords

unfoldable pub reading_of : List (List ℕ) → Reading
reading_of [] = stop BadWords
reading_of (word ∷ words) = reading_behind word words

-- a file is read, before anything else is decided
abbrev pub WantsFile : Reading → Type 0
WantsFile (ready request) = ⊥
WantsFile (stop shown) = ⊥
WantsFile (wanted P refusal next) = WantsFile next
WantsFile (file format name next) = ⊤
