-- What all commands read.
use Rattle.commands.proofs.Formats.{IsLawful, lawful_case, lawful_network, lawful_report, lawful_site, lawful_study}
use Rattle.commands.proofs.Plain.{is_plain}
use Rattle.commands.proofs.Words.{CanAnswer, CaseTask, Curves, Design, Flow, HasBadFile, IsPrintable, NamedFile, Reading, Shown, Targets, bytes_eq, codes}
use Rattle.commands.proofs.Words.{completed, file, formed, one_file, reading_of, ready, sample_words, stop, study_words, sweep_words, two_files, wanted, ⊤}
use Rattle.commands.specs.Reading.{audit_form, certify_form, prices_form, reading_behind, sample_form, site_form, sweep_form, task_form, vertical_form}
use Rattle.commands.specs.Reading.{when◌read◌else◌}
use Rattle.std.proofs.Common.{Bool, List, None, Option, Some, [], false, refl, true, ℕ, ◌∷◌, ◌≡◌}

-- its formats are lawful, and what it shows in place of a request is plain and can be printed
unfoldable pub IsFurther : Reading → Type 0
IsFurther (ready request) = ⊤
IsFurther (stop shown) = ⊥
IsFurther (wanted P refusal next) = (is_plain refusal ≡ true) × IsPrintable refusal × IsFurther next
IsFurther (file {Value} format name next) = IsLawful format × ((value : Value) → IsFurther (next value))

-- the same of a whole reading, which may ask nothing
unfoldable pub IsLawfulReading : Reading → Type 0
IsLawfulReading (stop shown) = IsPrintable shown
IsLawfulReading other = IsFurther other

-- what is read further is a whole reading
pub whole : (reading : Reading) → IsFurther reading → IsLawfulReading reading
unfolding IsFurther IsLawfulReading
whole (stop shown) further = absurd further
whole other further = further

-- words without the form are told
if_formed : {Words : Type 0} (words : Option Words) (next : Words → Reading) → ((found : Words) → IsFurther (next found))
    → IsLawfulReading (formed words next)
unfolding IsLawfulReading IsPrintable
if_formed (Some found) next further = whole (next found) (further found)
if_formed None next further = tt

of_task : (task : CaseTask) (words : List (List ℕ)) → IsLawfulReading (task_form task words)
unfolding task_form IsFurther
of_task task words = if_formed (one_file words) _ (λ case. (lawful_case, λ c. tt))

of_vertical : (words : List (List ℕ)) → IsLawfulReading (vertical_form words)
unfolding vertical_form IsFurther IsPrintable
of_vertical words = if_formed (one_file words) _ (λ case. (lawful_case, λ c. (refl, tt, (refl, tt, tt))))

of_audit : (words : List (List ℕ)) → IsLawfulReading (audit_form words)
unfolding audit_form IsFurther
of_audit words = if_formed (two_files words) _ (λ names. (lawful_case, λ c. (lawful_network (completed c), λ n. tt)))

of_site : (words : List (List ℕ)) → IsLawfulReading (site_form words)
unfolding site_form IsFurther
of_site words = if_formed (one_file words) _ (λ name. (lawful_site, λ s. tt))

of_sweep : (words : List (List ℕ)) → IsLawfulReading (sweep_form words)
unfolding sweep_form IsFurther
of_sweep words = if_formed (sweep_words words) _ (λ found. (lawful_case, λ c. tt))

of_sample : (words : List (List ℕ)) → IsLawfulReading (sample_form words)
unfolding sample_form IsFurther
of_sample words = if_formed (sample_words words) _ (λ found. tt)

of_certify : (words : List (List ℕ)) → IsLawfulReading (certify_form words)
unfolding certify_form IsFurther
of_certify words = if_formed (two_files words) _ (λ names. (lawful_case, λ c. (lawful_report, λ r. tt)))

of_prices : (words : List (List ℕ)) → IsLawfulReading (prices_form words)
unfolding prices_form IsFurther
of_prices words = if_formed (study_words words) _ (λ found. (lawful_case, λ c. (lawful_study (completed c), λ s. tt)))

either : (test : Bool) (this others : Reading) → IsLawfulReading this → IsLawfulReading others
    → IsLawfulReading (when test read this else others)
either true this others one other = one
either false this others one other = other

behind : (word : List ℕ) (words : List (List ℕ)) → IsLawfulReading (reading_behind word words)
unfolding reading_behind IsLawfulReading IsPrintable
behind word words =
    either (bytes_eq word (codes "targets")) _ _ (of_task Targets words)
    (either (bytes_eq word (codes "flow")) _ _ (of_task Flow words)
    (either (bytes_eq word (codes "curves")) _ _ (of_task Curves words)
    (either (bytes_eq word (codes "design")) _ _ (of_task Design words)
    (either (bytes_eq word (codes "vertical")) _ _ (of_vertical words)
    (either (bytes_eq word (codes "audit")) _ _ (of_audit words)
    (either (bytes_eq word (codes "site")) _ _ (of_site words)
    (either (bytes_eq word (codes "sweep")) _ _ (of_sweep words)
    (either (bytes_eq word (codes "sample")) _ _ (of_sample words)
    (either (bytes_eq word (codes "certify")) _ _ (of_certify words)
    (either (bytes_eq word (codes "prices")) _ _ (of_prices words) tt))))))))))

pub lawful : (words : List (List ℕ)) → IsLawfulReading (reading_of words)
unfolding reading_of IsLawfulReading IsPrintable
lawful [] = tt
lawful (word ∷ words) = behind word words

-- what can be answered asks something
pub of_answerable : (reading : Reading) (files : Option (List NamedFile)) → IsLawfulReading reading
    → CanAnswer reading files → IsFurther reading
unfolding IsLawfulReading CanAnswer
of_answerable (stop shown) files is can = absurd can
of_answerable other files is can = is

-- and so does what is refused
pub of_refusable : (reading : Reading) (files : Option (List NamedFile)) (refusal : Shown)
    → IsLawfulReading reading → HasBadFile reading files refusal
    → IsFurther reading
unfolding IsLawfulReading HasBadFile
of_refusable (stop shown) files refusal is bad = absurd bad
of_refusable other files refusal is bad = is
