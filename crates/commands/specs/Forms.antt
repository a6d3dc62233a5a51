-- The words behind the word of a command: names of files, and numbers.
use Rattle.std.specs.Prelude.{ℕ, List, [], ◌∷◌, Option, Some, None, option_map}
use Rattle.std.specs.Option.{option_zip}
use Rattle.study.specs.declared.plan.SweepPlan.{SweepPlan}
use Rattle.commands.specs.Numbers.{plan_of, sample_count_of, sample_number_of, workers_of}

-- just the name of a file; it is not empty
abbrev pub one_file : List (List ℕ) → Option (List ℕ)
one_file ((byte ∷ name) ∷ []) = Some (byte ∷ name)
one_file words = None

-- just the names of two files; none is empty
abbrev pub two_files : List (List ℕ) → Option (List ℕ × List ℕ)
two_files ((byte ∷ first) ∷ (other ∷ second) ∷ []) = Some (byte ∷ first, other ∷ second)
two_files words = None

-- just the four numbers of a sweep: its plan and how many workers it has
abbrev pub sweep_numbers : List (List ℕ) → Option (SweepPlan × ℕ)
sweep_numbers (from ∷ to ∷ step ∷ workers ∷ []) = option_zip (plan_of from to step) (workers_of workers)
sweep_numbers words = None

-- the name of a case file, which is not empty, and behind it just these
abbrev pub sweep_words : List (List ℕ) → Option (List ℕ × SweepPlan × ℕ)
sweep_words ((byte ∷ case) ∷ numbers) =
    option_map (λ (n : SweepPlan × ℕ). (byte ∷ case, n.0, n.1)) (sweep_numbers numbers)
sweep_words words = None

-- the names of a case file and of a study file with so many workers, where they are there
abbrev pub study_with : List ℕ → List ℕ → Option ℕ → Option (List ℕ × List ℕ × ℕ)
study_with case study (Some workers) = Some (case, study, workers)
study_with case study None = None

-- just two names, of which none is empty, and a number of workers
abbrev pub study_words : List (List ℕ) → Option (List ℕ × List ℕ × ℕ)
study_words ((byte ∷ case) ∷ (other ∷ study) ∷ workers ∷ []) =
    study_with (byte ∷ case) (other ∷ study) (workers_of workers)
study_words words = None

-- just two numbers that a sample can have
abbrev pub sample_words : List (List ℕ) → Option (ℕ × ℕ)
sample_words (number ∷ count ∷ []) = option_zip (sample_number_of number) (sample_count_of count)
sample_words words = None
