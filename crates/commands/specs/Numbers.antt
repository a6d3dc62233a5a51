-- The numbers of a sweep and of a sample, as words spell them.
use Rattle.std.specs.Prelude.{ℕ, ◌≤◌, pos, ◌+◌, ◌*◌, ◌&&◌, nat_le, nat_lt, List, Option, Some, None, if◌then◌else◌}
use Rattle.stream_case.specs.Digits.{natural_in}
use Rattle.study.specs.declared.limits.TheConstants.{MOST_ROWS, MOST_SAMPLE_NUMBER, MOST_SAMPLE_STREAMS, MOST_WORKERS}
use Rattle.study.specs.declared.plan.SweepPlan.{SweepPlan}
use Rattle.commands.specs.declared.numbers.TheConstants.{MOST_DIGITS, MOST_END, MOST_STEP}

-- a number that is there, where it lies between two limits
abbrev pub limited : ℕ → ℕ → Option ℕ → Option ℕ
limited least most (Some number) = if nat_le least number && nat_le number most then Some number else None
limited least most None = None

-- the number that a word of 1 to 10 digits spells, where it lies between two limits
abbrev pub number_within : ℕ → ℕ → List ℕ → Option ℕ
number_within least most word = limited least most (natural_in MOST_DIGITS word)

-- the plan of these numbers, where they are there, rise, and give no more rows than a sweep has
abbrev pub plan_with : Option ℕ → Option ℕ → Option ℕ → Option SweepPlan
plan_with (Some from) (Some to) (Some step) =
    if nat_le from to && nat_lt to (from + MOST_ROWS * step) then Some (record { from = pos from; to = pos to; step = pos step }) else None
plan_with from to step = None

-- the plan of these words
abbrev pub plan_of : List ℕ → List ℕ → List ℕ → Option SweepPlan
plan_of from to step =
    plan_with (number_within 0 MOST_END from) (number_within 0 MOST_END to) (number_within 1 MOST_STEP step)

-- how many workers a word asks for
abbrev pub workers_of : List ℕ → Option ℕ
workers_of word = number_within 1 MOST_WORKERS word

-- the number of a sample that a word spells
abbrev pub sample_number_of : List ℕ → Option ℕ
sample_number_of word = number_within 1 MOST_SAMPLE_NUMBER word

-- how many streams of each side a word asks for
abbrev pub sample_count_of : List ℕ → Option ℕ
sample_count_of word = number_within 1 MOST_SAMPLE_STREAMS word

-- so many workers can work
abbrev pub CanWork : ℕ → Type 0
CanWork workers = (1 ≤ workers) × (workers ≤ MOST_WORKERS)

-- a sample has this number
abbrev pub IsSampleNumber : ℕ → Type 0
IsSampleNumber number = (1 ≤ number) × (number ≤ MOST_SAMPLE_NUMBER)

-- a sample has so many streams on each side
abbrev pub IsSampleCount : ℕ → Type 0
IsSampleCount count = (1 ≤ count) × (count ≤ MOST_SAMPLE_STREAMS)

-- there is a sample of this number and count
abbrev pub IsSampleOf : ℕ → ℕ → Type 0
IsSampleOf number count = IsSampleNumber number × IsSampleCount count
