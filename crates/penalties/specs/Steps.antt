-- The steps that form the penalties, with their numbers: items of an audit, none of which is a test.
use Rattle.std.specs.Prelude.{ℕ, ◌+◌, Bool, List, [], ◌∷◌, ◌++◌, Option, Some, None, slice_get, if◌then◌else◌}
use Rattle.std.specs.List.{enumerate_from, flat_map}
use Rattle.stream_case.specs.declared.case.Case.{Case}
use Rattle.stream_case.specs.declared.source.Source.{Source}
use Rattle.stream_case.specs.declared.source.Source.TheVariants as source
use Rattle.stream_case.specs.declared.stream.Stream.{Stream}
use Rattle.fractions.specs.Rationals.{Rational, is_below, minus, plus, rational_zero, times}
use Rattle.networks.specs.Lines.{Exchanger, exchangers_of, stream_at}
use Rattle.networks.specs.declared.network.Line.{Line}
use Rattle.networks.specs.declared.network.Line.TheVariants as line
use Rattle.networks.specs.declared.network.Network.{Network}
use Rattle.network_values.specs.Courses.{Course, Latent, Sensible}
use Rattle.network_values.specs.Heights.{View, is_above}
use Rattle.network_values.specs.Penalties.{course_of, height_at, penalty}
use Rattle.network_values.specs.Values.{Valuation, value_at}
use Rattle.network_values.specs.declared.values.BranchValue.{BranchValue}
use Rattle.network_audit.specs.Items.{Item, Step}
use Rattle.network_audit.specs.Joints.{crossing_among}
use Rattle.network_audit.specs.declared.findings.Place.{Place}
use Rattle.network_audit.specs.declared.findings.Place.TheVariants as place
use Rattle.network_audit.specs.declared.joints.Crossing.{Crossing}

-- ---- branches

-- of a sensible stream: its distance from the place, and its height, which is formed only where the distance is above 0
abbrev pub sensible_steps : Place → ℕ → Rational → Rational → List Item
sensible_steps at k size distance =
    Step at k distance ∷ (if is_below rational_zero distance then Step at (k + 1) (times size distance) ∷ [] else [])

-- of a latent one no distance is formed, and its height only where its level counts as above the place
abbrev pub latent_steps : Place → ℕ → Bool → BranchValue → List Item
latent_steps at k counts value = if counts then Step at (k + 1) (times value.cp value.t) ∷ [] else []

abbrev pub course_steps : Bool → Course → Place → ℕ → BranchValue → List Item
course_steps from_itself (Sensible base) at k value = sensible_steps at k value.cp (minus value.t base)
course_steps from_itself (Latent distance) at k value = latent_steps at k (is_above from_itself distance) value

abbrev pub stream_steps : View → Place → ℕ → Option Stream → BranchValue → List Item
stream_steps view at k None value = []
stream_steps view at k (Some s) value = course_steps view.from_itself (course_of view.place s) at k value

-- those of the branch with a number
abbrev pub branch_steps : Case → View → Network → Valuation → Place → ℕ → ℕ → List Item
branch_steps case view network values at k branch =
    stream_steps view at k (slice_get case.streams (stream_at network.branches branch)) (value_at values branch)

-- ---- penalties, by the heights of the branches and by the steps that form them

-- the heights of two branches, and the first less the second
abbrev pub loss_steps : (ℕ → Rational) → (Place → ℕ → ℕ → List Item) → Place → ℕ → ℕ → ℕ → List Item
loss_steps height steps at k first second =
    steps at k first ++ (steps at (k + 2) second ++ Step at (k + 4) (minus (height first) (height second)) ∷ [])

-- a stream releases by the branches before and behind its pass, a utility forms no number
abbrev pub released_steps : (ℕ → Rational) → (Place → ℕ → ℕ → List Item) → Place → Source → Option Crossing → List Item
released_steps height steps at (source.Stream i) (Some crossing) =
    loss_steps height steps at 1 crossing.from crossing.to
released_steps height steps at (source.Stream i) None = []
released_steps height steps at (source.Utility i) pass = []

-- and absorbs by those behind and before it
abbrev pub absorbed_steps : (ℕ → Rational) → (Place → ℕ → ℕ → List Item) → Place → Source → Option Crossing → List Item
absorbed_steps height steps at (source.Stream i) (Some crossing) =
    loss_steps height steps at 6 crossing.to crossing.from
absorbed_steps height steps at (source.Stream i) None = []
absorbed_steps height steps at (source.Utility i) pass = []

-- the branches that pass an exchanger on the side of a source
abbrev pub side_pass : Network → ℕ → Source → Option Crossing
side_pass network number of = crossing_among network.branches network.lines number of

abbrev pub exchanger_steps : (ℕ → Rational) → (Place → ℕ → ℕ → List Item) → Network → ℕ × Exchanger → List Item
exchanger_steps height steps network (number, e) =
    released_steps height steps (place.Exchanger number) e.hot (side_pass network number e.hot)
    ++ (absorbed_steps height steps (place.Exchanger number) e.cold (side_pass network number e.cold)
    ++ Step (place.Exchanger number) 11 (penalty height network (number, e)) ∷ [])

-- a mix takes the height of its result from those of its two branches
abbrev pub taken_steps : (ℕ → Rational) → (Place → ℕ → ℕ → List Item) → Place → ℕ → ℕ → ℕ → List Item
taken_steps height steps at first second to =
    steps at 1 first
    ++ (steps at 3 second
    ++ (steps at 5 to
    ++ Step at 7 (plus (height first) (height second)) ∷ Step at 8 (minus (plus (height first) (height second)) (height to)) ∷ []))

-- statements are counted from 1, and only mixes have penalties
abbrev pub line_steps : (ℕ → Rational) → (Place → ℕ → ℕ → List Item) → ℕ × Line → List Item
line_steps height steps (index, line.Exchanger name hot cold duty) = []
line_steps height steps (index, line.Split from first cp second) = []
line_steps height steps (index, line.Pass from exchanger to) = []
line_steps height steps (index, line.Mix first second to) =
    taken_steps height steps (place.Line (index + 1)) first second to
line_steps height steps (index, line.End branch) = []

-- ---- all steps

unfoldable pub all_exchanger_steps : (ℕ → Rational) → (Place → ℕ → ℕ → List Item) → Network → List Item
all_exchanger_steps height steps network =
    flat_map (exchanger_steps height steps network) (enumerate_from 0 (exchangers_of network.lines))

unfoldable pub all_mix_steps : (ℕ → Rational) → (Place → ℕ → ℕ → List Item) → List Line → List Item
all_mix_steps height steps lines = flat_map (line_steps height steps) (enumerate_from 0 lines)

-- the exchangers in their order, then the mixes in theirs
abbrev pub penalty_steps : Case → View → Network → Valuation → List Item
penalty_steps case view network values =
    all_exchanger_steps (height_at case view network values) (branch_steps case view network values) network
    ++ all_mix_steps (height_at case view network values) (branch_steps case view network values) network.lines
