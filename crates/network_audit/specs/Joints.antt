-- The exchangers of a network with the branches that pass them.
use Rattle.std.specs.Prelude.{ℕ, ◌<◌, List, find, map, Option, Some, None, if◌then◌else◌}
use Rattle.std.specs.List.{enumerate_from}
use Rattle.stream_case.specs.Source.{same_source}
use Rattle.stream_case.specs.declared.source.Source.{Source}
use Rattle.stream_case.specs.declared.source.Source.TheVariants as source
use Rattle.networks.specs.Lines.{Exchanger, exchangers_of, is_pass_of}
use Rattle.networks.specs.declared.network.Branch.{Branch}
use Rattle.networks.specs.declared.network.Line.{Line}
use Rattle.networks.specs.declared.network.Line.TheVariants as line
use Rattle.networks.specs.declared.network.Network.{Network}
use Rattle.network_audit.specs.declared.joints.Crossing.{Crossing}
use Rattle.network_audit.specs.declared.joints.Joint.{Joint}

-- the branches before and behind a pass
abbrev pub crossing_by : Option Line → Option Crossing
crossing_by None = None
crossing_by (Some (line.Exchanger name hot cold duty)) = None
crossing_by (Some (line.Split from first cp second)) = None
crossing_by (Some (line.Pass from exchanger to)) = Some (record { from = from; to = to })
crossing_by (Some (line.Mix first second to)) = None
crossing_by (Some (line.End branch)) = None

-- those of the first pass among some lines on the side of a source; a utility is not passed
abbrev pub crossing_among : List Branch → List Line → ℕ → Source → Option Crossing
crossing_among branches lines number (source.Stream stream) =
    crossing_by (find (is_pass_of branches number stream) lines)
crossing_among branches lines number (source.Utility index) = None

abbrev pub joint_among : List Branch → List Line → ℕ × Exchanger → Joint
joint_among branches lines (number, e) =
    record {
      hot = e.hot;
      cold = e.cold;
      duty = e.duty;
      given = crossing_among branches lines number e.hot;
      taken =
          crossing_among branches lines number e.cold;
    }

-- these exchangers, with the passes among some lines
unfoldable pub joints_among : List Branch → List Line → List Exchanger → List Joint
joints_among branches lines exchangers = map (joint_among branches lines) (enumerate_from 0 exchangers)

-- all exchangers of a network, with all passes
abbrev pub joints_of : Network → List Joint
joints_of network = joints_among network.branches network.lines (exchangers_of network.lines)

-- ---- one pass more

-- the exchanger that a line passes has a number below n
abbrev pub PassesBelow : ℕ → Line → Type 0
PassesBelow n (line.Exchanger name hot cold duty) = Unit {0}
PassesBelow n (line.Split from first cp second) = Unit {0}
PassesBelow n (line.Pass from exchanger to) = exchanger < n
PassesBelow n (line.Mix first second to) = Unit {0}
PassesBelow n (line.End branch) = Unit {0}

-- the first pass on the side of a source is kept
abbrev pub noted : Source → ℕ → Crossing → Option Crossing → Option Crossing
noted of stream crossing (Some known) = Some known
noted of stream crossing None = if same_source of (source.Stream stream) then Some crossing else None

abbrev pub passed_joint : ℕ → Crossing → Joint → Joint
passed_joint stream crossing joint =
    record joint { given = noted joint.hot stream crossing joint.given; taken = noted joint.cold stream crossing joint.taken }
