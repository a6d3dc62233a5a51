-- What statements say, and the network that they give.
use Rattle.std.specs.Prelude.{ℕ, ◌+◌, List, [], ◌∷◌, ◌++◌, map, length, position, Option, Some, None, unwrap_or, if◌then◌else◌, codes}
use Rattle.std.specs.Str.{bytes_eq}
use Rattle.stream_case.specs.Case.{source_named}
use Rattle.stream_case.specs.declared.case.Case.{Case}
use Rattle.stream_case.specs.declared.source.Source.{Source}
use Rattle.stream_case.specs.declared.source.Source.TheVariants as source
use Rattle.network_text.specs.Fractions.{fraction}
use Rattle.networks.specs.Lines.{exchangers_of, members, names_of, own_branches, stream_at, uses}
use Rattle.statements.specs.Statements.{Statement, field}
use Rattle.network_text.specs.declared.entry.Entry.{Entry}
use Rattle.networks.specs.declared.few.AtMostTwo.TheVariants as few
use Rattle.network_text.specs.declared.kind.Kind.{Kind}
use Rattle.network_text.specs.declared.kind.Kind.TheVariants as kind
use Rattle.networks.specs.declared.network.Branch.{Branch}
use Rattle.networks.specs.declared.network.Line.TheVariants as line
use Rattle.networks.specs.declared.network.Network.{Network}

-- ---- words and names

abbrev pub kind_in : List ℕ → Option Kind
kind_in word =
    if bytes_eq word (codes "exchanger") then Some kind.Exchanger
    else if bytes_eq word (codes "split") then Some kind.Split
    else if bytes_eq word (codes "pass") then Some kind.Pass
    else if bytes_eq word (codes "mix") then Some kind.Mix
    else if bytes_eq word (codes "end") then Some kind.End
    else None

-- the first field says what kind of statement it is
abbrev pub kind_of : Statement → Option Kind
kind_of statement = kind_in (field statement 0)

-- the number of the branch with a name
unfoldable pub branch_named : Network → List ℕ → Option ℕ
branch_named given name = position (bytes_eq name) (names_of given.branches)

-- the number of the exchanger with a name
unfoldable pub exchanger_named : Network → List ℕ → Option ℕ
exchanger_named given name = position (bytes_eq name) (map (λ e. e.name) (exchangers_of given.lines))

-- the same, and the source with a name, where they are known; the first of them where they are not
unfoldable pub source_at : Case → List ℕ → Source
source_at case name = unwrap_or (source_named case name) (source.Stream 0)

unfoldable pub branch_at : Network → List ℕ → ℕ
branch_at given name = unwrap_or (branch_named given name) 0

unfoldable pub exchanger_at : Network → List ℕ → ℕ
exchanger_at given name = unwrap_or (exchanger_named given name) 0

-- ---- what a statement says, behind statements that gave this: its line, and the names of the branches that the line makes, which take the next numbers

abbrev pub exchanger_entry : Case → Statement → Entry
exchanger_entry case s = record {
  line = line.Exchanger (field s 1) (source_at case (field s 2)) (source_at case (field s 3)) (fraction (field s 4));
  names = few.Nothing;
}

abbrev pub split_entry : Network → Statement → Entry
split_entry given s = record {
  line =
      line.Split (branch_at given (field s 1)) (length given.branches) (fraction (field s 3)) (length given.branches + 1);
  names = few.Two (field s 2) (field s 4);
}

abbrev pub pass_entry : Network → Statement → Entry
pass_entry given s = record {
  line = line.Pass (branch_at given (field s 1)) (exchanger_at given (field s 2)) (length given.branches);
  names = few.One (field s 3);
}

abbrev pub mix_entry : Network → Statement → Entry
mix_entry given s = record {
  line = line.Mix (branch_at given (field s 1)) (branch_at given (field s 2)) (length given.branches);
  names = few.One (field s 3);
}

abbrev pub end_entry : Network → Statement → Entry
end_entry given s = record { line = line.End (branch_at given (field s 1)); names = few.Nothing }

abbrev pub entry_by : Option Kind → Case → Network → Statement → Option Entry
entry_by None case given s = None
entry_by (Some kind.Exchanger) case given s = Some (exchanger_entry case s)
entry_by (Some kind.Split) case given s = Some (split_entry given s)
entry_by (Some kind.Pass) case given s = Some (pass_entry given s)
entry_by (Some kind.Mix) case given s = Some (mix_entry given s)
entry_by (Some kind.End) case given s = Some (end_entry given s)

unfoldable pub entry_in : Case → Network → Statement → Option Entry
entry_in case given statement = entry_by (kind_of statement) case given statement

-- ---- the network of statements

-- the stream of the first of some branches; 0, of which no rule speaks, where there are none
abbrev pub first_stream : List Branch → List ℕ → ℕ
first_stream branches [] = 0
first_stream branches (number ∷ numbers) = stream_at branches number

abbrev pub branch_of : ℕ → List ℕ → Branch
branch_of stream name = record { name = name; stream = stream }

-- the branches that an entry makes are of the stream of the first branch that its line uses
abbrev pub branches_in : Network → Entry → List Branch
branches_in given entry = map (branch_of (first_stream given.branches (uses entry.line))) (members entry.names)

-- an entry adds its line, and the branches that it makes
unfoldable pub with_entry : Network → Entry → Network
with_entry given entry = record {
  branches = given.branches ++ branches_in given entry;
  lines = given.lines ++ entry.line ∷ [];
}

abbrev pub with_any : Network → Option Entry → Network
with_any given None = given
with_any given (Some entry) = with_entry given entry

-- before the first statement
unfoldable pub start : Case → Network
start case = record { branches = own_branches case; lines = [] }

-- what there is with one statement more
abbrev pub next : Case → Network → Statement → Network
next case given statement = with_any given (entry_in case given statement)
