-- What may be added to a network so far, and the tables that are kept beside it.
use Rattle.std.specs.Prelude.{◌≡◌, ◌≢◌, ℕ, ◌+◌, ◌*◌, ◌<◌, ◌≤◌, false, List, ◌++◌, length, map, All, AllPairs}
use Rattle.std.specs.List.{enumerate_from}
use Rattle.std.specs.Map.{keys_of}
use Rattle.std.specs.Option.{ForSome, option_to_list}
use Rattle.std.specs.declared.hash.DefaultHasher.{DefaultHasher}
use Rattle.stream_case.specs.Name.{IsAnyName}
use Rattle.stream_case.specs.declared.limits.TheConstants.{ALL_STREAMS}
use Rattle.stream_case.specs.declared.stream.Stream.{Stream}
use Rattle.networks.specs.Lines.{Exchanger, exchanger_of, exchangers_of, members, names_of, passage_of, passages_of, used_by, uses}
use Rattle.network_text.specs.Given.{branch_of}
use Rattle.network_text.specs.Checks.{is_passed}
use Rattle.network_text.specs.declared.given.Sides.{Sides}
use Rattle.network_text.specs.declared.entry.Entry.{Entry}
use Rattle.networks.specs.declared.limits.TheConstants.{MOST_STATEMENTS}
use Rattle.networks.specs.declared.network.Branch.{Branch}
use Rattle.networks.specs.declared.network.Line.{Line}
use Rattle.networks.specs.declared.network.Network.{Network}
use Rattle.networks.specs.declared.network.Passage.{Passage}

-- a network so far, in tables whose hashes begin with this hasher
pub record KeyedNetwork : Type 0 where
  pub network : Network
  pub key : DefaultHasher

-- the branches that an entry uses are there and free, the names that it makes are new, and so is that of its
-- exchanger; the side that it passes is free
pub record IsFresh (given : Network) (entry : Entry) : Type 0 where
  pub known : All (λ b. b < length given.branches) (uses entry.line)
  pub unused : AllPairs (λ a b. a ≢ b) (used_by given.lines ++ uses entry.line)
  pub names : All IsAnyName (members entry.names)
  pub new_names : AllPairs (λ a b. a ≢ b) (names_of given.branches ++ members entry.names)
  pub exchanger : ForSome (exchanger_of entry.line) (λ e. IsAnyName e.name)
  pub new_exchanger : AllPairs (λ a b. a.name ≢ b.name) (exchangers_of given.lines ++ option_to_list (exchanger_of entry.line))
  pub unpassed : ForSome (passage_of given.branches entry.line) (λ p. is_passed given p.exchanger p.stream ≡ false)

-- ---- tables

-- the branch with a name and a stream
abbrev pub named_branch : List ℕ × ℕ → Branch
named_branch (name, stream) = branch_of stream name

-- the names of streams, with their indexes
abbrev pub own_entry : ℕ × Stream → List ℕ × ℕ
own_entry (index, s) = (s.name, index)

unfoldable pub own_entries : List Stream → List (List ℕ × ℕ)
own_entries streams = map own_entry (enumerate_from 0 streams)

-- the name and the two sources of an exchanger
abbrev pub named_sides : Exchanger → List ℕ × Sides
named_sides exchanger = (exchanger.name, record { hot = exchanger.hot; cold = exchanger.cold })

-- the tables tell what the lines use, declare and pass
pub record IsTracked (branches : List (List ℕ × ℕ)) (used : List ℕ) (exchangers : List (List ℕ × Sides))
    (passed : List Passage)
    (lines : List Line) : Type 0 where
  pub used_are : used ≡ used_by lines
  pub exchangers_are : exchangers ≡ map named_sides (exchangers_of lines)
  pub passed_are : passed ≡ passages_of (map named_branch branches) lines
  pub made : All (λ number. number < length branches) (used_by lines)
  pub branch_names : All IsAnyName (keys_of branches)
  pub exchanger_names : All IsAnyName (keys_of exchangers)
  pub few_lines : length lines ≤ MOST_STATEMENTS
  pub few_branches : length branches ≤ ALL_STREAMS + 2 * length lines
