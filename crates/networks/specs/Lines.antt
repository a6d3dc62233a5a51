-- What the lines of a network declare, make, use and pass.
use Rattle.std.specs.Prelude.{ℕ, Bool, false, ◌==◌, ◌&&◌, List, [], ◌∷◌, find, map, Option, Some, None, option_map, unwrap_or, slice_get}
use Rattle.std.specs.List.{enumerate_from, filter_map, flat_map}
use Rattle.stream_case.specs.declared.case.Case.{Case}
use Rattle.stream_case.specs.declared.source.Source.{Source}
use Rattle.stream_case.specs.declared.stream.Stream.{Stream}
use Rattle.fractions.specs.Rationals.{Rational}
use Rattle.networks.specs.declared.few.AtMostTwo.{AtMostTwo}
use Rattle.networks.specs.declared.few.AtMostTwo.TheVariants as few
use Rattle.networks.specs.declared.network.Branch.{Branch}
use Rattle.networks.specs.declared.network.Line.{Line}
use Rattle.networks.specs.declared.network.Line.TheVariants as line
use Rattle.networks.specs.declared.network.Network.{Network}
use Rattle.networks.specs.declared.network.Passage.{Passage}

-- none, one or two of a kind, as a list
abbrev pub members : {T : Type 0} → AtMostTwo T → List T
members few.Nothing = []
members (few.One a) = a ∷ []
members (few.Two a b) = a ∷ b ∷ []

-- ---- exchangers

-- an exchanger as it is declared
pub record Exchanger : Type 0 where
  pub name : List ℕ
  pub hot : Source
  pub cold : Source
  pub duty : Rational

abbrev pub exchanger_of : Line → Option Exchanger
exchanger_of (line.Exchanger name hot cold duty) = Some (record { name = name; hot = hot; cold = cold; duty = duty })
exchanger_of (line.Split from first cp second) = None
exchanger_of (line.Pass from exchanger to) = None
exchanger_of (line.Mix first second to) = None
exchanger_of (line.End branch) = None

-- the exchangers, whose indexes are their numbers
unfoldable pub exchangers_of : List Line → List Exchanger
exchangers_of lines = filter_map exchanger_of lines

-- ---- branches

-- the numbers of the branches that a line makes
abbrev pub makes : Line → List ℕ
makes (line.Exchanger name hot cold duty) = []
makes (line.Split from first cp second) = first ∷ second ∷ []
makes (line.Pass from exchanger to) = to ∷ []
makes (line.Mix first second to) = to ∷ []
makes (line.End branch) = []

-- and of those that it uses
abbrev pub uses : Line → List ℕ
uses (line.Exchanger name hot cold duty) = []
uses (line.Split from first cp second) = from ∷ []
uses (line.Pass from exchanger to) = from ∷ []
uses (line.Mix first second to) = first ∷ second ∷ []
uses (line.End branch) = branch ∷ []

-- in order, by all lines
unfoldable pub made_by : List Line → List ℕ
made_by lines = flat_map makes lines

unfoldable pub used_by : List Line → List ℕ
used_by lines = flat_map uses lines

-- the names of branches, whose indexes are their numbers
unfoldable pub names_of : List Branch → List (List ℕ)
names_of branches = map (λ b. b.name) branches

-- the stream of the branch with a number; 0, of which no rule speaks, where there is none
unfoldable pub stream_at : List Branch → ℕ → ℕ
stream_at branches number = unwrap_or (option_map (λ b. b.stream) (slice_get branches number)) 0

-- each stream has a branch of its own, with the stream's name
abbrev pub own_branch : ℕ × Stream → Branch
own_branch (i, s) = record { name = s.name; stream = i }

unfoldable pub own_branches : Case → List Branch
own_branches case = map own_branch (enumerate_from 0 case.streams)

-- ---- passages

-- which exchanger a line leads a branch through, and on the side of which stream
abbrev pub passage_of : List Branch → Line → Option Passage
passage_of branches (line.Exchanger name hot cold duty) = None
passage_of branches (line.Split from first cp second) = None
passage_of branches (line.Pass from exchanger to) =
    Some (record { exchanger = exchanger; stream = stream_at branches from })
passage_of branches (line.Mix first second to) = None
passage_of branches (line.End branch) = None

unfoldable pub passages_of : List Branch → List Line → List Passage
passages_of branches lines = filter_map (passage_of branches) lines

abbrev pub same_passage : Passage → Passage → Bool
same_passage a b = (a.exchanger == b.exchanger) && (a.stream == b.stream)

-- the line leads a branch of the stream through the exchanger
abbrev pub is_pass_of : List Branch → ℕ → ℕ → Line → Bool
is_pass_of branches exchanger stream (line.Exchanger name hot cold duty) = false
is_pass_of branches exchanger stream (line.Split from first cp second) = false
is_pass_of branches exchanger stream (line.Pass from through to) =
    (exchanger == through) && (stream == stream_at branches from)
is_pass_of branches exchanger stream (line.Mix first second to) = false
is_pass_of branches exchanger stream (line.End branch) = false

-- the first line that does
unfoldable pub pass_of : Network → ℕ → ℕ → Option Line
pass_of network exchanger stream = find (is_pass_of network.branches exchanger stream) network.lines
