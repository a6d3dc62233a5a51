-- How a network is printed.
use Rattle.std.specs.Prelude.{ℕ, ◌*◌, ◌≤◌, List, [], ◌∷◌, length, map, Option, option_map, slice_index_or, codes}
use Rattle.std.specs.List.{flat_map}
use Rattle.stream_case.specs.Case.{source_name}
use Rattle.stream_case.specs.declared.case.Case.{Case}
use Rattle.fractions.specs.Rationals.{Rational, fraction_text}
use Rattle.networks.specs.Lines.{exchanger_of, exchangers_of, names_of}
use Rattle.statements.specs.Statements.{Statement, statement_text}
use Rattle.stream_case.specs.declared.source.Source.{Source}
use Rattle.network_text.specs.declared.limits.TheConstants.{LONGEST_LINE}
use Rattle.networks.specs.declared.network.Line.{Line}
use Rattle.networks.specs.declared.network.Line.TheVariants as line
use Rattle.networks.specs.declared.network.Network.{Network}

-- the name of the branch with a number; nothing where there is none
unfoldable pub branch_name : Network → ℕ → List ℕ
branch_name network number = slice_index_or (names_of network.branches) number []

-- the name of the exchanger that a line declares, if it declares one
abbrev pub declared_name : Line → Option (List ℕ)
declared_name l = option_map (λ e. e.name) (exchanger_of l)

-- the names of the exchangers, whose indexes are their numbers
unfoldable pub exchanger_names : Network → List (List ℕ)
exchanger_names network = map (λ e. e.name) (exchangers_of network.lines)

-- the name of the exchanger with a number; nothing where there is none
abbrev pub exchanger_name : Network → ℕ → List ℕ
exchanger_name network number = slice_index_or (exchanger_names network) number []

-- ---- statements

abbrev pub exchanger_statement : Case → List ℕ → Source → Source → Rational → Statement
exchanger_statement case name hot cold duty =
    codes "exchanger" ∷ name ∷ source_name case hot ∷ source_name case cold ∷ fraction_text duty ∷ []

abbrev pub split_statement : Network → ℕ → ℕ → Rational → ℕ → Statement
split_statement network from first cp second =
    codes "split" ∷ branch_name network from ∷ branch_name network first ∷ fraction_text cp ∷ branch_name network second ∷ []

-- by the name of the exchanger
abbrev pub pass_statement : Network → ℕ → List ℕ → ℕ → Statement
pass_statement network from exchanger to =
    codes "pass" ∷ branch_name network from ∷ exchanger ∷ branch_name network to ∷ []

abbrev pub mix_statement : Network → ℕ → ℕ → ℕ → Statement
mix_statement network first second to =
    codes "mix" ∷ branch_name network first ∷ branch_name network second ∷ branch_name network to ∷ []

abbrev pub end_statement : Network → ℕ → Statement
end_statement network branch = codes "end" ∷ branch_name network branch ∷ []

-- a line as a statement, with names in place of numbers
abbrev pub statement_of : Case → Network → Line → Statement
statement_of case network (line.Exchanger name hot cold duty) = exchanger_statement case name hot cold duty
statement_of case network (line.Split from first cp second) = split_statement network from first cp second
statement_of case network (line.Pass from exchanger to) =
    pass_statement network from (exchanger_name network exchanger) to
statement_of case network (line.Mix first second to) = mix_statement network first second to
statement_of case network (line.End branch) = end_statement network branch

-- the text of a network: its statements in order, one a line
unfoldable pub text_of : Case → Network → List ℕ
text_of case network = flat_map statement_text (map (statement_of case network) network.lines)

-- with no more bytes a line than the longest has
abbrev pub HasShortLines : Network → List ℕ → Type 0
HasShortLines network text = length text ≤ LONGEST_LINE * length network.lines
