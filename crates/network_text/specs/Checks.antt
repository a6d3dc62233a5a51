-- The checks of a statement, in their order. A check is a sentence on the statement and on what the statements before
-- it gave.
use Rattle.std.specs.Prelude.{ℕ, Bool, false, not, ◌==◌, ◌&&◌, ◌||◌, List, [], ◌∷◌, length, find, Option, Some, None, is_some, option_and_then, nat_lt, slice_get, take}
use Rattle.std.specs.List.{list_any, range_with_len}
use Rattle.std.specs.Str.{bytes_eq}
use Rattle.stream_case.specs.declared.case.Case.{Case}
use Rattle.stream_case.specs.declared.source.Side.TheVariants as side
use Rattle.stream_case.specs.declared.source.Source.{Source}
use Rattle.stream_case.specs.declared.source.Source.TheVariants as source
use Rattle.stream_case.specs.Case.{is_on, source_named}
use Rattle.stream_case.specs.Source.{same_source}
use Rattle.stream_case.specs.Name.{is_name}
use Rattle.fractions.specs.Rationals.{is_below, rational_zero}
use Rattle.first_fault.specs.Checks.{Check, in_turn}
use Rattle.network_text.specs.Names.{is_branch_name}
use Rattle.network_text.specs.Fractions.{fraction, fraction_in}
use Rattle.networks.specs.Lines.{Exchanger, exchanger_of, exchangers_of, passages_of, same_passage, stream_at, used_by}
use Rattle.statements.specs.Statements.{Statement, field}
use Rattle.network_text.specs.Given.{branch_at, branch_named, exchanger_at, exchanger_named, kind_of, source_at}
use Rattle.network_text.specs.declared.fault.NetWhy.{NetWhy}
use Rattle.network_text.specs.declared.fault.NetWhy.TheVariants as why
use Rattle.network_text.specs.declared.kind.Kind.{Kind}
use Rattle.network_text.specs.declared.kind.Kind.TheVariants as kind
use Rattle.networks.specs.declared.limits.TheConstants.{MOST_EXCHANGERS, MOST_STATEMENTS}
use Rattle.networks.specs.declared.network.Line.{Line}
use Rattle.networks.specs.declared.network.Network.{Network}

-- ---- a branch that is used

-- an earlier statement uses the branch with this number
abbrev pub is_used : Network → ℕ → Bool
is_used given number = list_any (λ used. number == used) (used_by given.lines)

unfoldable pub used_branch_checks : Network → List ℕ → List (Check NetWhy)
used_branch_checks given name =
    (is_some (branch_named given name), why.UnknownBranch)
    ∷ (not (is_used given (branch_at given name)), why.SpentBranch)
    ∷ []

-- ---- a branch that is made

unfoldable pub new_branch_checks : Network → List ℕ → List (Check NetWhy)
new_branch_checks given name =
    (is_branch_name name, why.BadName)
    ∷ (not (is_some (branch_named given name)), why.SameName)
    ∷ []

-- ---- a duty or a size

unfoldable pub fraction_checks : List ℕ → List (Check NetWhy)
fraction_checks text =
    (is_some (fraction_in text), why.BadNumber)
    ∷ (is_below rational_zero (fraction text), why.NotPositive)
    ∷ []

-- ---- an exchanger that is declared

unfoldable pub new_exchanger_checks : Network → List ℕ → List (Check NetWhy)
new_exchanger_checks given name =
    (is_name name, why.BadName)
    ∷ (not (is_some (exchanger_named given name)), why.SameName)
    ∷ []

unfoldable pub source_checks : Case → List ℕ → List ℕ → List (Check NetWhy)
source_checks case hot cold =
    (is_some (source_named case hot) && is_some (source_named case cold), why.UnknownName)
    ∷ (is_on case side.Hot (source_at case hot) && is_on case side.Cold (source_at case cold), why.WrongSide)
    ∷ []

-- ---- a pass through an exchanger

abbrev pub has_stream : ℕ → Option Exchanger → Bool
has_stream stream None = false
has_stream stream (Some exchanger) =
    same_source exchanger.hot (source.Stream stream) || same_source exchanger.cold (source.Stream stream)

-- the exchanger with this number has a side of the stream
unfoldable pub joins_stream : Network → ℕ → ℕ → Bool
joins_stream given exchanger stream = has_stream stream (slice_get (exchangers_of given.lines) exchanger)

-- an earlier statement passed that side
unfoldable pub is_passed : Network → ℕ → ℕ → Bool
is_passed given exchanger stream =
    list_any (same_passage (record { exchanger = exchanger; stream = stream })) (passages_of given.branches given.lines)

abbrev pub is_free_side : Network → ℕ → ℕ → Bool
is_free_side given exchanger stream = joins_stream given exchanger stream && not (is_passed given exchanger stream)

-- by the number of the branch, and the name of the exchanger
unfoldable pub passed_checks : Network → ℕ → List ℕ → List (Check NetWhy)
passed_checks given branch exchanger =
    (is_some (exchanger_named given exchanger), why.UnknownName)
    ∷ (is_free_side given (exchanger_at given exchanger) (stream_at given.branches branch), why.WrongPass)
    ∷ []

-- ---- two branches that are mixed, by their numbers

-- for the second branch, the first counts as used
unfoldable pub mixed_checks : Network → ℕ → ℕ → List (Check NetWhy)
mixed_checks given first second =
    (not (second == first), why.SpentBranch)
    ∷ (stream_at given.branches first == stream_at given.branches second, why.OtherStream)
    ∷ []

-- ---- the checks of each kind of statement: the number of fields, and then the fields from left to right

unfoldable pub exchanger_field_checks : Case → Network → Statement → List (Check NetWhy)
exchanger_field_checks case given s = in_turn
    (new_exchanger_checks given (field s 1) ∷ source_checks case (field s 2) (field s 3) ∷ fraction_checks (field s 4) ∷ [])

unfoldable pub exchanger_checks : Case → Network → Statement → List (Check NetWhy)
exchanger_checks case given s =
    (length s == 5, why.FieldCount)
    ∷ (nat_lt (length (exchangers_of given.lines)) MOST_EXCHANGERS, why.TooMany)
    ∷ exchanger_field_checks case given s

-- for the second new branch, the first counts as made
unfoldable pub split_checks : Network → Statement → List (Check NetWhy)
split_checks given s =
    (length s == 5, why.FieldCount)
    ∷ in_turn (used_branch_checks given (field s 1) ∷ new_branch_checks given (field s 2) ∷ fraction_checks (field s 3) ∷ new_branch_checks given
    (field s 4) ∷ ((not (bytes_eq (field s 4) (field s 2)), why.SameName) ∷ []) ∷ [])

unfoldable pub pass_checks : Network → Statement → List (Check NetWhy)
pass_checks given s =
    (length s == 4, why.FieldCount)
    ∷ in_turn (used_branch_checks given (field s 1) ∷ passed_checks given (branch_at given (field s 1)) (field s 2) ∷ new_branch_checks given (field s 3) ∷ [])

unfoldable pub mix_checks : Network → Statement → List (Check NetWhy)
mix_checks given s =
    (length s == 4, why.FieldCount)
    ∷ in_turn (used_branch_checks given (field s 1) ∷ used_branch_checks given (field s 2) ∷ mixed_checks given (branch_at given (field s 1))
    (branch_at given (field s 2)) ∷ new_branch_checks given (field s 3) ∷ [])

unfoldable pub end_checks : Network → Statement → List (Check NetWhy)
end_checks given s = (length s == 2, why.FieldCount) ∷ in_turn (used_branch_checks given (field s 1) ∷ [])

unfoldable pub kind_checks : Option Kind → Case → Network → Statement → List (Check NetWhy)
kind_checks None case given s = []
kind_checks (Some kind.Exchanger) case given s = exchanger_checks case given s
kind_checks (Some kind.Split) case given s = split_checks given s
kind_checks (Some kind.Pass) case given s = pass_checks given s
kind_checks (Some kind.Mix) case given s = mix_checks given s
kind_checks (Some kind.End) case given s = end_checks given s

-- the checks of a statement, behind statements that gave this
unfoldable pub checks : Case → Network → Statement → List (Check NetWhy)
checks case given statement =
    (nat_lt (length given.lines) MOST_STATEMENTS, why.TooMany)
    ∷ (is_some (kind_of statement), why.UnknownWord)
    ∷ kind_checks (kind_of statement) case given statement

-- ---- behind the last statement

-- a side of the exchanger with this number that no statement passes: no utility, but a stream
abbrev pub is_missed : Network → ℕ → Source → Bool
is_missed given exchanger (source.Stream i) = not (is_passed given exchanger i)
is_missed given exchanger (source.Utility i) = false

abbrev pub misses_side : Network → ℕ → Option Exchanger → Bool
misses_side given number None = false
misses_side given number (Some exchanger) =
    is_missed given number exchanger.hot || is_missed given number exchanger.cold

-- the exchanger that the line at an index declares; none where it is another line
abbrev pub exchanger_declared : List Line → ℕ → Option Exchanger
exchanger_declared lines index = option_and_then exchanger_of (slice_get lines index)

-- the line at an index declares an exchanger with a side that is not passed
unfoldable pub misses_pass : Network → ℕ → Bool
misses_pass all index =
    misses_side all (length (exchangers_of (take index all.lines))) (exchanger_declared all.lines index)

-- the index of the first such line
unfoldable pub first_missing : Network → Option ℕ
first_missing all = find (misses_pass all) (range_with_len 0 (length all.lines))
