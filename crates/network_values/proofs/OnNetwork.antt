-- The definitions compute on a worked network: a cold stream is split, overheated beside an exchanger, and mixed again.
use Rattle.network_values.proofs.Words.{All, All-from_recursion, AreEnded, Branch, BranchValue, Case, Contains, Decides-is_le, IsAtMost, IsBelow, IsFullEnd}
use Rattle.network_values.proofs.Words.{IsWholeValuation, KeepApproaches, KeepsApproach, Line, Network, Rational, Solves, Stream, Utility, Valuation, View}
use Rattle.network_values.proofs.Words.{below-whole, branch_side, codes, duty_at, ended_by, ended_streams, enumerate_from, exchangers_of, gcd, hot_target}
use Rattle.network_values.proofs.Words.{ints, is_le, last_remainder, last_value, lowest_form, made_by, minus, pass_of, plus, positive_part, ratio}
use Rattle.network_values.proofs.Words.{rational_cmp, rational_zero, same_Some, same_from_fields, side_run, stream_at, times, whole}
use Rattle.network_values.specs.Penalties.{height_at, heights, hot_heat, mix_penalties, penalty}
use Rattle.std.proofs.Common.{List, [], ap, arith, false, map, pos, refl, subst, suc, true, zero, ℕ, ℤ, ◌<◌, ◌∷◌, ◌≡◌}
use Rattle.networks.specs.declared.network.Line.TheVariants as line
use Rattle.stream_case.specs.declared.source.Side.TheVariants as side
use Rattle.stream_case.specs.declared.source.Source.TheVariants as source

-- the two numbers of a rational
abbrev numbers : Rational → ℤ × ℕ
numbers a = (a.num, a.den)

abbrev hot_stream : Stream
hot_stream =
    record { name = codes "H"; side = side.Hot; supply = pos 600; target = pos 400; cp = pos 20; load = pos 0; contribution = pos 50 }

abbrev cold_stream : Stream
cold_stream =
    record { name = codes "C"; side = side.Cold; supply = pos 300; target = pos 700; cp = pos 10; load = pos 0; contribution = pos 50 }

abbrev heater : Utility
heater =
    record { name = codes "ST"; side = side.Hot; level = pos 1000; least = pos 0; most = pos 1000000; price = pos 1; contribution = pos 50 }

abbrev cooler : Utility
cooler =
    record { name = codes "CW"; side = side.Cold; level = pos 250; least = pos 0; most = pos 1000000; price = pos 0; contribution = pos 50 }

abbrev worked_case : Case
worked_case =
    record { contribution = pos 50; streams = hot_stream ∷ cold_stream ∷ []; utilities = heater ∷ cooler ∷ []; forbids = [] }

abbrev lines : List Line
lines =
    line.Exchanger (codes "E1") (source.Stream 0) (source.Stream 1) (whole (pos 500))
    ∷ line.Exchanger (codes "Q1") (source.Utility 0) (source.Stream 1) (whole (pos 2500))
    ∷ line.Exchanger (codes "Q2") (source.Utility 0) (source.Stream 1) (whole (pos 1000))
    ∷ line.Exchanger (codes "Q3") (source.Stream 0) (source.Utility 1) (whole (pos 3500))
    ∷ line.Pass 0 0 2
    ∷ line.Pass 2 3 3
    ∷ line.End 3
    ∷ line.Split 1 4 (whole (pos 5)) 5
    ∷ line.Pass 4 0 6
    ∷ line.Pass 5 1 7
    ∷ line.Mix 6 7 8
    ∷ line.Pass 8 2 9
    ∷ line.End 9
    ∷ []

-- a branch of a stream; nothing here asks for its name
abbrev branch : ℕ → Branch
branch stream = record { name = codes "b"; stream = stream }

abbrev worked_network : Network
worked_network = record { branches = map branch (0 ∷ 1 ∷ 0 ∷ 0 ∷ 1 ∷ 1 ∷ 1 ∷ 1 ∷ 1 ∷ 1 ∷ []); lines = lines }

abbrev value : ℤ → ℤ → BranchValue
value size t = record { cp = whole size; t = whole t }

-- above 55 °C of the shifted scale
abbrev view : View
view = record { place = pos 550; from_itself = false }

-- the branches behind the two exchangers have 40 and 80 °C, and their mix has 60 °C
abbrev worked_values : Valuation
worked_values =
    value (pos 20) (pos 600) ∷ value (pos 10) (pos 300) ∷ value (pos 20) (pos 575) ∷ value (pos 20) (pos 400) ∷ value (pos 5) (pos 300)
    ∷ value (pos 5) (pos 300) ∷ value (pos 5) (pos 400) ∷ value (pos 5) (pos 800) ∷ value (pos 10) (pos 600) ∷ value (pos 10) (pos 700) ∷ []

-- ---- the network is a valid one

at_most_by_test : (a b : Rational) → is_le (rational_cmp a b) ≡ true → IsAtMost a b
at_most_by_test a b passes = (Decides-is_le a b).0 passes

values_positive : All (λ v. IsBelow rational_zero v.cp) worked_values
values_positive = All-from_recursion (λ v. IsBelow rational_zero v.cp) worked_values
    (full, (half_more, (full, (full, (half, (half, (half, (half, (half_more, (half_more, tt))))))))))
  where
    full : IsBelow rational_zero (whole (pos 20))
    full = below-whole (pos 0) (pos 20) (omega (arith, ints))

    half_more : IsBelow rational_zero (whole (pos 10))
    half_more = below-whole (pos 0) (pos 10) (omega (arith, ints))

    half : IsBelow rational_zero (whole (pos 5))
    half = below-whole (pos 0) (pos 5) (omega (arith, ints))

values_solve : All (Solves worked_case worked_network worked_values) lines
unfolding exchangers_of stream_at branch_side duty_at plus minus times ratio lowest_form gcd last_remainder
values_solve = let P : Line → Type 0 = Solves worked_case worked_network worked_values in
    let one : P (line.Pass 0 0 2) = record { size = refl; heat = same_from_fields _ _ refl refl } in
    let two : P (line.Pass 2 3 3) = record { size = refl; heat = same_from_fields _ _ refl refl } in
    let divided : P (line.Split 1 4 (whole (pos 5)) 5) =
    record { first_size = refl; sizes = same_from_fields _ _ refl refl; first_state = refl; second_state = refl } in
    let three : P (line.Pass 4 0 6) = record { size = refl; heat = same_from_fields _ _ refl refl } in
    let four : P (line.Pass 5 1 7) = record { size = refl; heat = same_from_fields _ _ refl refl } in
    let mixed : P (line.Mix 6 7 8)
    = record { size = same_from_fields _ _ refl refl; heat = same_from_fields _ _ refl refl } in
    let five : P (line.Pass 8 2 9) = record { size = refl; heat = same_from_fields _ _ refl refl } in
    All-from_recursion P lines (tt, (tt, (tt, (tt, (one, (two, (tt, (divided, (three, (four, (mixed, (five, (tt, tt)))))))))))))

whole_valuation : IsWholeValuation worked_case worked_network worked_values
unfolding made_by
whole_valuation =
    record { within = omega arith; count = refl; own = refl; positive = values_positive; solved = values_solve }

are_ended : AreEnded worked_case worked_network worked_values
unfolding ended_by ended_streams stream_at
are_ended = record {
  full = All-from_recursion (IsFullEnd worked_case worked_network worked_values) (3 ∷ 9 ∷ [])
      (λ s at. ap last_value (same_Some hot_stream s at), (λ s at. ap last_value (same_Some cold_stream s at), tt));
  each = each;
}
  where
    each : (stream : ℕ) → stream < 2 → Contains (0 ∷ 1 ∷ []) stream
    each zero within = (0, omega arith, refl)
    each (suc zero) within = (1, omega arith, refl)
    each (suc (suc stream)) within = absurd (omega (arith, within))

keep_approaches : KeepApproaches worked_case worked_network worked_values
unfolding exchangers_of pass_of stream_at branch_side side_run plus ratio rational_cmp lowest_form gcd last_remainder
keep_approaches (suc (suc (suc (suc number)))) e at = cc at
keep_approaches number e at = subst (KeepsApproach worked_case worked_network worked_values number) (same_Some _ e at)
    (record { hot_end = at_most_by_test _ _ refl; cold_end = at_most_by_test _ _ refl })

-- ---- its heat and its penalties

-- the target is 2000 W, and the network uses 3500 W
target : hot_target worked_case.streams ≡ pos 2000
target = refl

used : numbers (hot_heat worked_network) ≡ (pos 3500, 1)
unfolding exchangers_of plus ratio lowest_form gcd last_remainder
used = refl

-- above 55 °C, the pinch: the heater of 2500 W works below it for 1000 W, and the mix loses 500 W
exchangers : map (λ p. numbers (penalty (height_at worked_case view worked_network worked_values) worked_network p))
    (enumerate_from 0 (exchangers_of worked_network.lines)) ≡ (pos 0, 1) ∷ (pos 1000, 1) ∷ (pos 0, 1) ∷ (pos 0, 1) ∷ []
unfolding exchangers_of pass_of stream_at heights positive_part plus minus times rational_cmp ratio lowest_form gcd last_remainder
exchangers = refl

mixes : numbers (mix_penalties worked_case view worked_network worked_values) ≡ (pos 500, 1)
unfolding exchangers_of pass_of stream_at heights positive_part plus minus times rational_cmp ratio lowest_form gcd last_remainder
mixes = refl
