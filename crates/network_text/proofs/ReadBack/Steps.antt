-- Each printed line of a network follows on the lines before it.
use Rattle.network_text.proofs.Words.{Case, Decides-is_below, Entry, Follows, IsLineOf, IsPositive, IsSourceOf-side, Kind, Line, MOST_EXCHANGERS}
use Rattle.network_text.proofs.Words.{MOST_STATEMENTS, Network, Passes, Rational, Side, Source, Statement, and_from, branch_at, branch_name, checks, end_checks}
use Rattle.network_text.proofs.Words.{entry_in, exchanger_checks, exchanger_field_checks, exchangers_of, first_failing, fraction, fraction_checks, fraction_in}
use Rattle.network_text.proofs.Words.{fraction_text, grammar, is_below, is_free_side, is_on, is_used, kind_checks, kind_of, made_before, mix_checks}
use Rattle.network_text.proofs.Words.{mixed_checks, name-passes, names_of, nat_tests, new_branch_checks, new_exchanger_checks, none_fails, other_name, own_side}
use Rattle.network_text.proofs.Words.{pass_checks, passed_checks, positive-is, rational_zero, side_of, source_at, source_checks, source_name, source_named}
use Rattle.network_text.proofs.Words.{source_named-source_name, split_checks, statement_of, stream_at, stream_at-take, used_branch_checks, with_any}
use Rattle.network_text.proofs.ReadBack.Exchangers.{IsReadable, IsUsable, entry_of, free_side, front, front-next, made_known, made_number, new, new_exchanger}
use Rattle.network_text.proofs.ReadBack.Exchangers.{passed_exchanger, room, two_used, used}
use Rattle.network_text.proofs.Printed.Fields.{fraction-back}
use Rattle.network_text.proofs.Printed.Lengths.{many_names}
use Rattle.std.proofs.Common.{List, None, Some, [], ap, arith, false, is_some, length, nat_lt, not, refl, suc, sym, true, unwrap_or, ℕ, ◌<◌, ◌==◌, ◌∙◌, ◌≡◌}
use Rattle.network_text.specs.declared.kind.Kind.TheVariants as kind
use Rattle.networks.specs.declared.few.AtMostTwo.TheVariants as few
use Rattle.networks.specs.declared.network.Line.TheVariants as line
use Rattle.stream_case.specs.declared.source.Side.TheVariants as side
use Rattle.stream_case.specs.declared.source.Source.TheVariants as source

-- a statement that is not at fault behind what was given, and the entry that it gives
record Says (case : Case) (given : Network) (s : Statement) (e : Entry) : Type 0 where
  passes : first_failing (checks case given s) ≡ None
  gives : entry_in case given s ≡ Some e

passes_of : (case : Case) (given : Network) (s : Statement) (k : Kind) → length given.lines < MOST_STATEMENTS
    → kind_of s ≡ Some k
    → Passes (kind_checks (Some k) case given s) → first_failing (checks case given s) ≡ None
unfolding checks
passes_of case given s k room is passes =
    let few : nat_lt (length given.lines) MOST_STATEMENTS ≡ true = grind (arith, nat_tests, room) in
    let known : is_some (kind_of s) ≡ true = ap is_some is in
    rw (few, known, is) (none_fails (kind_checks (Some k) case given s) passes)

-- ---- fields

-- a duty or a size
record IsRead (a : Rational) : Type 0 where
  some : is_some (fraction_in (fraction_text a)) ≡ true
  value : fraction (fraction_text a) ≡ a
  above : is_below rational_zero (fraction (fraction_text a)) ≡ true

is_read : (a : Rational) → IsPositive a → IsRead a
unfolding fraction
is_read a positive =
    let back = fraction-back a positive.within in
    let value = ap (λ o. unwrap_or o rational_zero) back in
    record {
      some = ap is_some back;
      value = value;
      above = ap (is_below rational_zero) value ∙ (Decides-is_below rational_zero a).1 (positive-is a positive.above);
    }

-- a source on a side
record IsFoundOn (case : Case) (of : Side) (s : Source) : Type 0 where
  known : is_some (source_named case (source_name case s)) ≡ true
  at : source_at case (source_name case s) ≡ s
  on : is_on case of (source_at case (source_name case s)) ≡ true

found_on : {case : Case} {network : Network} → IsReadable case network → (of : Side) (s : Source)
    → side_of case s ≡ Some of → IsFoundOn case of s
unfolding source_at is_on
found_on {case} readable of s on =
    let named = source_named-source_name case readable.valid.distinct_names s (IsSourceOf-side case s (ap is_some on)) in
    let at = ap (λ o. unwrap_or o (source.Stream 0)) named in
    record { known = ap is_some named; at = at; on = ap (is_on case of) at ∙ rw on (own_side of) }

-- the branch that a name finds is not used
found_unused : {given : Network} {name : List ℕ} {number : ℕ} → IsUsable given name number
    → not (is_used given (branch_at given name)) ≡ true
found_unused {given} is = ap (λ b. not (is_used given b)) is.at ∙ is.unused

-- ---- each kind

module _ {case : Case} {network : Network} (readable : IsReadable case network) {index : ℕ} where
  exchanger_says : (name : List ℕ) (hot cold : Source) (duty : Rational)
      → IsLineOf case network index (line.Exchanger name hot cold duty)
      → Says case (front case network index) (statement_of case network (line.Exchanger name hot cold duty))
      (entry_of network (line.Exchanger name hot cold duty))
  unfolding entry_in kind_checks exchanger_checks exchanger_field_checks new_exchanger_checks source_checks fraction_checks
  exchanger_says name hot cold duty of =
      let given = front case network index in
      let s = statement_of case network (line.Exchanger name hot cold duty) in
      let e = new_exchanger readable name hot cold duty of in
      let given_hot = found_on readable side.Hot hot e.sound.hot in
      let given_cold = found_on readable side.Cold cold e.sound.cold in
      let heat = is_read duty e.sound.duty in
      let known = and_from _ _ given_hot.known given_cold.known in
      let on = and_from _ _ given_hot.on given_cold.on in
      let within = e.few in
      let count : nat_lt (length (exchangers_of given.lines)) MOST_EXCHANGERS ≡ true
      = grind (arith, nat_tests) in
      record {
        passes = passes_of case given s kind.Exchanger (room readable of) refl
            (refl, (count, (name-passes name e.sound.name, (e.free, (known, (on, (heat.some, (heat.above, tt))))))));
        gives =
            λ i. Some (record { line = line.Exchanger name (given_hot.at i) (given_cold.at i) (heat.value i); names = few.Nothing });
      }

  split_says : (from first : ℕ) (size : Rational) (second : ℕ)
      → IsLineOf case network index (line.Split from first size second)
      → Says case (front case network index) (statement_of case network (line.Split from first size second))
      (entry_of network (line.Split from first size second))
  unfolding entry_in kind_checks split_checks used_branch_checks new_branch_checks fraction_checks branch_name
  split_says from first size second of =
      let given = front case network index in
      let from_used = used readable of 0 (omega arith) in
      let one = new readable of 0 (omega arith) in
      let two = new readable of 1 (omega arith) in
      let number = made_number readable of 0 (omega arith) in
      let number_two = made_number readable of 1 (omega arith) in
      let read = is_read size of.size in
      let before : first < second = omega (arith, number, number_two) in
      let within : second < length (names_of network.branches)
      = omega (arith, made_known readable of 1 (omega arith), many_names network) in
      let apart = other_name (branch_name network second) (branch_name network first) (readable.shape.named.distinct first second [] before within) in
      let first_is : length given.branches ≡ first = omega (arith, number) in record {
        passes =
            passes_of case given (statement_of case network (line.Split from first size second)) kind.Split (room readable of) refl
            (refl, (from_used.known, (found_unused from_used, (one.is, (one.free, (read.some, (read.above, (two.is, (two.free, (ap not apart, tt))))))))));
        gives = λ i. Some (record {
          line = line.Split (from_used.at i) (first_is i) (read.value i) (number_two i);
          names = few.Two (branch_name network first) (branch_name network second);
        });
      }

  pass_says : (from exchanger to : ℕ) → IsLineOf case network index (line.Pass from exchanger to)
      → Says case (front case network index) (statement_of case network (line.Pass from exchanger to)) (entry_of network (line.Pass from exchanger to))
  unfolding entry_in kind_checks pass_checks used_branch_checks passed_checks new_branch_checks
  pass_says from exchanger to of =
      let given = front case network index in
      let from_used = used readable of 0 (omega arith) in
      let through = passed_exchanger readable from exchanger to of in
      let one = new readable of 0 (omega arith) in
      let number : length given.branches ≡ to = omega (arith, made_number readable of 0 (omega arith)) in
      let side = (λ i. is_free_side given (through.at i) (stream_at given.branches (from_used.at i)))
      ∙ free_side readable from exchanger to of in
      record {
        passes =
            passes_of case given (statement_of case network (line.Pass from exchanger to)) kind.Pass (room readable of) refl
            (refl, (from_used.known, (found_unused from_used, (through.known, (side, (one.is, (one.free, tt)))))));
        gives =
            λ i. Some (record { line = line.Pass (from_used.at i) (through.at i) (number i); names = few.One (branch_name network to) });
      }

  mix_says : (first second to : ℕ) → IsLineOf case network index (line.Mix first second to)
      → Says case (front case network index) (statement_of case network (line.Mix first second to)) (entry_of network (line.Mix first second to))
  unfolding entry_in kind_checks mix_checks used_branch_checks mixed_checks new_branch_checks
  mix_says first second to of =
      let given = front case network index in
      let s = statement_of case network (line.Mix first second to) in
      let m = made_before case network index in
      let one = used readable of 0 (omega arith) in
      let two = used readable of 1 (omega arith) in
      let result = new readable of 0 (omega arith) in
      let number : length given.branches ≡ to = omega (arith, made_number readable of 0 (omega arith)) in
      let differ = two_used readable of first second refl in
      let other : (second == first) ≡ false = grind (arith, nat_tests, differ) in
      let apart = (λ i. not (two.at i == one.at i)) ∙ ap not other in
      let same : stream_at given.branches first ≡ stream_at given.branches second
      = stream_at-take network.branches m first
      (of.numbers.used 0 0 (omega arith)) ∙ sym of.one_stream.0
      ∙ sym (stream_at-take network.branches m second (of.numbers.used 1 0 (omega arith))) in
      let one_stream : (stream_at given.branches first == stream_at given.branches second) ≡ true
      = grind (arith, nat_tests, same) in
      let mixed = (λ i. stream_at given.branches (one.at i) == stream_at given.branches (two.at i)) ∙ one_stream in
      record {
        passes = passes_of case given s kind.Mix (room readable of) refl
            (refl, (one.known, (found_unused one, (two.known, (found_unused two, (apart, (mixed, (result.is, (result.free, tt)))))))));
        gives =
            λ i. Some (record { line = line.Mix (one.at i) (two.at i) (number i); names = few.One (branch_name network to) });
      }

  end_says : (branch : ℕ) → IsLineOf case network index (line.End branch)
      → Says case (front case network index) (statement_of case network (line.End branch)) (entry_of network (line.End branch))
  unfolding entry_in kind_checks end_checks used_branch_checks
  end_says branch of =
      let given = front case network index in
      let s = statement_of case network (line.End branch) in
      let own = used readable of 0 (omega arith) in
      record {
        passes = passes_of case given s kind.End (room readable of) refl (refl, (own.known, (found_unused own, tt)));
        gives = λ i. Some (record { line = line.End (own.at i); names = few.Nothing });
      }

  says : (l : Line) → IsLineOf case network index l
      → Says case (front case network index) (statement_of case network l) (entry_of network l)
  says (line.Exchanger name hot cold duty) of = exchanger_says name hot cold duty of
  says (line.Split from first size second) of = split_says from first size second of
  says (line.Pass from exchanger to) of = pass_says from exchanger to of
  says (line.Mix first second to) of = mix_says first second to of
  says (line.End branch) of = end_says branch of

  pub line_follows : (l : Line) → IsLineOf case network index l
      → Follows (grammar case) (front case network index) (statement_of case network l) (front case network (suc index))
  line_follows l of = let is = says l of in
      record { passes = is.passes; next_is = sym (front-next of) ∙ sym (ap (with_any (front case network index)) is.gives) }
