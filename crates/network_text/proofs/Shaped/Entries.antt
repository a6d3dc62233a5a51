-- The shape of the network so far, and what an entry adds to it.
use Rattle.network_text.proofs.Words.{All-from_recursion, All-nil, AreExchangers, AreMadeBeforeUse, AreMadeInOrder, AreNamed, ArePassedWhenDeclared}
use Rattle.network_text.proofs.Words.{AreUsedOnce, Branch, Case, Decides-is_below, Entry, Exchanger, ForSome, HasPositiveSize}
use Rattle.network_text.proofs.Words.{IsAnyName, IsExchanger, IsFresh, IsOfOneStream, IsPositive, IsWithinLimits, Joins, Kind, Network, Passage, Passes}
use Rattle.network_text.proofs.Words.{PassesDeclared, Rational, Statement, all_pairs_push, and_parts, bounded_within, branch_at, branch_named}
use Rattle.network_text.proofs.Words.{bytes_decides, checks, end_checks, end_entry, entry_by, entry_in, eqb-false, exchanger_at, exchanger_checks}
use Rattle.network_text.proofs.Words.{exchanger_entry, exchanger_field_checks, exchanger_named, exchanger_of, exchangers_of, false≢true, field, first_stream}
use Rattle.network_text.proofs.Words.{fraction, fraction_checks, fraction_in, get_or-map, has_stream, index_within, is_below, is_on, is_on-true, is_passed}
use Rattle.network_text.proofs.Words.{is_some-position, is_used, joins_stream, kind_checks, kind_of, length-map, makes, members}
use Rattle.network_text.proofs.Words.{mix_checks, mix_entry, mixed_checks, names_of, nat_tests, new_branch_checks, new_exchanger_checks, none_any, not-true}
use Rattle.network_text.proofs.Words.{or_cases, pass_checks, pass_entry, passed-name, passed_checks, passes, positive_num, range_with_len, ratio_of}
use Rattle.network_text.proofs.Words.{rational_zero, same_Some, same_source, same_source-true, source_at, source_checks, split_checks, split_entry, stream_at}
use Rattle.network_text.proofs.Words.{two_pushed, used_branch_checks, used_by, uses}
use Rattle.std.proofs.Common.{All, AllPairs, List, None, Option, Some, [], append-nil, arith, bytes_eq, eqb-true, false, get_or, inl, inr, is_some, length}
use Rattle.std.proofs.Common.{map, not, position, refl, slice_get, subst, sym, true, unwrap_or, ℕ, ℤ, ◌++◌, ◌<◌, ◌==◌, ◌∙◌, ◌∷◌, ◌≡◌, ◌≢◌, ◌≤◌, ◌⊎◌}
use Rattle.network_text.proofs.NameTests.{passed-branch_name}
use Rattle.stream_case.specs.declared.source.Source.TheVariants as source
use Rattle.network_text.specs.declared.kind.Kind.TheVariants as kind
use Rattle.stream_case.specs.declared.source.Side.TheVariants as side

-- the shape, but that a pass may still be missing
pub record HasShapeSoFar (case : Case) (network : Network) : Type 0 where
  pub made_once : AreMadeInOrder case network
  pub made_first : AreMadeBeforeUse case network
  pub used_once : AreUsedOnce network
  pub named : AreNamed network
  pub streams : All (λ b. b.stream < length case.streams) network.branches
  pub one_stream : All (IsOfOneStream network.branches) network.lines
  pub sizes : All HasPositiveSize network.lines
  pub exchangers : AreExchangers case network
  pub declared_first : ArePassedWhenDeclared network
  pub at_most_once : (exchanger stream : ℕ) → passes network exchanger stream ≤ 1

-- a fresh entry whose branches take the next numbers, of branches of one stream,
-- with an exchanger of the case, a size above 0, and a side of a declared exchanger
pub record Adds (case : Case) (given : Network) (entry : Entry) : Type 0 where
  pub fresh : IsFresh given entry
  pub numbers : makes entry.line ≡ range_with_len (length given.branches) (length (members entry.names))
  pub one_stream : All (λ b. stream_at given.branches b ≡ first_stream given.branches (uses entry.line)) (uses entry.line)
  pub exchanger : ForSome (exchanger_of entry.line) (IsExchanger case)
  pub size : HasPositiveSize entry.line
  pub declared : PassesDeclared given.branches (exchangers_of given.lines) entry.line

-- What the checks of fields say where they hold.

-- ---- branches

pub branch_within : (given : Network) (name : List ℕ) → is_some (branch_named given name) ≡ true
    → branch_at given name < length given.branches
unfolding branch_at branch_named names_of
branch_within given name known =
    omega (arith, index_within (bytes_eq name) (names_of given.branches) known, length-map given.branches (λ (b : Branch). b.name))

pub unused_each : (given : Network) (b : ℕ) → not (is_used given b) ≡ true
    → All (λ used. used ≢ b) (used_by given.lines)
unused_each given b free k d within same =
    grind (arith, nat_tests, none_any _ (used_by given.lines) (not-true (is_used given b) free) k d within, same)

-- a name that finds nothing is none of them
none_named : (names : List (List ℕ)) (name : List ℕ) → is_some (position (bytes_eq name) names) ≡ false
    → All (λ other. other ≢ name) names
none_named names name none k d within same =
    let fails = none_any (bytes_eq name) names (sym (is_some-position (bytes_eq name) names) ∙ none) k d within in
    false≢true (sym fails ∙ (bytes_decides name (get_or names k d)).1 (sym same))

pub new_each : (given : Network) (name : List ℕ) → not (is_some (branch_named given name)) ≡ true
    → All (λ other. other ≢ name) (names_of given.branches)
unfolding branch_named
new_each given name none = none_named (names_of given.branches) name (not-true _ none)

-- ---- fractions

ratio_within : (n : Option ℤ) (d : Option ℕ) (r : Rational) → ratio_of n d ≡ Some r → IsWithinLimits r
ratio_within (Some n) (Some d) r is = bounded_within n d r is
ratio_within (Some n) None r is = cc is
ratio_within None d r is = cc is

value_within : (o : Option Rational) → ((r : Rational) → o ≡ Some r → IsWithinLimits r) → is_some o ≡ true
    → IsWithinLimits (unwrap_or o rational_zero)
value_within None within some = cc some
value_within (Some r) within some = within r refl

fraction_within : (text : List ℕ) → is_some (fraction_in text) ≡ true → IsWithinLimits (fraction text)
unfolding fraction_in fraction
fraction_within text some = value_within _ (ratio_within _ _) some

pub fraction_sound : (text : List ℕ) → is_some (fraction_in text) ≡ true
    → is_below rational_zero (fraction text) ≡ true → IsPositive (fraction text)
fraction_sound text some positive = record {
  above = positive_num (fraction text) ((Decides-is_below rational_zero (fraction text)).0 positive);
  within = fraction_within text some;
}

-- ---- exchangers

pub undeclared_each : (given : Network) (name : List ℕ) → not (is_some (exchanger_named given name)) ≡ true
    → All (λ e. e.name ≢ name) (exchangers_of given.lines)
unfolding exchanger_named
undeclared_each given name none k d within same =
    let all = exchangers_of given.lines in
    let at = get_or-map (λ (e : Exchanger). e.name) all k d [] within in
    none_named (map (λ (e : Exchanger). e.name) all) name (not-true _ none) k [] (omega (arith, within, length-map all (λ (e : Exchanger). e.name))) (at ∙ same)

joined_by : (stream : ℕ) (o : Option Exchanger) → has_stream stream o ≡ true
    → (e : Exchanger) × (o ≡ Some e) × Joins e stream
joined_by stream None has = cc has
joined_by stream (Some e) has =
    let hot = same_source e.hot (source.Stream stream) in
    let cold = same_source e.cold (source.Stream stream) in
    (e, refl, by (or_cases hot cold has))
  where
    by : (same_source e.hot (source.Stream stream) ≡ true) ⊎ (same_source e.cold (source.Stream stream) ≡ true) → Joins e stream
    by (inl hot) = inl (same_source-true e.hot (source.Stream stream) hot)
    by (inr cold) = inr (same_source-true e.cold (source.Stream stream) cold)

-- an exchanger that a branch of the stream may pass
pub joined : (given : Network) (exchanger stream : ℕ) → joins_stream given exchanger stream ≡ true → (e : Exchanger)
    × (slice_get (exchangers_of given.lines) exchanger ≡ Some e) × Joins e stream
unfolding joins_stream
joined given exchanger stream joins = joined_by stream (slice_get (exchangers_of given.lines) exchanger) joins

-- A statement that is not at fault adds an entry to the network so far, kind by kind.

-- nothing more keeps pairs
nothing_more : {X : Type 0} (R : X → X → Type 0) (xs : List X) → AllPairs R xs → AllPairs R (xs ++ [])
nothing_more R xs pairs = subst (AllPairs R) (sym (append-nil xs)) pairs

abbrev Differ : ℕ → ℕ → Type 0
Differ a b = a ≢ b

abbrev DifferentNames : List ℕ → List ℕ → Type 0
DifferentNames a b = a ≢ b

abbrev HaveDifferentNames : Exchanger → Exchanger → Type 0
HaveDifferentNames a b = a.name ≢ b.name

exchanger_adds : (case : Case) (given : Network) (s : Statement) → HasShapeSoFar case given
    → Passes (exchanger_checks case given s)
    → Adds case given (exchanger_entry case s)
unfolding exchanger_checks exchanger_field_checks new_exchanger_checks source_checks fraction_checks
exchanger_adds case given s shape passes =
    let checks = passes.1.1 in
    let hot = source_at case (field s 2) in
    let cold = source_at case (field s 3) in
    let e : Exchanger = record { name = field s 1; hot = hot; cold = cold; duty = fraction (field s 4) } in
    let sides = and_parts (is_on case side.Hot hot) (is_on case side.Cold cold) checks.1.1.1.0 in
    let name = passed-name (field s 1) checks.0 in
    let sound : IsExchanger case e = record {
      name = name;
      hot = is_on-true case side.Hot hot sides.0;
      cold = is_on-true case side.Cold cold sides.1;
      duty = fraction_sound (field s 4) checks.1.1.1.1.0 checks.1.1.1.1.1.0;
    } in record {
      fresh = record {
        known = All-nil (λ b. b < length given.branches);
        unused = nothing_more Differ (used_by given.lines) shape.used_once;
        names = All-nil IsAnyName;
        new_names = nothing_more DifferentNames (names_of given.branches) shape.named.distinct;
        exchanger = λ x at. subst (λ (y : Exchanger). IsAnyName y.name) (same_Some e x at) (inl name);
        new_exchanger = all_pairs_push HaveDifferentNames (exchangers_of given.lines) e shape.exchangers.distinct
            (undeclared_each given (field s 1) checks.1.0);
        unpassed = λ p at. cc at;
      };
      numbers = refl;
      one_stream = All-nil (λ b. stream_at given.branches b ≡ 0);
      exchanger = λ x at. subst (IsExchanger case) (same_Some e x at) sound;
      size = tt;
      declared = tt;
    }

split_adds : (case : Case) (given : Network) (s : Statement) → HasShapeSoFar case given
    → Passes (split_checks given s) → Adds case given (split_entry given s)
unfolding split_checks used_branch_checks new_branch_checks fraction_checks
split_adds case given s shape passes =
    let from = branch_at given (field s 1) in
    let used = passes.1 in
    let made = used.1.1 in
    let size = made.1.1 in
    let last = size.1.1 in
    let apart = not-true (bytes_eq (field s 4) (field s 2)) last.1.1.0 in
    let differ : field s 2 ≢ field s 4
    = λ e. false≢true (sym apart ∙ (bytes_decides (field s 4) (field s 2)).1 (sym e)) in
    record {
      fresh = record {
        known =
            All-from_recursion (λ b. b < length given.branches) (from ∷ []) (branch_within given (field s 1) used.0, tt);
        unused = all_pairs_push Differ (used_by given.lines) from shape.used_once (unused_each given from used.1.0);
        names =
            All-from_recursion IsAnyName (field s 2 ∷ field s 4 ∷ []) (passed-branch_name (field s 2) made.0, (passed-branch_name (field s 4) last.0, tt));
        new_names =
            two_pushed DifferentNames (names_of given.branches) (field s 2) (field s 4) shape.named.distinct (new_each given (field s 2) made.1.0)
            (new_each given (field s 4) last.1.0) differ;
        exchanger = λ x at. cc at;
        new_exchanger = nothing_more HaveDifferentNames (exchangers_of given.lines) shape.exchangers.distinct;
        unpassed = λ p at. cc at;
      };
      numbers = refl;
      one_stream =
          All-from_recursion (λ b. stream_at given.branches b ≡ stream_at given.branches from) (from ∷ []) (refl, tt);
      exchanger = λ x at. cc at;
      size = fraction_sound (field s 3) size.0 size.1.0;
      declared = tt;
    }

pass_adds : (case : Case) (given : Network) (s : Statement) → HasShapeSoFar case given
    → Passes (pass_checks given s) → Adds case given (pass_entry given s)
unfolding pass_checks used_branch_checks passed_checks new_branch_checks
pass_adds case given s shape passes =
    let from = branch_at given (field s 1) in
    let exchanger = exchanger_at given (field s 2) in
    let stream = stream_at given.branches from in
    let used = passes.1 in
    let passed = used.1.1 in
    let made = passed.1.1 in
    let side = and_parts (joins_stream given exchanger stream) (not (is_passed given exchanger stream)) passed.1.0 in
    record {
      fresh = record {
        known =
            All-from_recursion (λ b. b < length given.branches) (from ∷ []) (branch_within given (field s 1) used.0, tt);
        unused = all_pairs_push Differ (used_by given.lines) from shape.used_once (unused_each given from used.1.0);
        names = All-from_recursion IsAnyName (field s 3 ∷ []) (passed-branch_name (field s 3) made.0, tt);
        new_names =
            all_pairs_push DifferentNames (names_of given.branches) (field s 3) shape.named.distinct (new_each given (field s 3) made.1.0);
        exchanger = λ x at. cc at;
        new_exchanger = nothing_more HaveDifferentNames (exchangers_of given.lines) shape.exchangers.distinct;
        unpassed = λ p at. subst (λ (q : Passage). is_passed given q.exchanger q.stream ≡ false) (same_Some _ p at)
            (not-true (is_passed given exchanger stream) side.1);
      };
      numbers = refl;
      one_stream = All-from_recursion (λ b. stream_at given.branches b ≡ stream) (from ∷ []) (refl, tt);
      exchanger = λ x at. cc at;
      size = tt;
      declared = joined given exchanger stream side.0;
    }

mix_adds : (case : Case) (given : Network) (s : Statement) → HasShapeSoFar case given
    → Passes (mix_checks given s) → Adds case given (mix_entry given s)
unfolding mix_checks used_branch_checks mixed_checks new_branch_checks
mix_adds case given s shape passes =
    let first = branch_at given (field s 1) in
    let second = branch_at given (field s 2) in
    let used = passes.1 in
    let used_next = used.1.1 in
    let mixed = used_next.1.1 in
    let made = mixed.1.1 in
    let differ : first ≢ second = λ e. eqb-false second first (not-true (second == first) mixed.0) (sym e) in
    let same = sym (eqb-true (stream_at given.branches first) (stream_at given.branches second) mixed.1.0) in
    record {
      fresh = record {
        known = All-from_recursion (λ b. b < length given.branches) (first ∷ second ∷ [])
            (branch_within given (field s 1) used.0, (branch_within given (field s 2) used_next.0, tt));
        unused = two_pushed Differ (used_by given.lines) first second shape.used_once (unused_each given first used.1.0)
            (unused_each given second used_next.1.0) differ;
        names = All-from_recursion IsAnyName (field s 3 ∷ []) (passed-branch_name (field s 3) made.0, tt);
        new_names =
            all_pairs_push DifferentNames (names_of given.branches) (field s 3) shape.named.distinct (new_each given (field s 3) made.1.0);
        exchanger = λ x at. cc at;
        new_exchanger = nothing_more HaveDifferentNames (exchangers_of given.lines) shape.exchangers.distinct;
        unpassed = λ p at. cc at;
      };
      numbers = refl;
      one_stream =
          All-from_recursion (λ b. stream_at given.branches b ≡ stream_at given.branches first) (first ∷ second ∷ []) (refl, (same, tt));
      exchanger = λ x at. cc at;
      size = tt;
      declared = tt;
    }

end_adds : (case : Case) (given : Network) (s : Statement) → HasShapeSoFar case given
    → Passes (end_checks given s) → Adds case given (end_entry given s)
unfolding end_checks used_branch_checks
end_adds case given s shape passes =
    let branch = branch_at given (field s 1) in
    let used = passes.1 in
    record {
      fresh = record {
        known =
            All-from_recursion (λ b. b < length given.branches) (branch ∷ []) (branch_within given (field s 1) used.0, tt);
        unused = all_pairs_push Differ (used_by given.lines) branch shape.used_once (unused_each given branch used.1.0);
        names = All-nil IsAnyName;
        new_names = nothing_more DifferentNames (names_of given.branches) shape.named.distinct;
        exchanger = λ x at. cc at;
        new_exchanger = nothing_more HaveDifferentNames (exchangers_of given.lines) shape.exchangers.distinct;
        unpassed = λ p at. cc at;
      };
      numbers = refl;
      one_stream =
          All-from_recursion (λ b. stream_at given.branches b ≡ stream_at given.branches branch) (branch ∷ []) (refl, tt);
      exchanger = λ x at. cc at;
      size = tt;
      declared = tt;
    }

-- ---- each kind

added_by : (case : Case) (given : Network) (s : Statement) (k : Kind) → HasShapeSoFar case given
    → Passes (kind_checks (Some k) case given s) → (e : Entry)
    × (entry_by (Some k) case given s ≡ Some e) × Adds case given e
unfolding kind_checks
added_by case given s kind.Exchanger shape passes =
    (exchanger_entry case s, refl, exchanger_adds case given s shape passes)
added_by case given s kind.Split shape passes = (split_entry given s, refl, split_adds case given s shape passes)
added_by case given s kind.Pass shape passes = (pass_entry given s, refl, pass_adds case given s shape passes)
added_by case given s kind.Mix shape passes = (mix_entry given s, refl, mix_adds case given s shape passes)
added_by case given s kind.End shape passes = (end_entry given s, refl, end_adds case given s shape passes)

-- what a statement that is not at fault adds
pub added : (case : Case) (given : Network) (s : Statement) → HasShapeSoFar case given
    → Passes (checks case given s) → (e : Entry)
    × (entry_in case given s ≡ Some e) × Adds case given e
unfolding checks entry_in
added case given s shape passes = by (kind_of s) refl passes.1
  where
    by : (o : Option Kind) → kind_of s ≡ o → (is_some o ≡ true) × Passes (kind_checks o case given s)
        → (e : Entry) × (entry_by o case given s ≡ Some e)
        × Adds case given e
    by None is passes = cc passes.0
    by (Some k) is passes = added_by case given s k shape passes.1
