-- The case of a file that is accepted is valid.
use Rattle.case_text.proofs.ListLemmas.{AllPairs-insert}
use Rattle.case_text.proofs.Sources.{Streams, Utilities, count_on-case, few_with_stream, names_of-case, side_in, side_of-case}
use Rattle.case_text.proofs.Tests.{Decides-is_forbidden, Decides-is_reserved_from, Decides-is_taken, IsRightNameOf, source_on}
use Rattle.case_text.proofs.Words.{All-back, All-front, All-map, All-nil, All-push, All-weaker, Case, CaseWhy, Decides-and, Decides-int_eq, Decides-int_le}
use Rattle.case_text.proofs.Words.{Decides-is_own_contribution, Entry, Forbid, Given, HasFewSources, IsCase, IsContribution, IsKept, IsLatent, IsOutcome}
use Rattle.case_text.proofs.Words.{IsRightlyNamed, IsSensible, IsUnreserved, IsValid, IsValidForbid, IsValidStream, IsValidUtility, Kind, MOST_FORBIDS}
use Rattle.case_text.proofs.Words.{MOST_STREAMS, MOST_UTILITIES, Passes, Row, RowFault, Side, Source, Stream, StreamData, UtilityData, all_pairs_push, case_of}
use Rattle.case_text.proofs.Words.{count_on, end_checks, end_fault, entry_by, field, given_by, given_has, grammar, is_flow_rate_beside, is_name}
use Rattle.case_text.proofs.Words.{is_own_contribution, is_own_load, is_reserved, is_reserved_from, is_taken, keys_of, kind_of, length-map, map-append}
use Rattle.case_text.proofs.Words.{nat_tests, no_contribution, nothing, number, optional_number, passed-latent, passed-name, passed-room, passed-sensible}
use Rattle.case_text.proofs.Words.{passed-within, range_of, source_at, stream-is_valid, stream_data, stream_of, utility_data, utility_of, with_entry}
use Rattle.case_text.proofs.Words.{Decides-neither, codes, passed-contribution}
use Rattle.case_text.specs.Checks.{checks, contribution_causes, forbid_checks, heat_checks, kind_checks, latent_checks, sensible_checks, stream_checks}
use Rattle.case_text.specs.Checks.{stream_number_checks, utility_checks, utility_number_checks}
use Rattle.std.proofs.Common.{All, AllPairs, Err, IfOk, IfSome, List, None, Ok, Option, Result, Some, [], append_assoc, arith, if◌then◌else◌, inl, inr, is_some}
use Rattle.std.proofs.Common.{length, length-append, not, option_map, pos, refl, slice_get, suc, sym, true, unwrap_or, zero, ℕ, ℤ, ◌++◌, ◌<◌, ◌∙◌, ◌∷◌, ◌≡◌}
use Rattle.std.proofs.Common.{◌≢◌, ◌≤◌, ◌⊎◌}
use Rattle.case_text.specs.declared.entry.Entry.TheVariants as entry
use Rattle.case_text.specs.declared.kind.Kind.TheVariants as kind
use Rattle.stream_case.specs.declared.source.Side.TheVariants as side
use Rattle.stream_case.specs.declared.source.Source.TheVariants as source

-- a stream, a utility and a forbidden match of a valid case, whatever its contribution
record StreamFits (s : List ℕ × StreamData) : Type 0 where
  valid : (contribution : ℤ) → IsContribution contribution → IsValidStream (stream_of contribution s)
  name : IsUnreserved s.0

record UtilityFits (u : List ℕ × UtilityData) : Type 0 where
  valid : (contribution : ℤ) → IsContribution contribution → IsValidUtility (utility_of contribution u)
  name : IsRightNameOf u.1.side u.0

record ForbidFits (given : Given) (f : Forbid) : Type 0 where
  hot : side_in given f.hot ≡ Some side.Hot
  cold : side_in given f.cold ≡ Some side.Cold

record SourcesFit (ss : Streams) (us : Utilities) : Type 0 where
  streams : All StreamFits ss
  utilities : All UtilityFits us
  few : HasFewSources ss us
  names : AllPairs (λ a b. a ≢ b) (keys_of ss ++ keys_of us)

record ForbidsFit (given : Given) (forbids : List Forbid) : Type 0 where
  each : All (ForbidFits given) forbids
  few : length forbids ≤ MOST_FORBIDS
  distinct : AllPairs (λ f g. f ≢ g) forbids

-- what was given, as far as it goes, is that of a valid case
record Fits (given : Given) : Type 0 where
  contribution : IfSome given.contribution IsContribution
  sources : SourcesFit given.streams given.utilities
  forbids : ForbidsFit given given.forbids

-- ---- one entry more

-- a source keeps its index and side
side_front : {X : Type 0} (side_of_item : X → Side) (xs ys : List X) (i : ℕ) (of : Side)
    → option_map side_of_item (slice_get xs i) ≡ Some of
    → option_map side_of_item (slice_get (xs ++ ys) i) ≡ Some of
side_front side_of_item [] ys i of on = cc on
side_front side_of_item (x ∷ xs) ys zero of on = on
side_front side_of_item (x ∷ xs) ys (suc i) of on = side_front side_of_item xs ys i of on

side_stays : (given : Given) (e : Entry) (s : Source) (of : Side) → side_in given s ≡ Some of
    → side_in (with_entry given e) s ≡ Some of
side_stays given entry.Nothing s of on = on
side_stays given (entry.Contribution n) (source.Stream i) of on = on
side_stays given (entry.Contribution n) (source.Utility i) of on = on
side_stays given (entry.Stream name stream) (source.Stream i) of on =
    side_front (λ (e : List ℕ × StreamData). e.1.side) given.streams _ i of on
side_stays given (entry.Stream name stream) (source.Utility i) of on = on
side_stays given (entry.Utility name utility) (source.Stream i) of on = on
side_stays given (entry.Utility name utility) (source.Utility i) of on =
    side_front (λ (e : List ℕ × UtilityData). e.1.side) given.utilities _ i of on
side_stays given (entry.Forbid forbid) (source.Stream i) of on = on
side_stays given (entry.Forbid forbid) (source.Utility i) of on = on

forbids_stay : (given : Given) (e : Entry) → ForbidsFit given given.forbids
    → ForbidsFit (with_entry given e) given.forbids
forbids_stay given e fits = record {
  each = All-weaker (ForbidFits given) (ForbidFits (with_entry given e))
      (λ f fit. record { hot = side_stays given e f.hot side.Hot fit.hot; cold = side_stays given e f.cold side.Cold fit.cold }) given.forbids fits.each;
  few = fits.few;
  distinct = fits.distinct;
}

contribution_fits : (given : Given) (contribution : ℤ) → Fits given → IsContribution contribution
    → Fits (with_entry given (entry.Contribution contribution))
contribution_fits given contribution fits range =
    let forbids = forbids_stay given (entry.Contribution contribution) fits.forbids in
    record { contribution = range; sources = fits.sources; forbids = forbids }

own_range : (row : Row) (contribution : ℤ) → is_own_contribution (optional_number row 6) ≡ true
    → IsContribution contribution
    → IsContribution (unwrap_or (optional_number row 6) contribution)
own_range row contribution own range =
    range_of (optional_number row 6) contribution ((Decides-is_own_contribution (optional_number row 6)).0 own) range

-- a stream that gives this load, where its numbers pass the checks
heat_of : (s : List ℕ × StreamData) (contribution : ℤ) → is_flow_rate_beside s.1.load s.1.cp ≡ true
    → is_own_load s.1.load ≡ true → Passes (heat_checks s.1)
    → IsSensible (stream_of contribution s) ⊎ IsLatent (stream_of contribution s)
unfolding is_own_load heat_checks
heat_of s contribution = by s.1.load refl
  where
    by : (load : Option ℤ) → s.1.load ≡ load → is_flow_rate_beside load s.1.cp ≡ true → is_own_load load ≡ true
        → Passes (if is_some load then latent_checks s.1 else sensible_checks s.1)
        → IsSensible (stream_of contribution s) ⊎ IsLatent (stream_of contribution s)
    by None is cp range (differs, (way, _)) = inl (passed-sensible (stream_of contribution s) cp (rw is refl) way)
    by (Some load) is cp range (latent, _) =
        let (level, none) = (Decides-and _ _ (Decides-int_eq s.1.supply s.1.target) (Decides-int_eq s.1.cp (pos 0))).0 latent in
        inr (passed-latent (stream_of contribution s) level none (rw is range))

stream_fits : (of : Side) (row : Row) → is_name (field row 1) ≡ true → not (is_reserved (field row 1)) ≡ true
    → Passes (stream_number_checks of row)
    → StreamFits (field row 1, stream_data of row)
unfolding stream_number_checks is_reserved
stream_fits of row name unreserved (_, (_, (_, (_, (_, (supply, (target, (cp, (load, (own, heat)))))))))) = record {
  valid = λ contribution range.
      let s : List ℕ × StreamData = (field row 1, stream_data of row) in
      stream-is_valid (stream_of contribution s) name supply target (heat_of s contribution cp load heat) (own_range row contribution own range);
  name = (Decides-neither (field row 1) (codes "HOT") (codes "COLD")).0 unreserved;
}

keys_push : {V : Type 0} (es : List (List ℕ × V)) (e : List ℕ × V) → keys_of (es ++ e ∷ []) ≡ keys_of es ++ e.0 ∷ []
keys_push {V = V} es e = map-append (λ (f : List ℕ × V). f.0) es (e ∷ [])

-- a new name differs from that of each source
new_name : (given : Given) (name : List ℕ) → not (is_taken (case_of given) name) ≡ true
    → All (λ other. other ≢ name) (keys_of given.streams ++ keys_of given.utilities)
new_name given name new = rw (← names_of-case given) ((Decides-is_taken (case_of given) name).0 new)

stream_kept : (given : Given) (row : Row) (of : Side) → Fits given → Passes (stream_checks of given row)
    → Fits (with_entry given (entry.Stream (field row 1) (stream_data of row)))
unfolding stream_checks
stream_kept given row of fits (few, (name, (unreserved, (free, numbers)))) =
    let s : List ℕ × StreamData = (field row 1, stream_data of row) in
    let streams = keys_of given.streams in
    let utilities = keys_of given.utilities in
    let new = new_name given s.0 free in
    let before = All-front (λ (o : List ℕ). o ≢ s.0) streams utilities new in
    let behind = All-weaker (λ (o : List ℕ). o ≢ s.0) (λ (o : List ℕ). s.0 ≢ o) (λ o differs same. differs (sym same)) utilities
    (All-back (λ (o : List ℕ). o ≢ s.0) streams utilities new) in
    let place =
    rw (count_on-case of (unwrap_or given.contribution (pos 0)) given.streams) at (passed-room (count_on of (case_of given).streams) MOST_STREAMS few) in
    record {
      contribution = fits.contribution;
      sources = record {
        streams = All-push StreamFits given.streams s fits.sources.streams (stream_fits of row name unreserved numbers);
        utilities = fits.sources.utilities;
        few = few_with_stream given.streams given.utilities s fits.sources.few place;
        names =
            rw (keys_push given.streams s) (AllPairs-insert (λ (a b : List ℕ). a ≢ b) streams utilities s.0 fits.sources.names before behind);
      };
      forbids = forbids_stay given (entry.Stream s.0 s.1) fits.forbids;
    }

utility_fits : (of : Side) (row : Row) → is_name (field row 1) ≡ true
    → not (is_reserved_from of (field row 1)) ≡ true → Passes (utility_number_checks row)
    → UtilityFits (field row 1, utility_data of row)
unfolding utility_number_checks
utility_fits of row name unreserved (_, (_, (_, (_, (_, (level, (least, (most, (price, (own, (order, _))))))))))) =
    record {
      valid = λ contribution range. record {
        name = passed-name (field row 1) name;
        level = passed-within _ _ _ level;
        least = passed-within _ _ _ least;
        most =
            record { from = (Decides-int_le (number row 3) (number row 4)).0 order; upto = (passed-within _ _ _ most).upto };
        price = passed-within _ _ _ price;
        contribution = own_range row contribution own range;
      };
      name = (Decides-is_reserved_from of (field row 1)).0 unreserved;
    }

utility_kept : (given : Given) (row : Row) (of : Side) → Fits given → Passes (utility_checks of given row)
    → Fits (with_entry given (entry.Utility (field row 1) (utility_data of row)))
unfolding utility_checks
utility_kept given row of fits (few, (name, (unreserved, (free, numbers)))) =
    let u : List ℕ × UtilityData = (field row 1, utility_data of row) in
    let names = all_pairs_push (λ (a b : List ℕ). a ≢ b) (keys_of given.streams ++ keys_of given.utilities) u.0 fits.sources.names (new_name given u.0 free) in
    record {
      contribution = fits.contribution;
      sources = record {
        streams = fits.sources.streams;
        utilities =
            All-push UtilityFits given.utilities u fits.sources.utilities (utility_fits of row name unreserved numbers);
        few = record {
          streams_on = fits.sources.few.streams_on;
          few_utilities =
              omega (arith, passed-room (length given.utilities) MOST_UTILITIES few, length-append given.utilities (u ∷ []));
        };
        names = rw (keys_push given.utilities u, ← append_assoc) names;
      };
      forbids = forbids_stay given (entry.Utility u.0 u.1) fits.forbids;
    }

forbid_kept : (given : Given) (row : Row) → Fits given → Passes (forbid_checks given row)
    → Fits (with_entry given (entry.Forbid (record { hot = source_at given (field row 1); cold = source_at given (field row 2) })))
unfolding forbid_checks
forbid_kept given row fits (_, (few, (_, (_, (hot, (cold, (new, _))))))) =
    let h = source_at given (field row 1) in
    let c = source_at given (field row 2) in
    let f : Forbid = record { hot = h; cold = c } in
    let fit : ForbidFits (with_entry given (entry.Forbid f)) f = record {
      hot =
          side_stays given (entry.Forbid f) h side.Hot (sym (side_of-case given h) ∙ source_on side.Hot given (field row 1) hot);
      cold =
          side_stays given (entry.Forbid f) c side.Cold (sym (side_of-case given c) ∙ source_on side.Cold given (field row 2) cold);
    } in
    let forbids = forbids_stay given (entry.Forbid f) fits.forbids in
    record {
      contribution = fits.contribution;
      sources = fits.sources;
      forbids = record {
        each = All-push (ForbidFits (with_entry given (entry.Forbid f))) given.forbids f forbids.each fit;
        few = omega (arith, passed-room (length given.forbids) MOST_FORBIDS few, length-append given.forbids (f ∷ []));
        distinct =
            all_pairs_push (λ (f g : Forbid). f ≢ g) given.forbids f forbids.distinct ((Decides-is_forbidden given.forbids h c).0 new);
      };
    }

-- ---- one row more

row_kept : (given : Given) (row : Row) (k : Option Kind) → Fits given → Passes (kind_checks k given row)
    → Fits (with_entry given (entry_by k given row))
unfolding kind_checks
row_kept given row None fits passes = fits
row_kept given row (Some kind.PassedOver) fits passes = fits
row_kept given row (Some kind.Contribution) fits passes =
    let range = passed-contribution contribution_causes (is_some given.contribution) row passes in
    contribution_fits given (number row 2) fits range
row_kept given row (Some (kind.Stream of)) fits passes = stream_kept given row of fits passes
row_kept given row (Some (kind.Utility of)) fits passes = utility_kept given row of fits passes
row_kept given row (Some kind.Forbid) fits passes = forbid_kept given row fits passes

each_row_keeps : IsKept grammar Fits
unfolding checks
each_row_keeps given row fits passes = row_kept given row (kind_of row) fits passes.1.1

nothing_fits : Fits nothing
nothing_fits = record {
  contribution = tt;
  sources = record {
    streams = All-nil StreamFits;
    utilities = All-nil UtilityFits;
    few = record { streams_on = λ of. omega arith; few_utilities = omega arith };
    names = λ i j d before inside. absurd (omega (arith, inside));
  };
  forbids =
      record { each = All-nil (ForbidFits nothing); few = omega arith; distinct = λ i j d before inside. absurd (omega (arith, inside)) };
}

-- ---- the case

case_valid : (given : Given) → Fits given → 0 < length given.streams → IsValid (case_of given)
case_valid given fits some =
    let contribution = unwrap_or given.contribution (pos 0) in
    let sources = fits.sources in
    let range = range_of given.contribution (pos 0) fits.contribution no_contribution in
    record {
      contribution = range;
      streams = record {
        some = rw (length-map given.streams (stream_of contribution)) some;
        are_streams = record {
          each = All-map IsValidStream (stream_of contribution) given.streams
              (All-weaker StreamFits (λ s. IsValidStream (stream_of contribution s)) (λ s fit. fit.valid contribution range) given.streams sources.streams);
          few = λ of. rw (count_on-case of contribution given.streams) (sources.few.streams_on of);
        };
      };
      utilities = All-map IsValidUtility (utility_of contribution) given.utilities
          (All-weaker UtilityFits (λ u. IsValidUtility (utility_of contribution u)) (λ u fit. fit.valid contribution range) given.utilities sources.utilities);
      few_utilities = rw (length-map given.utilities (utility_of contribution)) sources.few.few_utilities;
      distinct_names = rw (names_of-case given) sources.names;
      stream_names = All-map (λ (s : Stream). IsUnreserved s.name) (stream_of contribution) given.streams
          (All-weaker StreamFits (λ s. IsUnreserved s.0) (λ s fit. fit.name) given.streams sources.streams);
      utility_names = All-map IsRightlyNamed (utility_of contribution) given.utilities
          (All-weaker UtilityFits (λ u. IsRightNameOf u.1.side u.0) (λ u fit. fit.name) given.utilities sources.utilities);
      forbids = All-weaker (ForbidFits given) (IsValidForbid (case_of given))
          (λ f fit. (side_of-case given f.hot ∙ fit.hot, side_of-case given f.cold ∙ fit.cold)) given.forbids fits.forbids.each;
      few_forbids = fits.forbids.few;
      distinct_forbids = fits.forbids.distinct;
    }

-- the end says that there is a stream
some_stream : (rows : ℕ) (given : Given) → end_fault rows given ≡ None → 0 < length given.streams
unfolding end_checks
some_stream rows given complete = grind (arith, nat_tests)

pub case-is_valid : (rows : List Row) (case : Case) → IsCase rows case → IsValid case
case-is_valid rows case is = let given = given_by grammar rows in
    rw is.value_is (case_valid given (given_has grammar Fits nothing_fits each_row_keeps rows is.sound) (some_stream (length rows) given is.complete))

pub outcome_is_valid : (rows : List Row) (result : Result Case (RowFault CaseWhy)) → IsOutcome rows result
    → IfOk result IsValid
outcome_is_valid rows (Ok case) is = case-is_valid rows case is
outcome_is_valid rows (Err fault) is = tt
