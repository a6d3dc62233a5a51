-- The site of a file that is accepted is valid.
use Rattle.site_text.proofs.Words.{All-map, All-nil, All-push, All-weaker, AreDistinct, ArePlants, Given, IsContribution, IsKept, IsName, IsOutcome, IsSensible}
use Rattle.site_text.proofs.Words.{IsSite, IsTemperature, IsUnreserved, IsValidSite, IsValidStream, Kind, MOST_MAINS, MOST_SIDE_STREAMS, Main, Passes, Plant, Row}
use Rattle.site_text.proofs.Words.{RowFault, Side, Site, SiteWhy, Stream, all_pairs_push, append-nil, count_on, end_checks, end_fault, entry_by, given_by, given_has}
use Rattle.site_text.proofs.Words.{grammar, is_among, is_name, is_reserved, kind_of, length-map, main_in, map-append, nat_tests, nothing, passed-name, passed-room}
use Rattle.site_text.proofs.Words.{passed-within, plant_with, site_of, stream_in, streams_of, stream_with, with_entry}
use Rattle.site_text.proofs.Words.{Decides-neither, codes, passed-contribution}
use Rattle.rows.proofs.AcceptedStreams.{passed-sensible, stream-is_valid}
use Rattle.stream_case.proofs.CaseLemmas.{no_contribution, range_of}
use Rattle.rows.specs.Fields.{field}
use Rattle.site_text.proofs.Plants.{count_on-with, few_with_stream, length-with_stream, named-with_stream, names-with_stream, plant_names-with, stream_names-with}
use Rattle.site_text.proofs.Plants.{streams_of-plant, streams_of-plant_with, streams_of-with_stream}
use Rattle.site_text.proofs.Tests.{Decides-is_among}
use Rattle.site_text.specs.Checks.{checks, contribution_causes, kind_checks, main_checks, plant_checks, stream_checks, stream_number_checks}
use Rattle.std.proofs.Common.{All, Err, IfOk, IfSome, List, None, Ok, Option, Result, Some, [], arith, inl, is_some, length, length-append, map, not, pos, refl, true}
use Rattle.std.proofs.Common.{unwrap_or, ℕ, ℤ, ◌++◌, ◌<◌, ◌==◌, ◌∷◌, ◌≡◌, ◌≢◌, ◌≤◌}
use Rattle.site_text.specs.declared.entry.Entry.TheVariants as entry
use Rattle.site_text.specs.declared.kind.Kind.TheVariants as kind

-- a stream of a valid site, whatever its contribution
record StreamFits (s : Stream) : Type 0 where
  valid : (contribution : ℤ) → IsContribution contribution → IsValidStream (stream_with contribution s)
  sensible : (contribution : ℤ) → IsSensible (stream_with contribution s)
  name : IsUnreserved s.name

record StreamsFit (streams : List Stream) : Type 0 where
  each : All StreamFits streams
  distinct : AreDistinct (map (λ s. s.name) streams)
  few : (side : Side) → count_on side streams ≤ MOST_SIDE_STREAMS

record MainsFit (mains : List Main) : Type 0 where
  names : All (λ main. IsName main.name) mains
  levels : All (λ main. IsTemperature main.level) mains
  distinct : AreDistinct (map (λ main. main.name) mains)
  few : length mains ≤ MOST_MAINS

-- what was given, as far as it goes, is that of a valid site
record Fits (given : Given) : Type 0 where
  contribution : IfSome given.contribution IsContribution
  plants : ArePlants given.plants
  mains : MainsFit given.mains
  streams : StreamsFit (streams_of given.plants)

-- ---- one entry more

-- a list of names that differ, with a new one
distinct_push : {X : Type 0} (name : X → List ℕ) (xs : List X) (x : X) → AreDistinct (map name xs)
    → not (is_among name xs (name x)) ≡ true
    → AreDistinct (map name (xs ++ x ∷ []))
distinct_push name xs x distinct new =
    rw (map-append name xs (x ∷ [])) (all_pairs_push (λ (a b : List ℕ). a ≢ b) (map name xs) (name x) distinct ((Decides-is_among name xs (name x)).0 new))

plant_kept : (given : Given) (row : Row) → Fits given → Passes (plant_checks given row)
    → Fits (with_entry given (entry.Plant (field row 1)))
unfolding plant_checks
plant_kept given row fits (_, (few, (name, (new, _)))) =
    let plant : Plant = record { name = field row 1; streams = [] } in
    record {
      contribution = fits.contribution;
      plants = record {
        names =
            All-push (λ (p : Plant). IsName p.name) given.plants plant fits.plants.names (passed-name (field row 1) name);
        distinct = distinct_push (λ (p : Plant). p.name) given.plants plant fits.plants.distinct new;
        few = omega (arith, passed-room (length given.plants) _ few, length-append given.plants (plant ∷ []));
      };
      mains = fits.mains;
      streams = rw (streams_of-plant given.plants plant, append-nil) fits.streams;
    }

main_kept : (given : Given) (row : Row) → Fits given → Passes (main_checks given row)
    → Fits (with_entry given (entry.Main (main_in row)))
unfolding main_checks
main_kept given row fits (_, (few, (name, (new, (_, (level, _)))))) = record {
  contribution = fits.contribution;
  plants = fits.plants;
  mains = record {
    names =
        All-push (λ (m : Main). IsName m.name) given.mains (main_in row) fits.mains.names (passed-name (field row 1) name);
    levels =
        All-push (λ (m : Main). IsTemperature m.level) given.mains (main_in row) fits.mains.levels (passed-within _ _ _ level);
    distinct = distinct_push (λ (m : Main). m.name) given.mains (main_in row) fits.mains.distinct new;
    few = omega (arith, passed-room (length given.mains) MOST_MAINS few, length-append given.mains (main_in row ∷ []));
  };
  streams = fits.streams;
}

stream_fits : (of : Side) (row : Row) → is_name (field row 1) ≡ true → not (is_reserved (field row 1)) ≡ true
    → Passes (stream_number_checks of row)
    → StreamFits (stream_in of row)
unfolding stream_number_checks is_reserved
stream_fits of row name unreserved (_, (_, (_, (supply, (target, (cp, (way, _))))))) = record {
  valid = λ contribution range. stream-is_valid (stream_with contribution (stream_in of row)) name supply target
      (inl (passed-sensible (stream_with contribution (stream_in of row)) cp refl way)) range;
  sensible = λ contribution. passed-sensible (stream_with contribution (stream_in of row)) cp refl way;
  name = (Decides-neither (field row 1) (codes "BOILER") (codes "COOLING")).0 unreserved;
}

-- there is a plant
some_plant : (plants : List Plant) → not (length plants == 0) ≡ true → 0 < length plants
some_plant plants some = grind (arith, nat_tests)

stream_kept : (given : Given) (row : Row) (of : Side) → Fits given → Passes (stream_checks of given row)
    → Fits (with_entry given (entry.Stream (stream_in of row)))
unfolding stream_checks
stream_kept given row of fits (_, (few, (plant, (name, (unreserved, (new, numbers)))))) =
    let s = stream_in of row in
    let streams = streams_of given.plants in
    let some = some_plant given.plants plant in
    let more : StreamsFit (streams ++ s ∷ []) = record {
      each = All-push StreamFits streams s fits.streams.each (stream_fits of row name unreserved numbers);
      distinct = distinct_push (λ (t : Stream). t.name) streams s fits.streams.distinct new;
      few = few_with_stream streams s fits.streams.few (passed-room (count_on of streams) MOST_SIDE_STREAMS few);
    } in
    record {
      contribution = fits.contribution;
      plants = record {
        names = named-with_stream s given.plants fits.plants.names;
        distinct = rw (names-with_stream s given.plants) fits.plants.distinct;
        few = rw (length-with_stream s given.plants) fits.plants.few;
      };
      mains = fits.mains;
      streams = rw (streams_of-with_stream s given.plants some) more;
    }

-- ---- one row more

row_kept : (given : Given) (row : Row) (k : Option Kind) → Fits given → Passes (kind_checks k given row)
    → Fits (with_entry given (entry_by k row))
unfolding kind_checks
row_kept given row None fits passes = fits
row_kept given row (Some kind.PassedOver) fits passes = fits
row_kept given row (Some kind.Contribution) fits passes = record {
  contribution = passed-contribution contribution_causes (is_some given.contribution) row passes;
  plants = fits.plants;
  mains = fits.mains;
  streams = fits.streams;
}
row_kept given row (Some kind.Plant) fits passes = plant_kept given row fits passes
row_kept given row (Some kind.Main) fits passes = main_kept given row fits passes
row_kept given row (Some (kind.Stream of)) fits passes = stream_kept given row of fits passes

each_row_keeps : IsKept grammar Fits
unfolding checks
each_row_keeps given row fits (_, (_, passes)) = row_kept given row (kind_of row) fits passes

none_differ : AreDistinct []
none_differ i j d before inside = absurd (omega (arith, inside))

nothing_fits : Fits nothing
nothing_fits = record {
  contribution = tt;
  plants = record { names = All-nil (λ (p : Plant). IsName p.name); distinct = none_differ; few = omega arith };
  mains = record {
    names = All-nil (λ (m : Main). IsName m.name);
    levels = All-nil (λ (m : Main). IsTemperature m.level);
    distinct = none_differ;
    few = omega arith;
  };
  streams = record { each = All-nil StreamFits; distinct = none_differ; few = λ of. omega arith };
}

-- ---- the site

-- what the end of a file asks for is there
record IsWhole (given : Given) : Type 0 where
  mains : 0 < length given.mains
  streams : 0 < length (streams_of given.plants)

site_valid : (given : Given) → Fits given → IsWhole given → IsValidSite (site_of given)
site_valid given fits whole =
    let c = unwrap_or given.contribution (pos 0) in
    let streams = streams_of given.plants in
    let range = range_of given.contribution (pos 0) fits.contribution no_contribution in
    record {
      contribution = range;
      plants = record {
        names = All-map (λ (p : Plant). IsName p.name) (plant_with c) given.plants fits.plants.names;
        distinct = rw (plant_names-with c given.plants) fits.plants.distinct;
        few = rw (length-map given.plants (plant_with c)) fits.plants.few;
      };
      mains =
          record { some = whole.mains; names = fits.mains.names; levels = fits.mains.levels; distinct = fits.mains.distinct; few = fits.mains.few };
      streams = rw (streams_of-plant_with c given.plants) (record {
        some = rw (length-map streams (stream_with c)) whole.streams;
        each = All-map IsValidStream (stream_with c) streams
            (All-weaker StreamFits (λ s. IsValidStream (stream_with c s)) (λ s fit. fit.valid c range) streams fits.streams.each);
        sensible = All-map IsSensible (stream_with c) streams
            (All-weaker StreamFits (λ s. IsSensible (stream_with c s)) (λ s fit. fit.sensible c) streams fits.streams.each);
        contributions = All-map (λ (s : Stream). s.contribution ≡ c) (stream_with c) streams (λ k d inside. refl);
        names = All-map (λ (s : Stream). IsUnreserved s.name) (stream_with c) streams
            (All-weaker StreamFits (λ s. IsUnreserved s.name) (λ s fit. fit.name) streams fits.streams.each);
        distinct = rw (stream_names-with c streams) fits.streams.distinct;
        few = λ of. rw (count_on-with of c streams) (fits.streams.few of);
      });
    }

-- the end says that there are a main and a stream
whole_end : (rows : ℕ) (given : Given) → end_fault rows given ≡ None → IsWhole given
unfolding end_checks
whole_end rows given complete = record { mains = grind (arith, nat_tests); streams = grind (arith, nat_tests) }

pub site-is_valid : (rows : List Row) (site : Site) → IsSite rows site → IsValidSite site
site-is_valid rows site is = let given = given_by grammar rows in
    rw is.value_is (site_valid given (given_has grammar Fits nothing_fits each_row_keeps rows is.sound) (whole_end (length rows) given is.complete))

pub outcome_is_valid : (rows : List Row) (result : Result Site (RowFault SiteWhy)) → IsOutcome rows result
    → IfOk result IsValidSite
outcome_is_valid rows (Ok site) is = site-is_valid rows site is
outcome_is_valid rows (Err fault) is = tt
