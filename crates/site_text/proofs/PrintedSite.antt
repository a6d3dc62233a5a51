-- The printed rows of a valid site give the site.
use Rattle.site_text.proofs.Words.{All-back, All-head, All-plants, All-seam, All-tail, AllPairs-seam, Follows, Give, Given, IsName, IsSensible, IsSite}
use Rattle.site_text.proofs.Words.{IsTemperature, IsUnreserved, IsValidSite, IsValidStream, MOST_MAINS, MOST_PLANTS, MOST_SIDE_STREAMS, Main, Plant, Site, Stream}
use Rattle.site_text.proofs.Words.{all_give, append-nil, append_snoc, contribution_row, count_on, end_checks, end_fault, flat_map, flat_map-append, grammar}
use Rattle.site_text.proofs.Words.{length-map, length-seam, main_row, map-append, nat_tests, nothing, nothing_gives, one_more_gives, own_side, plant_row, plant_rows}
use Rattle.site_text.proofs.Words.{plant_with, printed_rows, same_side, site_of, stream_row, streams_of, sum_by-append, sum_by-cons, stream_with}
use Rattle.site_text.proofs.Plants.{count_on-with, plant_names-with, stream_names-with, streams_of-plant, streams_of-plant_with, with_stream-last}
use Rattle.site_text.proofs.PrintedRows.{main_follows, plant_follows, stream_follows}
use Rattle.rows.specs.Fields.{are_empty, is_passed_over}
use Rattle.site_text.proofs.Words.{Passes, contribution-passes, contribution-read, contribution_causes, kind_of, none_fails}
use Rattle.site_text.specs.Checks.{checks, kind_checks}
use Rattle.std.proofs.Common.{All, AllPairs, Bool, List, None, Some, [], ap, append_assoc, arith, cond, is_some, length, length-append, map, pos, refl, subst}
use Rattle.std.proofs.Common.{sym, true, ℕ, ℤ, ◌++◌, ◌<◌, ◌∙◌, ◌∷◌, ◌≡◌, ◌≢◌}

-- the name of an item is that of none before it
new_name : {X : Type 0} (name : X → List ℕ) (all before : List X) (x : X) (after : List X)
    → all ≡ before ++ x ∷ after → AllPairs (λ a b. a ≢ b) (map name all)
    → All (λ other. other ≢ name x) (map name before)
new_name name all before x after is distinct =
    AllPairs-seam (λ (a b : List ℕ). a ≢ b) (map name all) (map name before) (name x) (map name after)
    (ap (map name) is ∙ map-append name before (x ∷ after)) distinct

-- ---- what is given so far

-- plants as rows give them: their streams have the contribution 0
abbrev bare : Plant → Plant
bare = plant_with (pos 0)

abbrev bare_with : Plant → List Stream → Plant
bare_with plant streams = record { name = plant.name; streams = map (stream_with (pos 0)) streams }

abbrev given_with : Site → List Main → List Plant → Given
given_with site mains plants = record { contribution = Some site.contribution; plants = plants; mains = mains }

module _ (site : Site) (valid : IsValidSite site) where
  -- ---- mains

  main_step : (before : List Main) (main : Main) (after : List Main) → site.mains ≡ before ++ main ∷ after
      → Follows grammar (given_with site before []) (main_row main) (given_with site (before ++ main ∷ []) [])
  main_step before main after is =
      let few : length before < MOST_MAINS
      = omega (arith, length-seam site.mains before main after is, valid.mains.few) in
      main_follows (given_with site before []) main (All-seam (λ (m : Main). IsName m.name) site.mains before main after is valid.mains.names)
      (All-seam (λ (m : Main). IsTemperature m.level) site.mains before main after is valid.mains.levels) few
      (new_name (λ (m : Main). m.name) site.mains before main after is valid.mains.distinct)

  -- ---- plants

  plant_step : (before : List Plant) (plant : Plant) (after : List Plant) → site.plants ≡ before ++ plant ∷ after
      → Follows grammar (given_with site site.mains (map bare before)) (plant_row plant)
      (given_with site site.mains (map bare before ++ bare_with plant [] ∷ []))
  plant_step before plant after is =
      let few : length (map bare before) < MOST_PLANTS =
      omega (arith, length-map before bare, length-seam site.plants before plant after is, valid.plants.few) in
      let new = new_name (λ (p : Plant). p.name) site.plants before plant after is valid.plants.distinct in
      plant_follows (given_with site site.mains (map bare before)) plant
      (All-seam (λ (p : Plant). IsName p.name) site.plants before plant after is valid.plants.names) few (rw (plant_names-with (pos 0) before) new)

  -- ---- streams of a plant

  -- the streams so far: those of the plants before, and some of the plant's own
  streams_before : (before : List Plant) (plant : Plant) (done : List Stream)
      → streams_of (map bare before ++ bare_with plant done ∷ [])
      ≡ map (stream_with (pos 0)) (streams_of before ++ done)
  streams_before before plant done =
      streams_of-plant (map bare before) (bare_with plant done)
      ∙ ap (λ ss. ss ++ map (stream_with (pos 0)) done) (streams_of-plant_with (pos 0) before)
      ∙ sym (map-append (stream_with (pos 0)) (streams_of before) done)

  stream_step : (before : List Plant) (plant : Plant) (after : List Plant) → site.plants ≡ before ++ plant ∷ after
      → (done : List Stream) (s : Stream) (left : List Stream) → plant.streams ≡ done ++ s ∷ left
      → Follows grammar (given_with site site.mains (map bare before ++ bare_with plant done ∷ [])) (stream_row [] [] s)
      (given_with site site.mains (map bare before ++ bare_with plant (done ++ s ∷ []) ∷ []))
  stream_step before plant after is done s left own =
      let given = given_with site site.mains (map bare before ++ bare_with plant done ∷ []) in
      let so_far = streams_of before ++ done in
      let all : streams_of site.plants ≡ so_far ++ s ∷ (left ++ streams_of after) =
      ap streams_of is ∙ flat_map-append (λ (p : Plant). p.streams) before (plant ∷ after)
      ∙ ap (λ ss. streams_of before ++ (ss ++ streams_of after)) own
      ∙ ap (λ ss. streams_of before ++ ss) (append_assoc done (s ∷ left) (streams_of after))
      ∙ sym (append_assoc (streams_of before) done (s ∷ (left ++ streams_of after))) in
      let one : Stream → ℕ = λ t. cond (same_side t.side s.side) 1 0 in
      let own_one : ◌≡◌ {A = ℕ} (cond (same_side s.side s.side) 1 0) 1
      = ap (λ (b : Bool). cond b 1 0) (own_side s.side) in
      let few : count_on s.side so_far < MOST_SIDE_STREAMS = omega (
        arith,
        valid.streams.few s.side,
        ap (count_on s.side) all,
        sum_by-append one so_far (s ∷ (left ++ streams_of after)),
        sum_by-cons one s (left ++ streams_of after),
        own_one,
      ) in
      let new = new_name (λ (t : Stream). t.name) (streams_of site.plants) so_far s (left ++ streams_of after) all valid.streams.distinct in
      let given_streams = streams_before before plant done in
      let some : 0 < length given.plants = omega (arith, length-append (map bare before) (bare_with plant done ∷ [])) in
      let room : count_on s.side (streams_of given.plants) < MOST_SIDE_STREAMS
      = rw (given_streams, count_on-with s.side (pos 0) so_far) few in
      let free : All (λ other. other ≢ s.name) (map (λ t. t.name) (streams_of given.plants))
      = rw (given_streams, stream_names-with (pos 0) so_far) new in
      let follows = stream_follows given s (All-seam IsValidStream (streams_of site.plants) so_far s (left ++ streams_of after) all valid.streams.each)
      (All-seam IsSensible (streams_of site.plants) so_far s (left ++ streams_of after) all valid.streams.sensible)
      (All-seam (λ (t : Stream). IsUnreserved t.name) (streams_of site.plants) so_far s (left ++ streams_of after) all valid.streams.names) some room free in
      let next : map bare before ++ bare_with plant (done ++ s ∷ []) ∷ [] ≡ _
      = ap (λ ss. map bare before ++ record { name = plant.name; streams = ss } ∷ [])
      (map-append (stream_with (pos 0)) done (s ∷ []))
      ∙ sym (with_stream-last (stream_with (pos 0) s) (map bare before) (bare_with plant done)) in
      subst (λ ps. Follows grammar given (stream_row [] [] s) (given_with site site.mains ps)) (sym next) follows

  -- ---- all rows

  -- the row of the contribution comes first
  first_step : Follows grammar nothing (contribution_row site.contribution) (given_with site [] [])
  unfolding checks kind_checks kind_of is_passed_over are_empty
  first_step =
      let row = contribution_row site.contribution in
      let passes : Passes (checks nothing row)
      = (refl, (refl, contribution-passes contribution_causes site.contribution valid.contribution)) in
      let read = contribution-read site.contribution valid.contribution in
      record { passes = none_fails (checks nothing row) passes; next_is = rw read refl }

  mains_give : Give grammar (contribution_row site.contribution ∷ map main_row site.mains) (given_with site site.mains [])
  mains_give =
      let first = one_more_gives grammar [] nothing (contribution_row site.contribution) (given_with site [] []) (nothing_gives grammar nothing refl)
      first_step in
      all_give grammar main_row (λ mains. given_with site mains []) (contribution_row site.contribution ∷ []) site.mains main_step first

  -- plant by plant
  plants_give : (before after : List Plant) → site.plants ≡ before ++ after
      → Give grammar ((contribution_row site.contribution ∷ map main_row site.mains) ++ flat_map plant_rows before)
      (given_with site site.mains (map bare before))
      → Give grammar ((contribution_row site.contribution ∷ map main_row site.mains) ++ flat_map plant_rows site.plants)
      (given_with site site.mains (map bare site.plants))
  plants_give before [] is gives = rw (is, append-nil before) gives
  plants_give before (plant ∷ after) is gives =
      let base = (contribution_row site.contribution ∷ map main_row site.mains) ++ flat_map plant_rows before in
      let named = one_more_gives grammar base (given_with site site.mains (map bare before)) (plant_row plant)
      (given_with site site.mains (map bare before ++ bare_with plant [] ∷ [])) gives (plant_step before plant after is) in
      let whole = all_give grammar (stream_row [] []) (λ done. given_with site site.mains (map bare before ++ bare_with plant done ∷ []))
      (base ++ plant_row plant ∷ []) plant.streams (stream_step before plant after is) named in
      let rows : (base ++ plant_row plant ∷ []) ++ map
      (stream_row [] []) plant.streams ≡ (contribution_row site.contribution ∷ map main_row site.mains) ++ flat_map plant_rows (before ++ plant ∷ []) =
      append_assoc base (plant_row plant ∷ []) (map (stream_row [] []) plant.streams)
      ∙ append_assoc (contribution_row site.contribution ∷ map main_row site.mains) (flat_map plant_rows before) (plant_rows plant)
      ∙ ap (λ rs. (contribution_row site.contribution ∷ map main_row site.mains) ++ rs)
      (ap (λ rs. flat_map plant_rows before ++ rs) (sym (append-nil (plant_rows plant))) ∙ sym (flat_map-append plant_rows before (plant ∷ []))) in
      let plants : map bare before ++ bare_with plant plant.streams ∷ [] ≡ map bare (before ++ plant ∷ [])
      = sym (map-append bare before (plant ∷ [])) in
      plants_give (before ++ plant ∷ []) after (is ∙ sym (append_snoc before plant after)) (subst
      (λ ps. Give grammar ((contribution_row site.contribution ∷ map main_row site.mains) ++ flat_map plant_rows (before ++ plant ∷ []))
      (given_with site site.mains ps)) plants
      (subst (λ rs. Give grammar rs (given_with site site.mains (map bare before ++ bare_with plant plant.streams ∷ []))) rows whole))

  rows_give : Give grammar (printed_rows site) (given_with site site.mains (map bare site.plants))
  unfolding printed_rows
  rows_give = plants_give [] site.plants refl (rw (append-nil (map main_row site.mains)) mains_give)

-- ---- the site of what is given

-- the contribution comes back
streams_back : (c : ℤ) (ss : List Stream) → All (λ s. s.contribution ≡ c) ss
    → map (stream_with c) (map (stream_with (pos 0)) ss) ≡ ss
streams_back c [] same = refl
streams_back c (s ∷ ss) same =
    let here = sym (All-head (λ (t : Stream). t.contribution ≡ c) s ss same) in
    let rest = streams_back c ss (All-tail (λ (t : Stream). t.contribution ≡ c) s ss same) in
    λ i. record s { contribution = here i } ∷ rest i

plants_back : (c : ℤ) (plants : List Plant) → All (λ s. s.contribution ≡ c) (streams_of plants)
    → map (plant_with c) (map bare plants) ≡ plants
plants_back c [] same = refl
plants_back c (plant ∷ plants) same =
    let each = All-plants (λ (s : Stream). s.contribution ≡ c) (plant ∷ plants) same in
    let own = streams_back c plant.streams (All-head (λ (p : Plant). All (λ s. s.contribution ≡ c) p.streams) plant plants each) in
    let rest = plants_back c plants (All-back (λ (s : Stream). s.contribution ≡ c) plant.streams (streams_of plants) same) in
    λ i. record { name = plant.name; streams = own i } ∷ rest i

site_back : (site : Site) → IsValidSite site → site_of (given_with site site.mains (map bare site.plants)) ≡ site
site_back site valid =
    let plants = plants_back site.contribution site.plants valid.streams.contributions in
    λ i. record { contribution = site.contribution; plants = plants i; mains = site.mains }

-- the end is not at fault where there are a contribution, a main and a stream
lacks_nothing : (rows : ℕ) (given : Given) → is_some given.contribution ≡ true → 0 < length given.mains
    → 0 < length (streams_of given.plants)
    → end_fault rows given ≡ None
unfolding end_checks
lacks_nothing rows given first mains streams = grind (arith, nat_tests)

pub rows_back : (site : Site) → IsValidSite site → IsSite (printed_rows site) site
rows_back site valid =
    let gives = rows_give site valid in
    let rows = length (printed_rows site) in
    let given = given_with site site.mains (map bare site.plants) in
    let some : 0 < length (streams_of (map bare site.plants)) =
    rw (streams_of-plant_with (pos 0) site.plants, length-map (streams_of site.plants) (stream_with (pos 0))) valid.streams.some in
    let complete : end_fault rows given ≡ None = lacks_nothing rows given refl valid.mains.some some in
    record {
      sound = gives.sound;
      complete = ap (end_fault rows) (sym gives.given_is) ∙ complete;
      value_is = sym (site_back site valid) ∙ ap site_of gives.given_is;
    }
