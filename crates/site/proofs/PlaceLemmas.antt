-- The places of a valid site, and the levels of its utilities.
use Rattle.site.proofs.Words.{All, All-cons, All-nil, Cold, Contains, Contains-cons, HoldsPlaces, Hot, IsContribution, IsOutermost-outermost, IsPlaced}
use Rattle.site.proofs.Words.{IsShifted, IsSiteGrid, IsTemperature, IsValidSite, MOST_PLACES, Main, Site, boiler, cooling, gives_at, greatest, ints, least}
use Rattle.site.proofs.Words.{length-AreStreams, length-append, length-le_falling, length-map, length-stream_ends, main_places, shifted_level, site_places}
use Rattle.site.proofs.Words.{site_utilities, stream_ends, stream_ends-between, streams_of, take_more, takes_at, ℤ, ◌-ℤ◌}
use Rattle.site_text.proofs.SiteLemmas.{AreStreams-site}
use Rattle.std.proofs.Common.{List, [], ap, append_assoc, arith, get_or, length, map, refl, subst, sym, take, ℕ, ⊎_elim, ◌*◌, ◌++◌, ◌+◌, ◌<◌, ◌∙◌, ◌∷◌, ◌≡◌}
use Rattle.std.proofs.Common.{◌≤◌}
use Rattle.std.proofs.lemmas.List.Elements.{All-append, All-contains, All-head, All-tail, Contains-append_left, Contains-append_right, Contains-get_or}

-- ---- the places of mains

main_places-append : (c : ℤ) (xs ys : List Main) → main_places c (xs ++ ys) ≡ main_places c xs ++ main_places c ys
main_places-append c [] ys = refl
main_places-append c (x ∷ xs) ys = ap (λ places. takes_at c x ∷ gives_at c x ∷ places) (main_places-append c xs ys)

-- a loop's step
pub main_places-more : (c : ℤ) (mains : List Main) (i : ℕ) (main : Main) → i < length mains → main ≡ get_or mains i main
    → main_places c (take (i + 1) mains) ≡ main_places c (take i mains) ++ takes_at c main ∷ gives_at c main ∷ []
main_places-more c mains i main within is =
    ap (main_places c) (take_more mains i main within ∙ ap (λ m. take i mains ++ m ∷ []) (sym is))
    ∙ main_places-append c (take i mains) (main ∷ [])

-- two places are appended
pub push_two : (initial before : List ℤ) (a b : ℤ)
    → ((initial ++ before) ++ a ∷ []) ++ b ∷ [] ≡ initial ++ (before ++ a ∷ b ∷ [])
push_two initial before a b =
    append_assoc (initial ++ before) (a ∷ []) (b ∷ []) ∙ append_assoc initial before (a ∷ b ∷ [])

length-main_places : (c : ℤ) (mains : List Main) → length (main_places c mains) ≡ 2 * length mains
length-main_places c [] = refl
length-main_places c (m ∷ ms) = omega (arith, length-main_places c ms)

main_places-between : (c : ℤ) (mains : List Main) → IsContribution c → All (λ m. IsTemperature m.level) mains
    → All IsShifted (main_places c mains)
main_places-between c [] range levels = All-nil IsShifted
main_places-between c (m ∷ ms) range levels =
    let level = All-head (λ (main : Main). IsTemperature main.level) m ms levels in
    let rest = main_places-between c ms range (All-tail (λ (main : Main). IsTemperature main.level) m ms levels) in
    let takes : IsShifted (takes_at c m) = omega (arith, ints, level, range) in
    let gives : IsShifted (gives_at c m) = omega (arith, ints, level, range) in
    All-cons IsShifted (takes_at c m) (gives_at c m ∷ main_places c ms) takes (All-cons IsShifted (gives_at c m) (main_places c ms) gives rest)

-- a main gives heat at a place
gives_at-place : (c : ℤ) (mains : List Main) (level : ℤ) → Contains (map (λ m. m.level) mains) level
    → Contains (main_places c mains) (level -ℤ c)
gives_at-place c [] level (k, within, is) = absurd (omega (arith, within))
gives_at-place c (m ∷ ms) level found =
    ⊎_elim (λ same. Contains-append_right (takes_at c m ∷ []) (gives_at c m ∷ main_places c ms) (level -ℤ c) (0, omega arith, ap (λ t. t -ℤ c) same))
    (λ later. Contains-append_right (takes_at c m ∷ gives_at c m ∷ []) (main_places c ms) (level -ℤ c) (gives_at-place c ms level later))
    (Contains-cons m.level (map (λ m. m.level) ms) level found)

-- ---- the places of a site

pub site_places-between : (site : Site) → IsValidSite site → All IsShifted (site_places site)
site_places-between site valid =
    All-append IsShifted (stream_ends (streams_of site.plants)) (main_places site.contribution site.mains)
    (stream_ends-between (streams_of site.plants) valid.streams.each) (main_places-between site.contribution site.mains valid.contribution valid.mains.levels)

pub length-site_places : (site : Site)
    → length (site_places site) ≡ 2 * length (streams_of site.plants) + 2 * length site.mains
length-site_places site = omega (
  arith,
  length-append (stream_ends (streams_of site.plants)) (main_places site.contribution site.mains),
  length-stream_ends (streams_of site.plants),
  length-main_places site.contribution site.mains,
)

pub some_place : (site : Site) → IsValidSite site → 0 < length (site_places site)
some_place site valid = omega (arith, length-site_places site, valid.mains.some)

-- the lowest place is one of them
lowest_place : (site : Site) → IsValidSite site → Contains (site_places site) (least (site_places site))
lowest_place site valid = (IsOutermost-outermost Cold (site_places site) (some_place site valid)).member

pub lowest-between : (site : Site) → IsValidSite site → IsShifted (least (site_places site))
lowest-between site valid =
    All-contains IsShifted (site_places site) (least (site_places site)) (site_places-between site valid) (lowest_place site valid)

-- and the boiler stands at one
boiler_place : (site : Site) → IsValidSite site → Contains (site_places site) (shifted_level (boiler site))
boiler_place site valid =
    let levels = map (λ (m : Main). m.level) site.mains in
    let highest = IsOutermost-outermost Hot levels (rw length-map valid.mains.some) in
    Contains-append_right (stream_ends (streams_of site.plants)) (main_places site.contribution site.mains) (shifted_level (boiler site))
    (gives_at-place site.contribution site.mains (greatest levels) highest.member)

cooling_level : (site : Site) → shifted_level (cooling site) ≡ least (site_places site)
cooling_level site = omega (arith, ints)

-- ---- the utilities

pub utilities-placed : (site : Site) → IsValidSite site → All IsPlaced (site_utilities site)
utilities-placed site valid =
    let boiler_level = All-contains IsShifted (site_places site) (shifted_level (boiler site)) (site_places-between site valid) (boiler_place site valid) in
    let cooling_shifted = subst IsShifted (sym (cooling_level site)) (lowest-between site valid) in
    let first : IsPlaced (boiler site) =
    record { level = boiler_level; least = omega (arith, ints); most = omega (arith, ints); price = omega (arith, ints) } in
    let second : IsPlaced (cooling site) =
    record { level = cooling_shifted; least = omega (arith, ints); most = omega (arith, ints); price = omega (arith, ints) } in
    All-cons IsPlaced (boiler site) (cooling site ∷ []) first (All-cons IsPlaced (cooling site) [] second (All-nil IsPlaced))

-- ---- the grid

pub length-grid : (site : Site) (places : List ℤ) → IsValidSite site → IsSiteGrid site places
    → length places ≤ MOST_PLACES
length-grid site places valid grid = omega (
  arith,
  length-le_falling places (site_places site) grid.ordered grid.each,
  length-site_places site,
  length-AreStreams (streams_of site.plants) (AreStreams-site site valid),
  valid.mains.few,
)

pub HoldsPlaces-grid : (site : Site) (places : List ℤ) → IsValidSite site → IsSiteGrid site places
    → HoldsPlaces (streams_of site.plants) (site_utilities site) places
HoldsPlaces-grid site places valid grid =
    let ends : All (Contains places) (stream_ends (streams_of site.plants))
    = λ k d within. grid.every (get_or (stream_ends (streams_of site.plants)) k d)
    (Contains-append_left (stream_ends (streams_of site.plants)) (main_places site.contribution site.mains) (get_or (stream_ends (streams_of site.plants)) k d)
    (Contains-get_or (stream_ends (streams_of site.plants)) k d within)) in
    let first = grid.every (shifted_level (boiler site)) (boiler_place site valid) in
    let second = subst (Contains places) (sym (cooling_level site)) (grid.every (least (site_places site)) (lowest_place site valid)) in
    record {
      falls = grid.ordered;
      holds =
          All-append (Contains places) (stream_ends (streams_of site.plants)) (map shifted_level (site_utilities site)) ends
          (All-cons (Contains places) (shifted_level (boiler site)) (shifted_level (cooling site) ∷ []) first
          (All-cons (Contains places) (shifted_level (cooling site)) [] second (All-nil (Contains places))));
    }
