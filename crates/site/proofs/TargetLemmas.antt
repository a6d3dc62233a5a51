-- The parts of a site are fixed, and make few pairs.
use Rattle.site.proofs.Words.{Answer, AreParts, AreParts-made, AreSiteParts, Cold, Contains, Hot, IsAnswer, IsSiteGrid, IsSiteTable, IsSiteTarget, IsValidSite}
use Rattle.site.proofs.Words.{ListsFalling-unique, MOST_MAINS, MOST_PAIRS, MOST_SIDE_STREAMS, Part, Side, Site, SiteTable, count_on-add, fun_ext}
use Rattle.site.proofs.Words.{length-le_falling, length-made, made_parts, mul-le-mul, reach_between, reaches, site_places, site_utilities, streams_of, ℤ}
use Rattle.site.proofs.PlaceLemmas.{HoldsPlaces-grid, length-site_places}
use Rattle.std.proofs.Common.{Err, IfOk, List, Ok, Result, ap, arith, length, subst, subst₂, sym, ℕ, ◌*◌, ◌+◌, ◌∙◌, ◌≡◌, ◌≤◌}

abbrev most_places : ℕ
most_places = 2 * (2 * MOST_SIDE_STREAMS) + 2 * MOST_MAINS

module _ (site : Site) (valid : IsValidSite site) where
  -- the parts of a side on these places
  abbrev AreSideParts : Side → List ℤ → List Part → Type 0
  AreSideParts side places parts = AreParts (streams_of site.plants) (site_utilities site) places side parts

  -- two places for each stream and each main
  few_places : (places : List ℤ) → IsSiteGrid site places → length places ≤ most_places
  few_places places grid =
      let falling = length-le_falling places (site_places site) grid.ordered grid.each in
      let streams = count_on-add (streams_of site.plants) in
      omega (arith, falling, length-site_places site, streams, valid.streams.few Hot, valid.streams.few Cold, valid.mains.few)

  -- each stream of the side has at most one part at each place, and each utility one
  few_of_side : (side : Side) (places : List ℤ) (parts : List Part) → IsSiteGrid site places
      → AreSideParts side places parts
      → length parts ≤ most_places * MOST_SIDE_STREAMS + 2
  few_of_side side places parts grid are =
      let holds = HoldsPlaces-grid site places valid grid in
      let made = ap length (AreParts-made (streams_of site.plants) (site_utilities site) side places parts holds are) in
      let most = length-made (streams_of site.plants) (site_utilities site) side places holds in
      let product = mul-le-mul (few_places places grid) (valid.streams.few side) in
      omega (arith, made, most, product)

  pub few_pairs : (hot cold : List Part) → AreSiteParts site hot cold → length hot * length cold ≤ MOST_PAIRS
  few_pairs hot cold parts =
      let hots = few_of_side Hot parts.grid hot parts.is_grid parts.hot_parts in
      let colds = few_of_side Cold parts.grid cold parts.is_grid parts.cold_parts in
      let product = mul-le-mul hots colds in omega (arith, product)

  same_side_parts : (side : Side) (places others : List ℤ) (parts more : List Part) → IsSiteGrid site places
      → IsSiteGrid site others
      → AreSideParts side places parts → AreSideParts side others more → parts ≡ more
  same_side_parts side places others parts more grid other are are_more =
      let same = ListsFalling-unique (Contains (site_places site)) places others grid other in
      AreParts-made (streams_of site.plants) (site_utilities site) side places parts (HoldsPlaces-grid site places valid grid) are
      ∙ ap (made_parts (streams_of site.plants) (site_utilities site) side) same
      ∙ sym (AreParts-made (streams_of site.plants) (site_utilities site) side others more (HoldsPlaces-grid site others valid other) are_more)

  same_parts : (hot cold others more : List Part) → AreSiteParts site hot cold
      → AreSiteParts site others more → (hot ≡ others) × (cold ≡ more)
  same_parts hot cold others more parts other =
      let hots = same_side_parts Hot parts.grid other.grid hot others parts.is_grid other.is_grid parts.hot_parts other.hot_parts in
      let colds = same_side_parts Cold parts.grid other.grid cold more parts.is_grid other.is_grid parts.cold_parts other.cold_parts in
      (hots, colds)

pub IfOk-weaker : {A E : Type 0} (P Q : A → Type 0) (r : Result A E) → ((a : A) → P a → Q a) → IfOk r P → IfOk r Q
IfOk-weaker P Q (Ok a) weaker h = weaker a h
IfOk-weaker P Q (Err e) weaker h = tt

-- what is answered of the parts in a table by its reach is answered by the site's
pub of_table : {E : Type 0} (site : Site) (table : SiteTable) → IsSiteTable site table → (r : Result Answer E)
    → IfOk r (IsAnswer (reaches table.reach) table.parts.hot table.parts.cold)
    → IfOk r (IsSiteTarget site table.parts.hot table.parts.cold)
of_table site table is r =
    let hot = table.parts.hot in
    let cold = table.parts.cold in
    let same : reaches table.reach ≡ reach_between site hot cold = fun_ext (λ a. fun_ext (λ b. is.reach a b)) in
    IfOk-weaker (IsAnswer (reaches table.reach) hot cold) (IsSiteTarget site hot cold) r (λ a. subst (λ reach. IsAnswer reach hot cold a) same)

-- the parts in the table of a site
pub parts_of : (site : Site) (table : SiteTable) → IsSiteTable site table
    → AreSiteParts site table.parts.hot table.parts.cold
parts_of site table is =
    record { grid = table.places; is_grid = is.grid; hot_parts = is.hot_parts; cold_parts = is.cold_parts }

-- what is answered of some parts of a site is answered of all, since it has no others
pub of_all_parts : {E : Type 0} (site : Site) → IsValidSite site
    → (hot cold : List Part) (r : Result Answer E) → AreSiteParts site hot cold
    → IfOk r (IsSiteTarget site hot cold)
    → IfOk r (λ a. (others more : List Part) → AreSiteParts site others more → IsSiteTarget site others more a)
of_all_parts site valid hot cold r parts answered =
    IfOk-weaker (IsSiteTarget site hot cold) (λ a. (others more : List Part) → AreSiteParts site others more → IsSiteTarget site others more a) r
    (λ a target others more other.
    let (hots, colds) = same_parts site valid hot cold others more parts other in
    subst₂ (λ h k. IsSiteTarget site h k a) hots colds target) answered
