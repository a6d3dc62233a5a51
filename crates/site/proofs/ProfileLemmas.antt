-- The surplus of streams below a temperature, and the greatest imbalance at some places.
use Rattle.site.proofs.PlaceLemmas.{main_places-more}
use Rattle.site_text.proofs.SiteLemmas.{ends_of-more}
use Rattle.site.proofs.Words.{*ℤ--ℤ, All-weaker, AreEnds-IsValidStream, ArePlantStreams, AreSensible, Cold, Direction, Hot, IsSensible, IsValidStream, Main}
use Rattle.site.proofs.Words.{Plant, Side, Site, Stream, clamps, deficit_above, deficit_above-lowest, filter, fold, fold-append, gives_at, heat_above, imbalance}
use Rattle.site.proofs.Words.{heat_below, heat_of, heat_of-sensible, heat_over-sensible, high_end, if◌then◌else◌, int_max, int_sum_by-same, int_sum_by-sub}
use Rattle.site.proofs.Words.{ints, is_beyond, length_above, length_below, low_end, main_places, negsuc, plant_profile, pos, raised, same_side, site_places}
use Rattle.site.proofs.Words.{stream_ends, stream_ends-more, streams_of, sum_side, surplus_below, takes_at, ℤ, ◌*ℤ◌, ◌-ℤ◌, ◌<ℤ◌}
use Rattle.std.proofs.Common.{Bool, List, [], ap, ap₂, arith, cond, false, get_or, length, map, refl, sym, take, true, ℕ, ◌+◌, ◌<◌, ◌∙◌, ◌∷◌, ◌≡◌}

-- ---- the surplus

-- what lies below is what does not lie above
length_below-is : (low high t : ℤ) → length_below low high t ≡ (high -ℤ low) -ℤ length_above low high t
length_below-is low high t = omega (arith, ints, clamps)

heat_below-is : (t : ℤ) (s : Stream) → IsSensible s → heat_below t s ≡ heat_of s -ℤ heat_above t s
heat_below-is t s h =
    ap (λ l. s.cp *ℤ l) (length_below-is (low_end s) (high_end s) t)
    ∙ *ℤ--ℤ s.cp (high_end s -ℤ low_end s) (length_above (low_end s) (high_end s) t)
    ∙ sym (ap₂ ◌-ℤ◌ (heat_of-sensible s h) (heat_over-sensible false t s h))

-- the heat of a side below t
side_below : (side : Side) (t : ℤ) (streams : List Stream) → AreSensible streams
    → sum_side side (heat_below t) streams ≡ sum_side side heat_of streams -ℤ sum_side side (heat_above t) streams
side_below side t streams h =
    let all = λ (s : Stream). if same_side s.side side then heat_of s else pos 0 in
    let above = λ (s : Stream). if same_side s.side side then heat_above t s else pos 0 in
    int_sum_by-same (λ s. if same_side s.side side then heat_below t s else pos 0) (λ s. all s -ℤ above s) streams
    (λ k d within. term (same_side (get_or streams k d).side side) (get_or streams k d) (h k d within))
    ∙ int_sum_by-sub all above streams
  where
    term : (b : Bool) (s : Stream) → IsSensible s
        → (if b then heat_below t s else pos 0)
        ≡ (if b then heat_of s else pos 0) -ℤ (if b then heat_above t s else pos 0)
    term true s sensible = heat_below-is t s sensible
    term false s sensible = refl

-- the surplus below t is the deficit above it less the deficit of all heats, which lie above the least number
pub surplus_below-is : (t : ℤ) (streams : List Stream) → ArePlantStreams streams
    → surplus_below streams t ≡ deficit_above streams t -ℤ deficit_above streams (negsuc 2147483647)
surplus_below-is t streams h =
    let least = negsuc 2147483647 in
    let below = All-weaker IsValidStream (λ s. least <ℤ low_end s)
    (λ s valid. let ends = AreEnds-IsValidStream s valid in omega (arith, ints, ends)) streams h.are_streams.each in
    let lowest = deficit_above-lowest least streams h.are_streams.each below in
    let hot = side_below Hot t streams h.sensible in
    let cold = side_below Cold t streams h.sensible in
    omega (arith, ints)

-- ---- the greatest imbalance

module _ (direction : Direction) (t : ℤ) (streams : List Stream) where
  -- place by place
  fold-raised : (so_far : ℤ) (places : List ℤ) → fold (raised direction t streams) so_far places
      ≡ fold int_max so_far (map (imbalance direction streams) (filter (is_beyond direction t) places))
  fold-raised so_far [] = refl
  fold-raised so_far (place ∷ places) =
      by (is_beyond direction t place)
      (fold-raised
      (if is_beyond direction t place then int_max so_far (imbalance direction streams place) else so_far) places)
    where
      by : (b : Bool) → fold (raised direction t streams)
          (if b then int_max so_far (imbalance direction streams place) else so_far) places
          ≡ fold int_max (if b then int_max so_far (imbalance direction streams place) else so_far)
          (map (imbalance direction streams) (filter (is_beyond direction t) places))
          → fold (raised direction t streams)
          (if b then int_max so_far (imbalance direction streams place) else so_far) places
          ≡ fold int_max so_far
          (map (imbalance direction streams)
          (cond b (place ∷ filter (is_beyond direction t) places) (filter (is_beyond direction t) places)))
      by true rest = rest
      by false rest = rest

  -- a stream more
  pub raised-ends : (so_far : ℤ) (others : List Stream) (i : ℕ) (s : Stream) → i < length others → s ≡ get_or others i s
      → fold (raised direction t streams) so_far (stream_ends (take (i + 1) others))
      ≡ raised direction t streams (raised direction t streams (fold (raised direction t streams) so_far (stream_ends (take i others))) (high_end s))
      (low_end s)
  raised-ends so_far others i s within is = let look = raised direction t streams in
      ap (fold look so_far) (stream_ends-more others i s within is)
      ∙ fold-append look so_far (stream_ends (take i others)) (high_end s ∷ low_end s ∷ [])

  -- a plant more, and a main more
  pub raised-plants : (so_far : ℤ) (plants : List Plant) (i : ℕ) (plant : Plant) → i < length plants
      → plant ≡ get_or plants i plant
      → fold (raised direction t streams) so_far (stream_ends (streams_of (take (i + 1) plants)))
      ≡ fold (raised direction t streams) (fold (raised direction t streams) so_far (stream_ends (streams_of (take i plants)))) (stream_ends plant.streams)
  raised-plants so_far plants i plant within is =
      let look = raised direction t streams in
      ap (fold look so_far) (ends_of-more plants i plant within is)
      ∙ fold-append look so_far (stream_ends (streams_of (take i plants))) (stream_ends plant.streams)

  pub raised-mains : (so_far contribution : ℤ) (mains : List Main) (i : ℕ) (main : Main) → i < length mains
      → main ≡ get_or mains i main
      → fold (raised direction t streams) so_far (main_places contribution (take (i + 1) mains))
      ≡ raised direction t streams
      (raised direction t streams (fold (raised direction t streams) so_far (main_places contribution (take i mains))) (takes_at contribution main))
      (gives_at contribution main)
  raised-mains so_far contribution mains i main within is =
      let look = raised direction t streams in
      ap (fold look so_far) (main_places-more contribution mains i main within is)
      ∙ fold-append look so_far (main_places contribution (take i mains)) (takes_at contribution main ∷ gives_at contribution main ∷ [])

-- t itself, the ends of the streams, and the places of the mains
plant_profile-is : (direction : Direction) (t : ℤ) (site : Site) (plant : Plant) →
    plant_profile direction (site_places site) t plant
    ≡ fold (raised direction t plant.streams)
    (fold (raised direction t plant.streams) (raised direction t plant.streams (pos 0) t) (stream_ends (streams_of site.plants)))
    (main_places site.contribution site.mains)
plant_profile-is direction t site plant =
    let look = raised direction t plant.streams in
    sym (fold-raised direction t plant.streams (pos 0) (t ∷ site_places site))
    ∙ fold-append look (look (pos 0) t) (stream_ends (streams_of site.plants)) (main_places site.contribution site.mains)

-- looked at one after the other, as the code has them
pub plant_profile-from : (direction : Direction) (t at : ℤ) (site : Site) (plant : Plant) (streams : List Stream) (plants : List Plant) (mains : List Main)
    (contribution at_t at_ends all : ℤ) → at ≡ t → streams ≡ plant.streams → plants ≡ site.plants
    → mains ≡ site.mains → contribution ≡ site.contribution
    → at_t ≡ raised direction at streams (pos 0) at
    → at_ends ≡ fold (raised direction at streams) at_t (stream_ends (streams_of plants))
    → all ≡ fold (raised direction at streams) at_ends (main_places contribution mains)
    → all ≡ plant_profile direction (site_places site) t plant
plant_profile-from direction t at site plant streams plants mains contribution at_t at_ends all et es ep em ec first second third =
    let full_t = first ∙ (λ i. raised direction (et i) (es i) (pos 0) (et i)) in
    let full_ends = second ∙ (λ i. fold (raised direction (et i) (es i)) (full_t i) (stream_ends (streams_of (ep i)))) in
    third ∙ (λ i. fold (raised direction (et i) (es i)) (full_ends i) (main_places (ec i) (em i)))
    ∙ sym (plant_profile-is direction t site plant)
