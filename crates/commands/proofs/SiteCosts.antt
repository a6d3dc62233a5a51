-- A heat flow of a site costs what its boiler gives.
use Rattle.commands.proofs.Words.{Answer, AreSiteParts, Cold, HaveParts, Hot, IfLeast, IsCertified, IsHeatFlow, IsLeastBoiler, IsLeastCost, IsPartOf, Least, Part}
use Rattle.commands.proofs.Words.{Parts, Source, Stuck, Transfer, Utility, blank, boiler, boiler_heat, cooling, cost_of, heat_of_utility, if_one-times}
use Rattle.commands.proofs.Words.{if◌then◌else◌, int_sum_by-same, int_sum_by-zero, ints, none-some, option_map_or, part_price, pos, same_Some, same_source}
use Rattle.commands.proofs.Words.{side_cost-transfers, site_utilities, slice_get-get_or, streams_of, utility_heat, ℤ, ◌*ℤ◌, ◌+ℤ◌}
use Rattle.site.specs.Reach.{reach_between}
use Rattle.site_text.specs.declared.site.Site.{Site}
use Rattle.std.proofs.Common.{List, ap, ap₂, arith, false, get_or, inl, inr, length, suc, sym, zero, ◌<◌, ◌∙◌, ◌≡◌}
use Rattle.stream_case.specs.declared.source.Source.TheVariants.{Utility as of_utility}

-- a watt of the boiler costs 1
abbrev boiler_price : Source → ℤ
boiler_price source = if same_source source (of_utility 0) then pos 1 else pos 0

module _ (site : Site) (hot cold : List Part) (parts : AreSiteParts site hot cold) where
  hot_price : (p : Part) → IsPartOf (streams_of site.plants) (site_utilities site) parts.grid Hot p
      → p.price ≡ boiler_price p.source
  hot_price p (inl (i, s, h)) = ap (λ q. q.price) h.is ∙ sym (ap (λ q. boiler_price q.source) h.is)
  hot_price p (inr (zero, u, h)) =
      ap (λ q. q.price) h.is ∙ sym (ap (λ (v : Utility). v.price) (same_Some (boiler site) u h.utility))
      ∙ sym (ap (λ q. boiler_price q.source) h.is)
  hot_price p (inr (suc zero, u, h)) =
      let clash : Cold ≡ Hot = ap (λ (v : Utility). v.side) (same_Some (cooling site) u h.utility) ∙ h.side_is in
      cc
  hot_price p (inr (suc (suc i), u, h)) = absurd (none-some u h.utility)

  cold_price : (p : Part) → IsPartOf (streams_of site.plants) (site_utilities site) parts.grid Cold p → p.price ≡ pos 0
  cold_price p (inl (i, s, h)) = ap (λ q. q.price) h.is
  cold_price p (inr (zero, u, h)) =
      let clash : Hot ≡ Cold = ap (λ (v : Utility). v.side) (same_Some (boiler site) u h.utility) ∙ h.side_is in
      cc
  cold_price p (inr (suc zero, u, h)) =
      ap (λ q. q.price) h.is ∙ sym (ap (λ (v : Utility). v.price) (same_Some (cooling site) u h.utility))
  cold_price p (inr (suc (suc i), u, h)) = absurd (none-some u h.utility)

  -- what a transfer costs at its hot part
  hot_cost : (t : Transfer) → t.hot < length hot → part_price hot t.hot *ℤ t.heat ≡ heat_of_utility 0 Hot hot t
  hot_cost t within =
      let p = get_or hot t.hot blank in
      let at = slice_get-get_or hot t.hot blank within in
      ap (λ price. price *ℤ t.heat) (hot_price p (parts.hot_parts.each t.hot blank within))
      ∙ if_one-times (same_source p.source (of_utility 0)) t.heat
      ∙ sym (ap (λ o. if option_map_or (λ (q : Part). same_source q.source (of_utility 0)) o false then t.heat else pos 0) at)

  -- and at its cold part
  cold_cost : (t : Transfer) → t.cold < length cold → part_price cold t.cold *ℤ t.heat ≡ pos 0
  cold_cost t within =
      let price = cold_price (get_or cold t.cold blank) (parts.cold_parts.each t.cold blank within) in
      ap (λ price. price *ℤ t.heat) price ∙ omega (arith, ints)

  cost_is : (ts : List Transfer) → HaveParts Hot hot ts → HaveParts Cold cold ts
      → cost_of hot cold ts ≡ utility_heat 0 Hot hot ts
  cost_is ts hot_indexes cold_indexes =
      let hots = sym (side_cost-transfers Hot hot ts hot_indexes)
      ∙ int_sum_by-same (λ t. part_price hot t.hot *ℤ t.heat) (heat_of_utility 0 Hot hot) ts
      (λ k d within. hot_cost (get_or ts k d) (hot_indexes k d within)) in
      let colds = sym (side_cost-transfers Cold cold ts cold_indexes)
      ∙ int_sum_by-zero (λ t. part_price cold t.cold *ℤ t.heat) ts (λ k d within. cold_cost (get_or ts k d) (cold_indexes k d within)) in
      ap₂ ◌+ℤ◌ hots colds ∙ omega (arith, ints)

-- so the least cost is the least boiler heat
pub least_boiler : (site : Site) (parts : Parts) (answer : Answer) → AreSiteParts site parts.hot parts.cold
    → IfLeast answer (λ flow prices cost. IsCertified (reach_between site parts.hot parts.cold) parts.hot parts.cold flow.transfers prices.hot prices.cold cost)
    → IfLeast answer (λ flow prices cost. IsLeastCost (reach_between site parts.hot parts.cold) parts.hot parts.cold cost)
    → IfLeast answer (λ flow prices cost. IsLeastBoiler site parts flow.transfers cost)
least_boiler site parts (Least flow prices cost) are certified least =
    let cost_of_flow =
    λ (ts : List Transfer)
    (is : IsHeatFlow
    (reach_between site parts.hot parts.cold) parts.hot parts.cold ts). cost_is site parts.hot parts.cold are ts is.hot_indexes is.cold_indexes in
    let own : boiler_heat parts flow.transfers ≡ cost
    = sym (cost_of_flow flow.transfers certified.flow) ∙ certified.costs in
    record {
      gives = own;
      least = λ others is. let bound = least.least others is in
          let other = cost_of_flow others is in
          omega (arith, ints, bound, other);
    }
least_boiler site parts (Stuck cut) are certified least = tt
