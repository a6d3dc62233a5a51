use Rattle.corner_flow.proofs.PriceLemmas.{corner-supports, corner-value, prices_within, tight_counted}
use Rattle.corner_flow.proofs.SideLemmas.{AreStandardParts, AreStandardParts-parts}
use Rattle.corner_flow.proofs.Words.{All, IsPartPrice, IsSupporting, IsTightOver, corner_price, counts_low, hot_target, reach_between, to_z-of_z, value_of}
use Rattle.std.proofs.Common.{Bool, FitsSigned, ap₂, map, rules, subst, subst₂, sym, w32, w64, ◌∙◌, ◌≡◌}
use Rattle.corner_flow.proofs.prices.corner_prices.Goals as goal

standard : (c : goal.After-from_vec-2) → AreStandardParts c.args.case.now c.args.parts.now.hot c.args.parts.now.cold
standard c = AreStandardParts-parts c.requires.complete c.requires.standard c.requires.parts

abbrev low_of : goal.After-from_vec-2 → Bool
low_of c = counts_low c.args.case.now.streams c.args.from_itself c.args.place

low_is : (c : goal.After-from_vec-2) → c.counts_low-low.result ≡ low_of c
low_is c = rw (to_z-of_z w32 c.args.place c.ranges.place, c.as_slice.ensures) at c.counts_low-low.ensures

hot_prices : (c : goal.After-from_vec-2)
    → c.from_vec.result ≡ map (corner_price (hot_target c.args.case.now.streams) (low_of c) c.args.place) c.args.parts.now.hot
hot_prices c =
    let fits : FitsSigned w64 c.args.targets.hot = search rules in
    c.from_vec.ensures ∙ rw (
      to_z-of_z w64 c.args.targets.hot fits,
      to_z-of_z w32 c.args.place c.ranges.place,
      c.requires.hot_target,
      low_is c,
      c.as_slice-2.ensures,
    ) at c.in_ok-hot.ensures

cold_prices : (c : goal.After-from_vec-2)
    → c.from_vec-2.result ≡ map (corner_price (hot_target c.args.case.now.streams) (low_of c) c.args.place) c.args.parts.now.cold
cold_prices c =
    let fits : FitsSigned w64 c.args.targets.hot = search rules in
    c.from_vec-2.ensures ∙ rw (
      to_z-of_z w64 c.args.targets.hot fits,
      to_z-of_z w32 c.args.place c.ranges.place,
      c.requires.hot_target,
      low_is c,
      c.as_slice-3.ensures,
    ) at c.in_ok-cold.ensures

tight : (c : goal.After-from_vec-2) → IsTightOver (low_of c) c.args.case.now.streams c.args.place
tight c =
    tight_counted c.args.case.now.streams c.args.place c.args.from_itself
    (standard c).valid.are_streams.each c.requires.place c.requires.from_itself

pub returns-clause-hot : goal.returns-clause-hot
returns-clause-hot c = rw c.requires.hot_target (hot_prices c)

pub returns-clause-cold : goal.returns-clause-cold
returns-clause-cold c = rw c.requires.hot_target (cold_prices c)

pub returns-clause-hot_range : goal.returns-clause-hot_range
returns-clause-hot_range c =
    subst (All IsPartPrice) (sym (hot_prices c)) (prices_within (hot_target c.args.case.now.streams) (low_of c) c.args.place c.args.parts.now.hot)

pub returns-clause-cold_range : goal.returns-clause-cold_range
returns-clause-cold_range c =
    subst (All IsPartPrice) (sym (cold_prices c)) (prices_within (hot_target c.args.case.now.streams) (low_of c) c.args.place c.args.parts.now.cold)

pub returns-clause-supporting : goal.returns-clause-supporting
returns-clause-supporting c =
    subst₂ (IsSupporting (reach_between c.args.case.now c.args.parts.now.hot c.args.parts.now.cold)) (sym (hot_prices c)) (sym (cold_prices c))
    (corner-supports (standard c) (low_of c) c.args.place)

pub returns-clause-value : goal.returns-clause-value
returns-clause-value c = ap₂ (value_of c.args.parts.now.hot c.args.parts.now.cold) (hot_prices c) (cold_prices c)
    ∙ corner-value (standard c) (low_of c) c.args.place c.requires.place.at.end (tight c) ∙ sym c.requires.hot_target
