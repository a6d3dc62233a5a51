-- Parts at other prices of the utilities reach one another as before, and have the same heat flows.
use Rattle.study.proofs.Words.{All, Case, Cold, Hot, IsBetween, IsHeatFlow, KeepsRanges, Part, Side, Transfer, blank}
use Rattle.study.proofs.Words.{both_reach, heat_at, length-map, part_index, priced, priced_part, reach_between}
use Rattle.study.proofs.Words.{same_Some, slice_get-get_or, slice_get-map, slice_get_within, ℤ}
use Rattle.std.proofs.Common.{Bool, List, Option, Some, ap, ap₂, get_or, length, option_map, refl, slice_get, subst}
use Rattle.std.proofs.Common.{sym, ℕ, ◌<◌, ◌∙◌, ◌≡◌}

-- ---- which parts reach which

both_reach-priced : (c : Case) (prices : List ℤ) (p q : Option Part)
    → both_reach c (option_map (priced_part prices) p) (option_map (priced_part prices) q) ≡ both_reach c p q
both_reach-priced c prices (Some p) (Some q) = refl
both_reach-priced c prices p q = refl

pub reach-priced : (c : Case) (prices : List ℤ) (hot cold : List Part)
    → reach_between c (priced prices hot) (priced prices cold) ≡ reach_between c hot cold
reach-priced c prices hot cold = λ i a b. each a b i
  where
    each : (a b : ℕ) → reach_between c (priced prices hot) (priced prices cold) a b ≡ reach_between c hot cold a b
    each a b = ap₂ (both_reach c) (slice_get-map (priced_part prices) hot a) (slice_get-map (priced_part prices) cold b)
        ∙ both_reach-priced c prices (slice_get hot a) (slice_get cold b)

-- ---- flows

module _ (prices : List ℤ) where
  ranges-priced : (side : Side) (parts : List Part) (ts : List Transfer) → KeepsRanges side parts ts
      → KeepsRanges side (priced prices parts) ts
  ranges-priced side parts ts ranges a p at =
      let within : a < length parts
      = subst (λ n. a < n) (length-map parts (priced_part prices)) (slice_get_within (priced prices parts) a p at) in
      let own = slice_get-get_or parts a blank within in
      let is : Some (priced_part prices (get_or parts a blank)) ≡ Some p =
      sym (slice_get-map (priced_part prices) parts a ∙ ap (option_map (priced_part prices)) own) ∙ at in
      subst (λ (q : Part). IsBetween q.least q.most (heat_at side ts a)) (same_Some (priced_part prices (get_or parts a blank)) p is)
      (ranges a (get_or parts a blank) own)

  ranges-unpriced : (side : Side) (parts : List Part) (ts : List Transfer)
      → KeepsRanges side (priced prices parts) ts → KeepsRanges side parts ts
  ranges-unpriced side parts ts ranges a p at =
      ranges a (priced_part prices p) (slice_get-map (priced_part prices) parts a ∙ ap (option_map (priced_part prices)) at)

  pub flow-priced : (reach : ℕ → ℕ → Bool) (hot cold : List Part) (ts : List Transfer) → IsHeatFlow reach hot cold ts
      → IsHeatFlow reach (priced prices hot) (priced prices cold) ts
  flow-priced reach hot cold ts flow = record {
    positive = flow.positive;
    hot_indexes =
        subst (λ n. All (λ t. part_index Hot t < n) ts) (sym (length-map hot (priced_part prices))) flow.hot_indexes;
    cold_indexes =
        subst (λ n. All (λ t. part_index Cold t < n) ts) (sym (length-map cold (priced_part prices))) flow.cold_indexes;
    joined = flow.joined;
    ordered = flow.ordered;
    hot_ranges = ranges-priced Hot hot ts flow.hot_ranges;
    cold_ranges = ranges-priced Cold cold ts flow.cold_ranges;
  }

  pub flow-unpriced : (reach : ℕ → ℕ → Bool) (hot cold : List Part) (ts : List Transfer)
      → IsHeatFlow reach (priced prices hot) (priced prices cold) ts
      → IsHeatFlow reach hot cold ts
  flow-unpriced reach hot cold ts flow = record {
    positive = flow.positive;
    hot_indexes =
        subst (λ n. All (λ t. part_index Hot t < n) ts) (length-map hot (priced_part prices)) flow.hot_indexes;
    cold_indexes =
        subst (λ n. All (λ t. part_index Cold t < n) ts) (length-map cold (priced_part prices)) flow.cold_indexes;
    joined = flow.joined;
    ordered = flow.ordered;
    hot_ranges = ranges-unpriced Hot hot ts flow.hot_ranges;
    cold_ranges = ranges-unpriced Cold cold ts flow.cold_ranges;
  }
