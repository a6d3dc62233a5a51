use Rattle.study.proofs.Words.{All, IsBounded, MOST_PARTS, length-map, priced, priced_part}
use Rattle.std.proofs.Common.{ap, length, subst, sym, ◌∙◌, ◌≡◌, ◌≤◌}
use Rattle.study.proofs.PartBounds.{bounded-priced}
use Rattle.study.proofs.priced.priced_parts.Goals as goal

pub invariant_of-result : goal.invariant_of-result
invariant_of-result c =
    let prices = c.args.prices.now in
    let parts = c.args.parts.now in
    let hot : c.from_vec.result ≡ priced prices parts.hot
    = c.from_vec.ensures ∙ c.in_ok-hot.ensures ∙ ap (priced prices) c.as_slice.ensures in
    let cold : c.from_vec-2.result ≡ priced prices parts.cold
    = c.from_vec-2.ensures ∙ c.in_ok-cold.ensures ∙ ap (priced prices) c.as_slice-2.ensures in
    let few_hot = subst (λ n. n ≤ MOST_PARTS) (sym (length-map parts.hot (priced_part prices))) parts.few_hot in
    let few_cold = subst (λ n. n ≤ MOST_PARTS) (sym (length-map parts.cold (priced_part prices))) parts.few_cold in
    record {
      few_hot = subst (λ xs. length xs ≤ MOST_PARTS) (sym hot) few_hot;
      few_cold = subst (λ xs. length xs ≤ MOST_PARTS) (sym cold) few_cold;
      hot_bounded = subst (All IsBounded) (sym hot) (bounded-priced prices c.requires parts.hot parts.hot_bounded);
      cold_bounded = subst (All IsBounded) (sym cold) (bounded-priced prices c.requires parts.cold parts.cold_bounded);
    }
