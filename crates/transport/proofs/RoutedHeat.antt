-- Transfers into which the flow of an inner net is taken apart are a heat flow, wherever the paths of the net are the
-- pairs that reach, and the potentials give prices that certify it.
use Rattle.transport.proofs.Words.{All, ArePartPrices, Cold, Flow, HasCost, HasCost-flow, Hot, IsAnswer, IsCertified, IsHeatFlow, IsLeastCost}
use Rattle.transport.proofs.Words.{IsNodePotential, IsPartPrice, IsPath, IsSpread, IsSupporting, KeepsRanges, Link, Net, Part, PathsAreReaches}
use Rattle.transport.proofs.Words.{RoutesMost, Side, Some, cases_lt, cost_of, excess_price, get_or-map-range_with_len, get_or_default, get_or_past}
use Rattle.transport.proofs.Words.{heat_at, int_sum_from, int_sum_from-same_each, ints, length-map-range_with_len, link_at, outflow, parts_of, pos}
use Rattle.transport.proofs.Words.{potential_at, price_at, priced, prices_of, slice_get, slice_get_within, ℤ, ◌*ℤ◌, ◌-ℤ◌, ◌≤ℤ◌}
use Rattle.std.proofs.Common.{Bool, List, [], ap, ap₂, arith, get_or, length, refl, subst, subst₂, sym, zero-add, ℕ, ⊎_elim, ◌+◌, ◌<◌, ◌∙◌, ◌∷◌, ◌≡◌}
use Rattle.transport.proofs.NetAround.{ends}
use Rattle.transport.proofs.AroundLimits.{IsAround, IsFullRouting, potentials_within, small_cold}
use Rattle.transport.proofs.ExchangedHeat.{spare_within, exchanged, exchanged_is}
use Rattle.transport.proofs.InnerFlow.{not_full}
use Rattle.transport.proofs.CertifiedCost.{IsSlack, AreSlack, worth_of, Certifies, value-is_cost, IsLeastCost-certified}
use Rattle.transport.proofs.PotentialPrices.{price_of, worth, falls, filler_falls, worth_is, slack}

-- ---- transfers into which a flow of an inner net is taken apart are a heat flow, wherever the paths of the net are the pairs that reach,
-- and the potentials give prices that certify it

module _ (potentials : List ℤ) (each : All IsNodePotential potentials) (end : ℕ) where
  node_potential : (v : ℕ) → IsNodePotential (potential_at potentials v)
  node_potential v =
      ⊎_elim (λ within. each v (pos 0) within) (λ past.
      let past_end = get_or_past potentials v (pos 0) past in
      subst IsNodePotential (sym past_end) (record { from = omega (arith, ints); upto = omega (arith, ints) }))
      (cases_lt v (length potentials))

  price_within : (v : ℕ) → IsPartPrice (potential_at potentials v -ℤ potential_at potentials end)
  price_within v =
      let here = node_potential v in
      let there = node_potential end in
      record {
        from = omega (arith, ints, here.from, here.upto, there.from, there.upto);
        upto = omega (arith, ints, here.from, here.upto, there.from, there.upto);
      }

  prices_are : (parts : List Part) (first : ℕ) → ArePartPrices parts (prices_of potentials first (length parts) end)
  prices_are parts first =
      let f = λ (v : ℕ). potential_at potentials v -ℤ potential_at potentials end in
      let long = length-map-range_with_len f first (length parts) in
      record {
        one_each = long;
        within =
            λ k d inside.
            let price_there =
            get_or-map-range_with_len f first (length parts) k (first + k) d (omega (arith, long, inside)) refl in
            subst IsPartPrice (sym price_there) (price_within (first + k));
      }

  pub price_is : (parts first i : ℕ) → i < parts
      → price_at (prices_of potentials first parts end) i
      ≡ potential_at potentials (first + i) -ℤ potential_at potentials end
  price_is parts first i within =
      get_or-map-range_with_len (λ v. potential_at potentials v -ℤ potential_at potentials end) first parts i
      (first + i) (pos 0) within refl

-- ---- the heat flow and the prices

-- the most of all parts, routed through an inner net whose paths are the pairs that reach, and transfers into which the flow is taken
-- apart
pub record IsRoutedHeat (hot cold : List Part) (inner : Net) (reach : ℕ → ℕ → Bool) (flow potentials : List ℤ)
    (carried : Flow) : Type 0 where
  pub around : IsAround hot cold inner
  pub paths : PathsAreReaches (length hot) (length cold) inner.links reach
  pub routes : RoutesMost hot cold inner flow potentials
  pub spread : IsSpread (length hot) (length cold) inner.links flow carried.transfers

module _ {hot cold : List Part} {inner : Net} {reach : ℕ → ℕ → Bool} {flow potentials : List ℤ} {carried : Flow}
    (r : IsRoutedHeat hot cold inner reach flow potentials carried) where
  abbrev full : IsFullRouting hot cold inner flow
  full = record { around = r.around; routing = r.routes.routing }

  abbrev prices : Side → List ℤ
  prices Hot = prices_of potentials 0 (length hot) (ends inner).spill
  prices Cold = prices_of potentials (length hot) (length cold) (ends inner).filler

  pub each_potential : All IsNodePotential potentials
  each_potential = potentials_within hot cold inner r.around potentials r.routes.bounded

  -- what each part exchanges
  heat_is : (side : Side) (i : ℕ) (p : Part) → slice_get (parts_of side hot cold) i ≡ Some p
      → heat_at side carried.transfers i ≡ exchanged full side i
  heat_is Hot a p at = r.spread.given a (slice_get_within hot a p at) ∙ ap (outflow inner.links flow) (sym (zero-add a))
  heat_is Cold b p at = r.spread.taken b (slice_get_within cold b p at)

  ranges : (side : Side) → KeepsRanges side (parts_of side hot cold) carried.transfers
  ranges side i p at =
      let is = heat_is side i p at ∙ exchanged_is full side i p at in
      let h = spare_within full side i p at in
      record { from = omega (arith, ints, is, h.upto); upto = omega (arith, ints, is, h.from) }

  heat_flow : IsHeatFlow reach hot cold carried.transfers
  heat_flow = record {
    positive = r.spread.positive;
    hot_indexes = r.spread.hot_indexes;
    cold_indexes = r.spread.cold_indexes;
    joined = λ k d within. let t = get_or carried.transfers k d in
        let cold_in = r.spread.cold_indexes k d within in
        r.paths.reaches t.hot t.cold (r.spread.hot_indexes k d within) cold_in (r.spread.joined k d within);
    ordered = r.spread.ordered;
    hot_ranges = ranges Hot;
    cold_ranges = ranges Cold;
  }

  -- ---- the prices

  price : (side : Side) (i : ℕ) → i < length (parts_of side hot cold)
      → price_at (prices side) i ≡ price_of full r.routes.proof side i
  price Hot a within = price_is potentials each_potential (ends inner).spill (length hot) 0 a within
  price Cold b within = price_is potentials each_potential (ends inner).filler (length cold) (length hot) b within

  -- the potential does not rise along a path, as it does not along a link that is not full
  path_falls : (path : List Link) (u v : ℕ) → IsPath inner.links path u v
      → potential_at potentials v ≤ℤ potential_at potentials u
  path_falls [] u v same = let here = ap (potential_at potentials) same in omega (arith, ints, here)
  path_falls (l ∷ path) u v h =
      let (k, within, is) = h.0 in
      let here : link_at inner.links k ≡ l
      = get_or_default inner.links k (record { from = 0; to = 0; room = pos 0; cost = pos 0 }) l within ∙ is in
      let fall = falls full r.routes.proof k within (not_full full k within) in
      let down : potential_at potentials l.to ≤ℤ potential_at potentials l.from =
      subst (λ n. potential_at potentials n.to ≤ℤ potential_at potentials n.from) here fall in
      let from = ap (potential_at potentials) h.1 in
      let rest = path_falls path l.to v h.2 in
      omega (arith, ints, down, from, rest)

  supporting : IsSupporting reach (prices Hot) (prices Cold)
  supporting a b joined =
      let (path, is) = r.paths.leads a b joined in
      let down = path_falls path a (length hot + b) is in
      let over = filler_falls full r.routes.proof (small_cold hot cold inner r.around) in
      let y = price Hot a (r.paths.hot_within a b joined) in
      let z = price Cold b (r.paths.cold_within a b joined) in
      let node = ap (potential_at potentials) (zero-add a) in
      omega (arith, ints, down, over, y, z, node)

  slack_of : (side : Side) → AreSlack side (parts_of side hot cold) (prices side) carried.transfers
  slack_of side i p at =
      let price_is = price side i (slice_get_within (parts_of side hot cold) i p at) in
      let is_slack = slack full r.routes.proof side i p at in
      subst₂ (λ y heat. IsSlack (excess_price side p.price y) p.least p.most heat) (sym price_is)
      (sym (heat_is side i p at)) is_slack

  worth_at : (side : Side) → worth_of side (parts_of side hot cold) (prices side) carried.transfers
      ≡ int_sum_from (λ i (q : Part). worth full r.routes.proof side i) 0 (parts_of side hot cold)
  worth_at side =
      int_sum_from-same_each (λ i p. price_at (prices side) i *ℤ heat_at side carried.transfers i)
      (λ i q. worth full r.routes.proof side i) (parts_of side hot cold) (λ i p at.
      let price_is = price side i (slice_get_within (parts_of side hot cold) i p at) in
      ap₂ ◌*ℤ◌ price_is (heat_is side i p at))

  certifies : Certifies hot cold carried.transfers (prices Hot) (prices Cold)
  certifies =
      let worth = worth_is full r.routes.proof (small_cold hot cold inner r.around) (not_full full) in
      record {
        hot_slack = slack_of Hot;
        cold_slack = slack_of Cold;
        worth = worth_at Hot ∙ worth ∙ sym (worth_at Cold);
      }

  pub certified : IsCertified reach hot cold carried.transfers (prices Hot) (prices Cold)
      (cost_of hot cold carried.transfers)
  certified = record {
    flow = heat_flow;
    supporting = supporting;
    hot_prices = prices_are potentials each_potential (ends inner).spill hot 0;
    cold_prices = prices_are potentials each_potential (ends inner).filler cold (length hot);
    costs = refl;
    value = value-is_cost reach hot cold carried.transfers (prices Hot) (prices Cold) heat_flow certifies;
  }

  pub least_cost : IsLeastCost reach hot cold (cost_of hot cold carried.transfers)
  least_cost =
      IsLeastCost-certified reach hot cold carried.transfers (prices Hot) (prices Cold) supporting heat_flow certifies

  pub has_cost : HasCost hot cold carried.transfers
  has_cost = HasCost-flow reach hot cold carried.transfers heat_flow

  -- the answer with the prices
  pub answered : IsAnswer reach hot cold (priced hot cold inner.nodes potentials carried)
  answered = record { certified = certified; least = least_cost; cut = tt; stuck_only = tt }
