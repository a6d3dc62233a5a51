use Rattle.interval_design.proofs.Words.{AreLedPieces, AreStreams-IsComplete, Balance, Case, HasCost-flow, IsBounded, IsHeat, IsHeatFlow, IsLedNetwork, Part}
use Rattle.interval_design.proofs.Words.{Piece, Transfer, enumerate_from, exchange_balance, exchange_of, exchanger_of, exchangers_for, heats_within}
use Rattle.interval_design.proofs.Words.{length-AreStreams, length-enumerate_from, length-map, part_sources, piece_of, reach_between}
use Rattle.interval_design.proofs.Balances.{balance-is, exchangers-are, no_excess}
use Rattle.interval_design.proofs.CaseFlow.{IsCaseFlow, few_flow}
use Rattle.interval_design.proofs.Premises.{flow_led, pieces_within, sources-are}
use Rattle.std.proofs.Common.{All, List, ap, arith, length, map, subst, sym, ◌∙◌, ◌≡◌}
use Rattle.interval_design.proofs.network.design.Goals as goal
use Rattle.stream_case.specs.declared.source.Side.TheVariants as side

-- ---- the pieces and their exchanges

flow_heats : (case : Case) (hot cold : List Part) (ts : List Transfer) → All IsBounded hot
    → IsHeatFlow (reach_between case hot cold) hot cold ts
    → All (λ t. IsHeat t.heat) ts
flow_heats case hot cold ts bounded flow =
    heats_within hot cold ts bounded (HasCost-flow (reach_between case hot cold) hot cold ts flow)

pub exchanges_of-requires-clause-heats : goal.exchanges_of-requires-clause-heats
exchanges_of-requires-clause-heats c =
    let parts = c.args.parts.now in
    subst (All (λ (t : Transfer). IsHeat t.heat)) (sym c.as_slice-5.ensures)
    (flow_heats c.args.case.now parts.hot parts.cold c.args.flow.now.transfers parts.hot_bounded c.requires.flow)

hot_given : (c : goal.After-as_slice-8) → c.as_slice-6.result.now ≡ part_sources c.args.parts.now.hot
hot_given c = c.as_slice-6.ensures.value ∙ c.in_ok-hot.ensures ∙ ap part_sources c.as_slice.ensures

cold_given : (c : goal.After-as_slice-8) → c.as_slice-7.result.now ≡ part_sources c.args.parts.now.cold
cold_given c = c.as_slice-7.ensures.value ∙ c.in_ok-cold.ensures ∙ ap part_sources c.as_slice-2.ensures

exchanges_given : (c : goal.After-as_slice-8) → c.as_slice-8.result.now
    ≡ map (exchange_of c.args.parts.now.hot c.args.parts.now.cold) c.args.flow.now.transfers
exchanges_given c =
    c.as_slice-8.ensures.value ∙ c.in_ok-exchanges.ensures
    ∙ (λ i. map (exchange_of (c.as_slice-3.ensures i) (c.as_slice-4.ensures i)) (c.as_slice-5.ensures i))

pub lead-requires-clause-hot : goal.lead-requires-clause-hot
lead-requires-clause-hot c =
    let parts = c.args.parts.now in
    pieces_within side.Hot parts.hot parts.cold c.args.flow.now.transfers c.as_slice-6.result.now
    c.as_slice-8.result.now (hot_given c) (exchanges_given c) c.requires.flow.hot_indexes

pub lead-requires-clause-cold : goal.lead-requires-clause-cold
lead-requires-clause-cold c =
    let parts = c.args.parts.now in
    pieces_within side.Cold parts.hot parts.cold c.args.flow.now.transfers c.as_slice-7.result.now
    c.as_slice-8.result.now (cold_given c) (exchanges_given c) c.requires.flow.cold_indexes

pub lead-requires-clause-few : goal.lead-requires-clause-few
lead-requires-clause-few c =
    let parts = c.args.parts.now in
    let few = few_flow c.requires.flow parts.few_hot parts.few_cold in
    let are_streams = AreStreams-IsComplete c.args.case.now c.requires.complete in
    let streams = length-AreStreams c.args.case.now.streams are_streams in
    let exchanges = ap length (exchanges_given c) in
    let long = length-map c.args.flow.now.transfers (exchange_of parts.hot parts.cold) in
    omega arith

-- ---- the network

hot_led : (c : goal.After-drop-hot-2) → c.as_slice-6.result.now ≡ part_sources c.args.parts.now.hot
hot_led c = c.as_slice-6.ensures.value ∙ c.in_ok-hot.ensures ∙ ap part_sources c.as_slice.ensures

cold_led : (c : goal.After-drop-hot-2) → c.as_slice-7.result.now ≡ part_sources c.args.parts.now.cold
cold_led c = c.as_slice-7.ensures.value ∙ c.in_ok-cold.ensures ∙ ap part_sources c.as_slice-2.ensures

exchanges_led : (c : goal.After-drop-hot-2) → c.as_slice-8.result.now
    ≡ map (exchange_of c.args.parts.now.hot c.args.parts.now.cold) c.args.flow.now.transfers
exchanges_led c =
    c.as_slice-8.ensures.value ∙ c.in_ok-exchanges.ensures
    ∙ (λ i. map (exchange_of (c.as_slice-3.ensures i) (c.as_slice-4.ensures i)) (c.as_slice-5.ensures i))

given : (c : goal.After-drop-hot-2)
    → IsCaseFlow c.args.case.now c.args.parts.now.hot c.args.parts.now.cold c.args.flow.now.transfers
given c =
    let parts = c.args.parts.now in
    let heats =
    flow_heats c.args.case.now parts.hot parts.cold c.args.flow.now.transfers parts.hot_bounded c.requires.flow in
    record { complete = c.requires.complete; parts = c.requires.parts; flow = c.requires.flow; heats = heats }

hots : goal.After-drop-hot-2 → List Piece
hots c = map (piece_of c.args.case.now) c.args.parts.now.hot

colds : goal.After-drop-hot-2 → List Piece
colds c = map (piece_of c.args.case.now) c.args.parts.now.cold

led : (c : goal.After-drop-hot-2)
    → IsLedNetwork c.args.case.now (hots c) (colds c) c.as_slice-8.result.now c.in_ok-network.network
unfolding hots colds
led c =
    let case = c.args.case.now in
    let parts = c.args.parts.now in
    let ts = c.args.flow.now.transfers in
    let few = few_flow c.requires.flow parts.few_hot parts.few_cold in
    let hot_sources = sources-are case parts.hot ∙ sym (hot_led c) in
    let cold_sources = sources-are case parts.cold ∙ sym (cold_led c) in
    let led = flow_led case parts.hot parts.cold ts (given c) few in
    c.in_ok-network.ensures.led (hots c) (colds c) hot_sources cold_sources
    (subst (AreLedPieces case (hots c) (colds c)) (sym (exchanges_led c)) led)

pub returns-clause-exchangers : goal.returns-clause-exchangers
returns-clause-exchangers c =
    c.in_ok-network.ensures.exchangers ∙ (λ i. exchangers_for (hot_led c i) (cold_led c i) (exchanges_led c i))
    ∙ exchangers-are c.args.parts.now.hot c.args.parts.now.cold 0 c.args.flow.now.transfers

pub returns-clause-shape : goal.returns-clause-shape
returns-clause-shape c = (led c).shape

pub returns-clause-few_lines : goal.returns-clause-few_lines
returns-clause-few_lines c few =
    let parts = c.args.parts.now in
    let lines = c.in_ok-network.ensures.few_lines in
    let are_streams = AreStreams-IsComplete c.args.case.now c.requires.complete in
    let streams = length-AreStreams c.args.case.now.streams are_streams in
    let exchanges = ap length (exchanges_led c) in
    let long = length-map c.args.flow.now.transfers (exchange_of parts.hot parts.cold) in
    omega (arith, parts.few_hot, parts.few_cold)

pub returns-clause-counts : goal.returns-clause-counts
returns-clause-counts c few =
    let parts = c.args.parts.now in
    let ts = c.args.flow.now.transfers in
    let lines = returns-clause-few_lines c few in
    let many = ap length (returns-clause-exchangers c) in
    let long = length-map (enumerate_from 0 ts) (exchanger_of parts.hot parts.cold) in
    let count = length-enumerate_from 0 ts in
    record { lines = omega arith; exchangers = omega (arith, parts.few_hot, parts.few_cold) }

pub returns-clause-valid : goal.returns-clause-valid
returns-clause-valid c = (led c).valid

pub returns-clause-accepted : goal.returns-clause-accepted
returns-clause-accepted c = (led c).accepted

pub returns-clause-balance : goal.returns-clause-balance
returns-clause-balance c =
    let case = c.args.case.now in
    let parts = c.args.parts.now in
    c.in_ok-network.ensures.balance ∙ (λ i. exchange_balance case (hot_led c i) (cold_led c i) (exchanges_led c i))
    ∙ balance-is case parts.hot parts.cold c.args.flow.now.transfers (given c)

pub returns-clause-excess : goal.returns-clause-excess
returns-clause-excess c standard costs =
    let parts = c.args.parts.now in
    ap (λ (b : Balance). b.excess) (returns-clause-balance c)
    ∙ no_excess c.args.case.now parts.hot parts.cold c.args.flow.now.transfers standard c.requires.parts costs
