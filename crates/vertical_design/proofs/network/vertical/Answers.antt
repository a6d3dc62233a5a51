use Rattle.vertical_design.proofs.Words.{IsSensibleCase-both, enumerate_from, exchanger_of, length-enumerate_from, length-map, network_of}
use Rattle.std.proofs.Common.{ap, arith, length, sym, ◌∙◌}
use Rattle.vertical_design.proofs.Exchanges.{exchanges}
use Rattle.vertical_design.proofs.Intervals.{pieces, sources_are}
use Rattle.vertical_design.proofs.LedPieces.{CanBeLed, are_led, can_be_led, sources}
use Rattle.vertical_design.proofs.NetworkLemmas.{IsLed, balance-network, is_vertical, moved}
use Rattle.vertical_design.proofs.CaseAxis.{Axis}
use Rattle.stream_case.specs.declared.source.Side.TheVariants as side
use Rattle.vertical_design.proofs.network.vertical.Goals.{After-as_slice-3}
use Rattle.vertical_design.proofs.network.vertical.Goals as goal

abbrev axis : After-as_slice-3 → Axis
axis c = record {
  case = c.args.case.now;
  cuts = c.in_ok-intervals.ensures.0;
  complete = IsSensibleCase-both c.args.case.now c.requires.complete c.requires.sensible;
  standard = c.requires.standard;
  are_cuts = c.in_ok-intervals.ensures.1;
}

ready : (c : After-as_slice-3) → CanBeLed (axis c) c.as_slice.result.now c.as_slice-2.result.now c.as_slice-3.result.now
ready c =
    let between = c.in_ok-intervals.ensures.2 in
    moved (CanBeLed (axis c)) (sym (c.as_slice.ensures.value ∙ between.hot_is))
    (sym (c.as_slice-2.ensures.value ∙ between.cold_is)) (sym (c.as_slice-3.ensures.value ∙ between.exchanges_are))
    (can_be_led (axis c))

pub lead-requires : goal.lead-requires
lead-requires c =
    let is = ready c in
    let few = is.few in
    record {
      complete = c.requires.complete;
      hot = is.hot_there;
      cold = is.cold_there;
      few_hot = is.few_hot;
      few_cold = is.few_cold;
      few = omega (arith, few);
    }

pub returns : goal.returns
unfolding network_of
returns c =
    let at = axis (goal.at.returns c).After-as_slice-3 in
    let between = c.in_ok-intervals.ensures.2 in
    let network = c.in_ok-network.network in
    let given = c.in_ok-network.ensures in
    let led : IsLed at.case c.as_slice.result.now c.as_slice-2.result.now c.as_slice-3.result.now network =
    record { drawn = given.drawn; exchangers = given.exchangers; few_lines = given.few_lines; law = given.led } in
    let is = moved (λ hot cold es. IsLed at.case hot cold es network) (c.as_slice.ensures.value ∙ between.hot_is)
    (c.as_slice-2.ensures.value ∙ between.cold_is) (c.as_slice-3.ensures.value ∙ between.exchanges_are) led in
    let es = exchanges at in
    let law = is.law (pieces at side.Hot) (pieces at side.Cold) (sources_are at side.Hot) (sources_are at side.Cold)
    (are_led at) in
    let few = (can_be_led at).few in
    let lines = is.few_lines in
    let declared = ap length is.exchangers
    ∙ length-map (enumerate_from 0 es) (exchanger_of (sources at side.Hot) (sources at side.Cold))
    ∙ length-enumerate_from 0 es in
    record {
      drawn = (at.cuts, at.are_cuts, is.drawn);
      shape = law.shape;
      counts = record { lines = omega (arith, few, lines); exchangers = omega (arith, few, declared) };
      few_lines = omega (arith, few, lines);
      valid = law.valid;
      vertical = is_vertical at network is.exchangers law;
      accepted = law.accepted;
      balance = balance-network at network is.exchangers law.shape;
    }
