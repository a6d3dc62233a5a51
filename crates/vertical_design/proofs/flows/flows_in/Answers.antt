use Rattle.std.proofs.Common.{All, [], ap, get_or, of_z, pos, rules, subst, sym, to_z, w64, ℤ, ◌++◌, ◌∙◌, ◌∷◌, ◌≡◌}
use Rattle.vertical_design.proofs.Words.{Band, IsFlow, flow_in, flows_in, get_or_default, take_all, to_z-of_z}
use Rattle.vertical_design.proofs.FlowLimits.{flows-within, map_more}
use Rattle.stream_case.specs.declared.source.Source.TheVariants as source
use Rattle.vertical_design.proofs.flows.flows_in.Goals as goal

pub loop-band-preserved : goal.loop-band-preserved
loop-band-preserved c =
    let low = to_z w64 (of_z w64 c.args.low) in
    let high = to_z w64 (of_z w64 c.args.high) in
    let none : Band = record { source = source.Stream 0; from = pos 0; to = pos 0; cp = pos 0 } in
    let bands = c.args.bands.now in
    let i = c.loop-band.band-index in
    let s = get_or bands i none in
    let before = c.loop-band.flows.items in
    let flow : to_z w64 (of_z w64 c.flow_in.result) ≡ flow_in low high s
    = to_z-of_z w64 c.flow_in.result (search rules) ∙ c.flow_in.ensures in
    let added : c.push.new.self.items ≡ before ++ to_z w64 (of_z w64 c.flow_in.result) ∷ []
    = cc c.in_ok-push.ensures.items in
    let band_is = get_or_default bands i none s c.loop-band-test.true in
    let one_more = map_more (flow_in low high) bands i s c.loop-band-test.true band_is in
    added ∙ ap (λ (f : ℤ). before ++ f ∷ []) flow ∙ ap (λ fs. fs ++ flow_in low high s ∷ []) c.loop-band.invariant
    ∙ sym one_more

pub returns-clause-flows : goal.returns-clause-flows
returns-clause-flows c =
    let low = to_z-of_z w64 c.args.low (search rules) in
    let high = to_z-of_z w64 c.args.high (search rules) in
    c.loop-band.invariant
    ∙ (λ j. flows_in (low j) (high j) (take_all c.loop-band.band-index c.args.bands.now c.loop-band-test.false j))

pub returns-clause-each : goal.returns-clause-each
returns-clause-each c =
    let low = to_z w64 (of_z w64 c.args.low) in
    let high = to_z w64 (of_z w64 c.args.high) in
    let all_taken = take_all c.loop-band.band-index c.args.bands.now c.loop-band-test.false in
    let flows = flows-within low high c.args.bands.now c.requires.each in
    subst (All IsFlow) (sym (c.loop-band.invariant ∙ ap (flows_in low high) all_taken)) flows
