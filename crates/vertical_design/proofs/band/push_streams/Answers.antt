-- A stream of the side has its band.
use Rattle.std.proofs.Common.{None, Some, [], ap, arith, of_z, rules, sym, to_z, w32, w64, ◌++◌, ◌∙◌, ◌∷◌, ◌≡◌}
use Rattle.vertical_design.proofs.Words.{Band, Bool, heat_at, high_end, if◌then◌else◌, length-AreStreams, low_end, stream_band, to_z-of_z}
use Rattle.vertical_design.proofs.BandSources.{band_more, band_of, band_skip}
use Rattle.stream_case.specs.declared.source.Source.TheVariants as source
use Rattle.vertical_design.proofs.band.push_streams.Goals as goal

pub overflow_cast-number : goal.overflow_cast-number
overflow_cast-number c = omega (arith, length-AreStreams c.args.streams.now c.requires.streams)

pub loop-number-preserved-then-not-is_on : goal.loop-number-preserved-then-not-is_on
loop-number-preserved-then-not-is_on c =
    let s = c.index-streams-number.result in
    let streams = c.args.streams.now in
    let band = band_of c.args.side streams c.loop-number.number s in
    band_skip (stream_band c.args.side streams) c.args.bands.now.items streams c.loop-number.number s
    c.loop-number-test.true c.index-streams-number.is c.loop-number.bands.items
    (ap (λ (b : Bool). if b then Some band else None) (sym c.is_on.ensures ∙ c.if-not-is_on.true))
    c.loop-number.invariant

pub loop-number-preserved : goal.loop-number-preserved
loop-number-preserved c =
    let s = c.index-streams-number.result in
    let streams = c.args.streams.now in
    let number = c.loop-number.number in
    let side = c.args.side in
    let before = c.loop-number.bands.items in
    let band = band_of side streams number s in
    let from : to_z w64 (of_z w64 c.heat_at-from.result) ≡ band.from
    = to_z-of_z w64 c.heat_at-from.result (search rules) ∙ c.heat_at-from.ensures
    ∙ ap (heat_at side streams) (to_z-of_z w32 c.low_end.result (search rules) ∙ c.low_end.ensures.value) in
    let to : to_z w64 (of_z w64 c.heat_at-to.result) ≡ band.to
    = to_z-of_z w64 c.heat_at-to.result (search rules) ∙ c.heat_at-to.ensures
    ∙ ap (heat_at side streams) (to_z-of_z w32 c.high_end.result (search rules) ∙ c.high_end.ensures.value) in
    let cp : to_z w64 (of_z w64 s.cp) ≡ s.cp = to_z-of_z w64 s.cp (search rules) in
    let raw : Band = record {
      source = source.Stream number;
      from = to_z w64 (of_z w64 c.heat_at-from.result);
      to = to_z w64 (of_z w64 c.heat_at-to.result);
      cp = to_z w64 (of_z w64 s.cp);
    } in
    let same : raw ≡ band = λ j. record { source = source.Stream number; from = from j; to = to j; cp = cp j } in
    let added : c.push.new.self.items ≡ before ++ raw ∷ [] = cc c.in_ok-push.ensures.items in
    let pushed = added ∙ ap (λ (x : Band). before ++ x ∷ []) same in
    band_more (stream_band side streams) c.args.bands.now.items streams number s c.loop-number-test.true
    c.index-streams-number.is before c.push.new.self.items band
    (ap (λ (b : Bool). if b then Some band else None) (sym c.is_on.ensures ∙ c.if-not-is_on.false))
    c.loop-number.invariant pushed
