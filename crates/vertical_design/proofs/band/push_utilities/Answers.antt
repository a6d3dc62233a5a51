-- The utility of the side has its band.
use Rattle.vertical_design.proofs.Words.{Band, Bool, if◌then◌else◌, item_there, to_z-of_z, utility_band, utility_from, utility_to}
use Rattle.std.proofs.Common.{None, Some, [], ap, of_z, pos, rules, sym, to_z, w64, ◌++◌, ◌∙◌, ◌∷◌, ◌≡◌}
use Rattle.vertical_design.proofs.BandSources.{band_more, band_skip, utility_band_of}
use Rattle.stream_case.specs.declared.source.Source.TheVariants as source
use Rattle.vertical_design.proofs.band.push_utilities.Goals as goal

pub loop-number-preserved-then-not-is_on : goal.loop-number-preserved-then-not-is_on
loop-number-preserved-then-not-is_on c =
    let streams = c.args.case.now.streams in
    let side = c.args.side in
    let number = c.loop-number.number in
    let u = c.utility-item.result in
    let (within, is) = item_there number u c.as_slice-utility-items.ensures c.loop-number-test.true c.utility-item.is in
    band_skip (utility_band side streams) c.args.bands.now.items c.args.case.now.utilities number u within is
    c.loop-number.bands.items
    (ap (λ (b : Bool). if b then Some (utility_band_of side streams number) else None)
    (sym c.is_on.ensures ∙ c.if-not-is_on.true))
    c.loop-number.invariant

pub loop-number-preserved : goal.loop-number-preserved
loop-number-preserved c =
    let streams = c.args.case.now.streams in
    let side = c.args.side in
    let number = c.loop-number.number in
    let u = c.utility-item.result in
    let before = c.loop-number.bands.items in
    let band = utility_band_of side streams number in
    let (within, is) = item_there number u c.as_slice-utility-items.ensures c.loop-number-test.true c.utility-item.is in
    let from : to_z w64 (of_z w64 c.utility_range-from.result.0) ≡ band.from
    = to_z-of_z w64 c.utility_range-from.result.0 (search rules)
    ∙ c.utility_range-from.ensures.from ∙ ap (utility_from side) c.as_slice.ensures in
    let to : to_z w64 (of_z w64 c.utility_range-from.result.1) ≡ band.to
    = to_z-of_z w64 c.utility_range-from.result.1 (search rules)
    ∙ c.utility_range-from.ensures.to ∙ ap (utility_to side) c.as_slice.ensures in
    let raw : Band = record {
      source = source.Utility number;
      from = to_z w64 (of_z w64 c.utility_range-from.result.0);
      to =
          to_z w64 (of_z w64 c.utility_range-from.result.1);
      cp = pos 1;
    } in
    let same : raw ≡ band = λ j. record { source = source.Utility number; from = from j; to = to j; cp = pos 1 } in
    let added : c.push.new.self.items ≡ before ++ raw ∷ [] = cc c.in_ok-push.ensures.items in
    let pushed = added ∙ ap (λ (x : Band). before ++ x ∷ []) same in
    band_more (utility_band side streams) c.args.bands.now.items c.args.case.now.utilities number u within is before
    c.push.new.self.items band
    (ap (λ (b : Bool). if b then Some band else None) (sym c.is_on.ensures ∙ c.if-not-is_on.false))
    c.loop-number.invariant pushed
