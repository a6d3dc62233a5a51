-- One more place: the latent streams and the utilities there, and the streams on the interval below it.
use Rattle.grid.proofs.MakingSteps.{made-end, made-push}
use Rattle.grid.proofs.making.side_parts.Goals.{else-index-places, then-index-places+in_ok-push_streams}
use Rattle.std.proofs.Common.{FitsSigned, ap, arith, get_or, of_z, pos, rules, sym, to_z, w32, ℤ, ◌+◌, ◌∙◌, ◌≡◌}
use Rattle.grid.proofs.Words.{ints, length-AreStreams, to_z-of_z}
use Rattle.grid.proofs.making.side_parts.Goals as goal

pub push_latent-requires-clause-few : goal.push_latent-requires-clause-few
push_latent-requires-clause-few c = omega (arith, length-AreStreams c.args.streams.now c.requires.streams)

pub push_streams-requires-clause-few : goal.push_streams-requires-clause-few
push_streams-requires-clause-few c = omega (arith, length-AreStreams c.args.streams.now c.requires.streams)

pub push_streams-requires-clause-order : goal.push_streams-requires-clause-order
push_streams-requires-clause-order c =
    let places = c.args.places.now in
    let i = c.loop-index.index in
    let high : FitsSigned w32 (get_or places i (pos 0)) = search rules in
    let low : FitsSigned w32 (get_or places (i + 1) (pos 0)) = search rules in
    let falls = c.requires.falls i (i + 1) (pos 0) (omega arith) c.if-index-places.true in
    omega (arith, ints)

-- a place as it is read
read_is : (place : ℤ) → FitsSigned w32 place → place ≡ to_z w32 (of_z w32 place)
read_is place h = sym (to_z-of_z w32 place h)

pub loop-index-preserved : goal.loop-index-preserved
loop-index-preserved c =
    let places = c.args.places.now in
    let i = c.loop-index.index in
    let here_fits : FitsSigned w32 (get_or places i (pos 0)) = search rules in
    let here = read_is (get_or places i (pos 0)) here_fits in
    let latent = c.in_ok-push_latent.ensures in
    let level = c.in_ok-push_utilities.ensures in
    elim c.if-index-places.branch [
      | then-index-places+in_ok-push_streams w ↦
          let below_fits : FitsSigned w32 (get_or places (i + 1) (pos 0)) = search rules in
          let below = read_is (get_or places (i + 1) (pos 0)) below_fits in
          let items = ap (λ v. v.items) w.parts-is ∙ w.in_ok-push_streams.ensures in
          made-push c.args.streams.now c.args.utilities.now c.args.side places i _ c.loop-index-test.true here
          c.loop-index.parts.items c.push_latent.new.parts.items c.push_utilities.new.parts.items latent level _
          c.if-index-places.parts.items _ w.if-index-places.true below c.loop-index.invariant items
      | else-index-places w ↦
          made-end c.args.streams.now c.args.utilities.now c.args.side places i _ c.loop-index-test.true here
          c.loop-index.parts.items c.push_latent.new.parts.items c.push_utilities.new.parts.items latent level
          c.if-index-places.parts.items _ w.if-index-places.false c.loop-index.invariant
          (ap (λ v. v.items) w.parts-is)
    ]
