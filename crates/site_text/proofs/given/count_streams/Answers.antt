-- A plant more, of which there are few streams.
use Rattle.site_text.proofs.Plants.{count_on-more, count_on-take}
use Rattle.std.proofs.Common.{ap, arith, ◌+◌, ◌∙◌}
use Rattle.site_text.proofs.Words.{count_on}
use Rattle.site_text.proofs.given.count_streams.Goals as goal

pub overflow_add-count : goal.overflow_add-count
overflow_add-count c =
    let plant = c.plant-item.result in
    let i = c.loop-plant.plant-index in
    let value = c.count_on-count.ensures ∙ ap (count_on c.args.side) c.as_slice.ensures in
    let step = count_on-more c.args.side c.args.plants.now i plant c.loop-plant-test.true c.plant-item.is in
    let few = count_on-take c.args.side c.args.plants.now (i + 1) in
    omega (arith, c.requires c.args.side, value, step, few)

pub loop-plant-preserved : goal.loop-plant-preserved
loop-plant-preserved c =
    let plant = c.plant-item.result in
    let i = c.loop-plant.plant-index in
    let value = c.count_on-count.ensures ∙ ap (count_on c.args.side) c.as_slice.ensures in
    let step = count_on-more c.args.side c.args.plants.now i plant c.loop-plant-test.true c.plant-item.is in
    omega (arith, value, step)
