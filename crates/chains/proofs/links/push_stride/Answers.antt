-- One step more.
use Rattle.chains.proofs.Words.{map-range_with_len_more, range_with_len, stride_link}
use Rattle.std.proofs.Common.{[], append_assoc, arith, map, ◌-◌, ◌/◌, ◌∷◌, ◌≡◌}
use Rattle.chains.proofs.links.push_stride.Goals as goal

pub loop-step-preserved : goal.loop-step-preserved
loop-step-preserved c =
    let link = stride_link c.args.group.now.first_node c.args.stride in
    let n = c.loop-step.step in
    let more = map-range_with_len_more link 0 n n (omega arith) in
    let joined = append_assoc c.args.links.now.items (map link (range_with_len 0 n)) (link n ∷ []) in
    cc (c.in_ok-push.ensures.items, more, joined)

pub returns : goal.returns
returns c =
    let all : c.loop-step.step ≡ (c.args.nodes - 1) / c.args.stride
    = omega (arith, c.loop-step-test.false, c.loop-step.auto.step-end) in
    rw (← all) c.loop-step.invariant
