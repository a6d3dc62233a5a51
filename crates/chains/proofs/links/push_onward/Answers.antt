-- One stride more.
use Rattle.chains.proofs.StrideLemmas.{links_within, links_within-none, stride-fits, stride-misses}
use Rattle.chains.proofs.links.push_onward.Goals.{else-count-room, then-count-room+in_ok-push_stride}
use Rattle.chains.proofs.Words.{STRIDES, append-nil, at_drop_all, onward}
use Rattle.std.proofs.Common.{ap, drop, get_or, refl, sym, ℕ, ◌++◌, ◌+◌, ◌∙◌}
use Rattle.chains.proofs.links.push_onward.Goals as goal

pub loop-stride-init : goal.loop-stride-init
unfolding onward
loop-stride-init c = refl

pub loop-stride-preserved : goal.loop-stride-preserved
loop-stride-preserved c =
    let first = c.args.group.now.first_node in
    let nodes = c.args.nodes in
    let i = c.loop-stride.stride-index in
    let stride = get_or STRIDES i 0 in
    let room = c.loop-stride.room in
    let within = c.loop-stride-test.true in
    let before = c.loop-stride.links.items in
    let after = c.if-count-room.links.items in
    let whole = c.args.links.now.items ++ onward first nodes c.args.room in
    let left = λ (n : ℕ). after ++ links_within first nodes n (drop (i + 1) STRIDES) in
    elim c.if-count-room.branch [
      | then-count-room+in_ok-push_stride w ↦
          let pushed = ap (λ v. v.items) w.links-is ∙ w.in_ok-push_stride.ensures in
          ap left w.room-is
          ∙ stride-fits first nodes STRIDES i stride room within refl before whole after c.loop-stride.invariant
          w.if-count-room.true pushed
      | else-count-room w ↦
          ap left w.room-is
          ∙ stride-misses first nodes STRIDES i stride room within refl before whole after c.loop-stride.invariant
          w.if-count-room.false (ap (λ v. v.items) w.links-is)
    ]

pub returns : goal.returns
returns c =
    let first = c.args.group.now.first_node in
    let nodes = c.args.nodes in
    let room = c.loop-stride.room in
    let none = at_drop_all (links_within first nodes room) STRIDES c.loop-stride.stride-index c.loop-stride-test.false
    ∙ links_within-none first nodes room in
    sym (append-nil c.loop-stride.links.items) ∙ ap (λ links. c.loop-stride.links.items ++ links) (sym none)
    ∙ c.loop-stride.invariant
