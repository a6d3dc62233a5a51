use Rattle.std.proofs.Common.{Bool, [], ap, arith, sym, ◌++◌, ◌∙◌, ◌≡◌}
use Rattle.transport.proofs.Words.{append-nil, cons_if, flat_map, link_between, pair_link, range_with_len}
use Rattle.transport.proofs.LoopLemmas.{range-step}
use Rattle.transport.proofs.pairs.push_row.Goals.{else-reaches, then-reaches+in_ok-push}
use Rattle.transport.proofs.pairs.push_row.Goals as goal

pub loop-cold-preserved : goal.loop-cold-preserved
loop-cold-preserved c =
    let r = c.args.reach.now in
    let a = c.args.hot in
    let b = c.loop-cold.cold in
    let after = c.loop-cold.links.items in
    let pushes = λ (t : Bool). after ++ cons_if t (pair_link r a b) [] in
    range-step (link_between r a) b _ after _ c.loop-cold.invariant (elim c.if-reaches.branch [
      | then-reaches+in_ok-push w ↦
          ap (λ v. v.items) w.links-is ∙ w.in_ok-push.ensures.items
          ∙ ap pushes (sym w.if-reaches.true ∙ c.reaches.ensures)
      | else-reaches w ↦
          ap (λ v. v.items) w.links-is ∙ sym (append-nil after) ∙ ap pushes (sym w.if-reaches.false ∙ c.reaches.ensures)
    ])

pub returns : goal.returns
returns c =
    let all : c.loop-cold.cold ≡ c.args.reach.now.colds
    = omega (arith, c.loop-cold-test.false, c.loop-cold.auto.cold-end) in
    c.loop-cold.invariant ∙ ap (λ n. c.args.links.now.items ++ flat_map (link_between c.args.reach.now c.args.hot) (range_with_len 0 n)) all
