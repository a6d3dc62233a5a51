use Rattle.transport.proofs.Words.{Link, Net, flat_map, range_with_len, row_links}
use Rattle.std.proofs.Common.{List, [], ap, arith, ◌+◌, ◌∙◌, ◌≡◌}
use Rattle.transport.proofs.LoopLemmas.{range-step}
use Rattle.transport.proofs.pairs.pairs_of.Goals as goal

pub loop-hot-preserved : goal.loop-hot-preserved
loop-hot-preserved c =
    range-step (row_links c.args.reach.now) c.loop-hot.hot [] c.loop-hot.links.items c.push_row.new.links.items c.loop-hot.invariant c.in_ok-push_row.ensures

pub returns : goal.returns
returns c =
    let r = c.args.reach.now in
    let all : c.loop-hot.hot ≡ r.hots = omega (arith, c.loop-hot-test.false, c.loop-hot.auto.hot-end) in
    let net : List Link → Net = λ links. record { nodes = r.hots + r.colds; links = links } in
    ap net (c.from_vec.ensures ∙ c.loop-hot.invariant ∙ ap (λ n. flat_map (row_links r) (range_with_len 0 n)) all)
