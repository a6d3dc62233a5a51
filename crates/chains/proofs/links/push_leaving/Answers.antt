-- One cold part more.
use Rattle.chains.proofs.FlatMaps.{enumerated-step}
use Rattle.chains.proofs.PartnerLemmas.{source_on}
use Rattle.chains.proofs.links.push_leaving.Goals.{else-is_permitted, then-is_permitted+in_ok-push}
use Rattle.chains.proofs.Words.{Cold, append-nil, blank, cons_if, depth_of, get_or-map, get_or_default, is_permitted, leaving_at}
use Rattle.chains.proofs.Words.{length-map, open_link, side_of, source_index}
use Rattle.std.proofs.Common.{Bool, Some, [], ap, ap₂, arith, false, get_or, length, subst, sym, ◌++◌, ◌+◌, ◌<◌, ◌∙◌, ◌∷◌, ◌≡◌}
use Rattle.chains.proofs.links.push_leaving.Goals as goal

pub overflow_add-node : goal.overflow_add-node
overflow_add-node c =
    let cold = c.args.parts.now.cold in
    let depth = depth_of c.args.places.now c.args.parts.now.hot cold in
    let each = ap length c.requires.depths ∙ length-map cold depth in
    let within = subst (λ xs. c.loop-index.index < length xs) c.as_slice-part-items.ensures c.loop-index-test.true in
    let small = c.requires.small c.loop-index.index 0 (omega (arith, each, within)) in
    omega (arith, c.requires.node, small)

pub is_permitted-requires : goal.is_permitted-requires
is_permitted-requires c =
    let case = c.args.case.now in
    let slice = c.as_slice-part-items in
    let i = c.loop-index.index in
    let within = subst (λ xs. i < length xs) slice.ensures c.loop-index-test.true in
    let p = get_or slice.result.now i blank in
    let is = get_or_default slice.result.now i blank p c.loop-index-test.true
    ∙ ap (λ xs. get_or xs i p) slice.ensures in
    record {
      complete = c.requires.complete;
      source =
          source_on case Cold p.source
          (subst (λ q. side_of case q.source ≡ Some Cold) (sym is) (c.requires.cold i p within));
      count = ap length c.deref.ensures.value ∙ c.in_ok-permitted.ensures.count;
    }

pub loop-index-preserved : goal.loop-index-preserved
loop-index-preserved c =
    let case = c.args.case.now in
    let places = c.args.places.now in
    let hot = c.args.parts.now.hot in
    let cold = c.args.parts.now.cold in
    let g = c.args.group.now in
    let i = c.loop-index.index in
    let slice = c.as_slice-part-items in
    let within = subst (λ xs. i < length xs) slice.ensures c.loop-index-test.true in
    let p = get_or slice.result.now i blank in
    let is = get_or_default slice.result.now i blank p c.loop-index-test.true
    ∙ ap (λ xs. get_or xs i p) slice.ensures in
    let side = subst (λ q. side_of case q.source ≡ Some Cold) (sym is) (c.requires.cold i p within) in
    let after = c.loop-index.links.items in
    let test : c.is_permitted.result ≡ is_permitted case g p.source
    = c.is_permitted.ensures ∙ ap (λ xs. get_or xs (source_index case p.source) false) c.deref.ensures.value
    ∙ c.in_ok-permitted.ensures.each p.source side in
    let depth = depth_of places hot cold in
    let out = open_link (g.first_node + depth p) (length hot + i) in
    let pushes = λ (b : Bool). after ++ cons_if b out [] in
    let deep : get_or c.args.depths.now i 0 ≡ depth p = ap (λ xs. get_or xs i 0) c.requires.depths
    ∙ (get_or-map depth cold i p 0 within ∙ ap depth (sym is)) in
    elim c.if-is_permitted.branch [
      | then-is_permitted+in_ok-push w ↦
          let link = w.open_link.ensures ∙ ap₂ (λ r n. open_link (g.first_node + r) (n + i)) deep c.len-hots.ensures in
          let pushed = ap (λ v. v.items) w.links-is ∙ w.in_ok-push.ensures.items ∙ ap (λ l. after ++ l ∷ []) link
          ∙ ap pushes (sym w.if-is_permitted.true ∙ test) in
          enumerated-step cold i p _ after _ within is (leaving_at case depth (length hot) g) c.loop-index.invariant
          pushed
      | else-is_permitted w ↦
          enumerated-step cold i p _ after _ within is (leaving_at case depth (length hot) g) c.loop-index.invariant
          (ap (λ v. v.items) w.links-is ∙ sym (append-nil after) ∙ ap pushes (sym w.if-is_permitted.false ∙ test))
    ]
