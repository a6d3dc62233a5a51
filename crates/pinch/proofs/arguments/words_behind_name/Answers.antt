use Rattle.std.proofs.Common.{ap, map, string_bytes, sym, ◌∙◌}
use Rattle.pinch.proofs.Words.{YieldsList-end, YieldsList-from_skip, YieldsList-from_vec, into_iter_items, map-id, skip_count, skip_source}
use Rattle.pinch.proofs.arguments.words_behind_name.Goals as goal

pub returns : goal.returns
returns c =
    let texts = c.args.texts in
    let iterator = c.into_iter-text-iterator in
    let source = ap skip_source iterator.ensures.into_iter_gives ∙ c.skip-text-items.ensures.source in
    let count = ap skip_count iterator.ensures.into_iter_gives ∙ c.skip-text-items.ensures.count in
    let all = YieldsList-from_vec {s = skip_source iterator.result} (into_iter_items texts) (ap into_iter_items source)
    (ap (λ it. it.rest.len) source ∙ texts.rest.ok.0) in
    let end =
    YieldsList-end
    (YieldsList-from_skip 1 all count) c.loop-text.yielded c.loop-text.text-iterator c.loop-text.yielded_by c.next.result c.next.new.self c.in-None.is
    c.next.ensures.steps in
    c.loop-text.invariant ∙ ap (map string_bytes) (sym (map-id c.loop-text.yielded) ∙ end.0)
