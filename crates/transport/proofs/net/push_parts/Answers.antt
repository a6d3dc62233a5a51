use Rattle.transport.proofs.Words.{blank, links_of_parts, spare_link, whole_link}
use Rattle.std.proofs.Common.{[], ap, ap₂, get_or, sym, take, ◌++◌, ◌+◌, ◌∙◌, ◌∷◌}
use Rattle.transport.proofs.LoopLemmas.{links_of_parts-more, two_more}
use Rattle.transport.proofs.net.push_parts.Goals as goal

pub loop-index-preserved : goal.loop-index-preserved
loop-index-preserved c =
    let side = c.args.side in
    let first = c.args.first in
    let parts = c.args.parts.now in
    let i = c.loop-index.index in
    let p = get_or parts i blank in
    let old = c.loop-index.links.items in
    let made = links_of_parts side c.args.ends first (take i parts) in
    let grown = c.in_ok-push-2.ensures.items
    ∙ ap₂ (λ xs m. xs ++ m ∷ []) (c.in_ok-push.ensures.items ∙ ap (λ l. old ++ l ∷ []) c.whole_link.ensures) c.spare_link.ensures in
    two_more c.args.links.now.items made old _ (whole_link side c.args.ends (first + i) p) (spare_link side c.args.ends (first + i) p) c.loop-index.invariant
    grown ∙ ap (λ xs. c.args.links.now.items ++ xs) (sym (links_of_parts-more side c.args.ends first parts i c.loop-index-test.true))
