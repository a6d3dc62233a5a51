use Rattle.design_lines.proofs.ListLemmas.{map-enumerate_more}
use Rattle.design_lines.proofs.Words.{Branch, enumerate_from, own_branch, own_branches, take_all}
use Rattle.std.proofs.Common.{[], ap, map, sym, ◌++◌, ◌∙◌, ◌∷◌, ◌≡◌}
use Rattle.design_lines.proofs.branches.own_branches.Goals as goal

pub loop-index-preserved : goal.loop-index-preserved
loop-index-preserved c =
    let s = c.stream-item.result in
    let b : Branch = own_branch (c.loop-index.index, s) in
    let pushed : c.push.new.self.items ≡ c.loop-index.branches.items ++ b ∷ [] = cc c.in_ok-push.ensures.items in
    let one_more = map-enumerate_more own_branch c.as_slice-stream-items.result.now c.loop-index.index s
    c.loop-index-test.true c.stream-item.is in
    pushed ∙ ap (λ bs. bs ++ b ∷ []) c.loop-index.invariant ∙ sym one_more

pub returns : goal.returns
unfolding own_branches
returns c =
    let all = take_all c.loop-index.index c.as_slice-stream-items.result.now c.loop-index-test.false
    ∙ c.as_slice-stream-items.ensures in
    c.loop-index.invariant ∙ ap (λ ss. map own_branch (enumerate_from 0 ss)) all
