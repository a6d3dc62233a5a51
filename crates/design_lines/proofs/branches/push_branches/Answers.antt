use Rattle.design_lines.proofs.ListLemmas.{numbered_more}
use Rattle.design_lines.proofs.Words.{Branch, branch_name, numbered}
use Rattle.std.proofs.Common.{[], ap, append_assoc, arith, sym, ◌++◌, ◌+◌, ◌-◌, ◌∙◌, ◌∷◌, ◌≡◌}
use Rattle.design_lines.proofs.branches.push_branches.Goals as goal

pub loop-number-preserved : goal.loop-number-preserved
loop-number-preserved c =
    let first = c.args.first in
    let number = c.loop-number.number in
    let made : Branch = record { name = branch_name number; stream = c.args.stream } in
    let named : c.push.new.self.items
    ≡ c.loop-number.branches.items ++ record { name = c.in_ok-name.name; stream = c.args.stream } ∷ []
    =
    cc c.in_ok-push.ensures.items in
    let pushed : c.push.new.self.items ≡ c.loop-number.branches.items ++ made ∷ [] = named
    ∙ ap (λ n. c.loop-number.branches.items ++ record { name = n; stream = c.args.stream } ∷ []) c.in_ok-name.ensures in
    let more = numbered_more first c.args.stream (number - first) number (omega arith) in
    let next : number - first + 1 ≡ number + 1 - first = omega arith in
    pushed ∙ ap (λ bs. bs ++ made ∷ []) c.loop-number.invariant
    ∙ append_assoc c.args.branches.now.items (numbered first c.args.stream (number - first))
    (made ∷ []) ∙ ap (λ bs. c.args.branches.now.items ++ bs) (sym more ∙ ap (numbered first c.args.stream) next)
