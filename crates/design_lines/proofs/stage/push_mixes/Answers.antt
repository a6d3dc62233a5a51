use Rattle.design_lines.proofs.DrawSteps.{mixes_more}
use Rattle.design_lines.proofs.Words.{mixes}
use Rattle.std.proofs.Common.{[], ap, append_assoc, arith, sym, ◌++◌, ◌+◌, ◌-◌, ◌∙◌, ◌∷◌, ◌≡◌}
use Rattle.design_lines.proofs.stage.push_mixes.Goals as goal
use Rattle.networks.specs.declared.network.Line.TheVariants as line

pub loop-index-preserved : goal.loop-index-preserved
loop-index-preserved c =
    let n = c.args.count in
    let i = c.loop-index.index in
    let to = c.args.behind + n + 1 + i in
    let rest = mixes (n - (i + 1)) (c.args.behind + n + 1 + (i + 1)) to (c.args.behind + 1 + (i + 1)) in
    let here = line.Mix c.loop-index.first (c.args.behind + 1 + i) to in
    let step = mixes_more (n - i) to c.loop-index.first (c.args.behind + 1 + i) (n - (i + 1))
    (c.args.behind + n + 1 + (i + 1)) (c.args.behind + 1 + (i + 1)) (omega arith) (omega arith) (omega arith) in
    let pushed : c.push.new.self.items ≡ c.loop-index.lines.items ++ here ∷ [] = cc c.in_ok-push.ensures.items in
    ap (λ ls. ls ++ rest) pushed ∙ append_assoc c.loop-index.lines.items (here ∷ []) rest
    ∙ ap (λ ls. c.loop-index.lines.items ++ ls) (sym step)
    ∙ c.loop-index.invariant
