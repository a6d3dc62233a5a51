use Rattle.pieces.proofs.Words.{declared_line, exchanger_of, exchangers_for, map-append, map-enumerate_more}
use Rattle.std.proofs.Common.{[], ap, map, sym, take, ◌++◌, ◌∙◌, ◌∷◌, ◌≡◌}
use Rattle.networks.specs.declared.network.Line.TheVariants as line
use Rattle.pieces.proofs.exchangers.exchanger_lines.Goals as goal

pub loop-number-preserved : goal.loop-number-preserved
loop-number-preserved c =
    let e = c.index-exchanges-number.result in
    let number = c.loop-number.number in
    let hot = c.args.hot.now in
    let cold = c.args.cold.now in
    let a = c.source_at.result in
    let b = c.source_at-in-loop-number.result in
    let pushed : c.push.new.self.items ≡ c.loop-number.lines.items ++ line.Exchanger c.in_ok-name.name a b e.heat ∷ []
    = cc c.in_ok-push.ensures.items in
    let made : line.Exchanger c.in_ok-name.name a b e.heat ≡ declared_line (exchanger_of hot cold (number, e)) =
    λ i.
    line.Exchanger (c.in_ok-name.ensures i) (c.source_at.ensures i) (c.source_at-in-loop-number.ensures i) e.heat in
    let more = map-enumerate_more (exchanger_of hot cold) c.args.exchanges.now number e c.loop-number-test.true
    c.index-exchanges-number.is in
    let next = ap (map declared_line) more
    ∙ map-append declared_line (exchangers_for hot cold (take number c.args.exchanges.now))
    (exchanger_of hot cold (number, e) ∷ []) in
    pushed ∙ (λ i. c.loop-number.invariant i ++ made i ∷ []) ∙ sym next
