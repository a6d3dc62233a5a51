use Rattle.network_text.proofs.Missing.{count-more, few_before, first-found, missing-at, none-found}
use Rattle.network_text.proofs.given.Given.first_missing.Goals.{else-is_exchanger, then-is_exchanger}
use Rattle.network_text.proofs.Words.{KeyedNetwork, exchangers_of, misses_pass}
use Rattle.std.proofs.Common.{ap, arith, below_more, false, length, refl, sym, true, ◌∙◌, ◌≡◌}
use Rattle.network_text.proofs.given.Given.first_missing.Goals as goal

pub loop-index-init : goal.loop-index-init
unfolding exchangers_of
loop-index-init c = record { count = refl; none = λ k within. absurd (omega (arith, within)) }

pub returns-then-misses_side-clause-index : goal.returns-then-misses_side-clause-index
returns-then-misses_side-clause-index c =
    let lines = c.deref-line-items.ensures.value ∙ ap (λ (n : KeyedNetwork). n.network.lines) c.self.view_is in
    let within = rw lines at c.loop-index-test.true in
    let here = rw lines at c.line-item.is in
    let missing = missing-at c.args.self.now.network c.loop-index.index c.loop-index.exchanger c.line-item.result within here c.loop-index.invariant.count in
    sym (first-found c.args.self.now.network c.loop-index.index within c.loop-index.invariant.none (missing ∙ sym c.misses_side.ensures ∙ c.if-misses_side.true))

pub overflow_add-exchanger : goal.overflow_add-exchanger
overflow_add-exchanger c =
    let lines = c.deref-line-items.ensures.value ∙ ap (λ (n : KeyedNetwork). n.network.lines) c.self.view_is in
    let within = rw lines at c.loop-index-test.true in
    let few = few_before c.args.self.now.network.lines c.loop-index.index within in
    let short = ap length c.deref-line-items.ensures.value in
    omega (arith, few, c.loop-index.invariant.count, c.loop-index-test.true, short, c.self.invariant.0.few_lines)

pub loop-index-preserved : goal.loop-index-preserved
loop-index-preserved c =
    let n = c.args.self.now.network in
    let l = c.line-item.result in
    let lines = c.deref-line-items.ensures.value ∙ ap (λ (n : KeyedNetwork). n.network.lines) c.self.view_is in
    let within = rw lines at c.loop-index-test.true in
    let here = rw lines at c.line-item.is in
    let missing = missing-at n c.loop-index.index c.loop-index.exchanger l within here c.loop-index.invariant.count in
    let none = below_more (λ k. misses_pass n k ≡ false) c.loop-index.index c.loop-index.invariant.none
    (missing ∙ sym c.misses_side.ensures ∙ c.if-misses_side.false) in elim c.if-is_exchanger.branch [
      | then-is_exchanger w ↦
          let more = count-more n.lines c.loop-index.index l true within here (sym c.is_exchanger.ensures ∙ w.if-is_exchanger.true) in
          record { count = omega (arith, more, c.loop-index.invariant.count, w.exchanger-is); none = none }
      | else-is_exchanger w ↦
          let more = count-more n.lines c.loop-index.index l false within here (sym c.is_exchanger.ensures ∙ w.if-is_exchanger.false) in
          record { count = omega (arith, more, c.loop-index.invariant.count, w.exchanger-is); none = none }
    ]

pub returns-clause-index : goal.returns-clause-index
returns-clause-index c =
    let lines = c.deref-line-items.ensures.value ∙ ap (λ (n : KeyedNetwork). n.network.lines) c.self.view_is in
    let past = rw lines at c.loop-index-test.false in
    sym (none-found c.args.self.now.network c.loop-index.index past c.loop-index.invariant.none)
