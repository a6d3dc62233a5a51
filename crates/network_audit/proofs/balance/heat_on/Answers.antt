use Rattle.network_audit.proofs.Words.{Sum, enumerate_from, err_from_is_err_and, filter_map, heat_on_in, heats_on_in, length-enumerate_from, plus}
use Rattle.network_audit.proofs.HeatLemmas.{heat-here, heat-other}
use Rattle.network_audit.proofs.SumSteps.{IsSummed, sum-all, sum-more, sum-not, sum-same, summed-none, total-is}
use Rattle.network_audit.proofs.balance.heat_on.Goals.{else-is_on, then-is_on+in_ok-sum}
use Rattle.std.proofs.Common.{[], ap, arith, length, subst, sym, take, ◌+◌, ◌<◌, ◌∙◌, ◌≡◌, ◌≤◌}
use Rattle.network_audit.proofs.balance.heat_on.Goals as goal

pub loop-index-init : goal.loop-index-init
loop-index-init c = record {
  few = omega (arith, ap (λ (s : Sum). s.steps) c.after-sum.ensures);
  summed =
      subst (λ (s : Sum). IsSummed c.args.before [] s.total s.steps) (sym c.after-sum.ensures) (summed-none c.args.before);
}

pub returns-in_err-sum : goal.returns-in_err-sum
unfolding heats_on_in
returns-in_err-sum c =
    let n = c.loop-index.index in
    let us = c.args.utilities.now in
    let u = c.index-utilities-index.result in
    let h = c.index-heats-index.result in
    let has = heat-here c.args.side c.args.heats.now us n u h c.loop-index-test.true c.requires.room c.index-utilities-index.is c.index-heats-index.is
    (sym c.is_on.ensures ∙ c.if-is_on.true) in
    let within : n < length (enumerate_from 0 us) = omega (arith, c.loop-index-test.true, length-enumerate_from 0 us) in
    let p = err_from_is_err_and c.from_residual.result c.from_residual.ensures.1 in
    rw (p.1, p.2) (sum-not (heat_on_in c.args.side c.args.heats.now) c.args.before (enumerate_from 0 us) n
    (n, u) h c.loop-index.sum.total c.loop-index.sum.steps _ within has c.loop-index.invariant.summed c.in_err-sum.ensures)

pub loop-index-preserved : goal.loop-index-preserved
loop-index-preserved c =
    let n = c.loop-index.index in
    let us = c.args.utilities.now in
    let u = c.index-utilities-index.result in
    let numbers = filter_map (heat_on_in c.args.side c.args.heats.now) (take (n + 1) (enumerate_from 0 us)) in
    let within : n < length (enumerate_from 0 us) = omega (arith, c.loop-index-test.true, length-enumerate_from 0 us) in
    elim c.if-is_on.branch [
      | then-is_on+in_ok-sum w ↦
          let h = w.index-heats-index.result in
          let has = heat-here c.args.side c.args.heats.now us n u h c.loop-index-test.true c.requires.room c.index-utilities-index.is w.index-heats-index.is
          (sym c.is_on.ensures ∙ w.if-is_on.true) in
          let is : c.if-is_on.sum ≡ record { total = plus c.loop-index.sum.total h; steps = c.loop-index.sum.steps + 1 }
          = w.sum-is ∙ w.in_ok-sum.ensures.1 in
          record {
            few = omega (arith, ap (λ (s : Sum). s.steps) is, c.loop-index.invariant.few);
            summed = subst (λ (s : Sum). IsSummed c.args.before numbers s.total s.steps) (sym is)
                (sum-more (heat_on_in c.args.side c.args.heats.now) c.args.before (enumerate_from 0 us) n
                (n, u) h c.loop-index.sum.total c.loop-index.sum.steps within has c.loop-index.invariant.summed w.in_ok-sum.ensures.0);
          }
      | else-is_on w ↦
          let none = heat-other c.args.side c.args.heats.now us n u c.loop-index-test.true c.index-utilities-index.is
          (sym c.is_on.ensures ∙ w.if-is_on.false) in record {
            few = omega (arith, ap (λ (s : Sum). s.steps) w.sum-is, c.loop-index.invariant.few);
            summed = subst (λ (s : Sum). IsSummed c.args.before numbers s.total s.steps) (sym w.sum-is)
                (sum-same (heat_on_in c.args.side c.args.heats.now) c.args.before (enumerate_from 0 us) n
                (n, u) c.loop-index.sum.total c.loop-index.sum.steps within none c.loop-index.invariant.summed);
          }
    ]

pub returns : goal.returns
unfolding heats_on_in
returns c =
    let us = c.args.utilities.now in
    let f = heat_on_in c.args.side c.args.heats.now in
    let end : length (enumerate_from 0 us) ≤ c.loop-index.index
    = omega (arith, c.loop-index-test.false, length-enumerate_from 0 us) in
    let all = sum-all f c.args.before (enumerate_from 0 us) c.loop-index.index c.loop-index.sum.total c.loop-index.sum.steps end
    c.loop-index.invariant.summed in
    let total = total-is c.args.before (filter_map f (enumerate_from 0 us)) c.loop-index.sum.total c.loop-index.sum.steps all in
    (all.passed, λ i. record { total = total i; steps = all.steps_is i })
