use Rattle.network_audit.proofs.Words.{Gives, Step, Sum, enumerate_from, err_from_is_err_and, first_finding, length-enumerate_from, plus, price_in, prices_in}
use Rattle.network_audit.proofs.Words.{times, value_formed, whole}
use Rattle.network_audit.proofs.HeatLemmas.{price-here}
use Rattle.network_audit.proofs.SumSteps.{IsPriced, cost-all, cost-is, cost-more, cost-not, priced-none}
use Rattle.network_audit.proofs.ItemLemmas.{found-formed, found-not_formed}
use Rattle.std.proofs.Common.{[], ap, arith, length, map, subst, sym, take, ◌+◌, ◌<◌, ◌∙◌, ◌∷◌, ◌≡◌, ◌≤◌}
use Rattle.network_audit.proofs.balance.cost_of.Goals as goal

pub loop-index-init : goal.loop-index-init
loop-index-init c = record {
  few = omega (arith, ap (λ (s : Sum). s.steps) c.after-cost.ensures);
  priced =
      subst (λ (s : Sum). IsPriced c.args.before [] s.total s.steps) (sym c.after-cost.ensures) (priced-none c.args.before);
}

pub returns-in_default : goal.returns-in_default
unfolding prices_in
returns-in_default c =
    let n = c.loop-index.index in
    let us = c.args.utilities.now in
    let u = c.index-utilities-index.result in
    let h = c.index-heats-index.result in
    let total = c.loop-index.cost.total in
    let steps = c.loop-index.cost.steps in
    let has = price-here c.args.heats.now us n u h c.loop-index-test.true c.requires.room c.index-utilities-index.is c.index-heats-index.is in
    let within : n < length (enumerate_from 0 us) = omega (arith, c.loop-index-test.true, length-enumerate_from 0 us) in
    let gives : Gives c.times.result (times (whole u.price) h)
    = subst (λ p. Gives c.times.result (times p h)) c.price.ensures c.times.ensures in
    cost-not (price_in c.args.heats.now) c.args.before (enumerate_from 0 us) n (n, u) (times (whole u.price) h) total steps
    (steps + 1) within has c.loop-index.invariant.priced (λ at. found-not_formed at (steps + 1) (times (whole u.price) h) c.times.result
    (Step at (steps + 2) (plus total (times (whole u.price) h)) ∷ []) c.in_default.is gives)

pub returns-in_err-cost : goal.returns-in_err-cost
unfolding prices_in
returns-in_err-cost c =
    let n = c.loop-index.index in
    let us = c.args.utilities.now in
    let u = c.index-utilities-index.result in
    let h = c.index-heats-index.result in
    let total = c.loop-index.cost.total in
    let steps = c.loop-index.cost.steps in
    let has = price-here c.args.heats.now us n u h c.loop-index-test.true c.requires.room c.index-utilities-index.is c.index-heats-index.is in
    let within : n < length (enumerate_from 0 us) = omega (arith, c.loop-index-test.true, length-enumerate_from 0 us) in
    let gives : Gives c.times.result (times (whole u.price) h)
    = subst (λ p. Gives c.times.result (times p h)) c.price.ensures c.times.ensures in
    let value : c.in-Some.price ≡ times (whole u.price) h = value_formed _ _ _ c.in-Some.is gives in
    let two : steps + 2 ≡ steps + 1 + 1 = omega arith in
    let p = err_from_is_err_and c.from_residual.result c.from_residual.ensures.1 in
    rw (p.1, p.2) (cost-not (price_in c.args.heats.now) c.args.before (enumerate_from 0 us) n (n, u)
    (times (whole u.price) h) total steps _ within has c.loop-index.invariant.priced
    (λ at. found-formed at (steps + 1) (times (whole u.price) h) c.in-Some.price c.times.result
    (Step at (steps + 2) (plus total (times (whole u.price) h)) ∷ []) c.in-Some.is gives
    ∙ (λ i. first_finding (Step at (two i) (plus total (sym value i)) ∷ [])) ∙ c.in_err-cost.ensures at))

pub loop-index-preserved : goal.loop-index-preserved
loop-index-preserved c =
    let n = c.loop-index.index in
    let us = c.args.utilities.now in
    let u = c.index-utilities-index.result in
    let h = c.index-heats-index.result in
    let total = c.loop-index.cost.total in
    let steps = c.loop-index.cost.steps in
    let has = price-here c.args.heats.now us n u h c.loop-index-test.true c.requires.room c.index-utilities-index.is c.index-heats-index.is in
    let within : n < length (enumerate_from 0 us) = omega (arith, c.loop-index-test.true, length-enumerate_from 0 us) in
    let gives : Gives c.times.result (times (whole u.price) h)
    = subst (λ p. Gives c.times.result (times p h)) c.price.ensures c.times.ensures in
    let value : c.in-Some.price ≡ times (whole u.price) h = value_formed _ _ _ c.in-Some.is gives in
    let two : steps + 2 ≡ steps + 1 + 1 = omega arith in
    let is : c.in_ok-cost.cost ≡ record { total = plus total (times (whole u.price) h); steps = steps + 2 }
    = c.in_ok-cost.ensures.1
    ∙ (λ i. record { total = plus total (value i); steps = sym two i }) in record {
      few = omega (arith, ap (λ (s : Sum). s.steps) is, c.loop-index.invariant.few);
      priced =
          subst (λ (s : Sum). IsPriced c.args.before (map (price_in c.args.heats.now) (take (n + 1) (enumerate_from 0 us))) s.total s.steps) (sym is)
          (cost-more (price_in c.args.heats.now) c.args.before (enumerate_from 0 us) n (n, u)
          (times (whole u.price) h) total steps within has c.loop-index.invariant.priced
          (λ at. found-formed at (steps + 1) (times (whole u.price) h) c.in-Some.price c.times.result
          (Step at (steps + 2) (plus total (times (whole u.price) h)) ∷ []) c.in-Some.is gives
          ∙ (λ i. first_finding (Step at (two i) (plus total (sym value i)) ∷ [])) ∙ c.in_ok-cost.ensures.0 at));
    }

pub returns : goal.returns
unfolding prices_in
returns c =
    let us = c.args.utilities.now in
    let f = price_in c.args.heats.now in
    let end : length (enumerate_from 0 us) ≤ c.loop-index.index
    = omega (arith, c.loop-index-test.false, length-enumerate_from 0 us) in
    let all = cost-all f c.args.before (enumerate_from 0 us) c.loop-index.index c.loop-index.cost.total c.loop-index.cost.steps end
    c.loop-index.invariant.priced in (all.passed, cost-is c.args.before (map f (enumerate_from 0 us)) c.loop-index.cost.total c.loop-index.cost.steps all)
