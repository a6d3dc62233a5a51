use Rattle.flow_net.proofs.Words.{All-nil, All-push, All-weaker, Any, Any-push, Arc, IsBottleneck, Problem, Routing, by_lt_z, clamps, get_or_append_left}
use Rattle.flow_net.proofs.Words.{int_min, ints, length_push, residual_of, take_all, take_more, to_z-of_z}
use Rattle.std.proofs.Common.{List, [], arith, false, inl, inr, of_z, pos, rules, subst, sym, take, to_z, w64, ℤ, ◌++◌, ◌-ℤ◌, ◌<ℤ◌, ◌∙◌, ◌∷◌, ◌≡◌, ◌≤ℤ◌, ◌⊎◌}
use Rattle.flow_net.proofs.routing.Routing.bottleneck.Goals as goal

pub loop-arc-init : goal.loop-arc-init
loop-arc-init c =
    record {
      some = omega (arith, ints);
      limited = omega (arith, ints);
      residual = All-nil _;
      reached = inl (omega (arith, ints));
    }

-- the least of what the first arcs can carry and of what an arc more can
bottleneck-more : (p : Problem) (r : Routing) (path : List Arc) (a : Arc) (before m : ℤ)
    → pos 0 <ℤ residual_of p.net.now.links r.flow.items a
    → m ≡ int_min before (residual_of p.net.now.links r.flow.items a) → IsBottleneck p r path before
    → IsBottleneck p r (path ++ a ∷ []) m
bottleneck-more p r path a before m positive is h = record {
  some = omega (arith, ints, clamps, is);
  limited = omega (arith, ints, clamps, is);
  residual =
      let still = All-weaker (λ b. before ≤ℤ residual_of p.net.now.links r.flow.items b)
      (λ b. m ≤ℤ residual_of p.net.now.links r.flow.items b) (λ b k. omega (arith, ints, clamps, is, k)) path
      h.residual in
      All-push (λ b. m ≤ℤ residual_of p.net.now.links r.flow.items b) path a still (omega (arith, ints, clamps, is));
  reached =
      let residual = residual_of p.net.now.links r.flow.items a in
      by_lt_z residual before
      (λ less.
      inr
      (Any-push (λ b. residual_of p.net.now.links r.flow.items b ≡ m) path a (omega (arith, ints, clamps, is, less))))
      (λ more. earlier (omega (arith, ints, clamps, is, more)) h.reached);
}
  where
    earlier : m ≡ before
        → (before ≡ p.amount -ℤ r.routed) ⊎ Any (λ b. residual_of p.net.now.links r.flow.items b ≡ before) path
        → (m ≡ p.amount -ℤ r.routed) ⊎ Any (λ b. residual_of p.net.now.links r.flow.items b ≡ m) (path ++ a ∷ [])
    earlier same (inl e) = inl (same ∙ e)
    earlier same (inr (k, b, within, at, holds)) =
        inr (
          k,
          b,
          (let e = length_push path a in omega (arith, e, within)),
          get_or_append_left path (a ∷ []) b k within ∙ at,
          holds ∙ sym same,
        )

pub loop-arc-preserved : goal.loop-arc-preserved
loop-arc-preserved c =
    let d : Arc = record { tail = 0; head = 0; link = 0; forward = false; cost = pos 0 } in
    let p = c.args.problem.now in
    let r = c.args.self.now in
    let path = c.args.path.now in
    let i = c.loop-arc.arc-index in
    let within = c.loop-arc-test.true in
    let fits = to_z-of_z w64 c.residual.result (search rules) in
    let kept = to_z-of_z w64 c.min-least.result (search rules) in
    let residual = (c.requires.path.arcs i d within).residual.residual in
    let least =
    kept
    ∙ subst (λ z. c.min-least.result ≡ int_min (to_z w64 c.loop-arc.least-bits) z) (fits ∙ c.residual.ensures)
    c.min-least.ensures.value in
    subst (λ xs. IsBottleneck p r xs (to_z w64 (of_z w64 c.min-least.result))) (sym (take_more path i d within))
    (bottleneck-more p r (take i path) _ (to_z w64 c.loop-arc.least-bits) _ residual least c.loop-arc.invariant)

pub returns : goal.returns
returns c = subst (λ xs. IsBottleneck c.args.problem.now c.args.self.now xs (to_z w64 c.loop-arc.least-bits))
    (take_all c.loop-arc.arc-index c.args.path.now c.loop-arc-test.false) c.loop-arc.invariant
