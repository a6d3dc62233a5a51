use Rattle.chains.proofs.HeatSetOut.{HaveSetOut-pass, HaveSetOut-share, HaveSetOut-way, set_out_step}
use Rattle.chains.proofs.stock.set_out.Goals.{else-heat-gt0, then-heat-gt0+else-link-hots+in_ok-push-2, then-heat-gt0+then-link-hots+in_ok-push}
use Rattle.chains.proofs.Words.{flow_on, ints, link_at, to_z-of_z}
use Rattle.std.proofs.Common.{[], ap, arith, of_z, rules, to_z, w64, ◌++◌, ◌∙◌, ◌∷◌, ◌≡◌}
use Rattle.chains.proofs.stock.set_out.Goals as goal

pub loop-index-preserved : goal.loop-index-preserved
loop-index-preserved c =
    let hots = c.args.hots in
    let links = c.args.links.now in
    let flow = c.args.flow.now in
    let i = c.loop-index.index in
    let within = c.loop-index-test.true in
    let shares = c.loop-index.shares.items in
    let ways = c.loop-index.ways.items in
    let before = c.loop-index.invariant in
    let heat = to_z w64 (of_z w64 (flow_on flow i)) in
    let kept : heat ≡ flow_on flow i = to_z-of_z w64 (flow_on flow i) (search rules) in
    let from = c.requires.not_negative i within in
    let link = link_at links i in
    elim c.if-heat-gt0.branch [
      | then-heat-gt0+then-link-hots+in_ok-push w ↦
          let is = ap (λ z. shares ++ record { hot = link.from; node = link.to; heat = z } ∷ []) kept in
          let some = w.if-heat-gt0.true in
          let shares_are = ap (λ v. v.items) w.shares-is ∙ w.in_ok-push.ensures.items ∙ is in
          let one_more = HaveSetOut-share hots links flow i shares ways before within w.if-link-hots.true
          (omega (arith, ints, some)) in
          set_out_step hots links flow i _ _ _ _ shares_are (ap (λ v. v.items) w.ways-is) one_more
      | then-heat-gt0+else-link-hots+in_ok-push-2 w ↦
          let is = ap (λ z. ways ++ record { from = link.from; to = link.to; left = z } ∷ []) kept in
          let some = w.if-heat-gt0.true in
          let ways_are = ap (λ v. v.items) w.ways-is ∙ w.in_ok-push-2.ensures.items ∙ is in
          let one_more =
          HaveSetOut-way hots links flow i shares ways before within w.if-link-hots.false (omega (arith, ints, some)) in
          set_out_step hots links flow i _ _ _ _ (ap (λ v. v.items) w.shares-is) ways_are one_more
      | else-heat-gt0 w ↦ let none = w.if-heat-gt0.false in
          set_out_step hots links flow i _ _ _ _ (ap (λ v. v.items) w.shares-is) (ap (λ v. v.items) w.ways-is)
          (HaveSetOut-pass hots links flow i shares ways before (omega (arith, ints, none)))
    ]
