use Rattle.chains.proofs.PassedShares.{moved_one, moved_two}
use Rattle.chains.proofs.stock.pass_on.Goals.{else-part-share, then-part-share+in_ok-push}
use Rattle.chains.proofs.Words.{IsCarried, ints, to_z-of_z}
use Rattle.std.proofs.Common.{ap, arith, of_z, rules, subst, to_z, w64, ◌∙◌, ◌≡◌}
use Rattle.chains.proofs.stock.pass_on.Goals as goal

pub returns-clause-passed : goal.returns-clause-passed
returns-clause-passed c =
    let s = c.args.share in
    let part = c.take_heat-part.result in
    let carried =
    subst (λ z. IsCarried c.args.ways.now.sorted.items c.take_heat-part.new.self.sorted.items s.node z part)
    (to_z-of_z w64 s.heat (search rules)) c.take_heat-part.ensures.carried in
    let positive = carried.positive in
    let limited = carried.limited in
    let shares = c.args.shares.now.items in
    let heat_is : to_z w64 (of_z w64 s.heat) ≡ s.heat = to_z-of_z w64 s.heat (search rules) in
    let left_is : to_z w64 (of_z w64 part.left) ≡ part.left = to_z-of_z w64 part.left (search rules) in
    record {
      part = part;
      carried = carried;
      is = elim c.if-part-share.branch [
        | then-part-share+in_ok-push w ↦
            let pushed = ap (λ v. v.items) w.shares-is ∙ w.in_ok-push.ensures.items in
            moved_two s part shares c.if-part-share.shares.items c.push-2.new.self.items _ _
            (let less = w.if-part-share.true in omega (arith, ints, less)) pushed c.in_ok-push-2.ensures.items
            (omega (arith, ints)) left_is
        | else-part-share w ↦
            moved_one s part shares c.if-part-share.shares.items c.push-2.new.self.items _
            (let most = w.if-part-share.false in omega (arith, ints, most)) (ap (λ v. v.items) w.shares-is)
            c.in_ok-push-2.ensures.items left_is
      ];
    }
