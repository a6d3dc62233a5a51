use Rattle.flow_problem.proofs.SumLemmas.{due_is}
use Rattle.flow_problem.proofs.Words.{AreBalanced, routing_from_surplus, surplus_is}
use Rattle.std.proofs.Common.{arith, refl, subst, sym, ◌<◌, ◌∙◌}
use Rattle.flow_problem.proofs.answer.is_certified.Goals as goal

pub returns : goal.returns
returns c =
    let p = c.args.problem.now in
    let flow = c.args.flow.now in
    let limits = c.requires.net in
    let ends = c.requires.ends in
    let is = c.in_ok-surpluses.ensures in
    let each = is.one_each in
    let proved = c.if-not-prove_least.ensures.0 refl in (
      λ balanced. (
          let due_at = subst (AreBalanced p) c.deref.ensures.value (c.are_balanced.ensures.0 balanced) in
          record {
            routing =
                routing_from_surplus p.net limits p.source p.sink ends p.amount flow (c.if-not-keeps_rooms.ensures.0 refl)
                (λ v within. sym (is.surplus v within) ∙ (due_at v (omega arith) ∙ due_is p ends.apart v));
            proof = record { left_to_add = λ k b. (proved k b).left_to_add; flowing = λ k b. (proved k b).flowing };
          }),
      λ certified. c.are_balanced.ensures.1 (subst (AreBalanced p) (sym c.deref.ensures.value) (λ v within.
          let v_in : v < p.net.nodes = omega arith in
          is.surplus v v_in ∙ (surplus_is p.net limits p.source p.sink ends p.amount flow certified.routing v v_in ∙ sym (due_is p ends.apart v)))),
    )
