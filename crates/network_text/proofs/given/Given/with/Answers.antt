use Rattle.network_text.proofs.Tables.{new_exchanger, new_names, tracked-with, unpassed, unused-now, view-with}
use Rattle.network_text.proofs.Words.{begun_by}
use Rattle.std.proofs.Common.{ap, sym, ◌∙◌}
use Rattle.network_text.proofs.given.Given.with.Goals as goal

pub add-requires : goal.add-requires
add-requires c =
    let fresh = rw (← c.given.view_is) at c.requires.fresh in
    let passage = rw (← c.given.view_is) at c.passage_of-passage.ensures in
    record {
      used = unused-now c.given.invariant.0 c.args.entry fresh;
      exchangers = new_exchanger c.given.invariant.0 c.args.entry fresh;
      passed = rw passage (unpassed c.given.invariant.0 c.args.entry fresh);
      branches = new_names c.given.invariant.0 c.args.entry fresh;
    }

pub invariant_of-given : goal.invariant_of-given
invariant_of-given c =
    let fresh = rw (← c.given.view_is) at c.requires.fresh in
    let room = rw (← c.given.view_is) at c.requires.room in
    let passage = rw (← c.given.view_is) at c.passage_of-passage.ensures in
    let keys = c.in_ok-add.ensures.keys in
    let shared = c.given.invariant.1 in (
      rw (
        c.in_ok-add.ensures.branches,
        c.in_ok-add.ensures.used,
        c.in_ok-add.ensures.exchangers,
        c.in_ok-add.ensures.passed,
        passage,
        c.in_ok-push.ensures.items,
      ) (tracked-with c.given.invariant.0 c.args.entry fresh c.first_stream-stream.result room),
      record {
        used = keys.used ∙ shared.used ∙ sym keys.branches;
        exchangers = keys.exchangers ∙ shared.exchangers ∙ sym keys.branches;
        passed = keys.passed ∙ shared.passed ∙ sym keys.branches;
      },
    )

pub returns : goal.returns
returns c =
    let fresh = rw (← c.given.view_is) at c.requires.fresh in
    let stream = rw (← c.given.view_is) at (rw c.uses.ensures at c.first_stream-stream.ensures) in
    let network =
    view-with c.given.invariant.0 c.args.entry fresh c.first_stream-stream.result stream in
    let key = ap begun_by c.in_ok-add.ensures.keys.branches in
    rw (← c.given.view_is, c.in_ok-add.ensures.branches, c.in_ok-push.ensures.items)
    (λ i. record { network = network i; key = key i })
