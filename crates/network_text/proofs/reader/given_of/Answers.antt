use Rattle.network_text.proofs.Words.{KeyedNetwork, MOST_STATEMENTS, Network, Reads, end_here, fault_here, grammar, none_read, one_more, statements_of, value_here, with_any}
use Rattle.network_text.proofs.Reading.{fresh_next, lines-start, lines-with_entry, no_outcome, room_next}
use Rattle.statements.proofs.NextLine.{nothing_left, passed_over, statement_next}
use Rattle.std.proofs.Common.{ap, arith, length, option_map, refl, subst, sym, ◌+◌, ◌<◌, ◌∙◌}
use Rattle.network_text.proofs.reader.given_of.Goals as goal

pub loop-rest-init : goal.loop-rest-init
loop-rest-init c = record {
  reads = none_read (statements_of c.args.bytes.now) c.in_ok-given.ensures.start;
  key = c.in_ok-given.ensures.key;
  count = ap (λ (n : Network). length n.lines) c.in_ok-given.ensures.start ∙ lines-start c.args.case.now;
  few = omega arith;
}

pub returns-in_err-statement-clause-fault : goal.returns-in_err-statement-clause-fault
returns-in_err-statement-clause-fault c = no_outcome c.args.case.now
    (statements_of c.args.bytes.now) c.from_residual-in_err-statement.result c.from_residual-in_err-statement.ensures.1

pub loop-rest-preserved-then-is_passed_over : goal.loop-rest-preserved-then-is_passed_over
loop-rest-preserved-then-is_passed_over c =
    let over = sym c.is_passed_over.ensures ∙ c.if-is_passed_over.true in
    let same = passed_over c.loop-rest.rest.now c.first_line.result.0.now c.first_line.result.1.now c.first_line.ensures.line c.in_ok-statement.ensures over in
    record {
      reads = subst (λ left. Reads (grammar c.args.case.now)
          (statements_of c.args.bytes.now) left c.loop-rest.given.network c.loop-rest.number) same c.loop-rest.invariant.reads;
      key = c.loop-rest.invariant.key;
      count = c.loop-rest.invariant.count;
      few = c.loop-rest.invariant.few;
    }

pub with-requires-clause-room : goal.with-requires-clause-room
with-requires-clause-room c =
    room_next c.args.case.now c.loop-rest.given.network c.in_ok-statement.statement c.in-Ok.ensures.0

pub with-requires-clause-fresh : goal.with-requires-clause-fresh
with-requires-clause-fresh c =
    fresh_next c.requires c.loop-rest.invariant.reads c.in_ok-statement.statement c.in-Ok.ensures.0 c.in-Ok.ensures.1

pub returns-in-Err-clause-fault : goal.returns-in-Err-clause-fault
returns-in-Err-clause-fault c =
    let counts = sym c.is_passed_over.ensures ∙ c.if-is_passed_over.false in
    fault_here c.loop-rest.invariant.reads
    (statement_next c.loop-rest.rest.now c.first_line.result.0.now c.first_line.result.1.now c.first_line.ensures.line c.in_ok-statement.ensures counts)
    c.in-Err.ensures

pub loop-rest-preserved : goal.loop-rest-preserved
loop-rest-preserved c =
    let case = c.args.case.now in
    let given = c.loop-rest.given.network in
    let added = ap (λ (n : KeyedNetwork). n.network) c.in_ok-given-in-Ok.ensures in
    let counts = sym c.is_passed_over.ensures ∙ c.if-is_passed_over.false in
    let at = statement_next c.loop-rest.rest.now c.first_line.result.0.now c.first_line.result.1.now c.first_line.ensures.line
    c.in_ok-statement.ensures counts in
    let next = added ∙ sym (ap (with_any given) c.in-Ok.ensures.1) in
    let room : length given.lines < MOST_STATEMENTS
    = room_next case given c.in_ok-statement.statement c.in-Ok.ensures.0 in
    let lines = ap (λ (n : Network). length n.lines) added
    ∙ lines-with_entry given c.in-Ok.entry in
    let count = c.loop-rest.invariant.count in
    record {
      reads = one_more c.loop-rest.invariant.reads at c.in-Ok.ensures.0 next;
      key = ap (λ (n : KeyedNetwork). n.key) c.in_ok-given-in-Ok.ensures ∙ c.loop-rest.invariant.key;
      count = lines ∙ ap (λ n. n + 1) count;
      few = omega (arith, room, count);
    }

pub returns-in-None-clause-network : goal.returns-in-None-clause-network
returns-in-None-clause-network c =
    let complete = ap (option_map _) (sym c.in-None.ensures.index) in
    value_here c.loop-rest.invariant.reads (nothing_left c.loop-rest.rest.now c.loop-rest-test.ensures) complete refl

pub returns-in-Some-clause-fault : goal.returns-in-Some-clause-fault
returns-in-Some-clause-fault c =
    end_here c.loop-rest.invariant.reads (nothing_left c.loop-rest.rest.now c.loop-rest-test.ensures) (ap (option_map _) (sym c.in-Some.ensures.index))
