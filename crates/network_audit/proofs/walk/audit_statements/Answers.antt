use Rattle.network_audit.proofs.WalkLemmas.{IsWalked, line_here, walked-all, walked-found, walked-more, walked-room, walked-start, walked-wide}
use Rattle.network_audit.proofs.walk.audit_statements.Goals.{After-line-item}
use Rattle.network_audit.proofs.Words.{AreStreams-IsComplete, IsLineOf, IsValidStream, first_value, streams_first}
use Rattle.std.proofs.Common.{All, ap, arith, length, map, subst, sym, take, ◌++◌, ◌+◌, ◌∙◌, ◌≡◌}
use Rattle.network_audit.proofs.walk.audit_statements.Goals as goal

pub start-requires-clause-valid : goal.start-requires-clause-valid
start-requires-clause-valid c =
    subst (All IsValidStream) (sym c.as_slice.ensures) (AreStreams-IsComplete c.args.case.now c.requires.complete).each

pub start-requires-clause-room : goal.start-requires-clause-room
start-requires-clause-room c =
    omega (arith, ap length c.as_slice.ensures, streams_first c.requires.shape.made_once, c.requires.room)

pub loop-index-init : goal.loop-index-init
loop-index-init c =
    let values = c.start.new.values in
    let start = subst (λ ss. take (length ss) values ≡ map first_value ss) c.as_slice.ensures c.start.ensures in
    let room : length values ≡ length c.args.network.now.branches
    = omega (arith, c.start.auto.values, c.requires.room) in
    subst (λ m. IsWalked c.args.case.now c.args.network.now 0 m values) (sym c.len-made.ensures)
    (walked-start c.args.case.now c.args.network.now values c.requires.complete room start)

-- the line of this turn
here : (c : After-line-item) → IsLineOf c.args.case.now c.args.network.now c.loop-index.index c.line-item.result
here c =
    line_here c.args.case.now c.args.network.now c.as_slice-line-items.result.now c.loop-index.index c.line-item.result c.requires.shape
    c.as_slice-line-items.ensures c.loop-index-test.true c.line-item.is

pub made_by-requires-clause-known : goal.made_by-requires-clause-known
made_by-requires-clause-known c = (here (goal.at.made_by-requires-clause-known c).After-line-item).known

pub made_by-requires-clause-used : goal.made_by-requires-clause-used
made_by-requires-clause-used c =
    let is = here (goal.at.made_by-requires-clause-used c).After-line-item in
    let wide = walked-wide c.args.case.now c.args.network.now c.loop-index.index c.loop-index.made c.loop-index.values c.requires.shape
    c.loop-index.invariant in λ k d inside. omega (arith, wide, is.numbers.used k d inside)

pub keep-made-requires : goal.keep-made-requires
keep-made-requires c = let is = here (goal.at.keep-made-requires c).After-line-item in
    walked-room c.args.case.now c.args.network.now c.loop-index.index c.loop-index.made c.loop-index.values c.line-item.result _ is c.loop-index.invariant
    c.in-Ok.ensures.1

pub returns-in-Err : goal.returns-in-Err
returns-in-Err c = let is = here (goal.at.returns-in-Err c).After-line-item in
    walked-found c.args.case.now c.args.network.now c.loop-index.index c.loop-index.made c.loop-index.values c.line-item.result c.in-Err.found
    is.at.here c.loop-index.invariant c.in-Err.ensures

pub loop-index-preserved : goal.loop-index-preserved
loop-index-preserved c = let is = here (goal.at.loop-index-preserved c).After-line-item in
    let old = take c.loop-index.made c.loop-index.values in
    let made_are = c.in-Ok.ensures.1 in
    walked-more c.args.case.now c.args.network.now c.loop-index.index c.loop-index.made c.loop-index.values c.keep-made.new.values
    c.keep-made.result c.line-item.result c.requires.shape is.at.here c.loop-index.invariant c.in-Ok.ensures.0 c.keep-made.auto.values
    (c.keep-made.ensures.many ∙ ap (λ vs. c.loop-index.made + length vs) made_are) (c.keep-made.ensures.kept ∙ ap (λ vs. old ++ vs) made_are)

pub returns : goal.returns
returns c = let end : c.loop-index.index ≡ length c.args.network.now.lines =
    omega (arith, ap length c.as_slice-line-items.ensures, c.loop-index-test.false, c.loop-index.auto.index-end) in
    walked-all c.args.case.now c.args.network.now c.loop-index.made c.loop-index.values c.requires.shape
    (subst (λ n. IsWalked c.args.case.now c.args.network.now n c.loop-index.made c.loop-index.values) end c.loop-index.invariant)
