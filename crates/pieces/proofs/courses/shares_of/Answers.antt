use Rattle.pieces.proofs.Words.{append-nil, eq-eqb, filter_map, ne_eqb, option_to_list, share_at, take_all}
use Rattle.pieces.proofs.PieceStages.{one_more}
use Rattle.std.proofs.Common.{None, Some, [], ap, if◌then◌else◌, sym, take, ◌++◌, ◌∙◌, ◌∷◌}
use Rattle.pieces.proofs.courses.shares_of.Goals as goal

pub loop-share-preserved-then-share-index : goal.loop-share-preserved-then-share-index
loop-share-preserved-then-share-index c =
    let share = c.share-item.result in
    let before = filter_map (share_at c.args.index) (take c.loop-share.share-index c.args.own.now) in
    let none = ap (λ b. if b then Some share.1 else None) (ne_eqb share.0 c.args.index c.if-share-index.true) in
    let same = one_more (share_at c.args.index) c.args.own.now c.loop-share.share-index share c.loop-share-test.true
    c.share-item.is
    ∙ ap (λ o. before ++ option_to_list o) none ∙ append-nil before in
    c.loop-share.invariant ∙ sym same

pub loop-share-preserved : goal.loop-share-preserved
loop-share-preserved c =
    let share = c.share-item.result in
    let before = filter_map (share_at c.args.index) (take c.loop-share.share-index c.args.own.now) in
    let some = ap (λ b. if b then Some share.1 else None) (eq-eqb share.0 c.args.index c.if-share-index.false) in
    let kept_one = one_more (share_at c.args.index) c.args.own.now c.loop-share.share-index share c.loop-share-test.true
    c.share-item.is
    ∙ ap (λ o. before ++ option_to_list o) some in
    c.in_ok-push.ensures.ok ∙ ap (λ ss. ss ++ share.1 ∷ []) c.loop-share.invariant ∙ sym kept_one

pub returns : goal.returns
returns c =
    let whole = take_all c.loop-share.share-index c.args.own.now c.loop-share-test.false in
    c.loop-share.invariant ∙ ap (filter_map (share_at c.args.index)) whole
