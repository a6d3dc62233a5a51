use Rattle.pieces.proofs.Words.{Share, enumerate_from, filter_map, is_of_stream, own_share, own_shares, piece_on, share_for, take_all}
use Rattle.pieces.proofs.PieceStages.{kept-more, kept-skip}
use Rattle.std.proofs.Common.{None, Some, [], ap, false, if◌then◌else◌, sym, true, ℕ, ◌++◌, ◌∙◌, ◌∷◌, ◌≡◌}
use Rattle.pieces.proofs.courses.own_shares.Goals as goal

pub loop-number-preserved-then-not-is_of_stream : goal.loop-number-preserved-then-not-is_of_stream
loop-number-preserved-then-not-is_of_stream c =
    let number = c.loop-number.number in
    let e = c.index-exchanges-number.result in
    let own = own_share c.args.side c.args.sources.now c.args.stream in
    let other : is_of_stream c.args.sources.now c.args.stream (piece_on c.args.side e) ≡ false =
    ap (is_of_stream c.args.sources.now c.args.stream) (sym c.piece_on-index.ensures)
    ∙ sym c.is_of_stream.ensures ∙ c.if-not-is_of_stream.true in
    let nothing =
    ap (λ b. if b then Some (piece_on c.args.side e, share_for c.args.side (number, e)) else None) other in
    let skipped =
    kept-skip own c.args.exchanges.now number e c.loop-number-test.true c.index-exchanges-number.is nothing in
    c.loop-number.invariant ∙ sym skipped

pub loop-number-preserved : goal.loop-number-preserved
loop-number-preserved c =
    let number = c.loop-number.number in
    let e = c.index-exchanges-number.result in
    let own = own_share c.args.side c.args.sources.now c.args.stream in
    let share : ℕ × Share = (piece_on c.args.side e, share_for c.args.side (number, e)) in
    let is : is_of_stream c.args.sources.now c.args.stream (piece_on c.args.side e) ≡ true =
    ap (is_of_stream c.args.sources.now c.args.stream) (sym c.piece_on-index.ensures)
    ∙ sym c.is_of_stream.ensures ∙ c.if-not-is_of_stream.false in
    let is_some = ap (λ b. if b then Some share else None) is in
    let kept_one =
    kept-more own c.args.exchanges.now number e c.loop-number-test.true c.index-exchanges-number.is share is_some in
    cc c.in_ok-push.ensures.items
    ∙ (λ i.
    c.loop-number.invariant i ++ (c.piece_on-index.ensures i, record { exchanger = number; cp = c.size_on.ensures i })
    ∷ [])
    ∙ sym kept_one

pub returns : goal.returns
unfolding own_shares
returns c =
    let all = take_all c.loop-number.number c.args.exchanges.now c.loop-number-test.false in
    c.loop-number.invariant
    ∙ ap (λ es. filter_map (own_share c.args.side c.args.sources.now c.args.stream) (enumerate_from 0 es)) all
