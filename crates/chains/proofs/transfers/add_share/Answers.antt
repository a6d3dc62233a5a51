use Rattle.chains.proofs.GatherLemmas.{is_joined}
use Rattle.chains.proofs.Words.{Transfer, get_or_read, ints, to_z-of_z, transfer_of}
use Rattle.std.proofs.Common.{FitsSigned, ap, arith, inl, length, rules, sym, w64, ◌+◌, ◌-◌, ◌<◌, ◌∙◌, ◌≡◌}
use Rattle.chains.proofs.transfers.add_share.Goals as goal

pub returns-then-index-cold : goal.returns-then-index-cold
returns-then-index-cold c =
    let old = c.args.transfers.now.items in
    let s = c.args.share.now in
    let n = c.len-count.result - 1 in
    let some = c.if-count-gt0.true in
    let long : n + 1 ≡ length old = omega (arith, some, c.len-count.ensures, c.args.transfers.now.ok.0) in
    let within : n < length old = omega (arith, long) in
    let last = c.index_mut.result.now in
    let read = c.index_mut.ensures.value in
    let one : c.index.result.now ≡ last = get_or_read old n c.index.result.now within c.index.ensures last ∙ sym read in
    let two : c.index-then-index-share.result.now ≡ last
    = get_or_read old n c.index-then-index-share.result.now within c.index-then-index-share.ensures last
    ∙ sym read in
    let same_hot = ap (λ (t : Transfer). t.hot) (sym one) ∙ c.if-index-share.true in
    let same_cold = ap (λ (t : Transfer). t.cold) (sym two) ∙ c.if-index-cold.true in
    let upto = c.requires.fits n last within (ap (λ (t : Transfer). t.hot) (sym read) ∙ same_hot) in
    let as_read = ap (λ (t : Transfer). t.heat) read in
    let last_fits : FitsSigned w64 last.heat = search rules in
    let share_fits : FitsSigned w64 s.heat = search rules in
    let last_kept = to_z-of_z w64 last.heat last_fits in
    let share_kept = to_z-of_z w64 s.heat share_fits in
    let positive = c.requires.positive in
    inl (is_joined old n last (transfer_of c.args.hots s) _ long read (same_hot, same_cold) (omega (arith, ints)))
