-- What is printed of a proof is a report that is answered with yes.
use Rattle.reports.proofs.Words.{AreCaseParts, Case, Cut, Flow, IsAnsweredWithYes, IsCertified, IsComplete, IsCutOf, Part, Parts, Prices, PrintedProofsPass}
use Rattle.reports.proofs.Words.{certified-pass, cut_report, cuts-pass, flow_report, needing-within, own_parts, printed-again, reach_between, text}
use Rattle.certify.proofs.Ranges.{cuts-readable, flows-readable}
use Rattle.reports.proofs.ReportTexts.{cut-text, flow-text}
use Rattle.std.proofs.Common.{All, List, get_or, length, subst, sym, ℤ, ◌<◌}
use Rattle.reports.specs.declared.shown.Shown.TheVariants as shows

flow_answered : (c : Case) (parts : Parts) (flow : Flow) (prices : Prices) (cost : ℤ) → IsComplete c
    → AreCaseParts c parts.hot parts.cold
    → IsCertified (reach_between c parts.hot parts.cold) parts.hot parts.cold flow.transfers prices.hot prices.cold cost
    → IsAnsweredWithYes c (text (shows.Flow c parts flow prices cost))
unfolding text
flow_answered c parts flow prices cost complete are h =
    let r = flow_report c parts.hot parts.cold flow.transfers prices.hot prices.cold cost in
    let readable = flows-readable c parts.hot parts.cold flow.transfers prices.hot prices.cold cost complete are h in
    subst (IsAnsweredWithYes c) (sym (flow-text c parts flow.transfers prices cost h.flow.hot_indexes h.flow.cold_indexes))
    (record {
      report = r;
      is = printed-again r readable;
      answer = certified-pass c parts.hot parts.cold flow.transfers prices.hot prices.cold cost complete are h;
    })

members_within : (c : Case) (hot cold : List Part) (cut : Cut) → IsCutOf (reach_between c hot cold) hot cold cut
    → All (λ i. i < length (own_parts c hot cold cut.kind)) cut.parts
members_within c hot cold cut h k d within =
    needing-within (own_parts c hot cold cut.kind) (get_or cut.parts k d) (h.parts.needing k d within)

cut_answered : (c : Case) (parts : Parts) (cut : Cut) → IsComplete c → AreCaseParts c parts.hot parts.cold
    → IsCutOf (reach_between c parts.hot parts.cold) parts.hot parts.cold cut
    → IsAnsweredWithYes c (text (shows.Stuck c parts cut))
unfolding text
cut_answered c parts cut complete are h =
    let r = cut_report c parts.hot parts.cold cut in
    subst (IsAnsweredWithYes c) (sym (cut-text c parts cut (members_within c parts.hot parts.cold cut h)))
    (record {
      report = r;
      is = printed-again r (cuts-readable c parts.hot parts.cold cut complete are h);
      answer = cuts-pass c parts.hot parts.cold cut complete are h;
    })

pub proofs-pass : PrintedProofsPass
proofs-pass c (shows.Flow case parts flow prices cost) complete is =
    subst (λ (k : Case). IsAnsweredWithYes c (text (shows.Flow k parts flow prices cost))) (sym is.0)
    (flow_answered c parts flow prices cost complete is.1 is.2)
proofs-pass c (shows.Stuck case parts cut) complete is =
    subst (λ (k : Case). IsAnsweredWithYes c (text (shows.Stuck k parts cut))) (sym is.0)
    (cut_answered c parts cut complete is.1 is.2)
proofs-pass c other complete is = absurd is
