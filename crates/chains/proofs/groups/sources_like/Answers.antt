-- The hot sources that have the partners of the first one are kept.
use Rattle.chains.proofs.GroupLemmas.{KeptSoFar, kept-pass, kept-push, likes-all}
use Rattle.chains.proofs.PartnerLemmas.{HaveSamePartners-same, same-HaveSamePartners}
use Rattle.chains.proofs.groups.sources_like.Goals.{else-are_alike, then-are_alike+in_ok-push}
use Rattle.chains.proofs.Words.{HasPartners, HaveSamePartners, Partners, false≢true, get_or-map, length-map, sources_in}
use Rattle.std.proofs.Common.{ap, arith, get_or, length, subst, sym, ◌+◌, ◌<◌, ◌∙◌, ◌≡◌}
use Rattle.chains.proofs.groups.sources_like.Goals as goal

pub loop-partners-preserved : goal.loop-partners-preserved
loop-partners-preserved c =
    let table = c.args.table.now in
    let hot = sources_in table in
    let case = c.args.case.now in
    let first = c.args.first.now in
    let i = c.loop-partners.partners-index in
    let within = c.loop-partners-test.true in
    let next = c.partners-item.result in
    let source = λ (p : Partners). p.source in
    let same = HaveSamePartners case first.source in
    let own : HasPartners case next
    = subst (HasPartners case) (sym c.partners-item.is) (c.requires.table i next within) in
    let in_hot : i < length hot = omega (arith, within, length-map table source) in
    let is : next.source ≡ get_or hot i next.source
    = ap source c.partners-item.is ∙ sym (get_or-map source table i next next.source within) in
    elim c.if-are_alike.branch [
      | then-are_alike+in_ok-push w ↦
          let items = ap (λ v. v.items) w.sources-is ∙ w.in_ok-push.ensures.items in
          let same_partners = HaveSamePartners-same case first.source next.source first.allowed.items next.allowed.items
          c.requires.first own (c.are_alike.ensures.0 w.if-are_alike.true) in
          let kept = kept-push same hot c.requires.hot.ordered i in_hot next.source is c.loop-partners.sources.items
          c.loop-partners.invariant same_partners in
          subst (KeptSoFar same hot (i + 1)) (sym items) kept
      | else-are_alike w ↦
          let kept = kept-pass same hot c.requires.hot.ordered i in_hot next.source is c.loop-partners.sources.items
          c.loop-partners.invariant
          (λ alike.
          false≢true (sym w.if-are_alike.false
          ∙ c.are_alike.ensures.1
          (same-HaveSamePartners case first.source next.source first.allowed.items next.allowed.items
          c.requires.first own c.requires.complete alike))) in
          subst (KeptSoFar same hot (i + 1)) (sym (ap (λ v. v.items) w.sources-is)) kept
    ]

pub returns : goal.returns
returns c =
    let table = c.args.table.now in
    let past = length-map table (λ (p : Partners). p.source) in
    likes-all c.args.case.now (sources_in table) c.args.first.now.source c.loop-partners.partners-index
    c.loop-partners.sources.items c.requires.hot (omega (arith, past, c.loop-partners-test.false))
    c.loop-partners.invariant
