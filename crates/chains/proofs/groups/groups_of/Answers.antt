-- A source that stands in no group begins one.
use Rattle.chains.proofs.GroupLemmas.{AreGroups-holds, HoldsGroups, StandsInOne, few_chain_nodes, few_groups, groups-new, groups-old}
use Rattle.chains.proofs.groups.groups_of.Goals.{After-deref-partners-items, In-loop-partners, else-not-stands_in_one}
use Rattle.chains.proofs.groups.groups_of.Goals.{then-not-stands_in_one+in_ok-sources+in_ok-push}
use Rattle.chains.proofs.Words.{ALL_UTILITIES, All, HasPartners, Hot, IsLike, ListsOnce, MOST_STREAMS, Partners, get_or-map, length-map, not_from_Decides}
use Rattle.chains.proofs.Words.{side_of, sources_in, take_all}
use Rattle.std.proofs.Common.{Some, ap, arith, get_or, length, subst, sym, ◌*◌, ◌+◌, ◌<◌, ◌∙◌, ◌≡◌, ◌≤◌}
use Rattle.chains.proofs.groups.groups_of.Goals as goal

-- the table is one of the hot sources
hot_is : (c : After-deref-partners-items) → sources_in c.deref-partners-items.result.now ≡ c.in_ok-hot.hot.items
hot_is c = ap sources_in c.deref-partners-items.ensures.value ∙ c.in_ok-table.ensures.sources ∙ c.deref.ensures.value

few : (c : In-loop-partners) → length c.loop-partners.groups.items ≤ MOST_STREAMS + ALL_UTILITIES
few c =
    let hots = hot_is (goal.at.In-loop-partners c).After-deref-partners-items in
    few_groups c.args.case.now c.in_ok-hot.hot.items (sources_in c.deref-partners-items.result.now) c.args.first
    c.args.nodes c.loop-partners.partners-index c.loop-partners.groups.items c.requires.complete c.in_ok-hot.ensures
    hots c.loop-partners.invariant

pub overflow_cast-first_node : goal.overflow_cast-first_node
overflow_cast-first_node c = omega (arith, few (goal.at.overflow_cast-first_node c).In-loop-partners, c.len.ensures)

pub overflow_mul-first_node : goal.overflow_mul-first_node
overflow_mul-first_node c = let most = few (goal.at.overflow_mul-first_node c).In-loop-partners in
    omega (arith, few_chain_nodes c.len.result c.args.nodes (omega (arith, most, c.len.ensures)) c.requires.nodes)

pub overflow_add-first_node : goal.overflow_add-first_node
overflow_add-first_node c = let most = few (goal.at.overflow_add-first_node c).In-loop-partners in
    omega (
      arith,
      few_chain_nodes c.len.result c.args.nodes (omega (arith, most, c.len.ensures)) c.requires.nodes,
      c.requires.first,
    )

pub sources_like-requires : goal.sources_like-requires
sources_like-requires c =
    let case = c.args.case.now in
    let i = c.loop-partners.partners-index in
    let p = goal.at.sources_like-requires c in
    let each = subst (All (HasPartners case)) (sym c.deref-partners-items.ensures.value) c.in_ok-table.ensures.each in
    let whole = c.deref-then-not-stands_in_one.ensures.value in
    record {
      complete = c.requires.complete;
      hot =
          let sources = ap sources_in whole ∙ c.in_ok-table.ensures.sources ∙ c.deref.ensures.value in
          subst (ListsOnce (λ s. side_of case s ≡ Some Hot)) (sym sources) c.in_ok-hot.ensures.listed;
      table = subst (All (HasPartners case)) (sym whole) c.in_ok-table.ensures.each;
      first =
          subst (HasPartners case) (sym c.partners-item.is) (each i c.partners-item.result c.loop-partners-test.true);
    }

pub loop-partners-preserved : goal.loop-partners-preserved
loop-partners-preserved c =
    let case = c.args.case.now in
    let table = c.deref-partners-items.result.now in
    let hot = sources_in table in
    let i = c.loop-partners.partners-index in
    let within = c.loop-partners-test.true in
    let source_of = λ (p : Partners). p.source in
    let next = c.partners-item.result in
    let source = next.source in
    let in_hot : i < length hot = omega (arith, within, length-map table source_of) in
    let is : source ≡ get_or hot i source
    = ap source_of c.partners-item.is ∙ sym (get_or-map source_of table i next source within) in
    let groups = c.loop-partners.groups.items in
    let p = goal.at.loop-partners-preserved c in
    let hots = hot_is p.After-deref-partners-items in
    let each = subst (All (λ s. side_of case s ≡ Some Hot)) (sym hots) c.in_ok-hot.ensures.listed.each in
    let side = subst (λ s. side_of case s ≡ Some Hot) (sym is) (each i source in_hot) in
    elim c.if-not-stands_in_one.branch [
      | then-not-stands_in_one+in_ok-sources+in_ok-push w ↦
          let items = ap (λ v. v.items) w.groups-is ∙ w.in_ok-push.ensures.items in
          groups-new case hot c.args.first c.args.nodes i in_hot source is groups c.loop-partners.invariant _ _ items
          side (subst (ListsOnce (IsLike case source)) (sym w.from_vec.ensures) w.in_ok-sources.ensures)
          (let count : w.len.result ≡ length groups = omega (arith, w.len.ensures) in
          ap (λ n. c.args.first + n * c.args.nodes) count)
          (λ stands.
          not_from_Decides _ c.stands_in_one.ensures w.if-not-stands_in_one.true
          (subst (λ gs. StandsInOne gs source) (sym c.as_slice.ensures.value) stands))
      | else-not-stands_in_one w ↦
          let stands = c.stands_in_one.ensures.0 w.if-not-stands_in_one.false in
          groups-old case hot c.args.first c.args.nodes i in_hot source is groups c.loop-partners.invariant _
          (ap (λ v. v.items) w.groups-is) (subst (λ gs. StandsInOne gs source) c.as_slice.ensures.value stands)
    ]

pub returns-clause-groups : goal.returns-clause-groups
returns-clause-groups c =
    let case = c.args.case.now in
    let groups = c.loop-partners.groups.items in
    let hot = sources_in c.deref-partners-items.result.now in
    let p = goal.at.returns-clause-groups c in
    let past = length-map c.deref-partners-items.result.now (λ (p : Partners). p.source) in
    let whole = take_all c.loop-partners.partners-index hot (omega (arith, past, c.loop-partners-test.false))
    ∙ hot_is p.After-deref-partners-items in
    AreGroups-holds case c.in_ok-hot.hot.items c.in_ok-hot.ensures.listed c.args.first c.args.nodes groups
    (subst (λ hot. HoldsGroups case hot c.args.first c.args.nodes groups) whole c.loop-partners.invariant)

pub returns-clause-few : goal.returns-clause-few
returns-clause-few c =
    let hots = hot_is (goal.at.returns-clause-few c).After-deref-partners-items in
    few_groups c.args.case.now c.in_ok-hot.hot.items (sources_in c.deref-partners-items.result.now) c.args.first
    c.args.nodes c.loop-partners.partners-index c.loop-partners.groups.items c.requires.complete c.in_ok-hot.ensures
    hots c.loop-partners.invariant
