-- Partners of hot sources: two have the same list of them exactly where the same cold sources are permitted to both; and those of a group.
use Rattle.chains.proofs.Words.{All-contains, Any-from_list_any, AreGroups, ArePermissions, ArePermitted, Case, Cold, Group, HaveSamePartners, Hot}
use Rattle.chains.proofs.Words.{IsComplete, IsGroup, IsSourceOf, IsSourceOf-side, IsValidForbid, Side, Source, StaysValid-IsComplete, and_parts, cases_lt}
use Rattle.chains.proofs.Words.{false_from_ne_true, false≢true, get_or_default, get_or_from_slice_get, is_forbidden, is_permitted, same_lists, same_source}
use Rattle.chains.proofs.Words.{same_source-true, side_of, source_at, source_index}
use Rattle.std.proofs.Common.{Bool, Contains, List, None, Option, Some, ap, arith, false, get_or, if◌then◌else◌, is_some, length, ltb, map, not, refl, slice_get, subst, sym}
use Rattle.std.proofs.Common.{true, ℕ, ⊎_elim, ◌&&◌, ◌+◌, ◌-◌, ◌<◌, ◌∙◌, ◌≡◌}
use Rattle.chains.proofs.Words.{first_node_of, range_with_len}
use Rattle.std.proofs.lemmas.Bool.Decides.{Decides-ltb}
use Rattle.std.proofs.lemmas.List.FromFn.{get_or-map-range_with_len}
use Rattle.chains.proofs.ChainLinks.{permitted-all, permitted-each}
use Rattle.stream_case.specs.declared.case.Forbid.{Forbid}
use Rattle.stream_case.specs.declared.source.Source.TheVariants.{Stream as of_stream, Utility as of_utility}

not-same : (a b : Bool) → not a ≡ not b → a ≡ b
not-same true true e = refl
not-same true false e = cc
not-same false true e = cc
not-same false false e = refl

module _ (c : Case) where
  pub source_on : (side : Side) (source : Source) → side_of c source ≡ Some side → IsSourceOf c source
  source_on side source on = IsSourceOf-side c source (ap is_some on)

  pub source_at-index : (source : Source) → IsSourceOf c source → source_at c (source_index c source) ≡ source
  source_at-index (of_stream i) there =
      let is_stream = (Decides-ltb i (length c.streams)).1 there in
      ap (λ b. if b then of_stream i else of_utility (i - length c.streams)) is_stream
  source_at-index (of_utility i) there =
      let n = length c.streams in
      let back : (n + i) - n ≡ i = omega arith in
      ap (λ b. if b then of_stream (n + i) else of_utility ((n + i) - n))
      (false_from_ne_true (ltb (n + i) n) (λ e. absurd (omega (arith, (Decides-ltb (n + i) n).0 e))))
      ∙ ap of_utility back

  source_index-within : (source : Source) → IsSourceOf c source
      → source_index c source < length c.streams + length c.utilities
  source_index-within (of_stream i) there = omega (arith, there)
  source_index-within (of_utility i) there = omega (arith, there)

  -- what stands at a source in a list of the first nodes of all sources
  pub first_nodes-at : (groups : List Group) (nodes : List (Option ℕ))
      → nodes
      ≡ map (λ index. first_node_of groups (source_at c index))
      (range_with_len 0 (length c.streams + length c.utilities))
      → (source : Source) → IsSourceOf c source
      → get_or nodes (source_index c source) None ≡ first_node_of groups source
  first_nodes-at groups nodes are source there =
      let index = source_index c source in
      let node = λ (i : ℕ). first_node_of groups (source_at c i) in
      let within = source_index-within source there in
      ap (λ xs. get_or xs index None) are
      ∙ get_or-map-range_with_len node 0 (length c.streams + length c.utilities) index index None within (omega arith)
      ∙ ap (first_node_of groups) (source_at-index source there)

  -- ---- two hot sources

  module _ (p q : Source) (xs ys : List Bool) (of_p : ArePermissions c c.forbids p xs)
      (of_q : ArePermissions c c.forbids q ys) where
    pub HaveSamePartners-same : xs ≡ ys → HaveSamePartners c p q
    HaveSamePartners-same same cold side =
        let there = source_on Cold cold side in
        let at = λ (allowed : List Bool). get_or allowed (source_index c cold) false in
        let same_answers = sym (of_p.each cold there) ∙ ap at same ∙ of_q.each cold there in
        not-same (is_forbidden c.forbids p cold) (is_forbidden c.forbids q cold) same_answers

    module _ (complete : IsComplete c) where
      -- a source that is not cold stands in no forbidden match as the cold one
      no_match : (hot source : Source) → (side_of c source ≡ Some Cold → ⊥) → is_forbidden c.forbids hot source ≡ false
      no_match hot source other = false_from_ne_true (is_forbidden c.forbids hot source) (λ yes.
          let (k, f, within, is, both) =
          Any-from_list_any (λ (f : Forbid). same_source f.hot hot && same_source f.cold source) c.forbids yes in
          let forbids = (StaysValid-IsComplete c complete).forbids in
          let valid = All-contains (IsValidForbid c) c.forbids f forbids (k, within, is) in
          let same =
          same_source-true f.cold source (and_parts (same_source f.hot hot) (same_source f.cold source) both).1 in
          other (subst (λ s. side_of c s ≡ Some Cold) same valid.1))

      alike_at : HaveSamePartners c p q → (source : Source)
          → is_forbidden c.forbids p source ≡ is_forbidden c.forbids q source
      alike_at alike source = by (side_of c source) refl
        where
          by : (o : Option Side) → side_of c source ≡ o
              → is_forbidden c.forbids p source ≡ is_forbidden c.forbids q source
          by (Some Cold) on = alike source on
          by (Some Hot) on =
              no_match p source (λ cold. (cc (on, cold))) ∙ sym (no_match q source (λ cold. (cc (on, cold))))
          by None on = no_match p source (λ cold. (cc (on, cold))) ∙ sym (no_match q source (λ cold. (cc (on, cold))))

      pub same-HaveSamePartners : HaveSamePartners c p q → xs ≡ ys
      same-HaveSamePartners alike =
          same_lists xs ys (of_p.count ∙ sym of_q.count) (λ k d within.
          let in_ys : k < length ys = omega (arith, within, of_p.count, of_q.count) in
          get_or_default xs k d false within ∙ at k within ∙ get_or_default ys k false d in_ys)
        where
          each : (source : Source) → IsSourceOf c source
              → get_or xs (source_index c source) false ≡ get_or ys (source_index c source) false
          each source there = of_p.each source there ∙ ap not (alike_at alike source) ∙ sym (of_q.each source there)

          at : (k : ℕ) → k < length xs → get_or xs k false ≡ get_or ys k false
          at k within = ⊎_elim (λ less. each (of_stream k) less)
              (λ upto.
              let place : length c.streams + (k - length c.streams) ≡ k = omega (arith, upto) in
              let there : k - length c.streams < length c.utilities = omega (arith, upto, within, of_p.count) in
              subst (λ n. get_or xs n false ≡ get_or ys n false) place (each (of_utility (k - length c.streams)) there))
              (cases_lt k (length c.streams))

  -- ---- the sources of a group

  pub IsGroup-AreGroups : (groups : List Group) → AreGroups c groups → (i : ℕ) (g : Group)
      → i < length groups → slice_get groups i ≡ Some g → IsGroup c g
  IsGroup-AreGroups groups are i g within at = record {
    filled = subst (λ h. 0 < length h.sources) (get_or_from_slice_get groups i g g at) (are.filled i g within);
    alike = λ p q in_p in_q. (are.alike i i p q (g, at, in_p) (g, at, in_q)).0 refl;
  }

  -- what is permitted to the group is what is permitted to one of its sources
  permitted-one : (g : Group) → IsGroup c g → (hot cold : Source) → Contains g.sources hot → side_of c cold ≡ Some Cold
      → not (is_forbidden c.forbids hot cold) ≡ is_permitted c g cold
  permitted-one g group hot cold found side = by (is_forbidden c.forbids hot cold) refl
    where
      by : (b : Bool) → is_forbidden c.forbids hot cold ≡ b → not b ≡ is_permitted c g cold
      by true refused =
          let not_free = false_from_ne_true (is_permitted c g cold) (λ free.
          false≢true (sym (permitted-each c g cold hot free found) ∙ refused)) in
          sym not_free
      by false free = sym (permitted-all c g cold (λ other there. group.alike other hot there found cold side ∙ free))

  pub ArePermitted-first : (g : Group) → IsGroup c g → (first : Source) → Contains g.sources first
      → (allowed : List Bool)
      → ArePermissions c c.forbids first allowed → ArePermitted c g allowed
  ArePermitted-first g group first found allowed h = record {
    count = h.count;
    each = λ cold side. h.each cold (source_on Cold cold side) ∙ permitted-one g group first cold found side;
  }
