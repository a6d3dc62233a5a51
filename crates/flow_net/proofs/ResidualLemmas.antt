-- The places of arcs, and residual arcs: those where nothing flows, and those after what a link carries has changed.
use Rattle.flow_net.proofs.Words.{Adjacency, All, Arc, ArePlaces, AreResiduals, IsAdjacency, IsArc, IsResidual, IsResidualOf, Link, Places, Residual, StandOnce, arc_numbered, arc_of}
use Rattle.flow_net.proofs.Words.{cases_eq, flow_on, get_or-replicate, get_or-set_other, get_or-set_same, get_or_default, length-set}
use Rattle.std.proofs.lemmas.List.{get_or-drop, get_or-take, length-drop, length-take}
use Rattle.flow_net.proofs.Words.{link_at, place_in, place_of, placed, places_at, residual_at, residual_of}
use Rattle.std.proofs.Common.{Bool, IsTrue, List, ap, arith, drop, false, inl, inr, length, pos, refl, replicate, set, slice_range, subst, sym, true, ℕ, ℤ, ◌+◌, ◌-◌}
use Rattle.std.proofs.Common.{◌<ℤ◌, ◌<◌, ◌↔◌, ◌∙◌, ◌≡◌, ◌≢◌, ◌≤◌, ◌⊎◌}
use Rattle.flow_net.proofs.SentFlow.{no_arc}
use Rattle.flow_net.proofs.Lists.{set_cases}

-- ---- places

placed_here : (p : Places) (w : Bool) (j : ℕ) → place_in (placed p w j) w ≡ j
placed_here p true j = refl
placed_here p false j = refl

placed_there : (p : Places) (w u : Bool) (j : ℕ) → u ≢ w → place_in (placed p w j) u ≡ place_in p u
placed_there p true true j ne = absurd (ne refl)
placed_there p true false j ne = refl
placed_there p false true j ne = refl
placed_there p false false j ne = absurd (ne refl)

Bool-cases_eq : (x y : Bool) → (x ≡ y) ⊎ (x ≢ y)
Bool-cases_eq true true = inl refl
Bool-cases_eq true false = inr (λ e. cc)
Bool-cases_eq false true = inr (λ e. cc)
Bool-cases_eq false false = inl refl

-- two arcs along one link in one direction are one arc
same_way : (links : List Link) (a b : Arc) → IsArc links a → IsArc links b → a.link ≡ b.link
    → a.forward ≡ b.forward → a ≡ b
same_way links a b p q link way =
    p.is
    ∙ (ap (λ k. arc_of (link_at links k) k a.forward) link
    ∙ (ap (λ w. arc_of (link_at links b.link) b.link w) way ∙ sym q.is))

-- the places of the arcs before index i
pub record ArePlacedBelow (n : ℕ) (arcs : List Arc) (i : ℕ) (places : List Places) : Type 0 where
  pub one_each : length places ≡ n
  pub own : (j : ℕ) → j < i → place_of places (arc_numbered arcs j) ≡ j

-- one arc more
module _ (links : List Link) (arcs : List Arc) (i : ℕ) (places : List Places) (are : All (IsArc links) arcs)
    (once : StandOnce arcs) (within : i < length arcs) (each : length places ≡ length links) where
  abbrev a : Arc
  a = arc_numbered arcs i

  abbrev changed : List Places
  changed = set places a.link (placed (places_at places a.link) a.forward i)

  at_link : places_at changed a.link ≡ placed (places_at places a.link) a.forward i
  at_link =
      let b = (are i no_arc within).below in
      get_or-set_same places a.link (placed (places_at places a.link) a.forward i) (record { forward = 0; back = 0 })
      (omega (arith, b, each))

  own_place : place_of changed a ≡ i
  own_place = ap (λ p. place_in p a.forward) at_link ∙ placed_here (places_at places a.link) a.forward i

  kept_place : (j : ℕ) → j < i → place_of changed (arc_numbered arcs j) ≡ place_of places (arc_numbered arcs j)
  kept_place j less = elim (cases_eq (arc_numbered arcs j).link a.link) [
    | inr ne ↦
        ap (λ p. place_in p (arc_numbered arcs j).forward)
        (get_or-set_other places a.link (arc_numbered arcs j).link _ _ ne)
    | inl e ↦
        let way = (arc_numbered arcs j).forward in
        let apart : way ≢ a.forward =
        λ way_too.
        once j i no_arc less within
        (same_way links (arc_numbered arcs j) a (are j no_arc (omega (arith, less, within))) (are i no_arc within) e
        way_too) in
        let placed = placed_there (places_at places a.link) a.forward way i apart
        ∙ ap (λ m. place_in (places_at places m) way) (sym e) in
        ap (λ m. place_in (places_at changed m) way) e ∙ (ap (λ p. place_in p way) at_link ∙ placed)
  ]

  pub ArePlacedBelow-more : ((j : ℕ) → j < i → place_of places (arc_numbered arcs j) ≡ j)
      → ArePlacedBelow (length links) arcs (i + 1) (set places (arc_numbered arcs i).link
      (placed (places_at places (arc_numbered arcs i).link) (arc_numbered arcs i).forward i))
  ArePlacedBelow-more own = record {
    one_each = length-set places a.link _ ∙ each;
    own = λ j l. elim (cases_eq j i) [
      | inl same ↦ subst (λ m. place_of changed (arc_numbered arcs m) ≡ m) (sym same) own_place
      | inr other ↦ (let less : j < i = omega (arith, l, other) in kept_place j less ∙ own j less)
    ];
  }

pub ArePlaces-all : (n : ℕ) (arcs : List Arc) (i : ℕ) (places : List Places) → length arcs ≤ i
    → ArePlacedBelow n arcs i places → ArePlaces n arcs places
ArePlaces-all n arcs i places past h = record { one_each = h.one_each; own = λ j l. h.own j (omega (arith, l, past)) }

-- ---- residual arcs

-- what the code reads past the end of a list of residual arcs
abbrev pub no_residual : Residual
no_residual = record { head = 0; is_open = false; cost = pos 0 }

-- the residual arc along its link is an arc's residual arc
pub IsResidualOf-along : (links : List Link) (flow : List ℤ) (a : Arc) (w : Residual) → IsArc links a
    → IsResidual (link_at links a.link) (flow_on flow a.link) a.forward w → IsResidualOf links flow a w
IsResidualOf-along links flow a w is h = subst (λ b. IsResidualOf links flow b w) (sym is.is) (each a.link a.forward h)
  where
    each : (k : ℕ) (forward : Bool) → IsResidual (link_at links k) (flow_on flow k) forward w
        → IsResidualOf links flow (arc_of (link_at links k) k forward) w
    each k true h = record { head = h.head; is_open = h.is_open; cost = h.cost }
    each k false h = record { head = h.head; is_open = h.is_open; cost = h.cost }

-- the residual arcs where nothing flows
pub AreResiduals-none : (links : List Link) (arcs : List Arc) (residuals : List Residual) → All (IsArc links) arcs
    → length residuals ≡ length arcs
    → ((j : ℕ) → j < length arcs
    → IsResidual (link_at links (arc_numbered arcs j).link) (pos 0) (arc_numbered arcs j).forward
    (residual_at residuals j))
    → AreResiduals links (replicate (length links) (pos 0)) arcs residuals
AreResiduals-none links arcs residuals are one_each each = record {
  one_each = one_each;
  each = λ j l.
      let a = arc_numbered arcs j in
      let is = are j no_arc l in
      let nothing = get_or-replicate (length links) a.link (pos 0) (pos 0) is.below in
      IsResidualOf-along links (replicate (length links) (pos 0)) a (residual_at residuals j) is
      (subst (λ z. IsResidual (link_at links a.link) z a.forward (residual_at residuals j)) (sym nothing) (each j l));
}

-- the residual arcs of a range of arcs
pub AreResiduals-range : (links : List Link) (flow : List ℤ) (arcs : List Arc) (residuals : List Residual) (i j : ℕ)
    → i ≤ j
    → j ≤ length arcs → AreResiduals links flow arcs residuals
    → AreResiduals links flow (slice_range arcs i j) (slice_range residuals i j)
AreResiduals-range links flow arcs residuals i j rises within h = record {
  one_each = of_residuals ∙ sym of_arcs;
  each = λ m l.
      let less : m < j - i = omega (arith, l, of_arcs) in
      let arc = get_or-take (j - i) (drop i arcs) m _ less ∙ get_or-drop i arcs m _ in
      let residual = get_or-take (j - i) (drop i residuals) m _ less ∙ get_or-drop i residuals m _ in
      subst (λ a. IsResidualOf links flow a (residual_at (slice_range residuals i j) m)) (sym arc)
      (subst (IsResidualOf links flow (arc_numbered arcs (i + m))) (sym residual)
      (h.each (i + m) (omega (arith, less, within))));
}
  where
    of_arcs : length (slice_range arcs i j) ≡ j - i
    of_arcs = simp (length-take, length-drop) (omega (arith, rises, within))

    of_residuals : length (slice_range residuals i j) ≡ j - i
    of_residuals =
        let e = h.one_each in
        simp (length-take, length-drop) (omega (arith, rises, within, e))

module _ (n : ℕ) (links : List Link) (adjacency : Adjacency) (sound : IsAdjacency n links adjacency) where
  -- each arc of the net stands at its place
  pub place-within : (a : Arc) → IsArc links a → place_of adjacency.places.items a < length adjacency.arcs.items
  place-within a is =
      let (j, within, at) = sound.arcs.complete a is in
      let own = sound.places.own j within in
      let stands = sym (get_or_default adjacency.arcs.items j a _ within) ∙ at in
      let same_place = ap (place_of adjacency.places.items) (sym stands) ∙ own in
      subst (λ i. i < length adjacency.arcs.items) (sym same_place) within

  pub place-stands : (a : Arc) → IsArc links a
      → arc_numbered adjacency.arcs.items (place_of adjacency.places.items a) ≡ a
  place-stands a is =
      let (j, within, at) = sound.arcs.complete a is in
      let own = sound.places.own j within in
      let stands = sym (get_or_default adjacency.arcs.items j a _ within) ∙ at in
      ap (arc_numbered adjacency.arcs.items) (ap (place_of adjacency.places.items) (sym stands) ∙ own) ∙ stands

  -- an arc can carry more where the residual arc at its place is open
  pub place-open : (flow : List ℤ) (residuals : List Residual) → AreResiduals links flow adjacency.arcs.items residuals
      → (a : Arc) → IsArc links a
      → IsTrue (residual_at residuals (place_of adjacency.places.items a)).is_open ↔ (pos 0 <ℤ residual_of links flow a)
  place-open flow residuals are a is =
      let place = place_of adjacency.places.items a in
      let opened = (are.each place (place-within a is)).is_open in
      subst (λ b. IsTrue (residual_at residuals place).is_open ↔ (pos 0 <ℤ residual_of links flow b))
      (place-stands a is) opened

  -- the two arcs of a link, and where they stand
  arc_along : (k : ℕ) → k < length links → (w : Bool) → IsArc links (arc_of (link_at links k) k w)
  arc_along k below true = record { below = below; is = refl }
  arc_along k below false = record { below = below; is = refl }

  pub link_place-within : (k : ℕ) → k < length links → (w : Bool)
      → place_in (places_at adjacency.places.items k) w < length adjacency.arcs.items
  link_place-within k below true = place-within (arc_of (link_at links k) k true) (arc_along k below true)
  link_place-within k below false = place-within (arc_of (link_at links k) k false) (arc_along k below false)

  -- what one link carries has changed, and the residual arcs of both ways along it
  module _ (flow : List ℤ) (residuals : List Residual) (k : ℕ) (below : k < length links) (x : ℤ)
      (forth back : Residual)
      (each_flow : length flow ≡ length links) where
    abbrev i : ℕ
    i = place_in (places_at adjacency.places.items k) true

    abbrev j : ℕ
    j = place_in (places_at adjacency.places.items k) false

    -- the residual arc at an index is right
    abbrev IsRight : ℕ → Residual → Type 0
    IsRight m w =
        m < length adjacency.arcs.items → IsResidualOf links (set flow k x) (arc_numbered adjacency.arcs.items m) w

    carried : flow_on (set flow k x) k ≡ x
    carried = get_or-set_same flow k x (pos 0) (omega (arith, below, each_flow))

    -- at a place of the link stands the residual arc along it
    here : (w : Bool) (m : ℕ) (residual : Residual) → m ≡ place_in (places_at adjacency.places.items k) w
        → IsResidual (link_at links k) x w residual
        → IsResidualOf links (set flow k x) (arc_numbered adjacency.arcs.items m) residual
    here w m residual at h =
        subst (λ u. IsResidualOf links (set flow k x) (arc_numbered adjacency.arcs.items u) residual) (sym at) (own w h)
      where
        own : (w : Bool) → IsResidual (link_at links k) x w residual
            → IsResidualOf links (set flow k x)
            (arc_numbered adjacency.arcs.items (place_in (places_at adjacency.places.items k) w)) residual
        own true h =
            let stands = place-stands (arc_of (link_at links k) k true) (arc_along k below true) in
            let own_residual = IsResidualOf-along links (set flow k x) (arc_of (link_at links k) k true) residual
            (arc_along k below true) (subst (λ z. IsResidual (link_at links k) z true residual) (sym carried) h) in
            subst (λ a. IsResidualOf links (set flow k x) a residual) (sym stands) own_residual
        own false h =
            let stands = place-stands (arc_of (link_at links k) k false) (arc_along k below false) in
            let own_residual = IsResidualOf-along links (set flow k x) (arc_of (link_at links k) k false) residual
            (arc_along k below false) (subst (λ z. IsResidual (link_at links k) z false residual) (sym carried) h) in
            subst (λ a. IsResidualOf links (set flow k x) a residual) (sym stands) own_residual

    -- at no other place stands an arc of the link
    other_link : (m : ℕ) → m < length adjacency.arcs.items → m ≢ i → m ≢ j
        → (arc_numbered adjacency.arcs.items m).link ≢ k
    other_link m within not_i not_j same =
        let own = sound.places.own m within in
        let own_is =
        sym own
        ∙ ap (λ u. place_in (places_at adjacency.places.items u) (arc_numbered adjacency.arcs.items m).forward) same in
        apart (arc_numbered adjacency.arcs.items m).forward own_is
      where
        apart : (w : Bool) → m ≡ place_in (places_at adjacency.places.items k) w → ⊥
        apart true e = not_i e
        apart false e = not_j e

    pub AreResiduals-set : IsResidual (link_at links k) x true forth → IsResidual (link_at links k) x false back
        → AreResiduals links flow adjacency.arcs.items residuals
        → AreResiduals links (set flow k x) adjacency.arcs.items (set (set residuals i forth) j back)
    AreResiduals-set forward backward are = record {
      one_each = length-set (set residuals i forth) j back ∙ (length-set residuals i forth ∙ are.one_each);
      each =
          λ m l.
          set_cases (set residuals i forth) j back no_residual
          (let e = length-set residuals i forth in
          let b = link_place-within k below false in
          omega (arith, e, are.one_each, b))
          IsRight (λ here_too. here false j back refl backward)
          (λ u not_j.
          set_cases residuals i forth no_residual
          (let f = link_place-within k below true in omega (arith, are.one_each, f))
          (λ v w. v ≢ j → IsRight v w) (λ off here_too. here true i forth refl forward) there u not_j)
          m l;
    }
      where
        there : (m : ℕ) → m ≢ i → m ≢ j → IsRight m (residual_at residuals m)
        there m not_i not_j within =
            let a = arc_numbered adjacency.arcs.items m in
            let same = get_or-set_other flow k a.link x (pos 0) (other_link m within not_i not_j) in
            let old = are.each m within in
            record { head = old.head; is_open = rw same old.is_open; cost = old.cost }
