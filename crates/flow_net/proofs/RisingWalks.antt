-- Walks whose arcs rise by a rank of their nodes, and the tree of a search.
use Rattle.flow_net.proofs.Words.{All, All-cons, All-head, All-nil, All-tail, All-weaker, Arc, AreApart, HasArrived, IsArc, IsFreeArc, IsFreePath}
use Rattle.flow_net.proofs.Words.{IsTree, IsTreeArc, IsTreePath, IsWalk, Link, Problem, Routing, Search, arc_of, depth_at, link_at, reverse-append}
use Rattle.std.proofs.Common.{Bool, List, [], ap, arith, false, get_or, inl, inr, refl, reverse, subst, sym, true, ℕ, ◌++◌, ◌<◌, ◌∙◌, ◌∷◌, ◌≡◌, ◌≤◌}
use Rattle.std.proofs.Common.{◌⊎◌}

-- a walk that is found from its end: an arc before it, and its first arc off again
pub walk-push : (path : List Arc) (a : Arc) (w : ℕ) → IsWalk (reverse path) a.head w
    → IsWalk (reverse (path ++ a ∷ [])) a.tail w
walk-push path a w walk = subst (λ xs. IsWalk xs a.tail w) (sym (reverse-append path (a ∷ []))) (refl, walk)

pub walk-pop : (path : List Arc) (a : Arc) (u w : ℕ) → IsWalk (reverse (path ++ a ∷ [])) u w
    → (a.tail ≡ u) × IsWalk (reverse path) a.head w
walk-pop path a u w walk = subst (λ xs. IsWalk xs u w) (reverse-append path (a ∷ [])) walk

-- the arcs of a walk that rises begin no lower than the walk
pub rising_above : (rank : ℕ → ℕ) (path : List Arc) (u w : ℕ) → IsWalk path u w
    → All (λ a. rank a.tail < rank a.head) path
    → All (λ a. rank u ≤ rank a.tail) path
rising_above rank [] u w walk rising = All-nil (λ a. rank u ≤ rank a.tail)
rising_above rank (a ∷ path) u w walk rising =
    let first = All-head (λ b. rank b.tail < rank b.head) a path rising in
    let begins = ap rank walk.0 in
    let rest_rising = All-tail (λ b. rank b.tail < rank b.head) a path rising in
    let rest_above = rising_above rank path a.head w walk.1 rest_rising in
    let path_above = All-weaker (λ b. rank a.head ≤ rank b.tail) (λ b. rank u ≤ rank b.tail) (λ b h.
    omega (arith, h, first, begins)) path rest_above in
    All-cons (λ b. rank u ≤ rank b.tail) a path (omega (arith, begins)) path_above

-- of two ways along one link, one ends where the other does, or where it begins
ways_meet : (l : Link) (k : ℕ) (x y : Bool)
    → ((arc_of l k y).head ≡ (arc_of l k x).head) ⊎ ((arc_of l k y).head ≡ (arc_of l k x).tail)
ways_meet l k true true = inl refl
ways_meet l k true false = inr refl
ways_meet l k false true = inr refl
ways_meet l k false false = inl refl

same_ends : (links : List Link) (a b : Arc) → IsArc links a → IsArc links b → b.link ≡ a.link
    → (b.head ≡ a.head) ⊎ (b.head ≡ a.tail)
same_ends links a b p q same =
    let head = ap (λ c. c.head) (q.is ∙ ap (λ k. arc_of (link_at links k) k b.forward) same) in
    elim (ways_meet (link_at links a.link) a.link a.forward b.forward) [
      | inl e ↦ inl (head ∙ (e ∙ sym (ap (λ c. c.head) p.is)))
      | inr e ↦ inr (head ∙ (e ∙ sym (ap (λ c. c.tail) p.is)))
    ]

-- so no two arcs of a walk that rises are ways along one link
apart_by_rank : (links : List Link) (rank : ℕ → ℕ) (path : List Arc) (u w : ℕ) → IsWalk path u w
    → All (IsArc links) path
    → All (λ a. rank a.tail < rank a.head) path → AreApart path
apart_by_rank links rank [] u w walk arcs rising = tt
apart_by_rank links rank (a ∷ path) u w walk arcs rising =
    let first = All-head (λ b. rank b.tail < rank b.head) a path rising in
    let rest = All-tail (λ b. rank b.tail < rank b.head) a path rising in
    let above = rising_above rank path a.head w walk.1 rest in
    let is = All-head (IsArc links) a path arcs in
    let others = All-tail (IsArc links) a path arcs in (
      λ k d l same. let up = rest k d l in
          let over = above k d l in
          elim (same_ends links a (get_or path k d) is (others k d l) same) [
            | inl e ↦ (let h = ap rank e in omega (arith, h, first, up, over))
            | inr e ↦ (let h = ap rank e in omega (arith, h, first, up, over))
          ],
      apart_by_rank links rank path a.head w walk.1 others rest,
    )

-- a walk from the source to the sink along free arcs that rise by a rank of their nodes
pub IsFreePath-rising : (p : Problem) (r : Routing) (rank : ℕ → ℕ) (path : List Arc) → IsWalk path p.source p.sink
    → All (λ a. IsFreeArc p r a × (rank a.tail < rank a.head)) path → IsFreePath p r path
IsFreePath-rising p r rank path walk arcs = record {
  walk = walk;
  arcs = All-weaker (λ a. IsFreeArc p r a × (rank a.tail < rank a.head)) (IsFreeArc p r) (λ a h. h.0) path arcs;
  apart =
      let are_arcs = All-weaker (λ a. IsFreeArc p r a × (rank a.tail < rank a.head)) (IsArc p.net.now.links)
      (λ a h. h.0.residual.arc) path arcs in
      let rise = All-weaker (λ a. IsFreeArc p r a × (rank a.tail < rank a.head)) (λ a. rank a.tail < rank a.head)
      (λ a h. h.1) path arcs in
      apart_by_rank p.net.now.links rank path p.source p.sink walk are_arcs rise;
}

-- the last arcs of a search that has arrived make a tree
pub IsTree-arrived : (p : Problem) (r : Routing) (s : Search) → HasArrived p r s → IsTree p s
IsTree-arrived p r s h =
    let labels = h.search.labels in record {
      one_each = labels.one_each;
      sink_settled = h.sink_settled;
      indices = labels.indices;
      root = λ v hit. labels.root v (labels.settled_labelled v hit);
      head = λ v a last. (labels.by_arc v a last).head;
      tail_settled = λ v a last. (labels.by_arc v a last).tail_settled;
      depth = λ v a last. (labels.by_arc v a last).depth;
    }

-- the path of the tree is a path along free arcs, where its arcs are free
pub IsFreePath-tree : (p : Problem) (r : Routing) (s : Search) (path : List Arc) → IsTree p s
    → ((a : Arc) → IsTreeArc p s a → IsFreeArc p r a)
    → IsTreePath p s path → IsFreePath p r path
IsFreePath-tree p r s path tree free h =
    let free_deeper = All-weaker (IsTreeArc p s)
    (λ a. IsFreeArc p r a × (depth_at s.labels.items a.tail < depth_at s.labels.items a.head))
    (λ a is. (free a is, (let e = tree.depth a.head a is.is_last in omega (arith, e)))) path h.arcs in
    IsFreePath-rising p r (depth_at s.labels.items) path h.walk free_deeper
