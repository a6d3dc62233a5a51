-- The search from the source over residual arcs: the labels of the nodes, and the nodes settled.
use Rattle.std.specs.Prelude.{◌≡◌, ◌≢◌, ℕ, ◌+◌, ◌*◌, ◌<◌, ℤ, pos, ◌+ℤ◌, ◌≤ℤ◌, Bool, true, false, List, [], ◌∷◌, length, slice_index_or, slice_set, count_by, is_some, All, Contains, Option, Some, None, replicate}
use Rattle.std.specs.List.Sorted.{IsPermutation}
use Rattle.std.specs.Option.{option_map}
use Rattle.std.specs.declared.cmp.Reverse.{Reverse}
use Rattle.flow_net.specs.declared.arc.Arc.{Arc}
use Rattle.flow_net.specs.declared.problem.Problem.{Problem}
use Rattle.flow_net.specs.declared.routing.Routing.{Routing}
use Rattle.flow_net.specs.declared.search.Label.{Label}
use Rattle.flow_net.specs.declared.search.Search.{Search}
use Rattle.flow_net.specs.Net.{potential_at, is_in, largest_cost}
use Rattle.flow_net.specs.Arc.{IsArc}
use Rattle.flow_net.specs.Flow.{reduced_cost_of, IsWalk}
use Rattle.flow_net.specs.Problem.{IsResidualArc, arc_by_index}
use Rattle.flow_net.specs.Queue.{entry, entries_of}

-- the label of node v, and whether there is one
abbrev pub label_at : List (Option Label) → ℕ → Option Label
label_at labels v = slice_index_or labels v None

abbrev pub is_labelled : List (Option Label) → ℕ → Bool
is_labelled labels v = is_some (label_at labels v)

-- the distance of a labelled node, how many arcs the path to it has, and the last of them with its index
abbrev pub distance_of_label : Option Label → ℤ
distance_of_label (Some l) = l.distance
distance_of_label None = pos 0

abbrev pub distance_at : List (Option Label) → ℕ → ℤ
distance_at labels v = distance_of_label (label_at labels v)

abbrev pub depth_of_label : Option Label → ℕ
depth_of_label (Some l) = l.depth
depth_of_label None = 0

abbrev pub depth_at : List (Option Label) → ℕ → ℕ
depth_at labels v = depth_of_label (label_at labels v)

abbrev pub index_of_label : Option Label → Option ℕ
index_of_label (Some l) = l.arc
index_of_label None = None

abbrev pub index_at : List (Option Label) → ℕ → Option ℕ
index_at labels v = index_of_label (label_at labels v)

abbrev pub arc_of_label : Problem → Option Label → Option Arc
arc_of_label p o = option_map (arc_by_index p) (index_of_label o)

abbrev pub arc_at : Problem → List (Option Label) → ℕ → Option Arc
arc_at p labels v = arc_of_label p (label_at labels v)

-- how far the potential of a node rises: by its distance where it is settled, and elsewhere by the level
abbrev pub rise_or : Option Label → Bool → ℤ → ℤ
rise_or (Some l) true level = l.distance
rise_or (Some l) false level = level
rise_or None b level = level

abbrev pub rise_of : Search → ℕ → ℤ
rise_of s v = rise_or (label_at s.labels.items v) (is_in s.settled.items v) s.queue.level

-- how many nodes are settled
abbrev pub settled_count : List Bool → ℕ
settled_count settled = count_by (λ b. b) settled

-- the label of the source
abbrev pub source_label : Label
source_label = record { distance = pos 0; depth = 0; arc = None }

-- the label of node v comes by arc a: from a settled node, along a residual arc
pub record IsLabelledBy (p : Problem) (r : Routing) (labels : List (Option Label)) (settled : List Bool)
    (v : ℕ) (label : Option Label) (a : Arc) : Type 0 where
  pub residual : IsResidualArc p r a
  pub head : a.head ≡ v
  pub tail_settled : is_in settled a.tail ≡ true
  pub distance : distance_of_label label ≡ distance_at labels a.tail +ℤ reduced_cost_of r.potentials.items a
  pub depth : depth_of_label label ≡ depth_at labels a.tail + 1

-- the potential of node v, risen so far, differs from the source's by at most a largest cost for each arc that leads
-- to it
pub record IsNear (p : Problem) (r : Routing) (v : ℕ) (distance : ℤ) (depth : ℕ) : Type 0 where
  pub from : potential_at r.potentials.items p.source
      ≤ℤ (potential_at r.potentials.items v +ℤ distance +ℤ pos (depth * largest_cost p.net.now))
  pub upto : (potential_at r.potentials.items v +ℤ distance)
      ≤ℤ (potential_at r.potentials.items p.source +ℤ pos (depth * largest_cost p.net.now))

-- the labels make a tree of residual arcs from the source
pub record AreLabels (p : Problem) (r : Routing) (labels : List (Option Label)) (settled : List Bool) : Type 0 where
  pub one_each : length labels ≡ p.net.now.nodes
  pub one_mark_each : length settled ≡ p.net.now.nodes
  pub source : label_at labels p.source ≡ Some source_label
  pub settled_labelled : (v : ℕ) → is_in settled v ≡ true → is_labelled labels v ≡ true
  pub indices : (v k : ℕ) → index_at labels v ≡ Some k → k < length p.adjacency.arcs.items
  pub root : (v : ℕ) → is_labelled labels v ≡ true → arc_at p labels v ≡ None → v ≡ p.source
  pub by_arc : (v : ℕ) (a : Arc) → arc_at p labels v ≡ Some a → IsLabelledBy p r labels settled v (label_at labels v) a
  pub risen : (v : ℕ) → pos 0 ≤ℤ distance_at labels v
  pub near : (v : ℕ) → is_labelled labels v ≡ true → IsNear p r v (distance_at labels v) (depth_at labels v)
  pub depths : (v : ℕ) → is_in settled v ≡ true → depth_at labels v < settled_count settled

-- an entry of the queue has the distance of some label of its node
pub record IsEntry (labels : List (Option Label)) (e : Reverse ℤ × ℕ) : Type 0 where
  pub labelled : is_labelled labels e.1 ≡ true
  pub no_less : distance_at labels e.1 ≤ℤ e.0.0

-- no settled node is farther than the level, and each other labelled node has an entry
pub record IsQueued (labels : List (Option Label)) (settled : List Bool) (level : ℤ)
    (entries : List (Reverse ℤ × ℕ)) : Type 0 where
  pub upto_level : (v : ℕ) → is_in settled v ≡ true → distance_at labels v ≤ℤ level
  pub queued : (v : ℕ) → is_labelled labels v ≡ true → is_in settled v ≡ false
      → Contains entries (entry (distance_at labels v) v)
  pub distances : All (IsEntry labels) entries

abbrev pub HasQueue : Search → Type 0
HasQueue s = IsQueued s.labels.items s.settled.items s.queue.level (entries_of s.queue)

-- a search between two arcs
pub record IsSearch (p : Problem) (r : Routing) (s : Search) : Type 0 where
  pub labels : AreLabels p r s.labels.items s.settled.items
  pub queue : HasQueue s

-- a search that has labelled the source alone
pub record IsFresh (p : Problem) (s : Search) : Type 0 where
  pub labels : s.labels.items ≡ slice_set (replicate p.net.now.nodes None) p.source (Some source_label)
  pub settled : s.settled.items ≡ replicate p.net.now.nodes false
  pub level : s.queue.level ≡ pos 0
  pub entries : IsPermutation (entry (pos 0) p.source ∷ []) (entries_of s.queue)

-- no tentative label is left, and the search is else as it was
pub record IsDrained (old new : Search) : Type 0 where
  pub labels : new.labels.items ≡ old.labels.items
  pub settled : new.settled.items ≡ old.settled.items
  pub queue : HasQueue new
  pub entries : entries_of new.queue ≡ []

-- node v is settled next, by its label
pub record IsSettling (old new : Search) (v : ℕ) (l : Label) : Type 0 where
  pub labels : new.labels.items ≡ old.labels.items
  pub label : label_at old.labels.items v ≡ Some l
  pub not_before : is_in old.settled.items v ≡ false
  pub settled : new.settled.items ≡ slice_set old.settled.items v true
  pub queue : HasQueue new
  pub level : l.distance ≡ new.queue.level

-- node v, with label l, is the one that was settled last
pub record IsAt (s : Search) (v : ℕ) (l : Label) : Type 0 where
  pub label : label_at s.labels.items v ≡ Some l
  pub settled : is_in s.settled.items v ≡ true
  pub level : l.distance ≡ s.queue.level

-- node v gets label l, and enters the queue
pub record IsEntered (old new : Search) (v : ℕ) (l : Label) : Type 0 where
  pub labels : new.labels.items ≡ slice_set old.labels.items v (Some l)
  pub settled : new.settled.items ≡ old.settled.items
  pub level : new.queue.level ≡ old.queue.level
  pub entries : IsPermutation (entry l.distance v ∷ entries_of old.queue) (entries_of new.queue)

-- the same nodes are settled, with the same labels, and other labels only fell
pub record Improves (old new : Search) : Type 0 where
  pub settled : new.settled.items ≡ old.settled.items
  pub level : new.queue.level ≡ old.queue.level
  pub kept : (v : ℕ) → is_in old.settled.items v ≡ true → label_at new.labels.items v ≡ label_at old.labels.items v
  pub labelled : (v : ℕ) → is_labelled old.labels.items v ≡ true → is_labelled new.labels.items v ≡ true
  pub fell : (v : ℕ) → is_labelled old.labels.items v ≡ true
      → distance_at new.labels.items v ≤ℤ distance_at old.labels.items v

-- the distance of an arc's head is no more than that of its tail with the arc
pub record IsClosed (r : Routing) (labels : List (Option Label)) (a : Arc) : Type 0 where
  pub labelled : is_labelled labels a.head ≡ true
  pub low : distance_at labels a.head ≤ℤ (distance_at labels a.tail +ℤ reduced_cost_of r.potentials.items a)

abbrev pub IsClosedAt : Problem → Routing → Search → Arc → Type 0
IsClosedAt p r s a = IsResidualArc p r a → IsClosed r s.labels.items a

-- an arc was followed: it is closed, and the search goes on
pub record IsRelaxed (p : Problem) (r : Routing) (old new : Search) (a : Arc) : Type 0 where
  pub search : IsSearch p r new
  pub improves : Improves old new
  pub closed : IsClosedAt p r new a

-- the sink is settled, and each node settled before it is closed
pub record HasArrived (p : Problem) (r : Routing) (s : Search) : Type 0 where
  pub search : IsSearch p r s
  pub sink_settled : is_in s.settled.items p.sink ≡ true
  pub level : distance_at s.labels.items p.sink ≡ s.queue.level
  pub closed : (a : Arc) → IsArc p.net.now.links a → is_in s.settled.items a.tail ≡ true → a.tail ≢ p.sink
      → IsClosedAt p r s a

-- every node to which a path leads is settled, and the sink is not among them
pub record IsStuck (p : Problem) (r : Routing) (s : Search) : Type 0 where
  pub labels : AreLabels p r s.labels.items s.settled.items
  pub all_settled : (v : ℕ) → is_labelled s.labels.items v ≡ true → is_in s.settled.items v ≡ true
  pub closed : (a : Arc) → IsArc p.net.now.links a → is_in s.settled.items a.tail ≡ true → IsClosedAt p r s a
  pub sink_out : is_in s.settled.items p.sink ≡ false

-- arc a is the last arc to its head, which is settled
pub record IsTreeArc (p : Problem) (s : Search) (a : Arc) : Type 0 where
  pub is_last : arc_at p s.labels.items a.head ≡ Some a
  pub head_settled : is_in s.settled.items a.head ≡ true

-- the last arcs lead to the settled nodes from the source, and to the sink among them
pub record IsTree (p : Problem) (s : Search) : Type 0 where
  pub one_each : length s.labels.items ≡ p.net.now.nodes
  pub sink_settled : is_in s.settled.items p.sink ≡ true
  pub indices : (v k : ℕ) → index_at s.labels.items v ≡ Some k → k < length p.adjacency.arcs.items
  pub root : (v : ℕ) → is_in s.settled.items v ≡ true → arc_at p s.labels.items v ≡ None → v ≡ p.source
  pub head : (v : ℕ) (a : Arc) → arc_at p s.labels.items v ≡ Some a → a.head ≡ v
  pub tail_settled : (v : ℕ) (a : Arc) → arc_at p s.labels.items v ≡ Some a → is_in s.settled.items a.tail ≡ true
  pub depth : (v : ℕ) (a : Arc) → arc_at p s.labels.items v ≡ Some a
      → depth_at s.labels.items v ≡ depth_at s.labels.items a.tail + 1

-- the path by which the sink was settled
pub record IsTreePath (p : Problem) (s : Search) (path : List Arc) : Type 0 where
  pub walk : IsWalk path p.source p.sink
  pub arcs : All (IsTreeArc p s) path
