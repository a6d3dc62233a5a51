use Rattle.flow_net.proofs.QueueLemmas.{IsQueued-settled, IsQueued-stale, labelled_within, next-entry, settled-level}
use Rattle.flow_net.proofs.search.Search.nearest.Goals.{In-Some}
use Rattle.flow_net.proofs.Words.{IsQueued, entries_of, false≢true, get_or_read, is_in, label_at, length_permutation, distance_of_label}
use Rattle.std.proofs.Common.{None, ap, arith, false, is_some, length, set, subst, sym, true, ◌<◌, ◌∙◌}
use Rattle.flow_net.proofs.search.Search.nearest.Goals as goal

-- the node that leaves the queue is labelled, and so it is in range
node_in : (c : In-Some)
    → (c.in-Some.node < length c.loop-node.self.labels.items) × (c.in-Some.node < length c.loop-node.self.settled.items)
node_in c =
    let s = c.loop-node.self in
    let at = next-entry s.labels.items s.settled.items s.queue c.pop.new.self c.in-Some.node c.in-Some.ensures
    c.loop-node.invariant.queue in
    let within = labelled_within s.labels.items c.in-Some.node at.labelled in
    (within, (omega arith))

pub index-requires : goal.index-requires
index-requires c = let w = node_in (goal.at.index-requires c).In-Some in omega (arith, w)

pub index-requires-then-not-index : goal.index-requires-then-not-index
index-requires-then-not-index c =
    let w = node_in (goal.at.index-requires-then-not-index c).In-Some in
    omega (arith, w)

pub index_mut-requires : goal.index_mut-requires
index_mut-requires c = let w = node_in (goal.at.index_mut-requires c).In-Some in omega (arith, w)

pub returns-in-Some-index : goal.returns-in-Some-index
returns-in-Some-index c =
    let s = c.loop-node.self in
    let v = c.in-Some.node in
    let inv = c.loop-node.invariant in
    let w = node_in (goal.at.returns-in-Some-index c).In-Some in
    let free = sym (get_or_read s.settled.items v c.index.result.now w.1 c.index.ensures false) ∙ c.if-not-index.true in
    let read = get_or_read s.labels.items v c.index-then-not-index.result.now w.0 c.index-then-not-index.ensures None in
    let label = sym read ∙ c.in-Some-index.is in
    record {
      labels = ap (λ xs. xs.items) inv.labels;
      label = ap (λ xs. label_at xs.items v) (sym inv.labels) ∙ label;
      not_before = ap (λ xs. is_in xs.items v) (sym inv.settled) ∙ free;
      settled = ap (λ xs. set xs.items v true) inv.settled;
      queue =
          IsQueued-settled s.labels.items s.settled.items s.queue c.pop.new.self v c.in-Some.ensures inv.queue free w.1;
      level =
          sym (ap distance_of_label label)
          ∙ settled-level s.labels.items s.settled.items s.queue c.pop.new.self v c.in-Some.ensures inv.queue free w.1;
    }

-- the queue gets shorter
shorter : (c : In-Some) → length (entries_of c.pop.new.self) < length (entries_of c.loop-node.self.queue)
shorter c = let e = length_permutation _ _ c.in-Some.ensures.taken in omega (arith, e)

pub loop-node-smaller : goal.loop-node-smaller
loop-node-smaller c = shorter (goal.at.loop-node-smaller c).In-Some

pub loop-node-smaller-in_default-index : goal.loop-node-smaller-in_default-index
loop-node-smaller-in_default-index c = shorter (goal.at.loop-node-smaller-in_default-index c).In-Some

pub loop-node-preserved : goal.loop-node-preserved
loop-node-preserved c =
    let s = c.loop-node.self in
    let v = c.in-Some.node in
    let inv = c.loop-node.invariant in
    let w = node_in (goal.at.loop-node-preserved c).In-Some in
    let stale = sym (get_or_read s.settled.items v c.index.result.now w.1 c.index.ensures false)
    ∙ c.if-not-index.false in
    record {
      labels = inv.labels;
      settled = inv.settled;
      queue = IsQueued-stale s.labels.items s.settled.items s.queue c.pop.new.self v c.in-Some.ensures inv.queue stale;
    }

pub loop-node-preserved-in_default-index : goal.loop-node-preserved-in_default-index
loop-node-preserved-in_default-index c =
    let s = c.loop-node.self in
    let v = c.in-Some.node in
    let w = node_in (goal.at.loop-node-preserved-in_default-index c).In-Some in
    let read = get_or_read s.labels.items v c.index-then-not-index.result.now w.0 c.index-then-not-index.ensures None in
    let none = sym read ∙ c.in_default-index.is in
    let at =
    next-entry s.labels.items s.settled.items s.queue c.pop.new.self v c.in-Some.ensures c.loop-node.invariant.queue in
    absurd (false≢true (sym (ap is_some none) ∙ at.labelled))

pub returns : goal.returns
returns c =
    let s = c.loop-node.self in
    let inv = c.loop-node.invariant in
    let empty = c.in_default.ensures in
    record {
      labels = ap (λ xs. xs.items) inv.labels;
      settled = ap (λ xs. xs.items) inv.settled;
      queue = subst (IsQueued s.labels.items s.settled.items _) (empty.was_empty ∙ sym empty.is_empty)
          (subst (λ z. IsQueued s.labels.items s.settled.items z (entries_of s.queue)) (sym empty.level) inv.queue);
      entries = empty.is_empty;
    }
