-- A search as it begins: the source alone is labelled.
use Rattle.flow_net.proofs.Words.{All-cons, All-nil, All-permutation, Arc, Contains, Contains-permutation, IsSearch, IsStanding, Label, Problem}
use Rattle.flow_net.proofs.Words.{Routing, Search, arc_of_label, entries_of, entry, false≢true, get_or-set_same, index_of_label, ints, is_in}
use Rattle.flow_net.proofs.Words.{label_at, length-replicate, length-set, none-some, distance_of_label}
use Rattle.std.proofs.Common.{Bool, None, Option, Some, [], ap, arith, false, is_some, length, pos, refl, replicate, subst, sym, true, ℕ, ◌<◌, ◌∙◌}
use Rattle.std.proofs.Common.{◌≡◌, ◌≤ℤ◌}
use Rattle.flow_net.proofs.Lists.{replicate_same, set_cases}
use Rattle.flow_net.specs.Search.{IsEntry, IsFresh, IsLabelledBy, IsNear, depth_of_label, source_label}

-- the source alone is labelled
module _ (p : Problem) (r : Routing) (standing : IsStanding p r) (s : Search) (fresh : IsFresh p s) where
  none_labelled : (v : ℕ) → label_at (replicate p.net.now.nodes None) v ≡ None
  none_labelled v = replicate_same p.net.now.nodes v None

  source_in : p.source < length (replicate {A = Option Label} p.net.now.nodes None)
  source_in = let e = length-replicate {A = Option Label} p.net.now.nodes None in omega arith

  by_source : (P : ℕ → Option Label → Type 0) → P p.source (Some source_label) → ((v : ℕ) → P v None)
      → (v : ℕ) → P v (label_at s.labels.items v)
  by_source P here there =
      let cases = set_cases (replicate p.net.now.nodes None) p.source (Some source_label) None source_in P here (λ v _.
      subst (P v) (sym (none_labelled v)) (there v)) in
      rw fresh.labels cases

  at_source : label_at s.labels.items p.source ≡ Some source_label
  at_source =
      ap (λ xs. label_at xs p.source) fresh.labels
      ∙ get_or-set_same (replicate p.net.now.nodes None) p.source (Some source_label) None source_in

  pub none_settled : (v : ℕ) → is_in s.settled.items v ≡ false
  none_settled v = ap (λ xs. is_in xs v) fresh.settled ∙ replicate_same p.net.now.nodes v false

  never : (v : ℕ) → is_in s.settled.items v ≡ true → ⊥
  never v hit = false≢true (sym (none_settled v) ∙ hit)

  pub IsSearch-fresh : IsSearch p r s
  IsSearch-fresh = record {
    labels = record {
      one_each =
          ap length fresh.labels
          ∙ (length-set (replicate p.net.now.nodes None) p.source (Some source_label)
          ∙ length-replicate {A = Option Label} p.net.now.nodes None);
      one_mark_each = ap length fresh.settled ∙ length-replicate {A = Bool} p.net.now.nodes false;
      source = at_source;
      settled_labelled = λ v hit. absurd (never v hit);
      indices =
          by_source (λ v o. (k : ℕ) → index_of_label o ≡ Some k → k < length p.adjacency.arcs.items)
          (λ k e. absurd (none-some k e)) (λ v k e. absurd (none-some k e));
      root =
          by_source (λ v o. is_some o ≡ true → arc_of_label p o ≡ None → v ≡ p.source) (λ _ _. refl)
          (λ v labelled. absurd (false≢true labelled));
      by_arc =
          by_source (λ v o.
          (a : Arc) → arc_of_label p o ≡ Some a → IsLabelledBy p r s.labels.items s.settled.items v o a)
          (λ a e. absurd (none-some a e)) (λ v a e. absurd (none-some a e));
      risen = by_source (λ v o. pos 0 ≤ℤ distance_of_label o) (omega (arith, ints)) (λ v. omega (arith, ints));
      near =
          by_source (λ v o. is_some o ≡ true → IsNear p r v (distance_of_label o) (depth_of_label o))
          (λ _. record { from = omega (arith, ints); upto = omega (arith, ints) })
          (λ v labelled. absurd (false≢true labelled));
      depths = λ v hit. absurd (never v hit);
    };
    queue = record {
      upto_level = λ v hit. absurd (never v hit);
      queued =
          by_source (λ v o.
          is_some o ≡ true → is_in s.settled.items v ≡ false
          → Contains (entries_of s.queue) (entry (distance_of_label o) v))
          (λ _ _. Contains-permutation _ _ (entry (pos 0) p.source) fresh.entries (0, omega arith, refl))
          (λ v labelled. absurd (false≢true labelled));
      distances =
          let source_entry = All-cons (IsEntry s.labels.items) (entry (pos 0) p.source) [] (record {
            labelled = ap is_some at_source;
            no_less = rw at_source (omega (arith, ints));
          }) (All-nil (IsEntry s.labels.items)) in
          All-permutation (IsEntry s.labels.items) _ _ fresh.entries source_entry;
    };
  }
