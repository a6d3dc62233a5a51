-- Paths through a level graph, found from the sink.
use Rattle.flow_net.proofs.Words.{All, All-permutation, All-weaker, Arc, IsFreeArc, IsPermutation-reverse, IsPermutation-sym, IsWalk, Problem}
use Rattle.flow_net.proofs.Words.{Routing, StepsUp, false≢true, get_or-set_other, height_at, height_of, level_at, sum_by-set, turned}
use Rattle.std.proofs.Common.{List, None, Option, ap, arith, cond, count_by, get_or, is_some, length, reverse, set, sym, true, ℕ, ◌+◌, ◌<◌, ◌∙◌, ◌≡◌}
use Rattle.std.proofs.Common.{◌≢◌, ◌≤◌}
use Rattle.flow_net.proofs.Lists.{set_cases, within_from}
use Rattle.flow_net.proofs.RisingWalks.{rising_above}

-- one level more within a bound keeps all within it
pub heights-set : (levels : List (Option ℕ)) (v n : ℕ) (o : Option ℕ) → v < length levels → height_of o ≤ n
    → ((u : ℕ) → height_at levels u ≤ n) → (u : ℕ)
    → height_at (set levels v o) u ≤ n
heights-set levels v n o within here there =
    set_cases levels v o None within (λ u x. height_of x ≤ n) here (λ u ne. there u)

-- how many nodes have a level
abbrev pub level_count : List (Option ℕ) → ℕ
level_count levels = count_by (λ o. is_some o) levels

-- a free arc of a path, from a node with a level to a higher level
pub record IsStep (p : Problem) (r : Routing) (levels : List (Option ℕ)) (a : Arc) : Type 0 where
  pub free : IsFreeArc p r a
  pub up : height_at levels a.tail < height_at levels a.head
  pub has_level : is_some (level_at levels a.tail) ≡ true

pub IsStep-up : (p : Problem) (r : Routing) (levels : List (Option ℕ)) (a : Arc) → IsFreeArc p r a
    → StepsUp levels a.tail a.head → IsStep p r levels a
IsStep-up p r levels a free up =
    let from = ap height_of up.tail in
    let to = ap height_of up.head in
    record { free = free; up = omega (arith, from, to, up.up); has_level = ap is_some up.tail }

-- the first node of a path is closed: the other arcs begin at higher levels
module _ (p : Problem) (r : Routing) (levels : List (Option ℕ)) (path : List Arc) (a : Arc) (w : ℕ)
    (step : IsStep p r levels a) where
  pub IsStep-closed : IsWalk (reverse path) a.head w → All (IsStep p r levels) path
      → All (IsStep p r (set levels a.tail None)) path
  IsStep-closed walk steps =
      let turned = All-permutation (IsStep p r levels) _ _ (IsPermutation-reverse path) steps in
      let heights_rise = All-weaker (IsStep p r levels) (λ b. height_at levels b.tail < height_at levels b.head)
      (λ b h. omega arith) (reverse path) turned in
      let above = rising_above (height_at levels) (reverse path) a.head w walk heights_rise in
      let higher = All-permutation (λ b. height_at levels a.head ≤ height_at levels b.tail) _ _
      (IsPermutation-sym _ _ (IsPermutation-reverse path)) above in
      λ k d l. let b = get_or path k d in
      let s = steps k d l in
      let over = higher k d l in
      let next = s.up in
      let tail = kept b.tail (λ e. let same = ap (height_at levels) e in absurd (omega (arith, over, same))) in
      let head = kept b.head (λ e. let same = ap (height_at levels) e in absurd (omega (arith, over, next, same))) in
      let low = ap height_of tail in
      let high = ap height_of head in
      record { free = s.free; up = omega (arith, low, high, next); has_level = ap is_some tail ∙ s.has_level }
    where
      kept : (v : ℕ) → v ≢ a.tail → level_at (set levels a.tail None) v ≡ level_at levels v
      kept v other = get_or-set_other levels a.tail v None None other

  -- one node fewer has a level, and the arc's head has its own
  pub fewer_levels : level_count (set levels a.tail None) + 1 ≡ level_count levels
  fewer_levels =
      let within = within_from levels a.tail None (λ e. absurd (false≢true (sym (ap is_some e) ∙ step.has_level))) in
      let change = sum_by-set (λ (o : Option ℕ). cond (is_some o) 1 0) levels a.tail None None within in
      let was = ap {B = ℕ} (λ b. cond b 1 0) step.has_level in omega (arith, change, was)

  pub height_kept : height_at (set levels a.tail None) a.head ≡ height_at levels a.head
  height_kept =
      let kept = get_or-set_other levels a.tail a.head None None (λ e.
      let same = ap (height_at levels) e in
      absurd (omega (arith, same))) in
      ap height_of kept
