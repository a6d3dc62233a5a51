-- The links of the net of the pairs that reach, and that it is an inner net whose paths are those pairs.
use Rattle.transport.proofs.Words.{All, All-cons_if, All-contains, All-flat_map, All-nil, Contains, Contains-flat_map, IsInner, IsInnerLink, IsPath}
use Rattle.transport.proofs.Words.{IsTrue, Link, MOST_PAIRS, Net, Part, Parts, PathsAreReaches, Reach, and_parts, cons_if, get_or-range_with_len}
use Rattle.transport.proofs.Words.{length-flat_map-le, length-range_with_len, link_between, ltb-true, pair_link, pair_links, pair_net, range_with_len}
use Rattle.transport.proofs.Words.{row_links, sizes, slice_index_or}
use Rattle.std.proofs.Common.{Bool, List, [], arith, false, get_or, inl, length, nat_lt, refl, subst, subst₂, sym, true, zero-add, ℕ, ◌&&◌, ◌*◌, ◌+◌}
use Rattle.std.proofs.Common.{◌<◌, ◌∙◌, ◌∷◌, ◌≡◌, ◌≤◌}
use Rattle.heat_flow.specs.Table.{HasSizes, reaches}
use Rattle.transport.proofs.AroundLimits.{IsAround, IsAround-parts}

sizes_reach : (r : Reach) (a b : ℕ) → IsTrue (reaches r a b) → (nat_lt a r.hots ≡ true) × (nat_lt b r.colds ≡ true)
sizes_reach r a b h =
    let sizes =
    (and_parts (nat_lt a r.hots && nat_lt b r.colds) (slice_index_or r.cells (a * r.colds + b) false) h).0 in
    and_parts (nat_lt a r.hots) (nat_lt b r.colds) sizes

hot_within : (r : Reach) (a b : ℕ) → IsTrue (reaches r a b) → a < r.hots
hot_within r a b h = ltb-true a r.hots (sizes_reach r a b h).0

cold_within : (r : Reach) (a b : ℕ) → IsTrue (reaches r a b) → b < r.colds
cold_within r a b h = ltb-true b r.colds (sizes_reach r a b h).1

module _ (r : Reach) where
  -- what holds of the link of each pair holds of all
  All-pair_links : (P : Link → Type 0) → ((a b : ℕ) → IsTrue (reaches r a b) → P (pair_link r a b))
      → All P (pair_links r)
  All-pair_links P each =
      All-flat_map P (row_links r) (range_with_len 0 r.hots)
      (λ k d _. let a = get_or (range_with_len 0 r.hots) k d in
      All-flat_map P (link_between r a) (range_with_len 0 r.colds)
      (λ j e _. let b = get_or (range_with_len 0 r.colds) j e in
      All-cons_if P (reaches r a b) (pair_link r a b) [] (each a b) (All-nil P)))

  in_range : (n i : ℕ) → i < n → Contains (range_with_len 0 n) i
  in_range n i within =
      (i, omega (arith, within, length-range_with_len 0 n), get_or-range_with_len 0 n i i within ∙ zero-add i)

  Contains-pair_links : (a b : ℕ) → IsTrue (reaches r a b) → Contains (pair_links r) (pair_link r a b)
  Contains-pair_links a b joined =
      let l = pair_link r a b in
      let row = in_range r.hots a (hot_within r a b joined) in
      let column = in_range r.colds b (cold_within r a b joined) in
      let in_row = Contains-flat_map (link_between r a) (range_with_len 0 r.colds) b l column
      (subst (λ t. Contains (cons_if t l []) l) (sym joined) (0, omega arith, refl)) in
      Contains-flat_map (row_links r) (range_with_len 0 r.hots) a l row in_row

  few_pair_links : length (pair_links r) ≤ r.hots * r.colds
  few_pair_links =
      let rows = length-flat_map-le (row_links r) r.colds (range_with_len 0 r.hots) row in
      let count : length (range_with_len 0 r.hots) ≡ r.hots = length-range_with_len 0 r.hots in
      subst (λ n. length (pair_links r) ≤ n * r.colds) count rows
    where
      at_most_one : (t : Bool) (l : Link) → length (cons_if t l []) ≤ 1
      at_most_one true l = omega arith
      at_most_one false l = omega arith

      row : (a : ℕ) → length (row_links r a) ≤ r.colds
      row a =
          let ones = length-flat_map-le (link_between r a) 1 (range_with_len 0 r.colds) (λ b.
          at_most_one (reaches r a b) (pair_link r a b)) in
          omega (arith, ones, length-range_with_len 0 r.colds)

  inner_links : All (IsInnerLink r.hots r.colds (r.hots + r.colds)) (pair_links r)
  inner_links = All-pair_links (IsInnerLink r.hots r.colds (r.hots + r.colds))
      (λ a b joined.
      let row = hot_within r a b joined in
      let column = cold_within r a b joined in
      record {
        from_in = omega (arith, row);
        to_in = omega (arith, column);
        leaves = inl row;
        enters = omega arith;
        onward = λ behind later. absurd (omega (arith, row, behind));
        room = refl;
        cost = refl;
      })

  -- ---- the paths

  -- no path leaves the node of a cold part
  stays_at : (path : List Link) (u v : ℕ) → r.hots ≤ u → IsPath (pair_links r) path u v → u ≡ v
  stays_at [] u v cold is = is
  stays_at (l ∷ path) u v cold is =
      let rows = All-pair_links (λ m. m.from < r.hots) (λ a b joined. hot_within r a b joined) in
      absurd (omega (arith, cold, is.1, All-contains (λ (m : Link). m.from < r.hots) (pair_links r) l rows is.0))

  -- so one from a hot part's node is one link
  abbrev LeadsRight : Link → Type 0
  LeadsRight l = (b : ℕ) (path : List Link) → IsPath (pair_links r) path l.to (r.hots + b) → IsTrue (reaches r l.from b)

  path_reaches : (path : List Link) (a b : ℕ) → a < r.hots → IsPath (pair_links r) path a (r.hots + b)
      → IsTrue (reaches r a b)
  path_reaches [] a b row is = absurd (omega (arith, row, is))
  path_reaches (l ∷ path) a b row is =
      let right = All-pair_links LeadsRight
      (λ x y joined z rest to. let end = stays_at rest (r.hots + y) (r.hots + z) (omega arith) to in
      let same : y ≡ z = omega (arith, end) in subst (λ w. IsTrue (reaches r x w)) same joined) in
      subst (λ x. IsTrue (reaches r x b)) is.1 (All-contains LeadsRight (pair_links r) l right is.0 b path is.2)

  pub paths_of_pairs : PathsAreReaches r.hots r.colds (pair_links r) (reaches r)
  paths_of_pairs = record {
    hot_within = hot_within r;
    cold_within = cold_within r;
    leads = λ a b joined. (pair_link r a b ∷ [], (Contains-pair_links a b joined, refl, refl));
    reaches = λ a b row column path. path_reaches path.0 a b row path.1;
  }

-- ---- the net of the pairs of parts

module _ (r : Reach) (net : Net) (is : net ≡ pair_net r) where
  pub PathsAreReaches-pairs : (hot cold : List Part) → HasSizes r (length hot) (length cold)
      → PathsAreReaches (length hot) (length cold) net.links (reaches r)
  PathsAreReaches-pairs hot cold sizes =
      subst (λ n. PathsAreReaches (length hot) (length cold) n.links (reaches r)) (sym is)
      (subst₂ (λ h k. PathsAreReaches h k (pair_links r) (reaches r)) sizes.hots sizes.colds (paths_of_pairs r))

  -- where they are few
  pub IsAround-pairs : (parts : Parts) → HasSizes r (length parts.hot) (length parts.cold)
      → r.hots * r.colds ≤ MOST_PAIRS → IsAround parts.hot parts.cold net
  IsAround-pairs parts sizes few =
      let hots = sizes.hots in
      let colds = sizes.colds in
      let inner : IsInner r.hots r.colds (pair_net r) = record { nodes = omega arith; links = inner_links r } in
      let links = few_pair_links r in
      let pairs_inner = subst₂ (λ h k. IsInner h k (pair_net r)) hots colds inner in
      let around = IsAround-parts parts (pair_net r) pairs_inner
      (omega (arith, hots, colds, parts.few_hot, parts.few_cold)) (omega (arith, links, few)) in
      subst (IsAround parts.hot parts.cold) (sym is) around
