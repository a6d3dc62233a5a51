-- Depths: how many of the first ranks stand in a list, and that of two parts the deeper one has the greater rank.
use Rattle.chains.proofs.Words.{All, All-head, All-map, All-tail, All-weaker, AreDepths, Contains, Contains-append_left, Contains-append_right}
use Rattle.chains.proofs.Words.{Contains-get_or, Depths, Part, cases_eq, cases_lt, chain_length, count_by-le-length, count_by-map, depth_of, eq-eqb, get_or-map}
use Rattle.chains.proofs.Words.{length-map, list_any, list_any_at, map-append, range_with_len, rank_count, rank_of, ranks_used, used_among}
use Rattle.std.proofs.Common.{Bool, List, [], ap, ap₂, arith, cond, eqb, get_or, length, map, max, refl, subst, suc, sym, zero, ℕ, ℤ, ⊎_elim, ◌*◌, ◌++◌, ◌+◌}
use Rattle.std.proofs.Common.{◌-◌, ◌<◌, ◌∙◌, ◌∷◌, ◌≡◌, ◌≤◌}
use Rattle.chains.proofs.Words.{get_or-set_other, get_or-set_same, length-set, list_any-append, ne_eqb, or-false, or-true, set, take-append-le, take_all, take_more}
use Rattle.std.proofs.Common.{drop, false, take, true, ◌||◌}
use Rattle.std.proofs.lemmas.List.FromFn.{get_or-map-range_with_len, length-range_with_len, sum_by-map-range_with_len_more}

abbrev stands : List ℕ → ℕ → Bool
stands ranks rank = list_any (λ r. eqb r rank) ranks

-- a slice that is written whole
pub overwritten : (xs ys : List Bool) (n : ℕ) → length xs ≡ n → length ys ≡ n → take n (ys ++ drop (length ys) xs) ≡ ys
overwritten xs ys n own count =
    take-append-le n ys (drop (length ys) xs) (omega (arith, count)) ∙ take_all n ys (omega (arith, count))

-- the ranks that stand in the list are marked beside those that were
abbrev pub IsMarked : List Bool → List ℕ → List Bool → Type 0
IsMarked before ranks used = (k : ℕ) → k < length used → get_or used k false ≡ (get_or before k false || stands ranks k)

pub marked-more : (before used : List Bool) (ranks : List ℕ) (i : ℕ) → i < length ranks → get_or ranks i 0 < length used
    → IsMarked before (take i ranks) used → IsMarked before (take (i + 1) ranks) (set used (get_or ranks i 0) true)
marked-more before used ranks i within rank_in so_far k k_in =
    let rank = get_or ranks i 0 in
    let was = get_or before k false in
    let early = stands (take i ranks) k in
    let more : stands (take (i + 1) ranks) k ≡ (early || (eqb rank k || false))
    = ap (λ rs. stands rs k) (take_more ranks i 0 within) ∙ list_any-append (λ r. eqb r k) (take i ranks) (rank ∷ []) in
    ⊎_elim
    (λ same.
    let here_set = get_or-set_same used rank true false rank_in in
    let here = subst (λ n. get_or (set used rank true) n false ≡ true) same here_set in
    here
    ∙ sym
    (ap (λ b. was || b) (more ∙ ap (λ b. early || (b || false)) (eq-eqb rank k same) ∙ or-true early) ∙ or-true was))
    (λ other.
    let k_before : k < length used = omega (arith, k_in, length-set used rank true) in
    get_or-set_other used rank k true false (λ e. other (sym e)) ∙ so_far k k_before
    ∙ sym (ap (λ b. was || b) (more ∙ ap (λ b. early || (b || false)) (ne_eqb rank k other) ∙ or-false early)))
    (cases_eq rank k)

module _ (ranks : List ℕ) where
  -- one rank more
  pub used-more : (n : ℕ) → used_among ranks (n + 1) ≡ used_among ranks n + cond (stands ranks n) 1 0
  unfolding used_among
  used-more n =
      let itself = λ (k : ℕ). count_by-map (stands ranks) (λ (r : ℕ). r) (range_with_len 0 k) in
      sym (itself (n + 1))
      ∙ sum_by-map-range_with_len_more (λ r. cond (stands ranks r) 1 0) (λ r. r) 0 n n (omega arith)
      ∙ ap (λ m. m + cond (stands ranks n) 1 0) (itself n)

  used-later : (n k : ℕ) → used_among ranks n ≤ used_among ranks (n + k)
  used-later n zero =
      let same : n + zero ≡ n = omega arith in
      omega (arith, ap (used_among ranks) same)
  used-later n (suc k) =
      let next : n + k + 1 ≡ n + suc k = omega arith in
      omega (arith, used-later n k, used-more (n + k), ap (used_among ranks) next)

  pub used-le : (m n : ℕ) → m ≤ n → used_among ranks m ≤ used_among ranks n
  used-le m n le =
      let same : m + (n - m) ≡ n = omega (arith, le) in
      omega (arith, used-later m (n - m), ap (used_among ranks) same)

  pub used-within : (n : ℕ) → used_among ranks n ≤ n
  unfolding used_among
  used-within n = omega (arith, count_by-le-length (stands ranks) (range_with_len 0 n), length-range_with_len 0 n)

  -- behind a rank that stands in the list there are more
  pub used-less : (m n : ℕ) → Contains ranks m → m < n → used_among ranks m < used_among ranks n
  used-less m n (k, within, is) less =
      let stands_there = list_any_at (λ r. eqb r m) ranks k m within (eq-eqb (get_or ranks k m) m is) in
      let here : cond (stands ranks m) 1 0 ≡ 1 = ap {B = ℕ} (λ (b : Bool). cond b 1 0) stands_there in
      omega (arith, used-more m, here, used-le (m + 1) n (omega (arith, less)))

Contains-mapped : {X Y : Type 0} (f : X → Y) (xs : List X) (x : X) → Contains xs x → Contains (map f xs) (f x)
Contains-mapped f xs x (k, within, is) =
    (k, omega (arith, within, length-map xs f), get_or-map f xs k x (f x) within ∙ ap f is)

module _ (places : List ℤ) (hot cold : List Part) where
  abbrev rank : Part → ℕ
  rank = rank_of places

  abbrev depth : Part → ℕ
  depth = depth_of places hot cold

  pub depth-le : (p q : Part) → rank p ≤ rank q → depth p ≤ depth q
  depth-le p q le = used-le (ranks_used places hot cold) (rank p) (rank q) le

  -- the rank of a part stands among those that parts use
  used-rank : (p : Part) → Contains (hot ++ cold) p → Contains (ranks_used places hot cold) (rank p)
  used-rank p there = Contains-mapped (rank_of places) (hot ++ cold) p there

  pub rank-le : (p q : Part) → Contains (hot ++ cold) q → depth p ≤ depth q → rank p ≤ rank q
  rank-le p q there le =
      ⊎_elim (λ less.
      absurd (omega (arith, le, used-less (ranks_used places hot cold) (rank q) (rank p) (used-rank q there) less)))
      (λ upto. upto) (cases_lt (rank q) (rank p))

  -- ---- how many nodes a chain has

  pub depth-within : (p : Part) → Contains (hot ++ cold) p → rank p < rank_count places
      → depth p < chain_length places hot cold
  depth-within p there within =
      let less = used-less (ranks_used places hot cold) (rank p) (rank_count places) (used-rank p there) within in
      omega (arith, less)

  pub chain_length-some : 0 < chain_length places hot cold
  chain_length-some = omega arith

  pub chain_length-le : 0 < length places → chain_length places hot cold ≤ 2 * length places
  chain_length-le some = omega (arith, some, used-within (ranks_used places hot cold) (rank_count places))

  -- ---- depths that are read from a list of how many ranks above each rank stand in the list

  abbrev IsHigh : Part → Type 0
  IsHigh p = rank p < rank_count places

  read_at : (f : ℕ → ℕ) (n : ℕ) (parts : List Part) → All (λ p. rank p < n) parts
      → map (λ r. get_or (map f (range_with_len 0 n)) r 0) (map rank parts) ≡ map (λ p. f (rank p)) parts
  read_at f n [] all = refl
  read_at f n (p ∷ ps) all =
      ap₂ ◌∷◌ (get_or-map-range_with_len f 0 n (rank p) (rank p) 0 (All-head (λ q. rank q < n) p ps all) (omega arith))
      (read_at f n ps (All-tail (λ q. rank q < n) p ps all))

  within_all : (parts : List Part) → ((p : Part) → Contains parts p → Contains (hot ++ cold) p) → All IsHigh parts
      → All (λ n. n < chain_length places hot cold) (map depth parts)
  within_all parts among high =
      All-map (λ n. n < chain_length places hot cold) depth parts (λ k d within.
      let p = get_or parts k d in
      depth-within p (among p (Contains-get_or parts k d within)) (high k d within))

  pub ranks_high : (n : ℕ) (parts : List Part) (ranks : List ℕ) → n ≡ rank_count places
      → ranks ≡ map rank parts → All IsHigh parts
      → All (λ r. r < n) ranks
  ranks_high n parts ranks count is high =
      subst (All (λ r. r < n)) (sym is)
      (All-map (λ r. r < n) rank parts (λ k d within. omega (arith, count, high k d within)))

  pub ranks_within : (parts : List Part) (ranks above : List ℕ) → ranks ≡ map rank parts
      → length above ≡ rank_count places + 1 → All IsHigh parts
      → All (λ r. r < length above) ranks
  ranks_within parts ranks above is count high =
      subst (All (λ r. r < length above)) (sym is)
      (All-map (λ r. r < length above) rank parts (λ k d within. omega (arith, count, high k d within)))

  pub AreDepths-read : (above hot_ranks cold_ranks : List ℕ) (d : Depths) → hot_ranks ≡ map rank hot
      → cold_ranks ≡ map rank cold
      → above ≡ map (used_among (hot_ranks ++ cold_ranks)) (range_with_len 0 (rank_count places + 1))
      → All IsHigh hot → All IsHigh cold
      → d.hot.items ≡ map (λ r. get_or above r 0) hot_ranks → d.cold.items ≡ map (λ r. get_or above r 0) cold_ranks
      → d.nodes ≡ max (get_or above (rank_count places) 0) 1 → AreDepths places hot cold d
  AreDepths-read above hot_ranks cold_ranks d hot_is cold_is above_is high_hot high_cold from_hot from_cold nodes =
      let n = rank_count places + 1 in
      let f = used_among (ranks_used places hot cold) in
      let used : hot_ranks ++ cold_ranks ≡ ranks_used places hot cold
      = ap₂ ◌++◌ hot_is cold_is ∙ sym (map-append rank hot cold) in
      let table = above_is ∙ ap (λ ranks. map (used_among ranks) (range_with_len 0 n)) used in
      let lower : (p : Part) → IsHigh p → rank p < n = λ p high. omega (arith, high) in
      let hots = from_hot ∙ ap₂ (λ xs ranks. map (λ r. get_or xs r 0) ranks) table hot_is
      ∙ read_at f n hot (All-weaker IsHigh (λ p. rank p < n) lower hot high_hot) in
      let colds = from_cold ∙ ap₂ (λ xs ranks. map (λ r. get_or xs r 0) ranks) table cold_is
      ∙ read_at f n cold (All-weaker IsHigh (λ p. rank p < n) lower cold high_cold) in
      let last = ap (λ xs. get_or xs (rank_count places) 0) table
      ∙ get_or-map-range_with_len f 0 n (rank_count places) (rank_count places) 0 (omega arith) (omega arith) in
      let count : d.nodes ≡ chain_length places hot cold = nodes ∙ ap (λ m. max m 1) last in
      let within = λ (depths : List ℕ) (all : All (λ m. m < chain_length places hot cold) depths). subst
      (λ m. All (λ x. x < m) depths) (sym count) all in
      record {
        hot_depths = hots;
        cold_depths = colds;
        nodes = count;
        hot_within = subst (All (λ m. m < d.nodes)) (sym hots)
            (within (map depth hot) (within_all hot (λ p there. Contains-append_left hot cold p there) high_hot));
        cold_within = subst (All (λ m. m < d.nodes)) (sym colds)
            (within (map depth cold) (within_all cold (λ p there. Contains-append_right hot cold p there) high_cold));
      }
