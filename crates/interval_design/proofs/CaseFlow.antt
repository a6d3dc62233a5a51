-- A heat flow of the parts of a case, the order of the parts of a side, and how few transfers there are.
use Rattle.interval_design.proofs.Words.{All-slice_get, AreCaseParts, AreParts, AreStreams-IsComplete, Case, HaveParts, IsComplete, IsHeat, IsHeatFlow}
use Rattle.interval_design.proofs.Words.{IsPartOf, IsStreamPart, IsValidStream, KeepsRanges, MOST_PARTS, Part, Side, Source, Stream, Transfer, Utility}
use Rattle.interval_design.proofs.Words.{cases_order, comes_before, comes_before_source, get_or_from_slice_get, ints}
use Rattle.interval_design.proofs.Words.{mul-le-mul, on_side, option_map, part_sources, precedes, reach_between, same_Some, side_of, side_of_part}
use Rattle.interval_design.proofs.Words.{slice_get-get_or, slice_get-map, slice_get_within, source_at, unwrap_or, utility_part}
use Rattle.std.proofs.Common.{All, AllPairs, Bool, List, Some, [], ap, arith, get_or, inl, inr, length, slice_get, subst₂, suc, sym, zero}
use Rattle.std.proofs.Common.{ℕ, ℤ, ⊎_elim, ◌*◌, ◌+◌, ◌-◌, ◌<ℤ◌, ◌<◌, ◌∙◌, ◌∷◌, ◌≡◌, ◌≤◌}
use Rattle.stream_case.specs.declared.source.Side.TheVariants as side
use Rattle.stream_case.specs.declared.source.Source.TheVariants as source

pub part_there : (parts : List Part) (index : ℕ) → index < length parts → (p : Part) × (slice_get parts index ≡ Some p)
part_there [] index within = absurd (omega (arith, within))
part_there (q ∷ parts) index within = (get_or (q ∷ parts) index q, slice_get-get_or (q ∷ parts) index q within)

-- the source of the part at an index
abbrev pub source_in : List Part → ℕ → Source
source_in parts index = source_at (part_sources parts) index

pub source_there : (parts : List Part) (index : ℕ) (p : Part) → slice_get parts index ≡ Some p
    → source_in parts index ≡ p.source
source_there parts index p at =
    let mapped = slice_get-map (λ (q : Part). q.source) parts index ∙ ap (option_map (λ (q : Part). q.source)) at in
    ap (λ o. unwrap_or o (source.Stream 0)) mapped

pub record IsCaseFlow (case : Case) (hot cold : List Part) (ts : List Transfer) : Type 0 where
  pub complete : IsComplete case
  pub parts : AreCaseParts case hot cold
  pub flow : IsHeatFlow (reach_between case hot cold) hot cold ts
  pub heats : All (λ t. IsHeat t.heat) ts

module _ (case : Case) (hot cold : List Part) (ts : List Transfer) (given : IsCaseFlow case hot cold ts) where
  abbrev pub places : List ℤ
  places = given.parts.grid

  pub places_fall : AllPairs (λ a b. b <ℤ a) places
  places_fall = given.parts.is_grid.ordered

  pub valid_stream : (number : ℕ) (s : Stream) → slice_get case.streams number ≡ Some s → IsValidStream s
  valid_stream number s here =
      All-slice_get IsValidStream case.streams number s (AreStreams-IsComplete case given.complete).each here

  pub side_parts : (of : Side) → AreParts case.streams case.utilities places of (on_side of hot cold)
  side_parts side.Hot = given.parts.hot_parts
  side_parts side.Cold = given.parts.cold_parts

  pub side_ranges : (of : Side) → KeepsRanges of (on_side of hot cold) ts
  side_ranges side.Hot = given.flow.hot_ranges
  side_ranges side.Cold = given.flow.cold_ranges

  pub side_indexes : (of : Side) → HaveParts of (on_side of hot cold) ts
  side_indexes side.Hot = given.flow.hot_indexes
  side_indexes side.Cold = given.flow.cold_indexes

  pub part_on : (of : Side) (index : ℕ) (p : Part) → slice_get (on_side of hot cold) index ≡ Some p
      → IsPartOf case.streams case.utilities places of p
  part_on of index p at =
      All-slice_get (IsPartOf case.streams case.utilities places of) (on_side of hot cold) index p (side_parts of).each
      at

  pub source_side : (of : Side) (index : ℕ) → index < length (on_side of hot cold)
      → side_of case (source_in (on_side of hot cold) index) ≡ Some of
  source_side of index within =
      let (p, at) = part_there (on_side of hot cold) index within in
      ap (side_of case) (source_there (on_side of hot cold) index p at)
      ∙ side_of_part case places of p (part_on of index p at)

-- ---- parts of a side in their order: each stands at one place of the list, and a source tells whose part one is

-- what holds of each item and each later one holds of two at indexes
pub pairs_at : {X : Type 0} (R : X → X → Type 0) (xs : List X) (i j : ℕ) (x y : X) → AllPairs R xs
    → slice_get xs i ≡ Some x → slice_get xs j ≡ Some y
    → i < j → R x y
pairs_at R xs i j x y pairs one other less =
    let first_is = get_or_from_slice_get xs i x y one in
    let second_is = get_or_from_slice_get xs j y y other in
    let related = pairs i j y less (slice_get_within xs j y other) in
    subst₂ R first_is second_is related

-- ---- the place of a part

not_before_itself : (p : Part) → comes_before p p → ⊥
not_before_itself p (inl less) = omega (arith, ints)
not_before_itself p (inr (inl same)) = let less = same.1 in omega (arith, ints)
not_before_itself p (inr (inr same)) = by p.source same.2
  where
    by : (a : Source) → comes_before_source a a → ⊥
    by (source.Stream i) less = omega (arith, less)
    by (source.Utility i) less = omega (arith, less)

module _ {streams : List Stream} {utilities : List Utility} (grid : List ℤ) (of : Side) where
  -- a part stands at one index
  pub one_place : (parts : List Part) (a b : ℕ) (p : Part) → AreParts streams utilities grid of parts
      → slice_get parts a ≡ Some p → slice_get parts b ≡ Some p → a ≡ b
  one_place parts a b p are first second =
      ⊎_elim (λ equal. equal)
      (⊎_elim (λ less. absurd (not_before_itself p (pairs_at comes_before parts a b p p are.ordered first second less)))
      (λ more. absurd (not_before_itself p (pairs_at comes_before parts b a p p are.ordered second first more))))
      (cases_order a b)

  -- whose part one is
  pub part_of_stream : (number : ℕ) (s : Stream) (p : Part) → slice_get streams number ≡ Some s
      → IsPartOf streams utilities grid of p
      → p.source ≡ source.Stream number → IsStreamPart streams grid of number s p
  part_of_stream number s p here (inl (i, r, is)) own =
      let both : source.Stream i ≡ source.Stream number = sym (ap (λ (q : Part). q.source) is.is) ∙ own in
      let number_is : i ≡ number = cc both in
      let same : r ≡ s = same_Some r s (sym is.stream ∙ ap (slice_get streams) number_is ∙ here) in
      subst₂ (λ k t. IsStreamPart streams grid of k t p) number_is same is
  part_of_stream number s p here (inr (i, u, is)) own =
      let clash : source.Utility i ≡ source.Stream number = sym (ap (λ (q : Part). q.source) is.is) ∙ own in
      absurd (cc clash)

  pub part_of_utility : (index : ℕ) (u : Utility) (p : Part) → slice_get utilities index ≡ Some u
      → IsPartOf streams utilities grid of p
      → p.source ≡ source.Utility index → p ≡ utility_part index u
  part_of_utility index u p here (inl (i, s, is)) own =
      let clash : source.Stream i ≡ source.Utility index = sym (ap (λ (q : Part). q.source) is.is) ∙ own in
      absurd (cc clash)
  part_of_utility index u p here (inr (i, v, is)) own =
      let both : source.Utility i ≡ source.Utility index = sym (ap (λ (q : Part). q.source) is.is) ∙ own in
      let number : i ≡ index = cc both in
      let same : v ≡ u = same_Some v u (sym is.utility ∙ ap (slice_get utilities) number ∙ here) in
      is.is ∙ (λ j. utility_part (number j) (same j))

-- ---- a heat flow has few transfers: each is another pair of a hot and a cold part

-- the index of a pair in a table with so many columns
key : ℕ → Transfer → ℕ
key columns t = t.hot * columns + t.cold

key-rises : (columns : ℕ) (s t : Transfer) → s.cold < columns → precedes s t → key columns s < key columns t
unfolding key
key-rises columns s t within (inl later) =
    let row : t.hot ≡ s.hot + 1 + (t.hot - s.hot - 1) = omega arith in
    let product = ap (λ n. n * columns) row in
    omega arith
key-rises columns s t within (inr (same, later)) =
    let product = ap (λ n. n * columns) same in
    omega arith

index-le-key : (columns : ℕ) (ts : List Transfer) → AllPairs precedes ts → All (λ t. t.cold < columns) ts
    → (i : ℕ) (d : Transfer)
    → i < length ts → i ≤ key columns (get_or ts i d)
index-le-key columns ts pairs cold zero d within = omega arith
index-le-key columns ts pairs cold (suc i) d within =
    let before = index-le-key columns ts pairs cold i d (omega arith) in
    let ordered = pairs i (suc i) d (omega arith) within in
    let rise = key-rises columns (get_or ts i d) (get_or ts (suc i) d) (cold i d (omega arith)) ordered in
    omega arith

key-below : (rows columns : ℕ) (t : Transfer) → t.hot < rows → t.cold < columns → key columns t < rows * columns
unfolding key
key-below rows columns t hot cold =
    let row : rows ≡ t.hot + 1 + (rows - t.hot - 1) = omega arith in
    let product = ap (λ n. n * columns) row in
    omega arith

few_transfers : (hot cold : List Part) (ts : List Transfer) → AllPairs precedes ts
    → HaveParts side.Hot hot ts → HaveParts side.Cold cold ts
    → length ts ≤ length hot * length cold
few_transfers hot cold [] pairs rows columns = omega arith
few_transfers hot cold (t ∷ ts) pairs rows columns =
    let n = length ts in
    let within : n < length (t ∷ ts) = omega arith in
    let least = index-le-key (length cold) (t ∷ ts) pairs columns n t within in
    let below = key-below (length hot) (length cold) (get_or (t ∷ ts) n t) (rows n t within) (columns n t within) in
    omega arith

-- a transfer for each pair of parts, which is the most that a flow can have
abbrev pub most_transfers : ℕ
most_transfers = MOST_PARTS * MOST_PARTS

pub few_flow : {reach : ℕ → ℕ → Bool} {hot cold : List Part} {ts : List Transfer} → IsHeatFlow reach hot cold ts
    → length hot ≤ MOST_PARTS → length cold ≤ MOST_PARTS → length ts ≤ most_transfers
few_flow {reach} {hot} {cold} {ts} flow rows columns =
    let pairs = few_transfers hot cold ts flow.ordered flow.hot_indexes flow.cold_indexes in
    let product : length hot * length cold ≤ most_transfers = mul-le-mul rows columns in
    omega arith
