-- The table of the pairs of a case's parts.
use Rattle.heat_flow.proofs.Words.{All, All-weaker, AreParts, Case, IsComplete, IsPartOf, IsSourceOf, IsSourceOf-side, IsValidForbid, Part, Side}
use Rattle.heat_flow.proofs.Words.{StaysValid-IsComplete, both_reach, cases_lt, flat_map, get_or-flat_map, get_or-map, is_some, length-map, length-take-le}
use Rattle.heat_flow.proofs.Words.{Parts, Reach, ReachesAmong, and_parts, ltb-true, nat_lt, nat_tests, part_reaches, reach_between, reaches, side_of_part}
use Rattle.heat_flow.proofs.Words.{slice_get, slice_get-get_or, slice_get_past, slice_get_within, slice_index_or, ℤ}
use Rattle.heat_flow.proofs.Blanks.{blank}
use Rattle.std.proofs.Common.{Bool, List, None, Option, Some, [], ap, arith, false, get_or, length, length-append, map, refl, sym, take, true, ℕ, ⊎_elim, ◌&&◌, ◌*◌}
use Rattle.std.proofs.Common.{◌+◌, ◌<◌, ◌∙◌, ◌∷◌, ◌≡◌}

-- ---- permissions of a hot source

pub forbids_of_complete : (c : Case) → IsComplete c → All (λ f. IsSourceOf c f.cold) c.forbids
forbids_of_complete c complete =
    All-weaker (IsValidForbid c) (λ f. IsSourceOf c f.cold) (λ f h. IsSourceOf-side c f.cold (ap is_some h.1)) c.forbids
    (StaysValid-IsComplete c complete).forbids

-- parts that reach are there
pub both_parts : (c : Case) (x y : Option Part) → both_reach c x y ≡ true
    → (p : Part) × (q : Part) × (x ≡ Some p) × (y ≡ Some q) × (part_reaches c p q ≡ true)
both_parts c None y h = cc
both_parts c (Some p) None h = cc
both_parts c (Some p) (Some q) h = (p, q, refl, refl, h)

-- ---- the cells

-- the truth values of the table, row by row over the hot parts
abbrev pub cell_rows : Case → List Part → List Part → List Bool
cell_rows c hot cold = flat_map (λ p. map (part_reaches c p) cold) hot

pub length-cell_rows : (c : Case) (hot cold : List Part) → length (cell_rows c hot cold) ≡ length hot * length cold
length-cell_rows c [] cold = omega arith
length-cell_rows c (p ∷ hot) cold = let rest = length-cell_rows c hot cold in
    omega (arith, length-append (map (part_reaches c p) cold) (cell_rows c hot cold), length-map cold (part_reaches c p))

cell_at : (c : Case) (hot cold : List Part) (a b : ℕ) (d : Part) → a < length hot → b < length cold
    → get_or (cell_rows c hot cold) (a * length cold + b) false ≡ part_reaches c (get_or hot a d) (get_or cold b d)
cell_at c hot cold a b d h k =
    let row = λ (p : Part). map (part_reaches c p) cold in
    let before : length (cell_rows c (take a hot) cold) ≡ a * length cold =
    length-cell_rows c (take a hot) cold ∙ ap (λ n. n * length cold) (length-take-le a hot (omega (arith, h))) in
    ap (λ n. get_or (cell_rows c hot cold) (n + b) false) (sym before)
    ∙ get_or-flat_map row hot a b d false h (rw length-map k)
    ∙ get_or-map (part_reaches c (get_or hot a d)) cold b d false k

-- they are the reach of the parts
pub cell_rows-reach : (c : Case) (hot cold : List Part) (a b : ℕ)
    → (nat_lt a (length hot) && nat_lt b (length cold)) && get_or (cell_rows c hot cold) (a * length cold + b) false
    ≡ reach_between c hot cold a b
cell_rows-reach c hot cold a b = ⊎_elim (λ row.
    ⊎_elim
    (λ column. let cell = cell_at c hot cold a b blank row column in let p = slice_get-get_or hot a blank row in let q = slice_get-get_or cold b blank column in
    grind (arith, nat_tests, cell, p, q))
    (λ past. let p = slice_get-get_or hot a blank row in let none = slice_get_past cold b past in grind (arith, nat_tests, p, none)) (cases_lt b (length cold)))
    (λ past. let none = slice_get_past hot a past in grind (arith, nat_tests, none)) (cases_lt a (length hot))

-- ---- how many parts reach

-- those that have a row and a column
pub reaches-among : (r : Reach) (hots colds : ℕ) → r.hots ≡ hots → r.colds ≡ colds → ReachesAmong (reaches r) hots colds
reaches-among r hots colds rows columns = record {
  few_hots = omega (arith, rows, r.few_hots);
  few_colds = omega (arith, columns, r.few_colds);
  within = λ a b joined.
      let cell = slice_index_or r.cells (a * r.colds + b) false in
      let both = and_parts (nat_lt a r.hots && nat_lt b r.colds) cell joined in
      let each = and_parts (nat_lt a r.hots) (nat_lt b r.colds) both.0 in
      let row = ltb-true a r.hots each.0 in
      let column = ltb-true b r.colds each.1 in
      (omega (arith, row, rows), omega (arith, column, columns));
}

-- those that there are
pub reach_between-among : (c : Case) (parts : Parts) → ReachesAmong (reach_between c parts.hot parts.cold) (length parts.hot) (length parts.cold)
reach_between-among c parts = record {
  few_hots = parts.few_hot;
  few_colds = parts.few_cold;
  within = λ a b joined.
      let (p, q, hot, cold, reached) = both_parts c (slice_get parts.hot a) (slice_get parts.cold b) joined in
      (slice_get_within parts.hot a p hot, slice_get_within parts.cold b q cold);
}

-- ---- the sources of a case's parts

pub sources_of_parts : (c : Case) (grid : List ℤ) (side : Side) (parts : List Part)
    → AreParts c.streams c.utilities grid side parts
    → All (λ p. IsSourceOf c p.source) parts
sources_of_parts c grid side parts h =
    All-weaker (IsPartOf c.streams c.utilities grid side) (λ p. IsSourceOf c p.source)
    (λ p h. IsSourceOf-side c p.source (ap is_some (side_of_part c grid side p h))) parts h.each
