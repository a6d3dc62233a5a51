-- The table of the pairs of a site's parts.
use Rattle.site.proofs.Words.{Part, Plant, Site, Stream, append-nil, blank, cases_lt, flat_map, flat_map-append, get_or-flat_map, get_or-map, length-map}
use Rattle.site.proofs.Words.{length-take-le, nat_lt, nat_tests, part_reaches, plants_from, reach_between, slice_get-get_or, slice_get_past, take_more}
use Rattle.std.proofs.Common.{Bool, List, [], ap, append_assoc, arith, false, get_or, length, length-append, map, suc, sym, take, ℕ, ⊎_elim, ◌&&◌, ◌*◌, ◌++◌}
use Rattle.std.proofs.Common.{◌+◌, ◌<◌, ◌∙◌, ◌∷◌, ◌≡◌}

-- ---- plants of streams

plants_from-append : (n : ℕ) (xs ys : List Plant)
    → plants_from n (xs ++ ys) ≡ plants_from n xs ++ plants_from (n + length xs) ys
plants_from-append n [] ys = ap (λ k. plants_from k ys) (omega arith)
plants_from-append n (x ∷ xs) ys =
    let rest = plants_from-append (suc n) xs ys in
    let same : suc n + length xs ≡ n + length (x ∷ xs) = omega arith in
    ap (λ indexes. map (λ (s : Stream). n) x.streams ++ indexes) (rest ∙ ap (λ k. plants_from (suc n) xs ++ plants_from k ys) same)
    ∙ sym (append_assoc (map (λ (s : Stream). n) x.streams) (plants_from (suc n) xs) (plants_from (n + length (x ∷ xs)) ys))

-- a loop's step
pub plants_from-more : (plants : List Plant) (i : ℕ) (plant : Plant) → i < length plants → plant ≡ get_or plants i plant
    → plants_from 0 (take (i + 1) plants) ≡ plants_from 0 (take i plants) ++ map (λ s. i) plant.streams
plants_from-more plants i plant within is =
    let count : 0 + length (take i plants) ≡ i = omega (arith, length-take-le i plants (omega (arith, within))) in
    ap (plants_from 0) (take_more plants i plant within ∙ ap (λ p. take i plants ++ p ∷ []) (sym is))
    ∙ plants_from-append 0 (take i plants) (plant ∷ [])
    ∙ ap (λ k. plants_from 0 (take i plants) ++ plants_from k (plant ∷ [])) count
    ∙ ap (λ indexes. plants_from 0 (take i plants) ++ indexes) (append-nil (map (λ (s : Stream). i) plant.streams))

-- ---- the cells

abbrev pub cell_rows : Site → List Part → List Part → List Bool
cell_rows site hot cold = flat_map (λ p. map (part_reaches site p) cold) hot

pub length-cell_rows : (site : Site) (hot cold : List Part)
    → length (cell_rows site hot cold) ≡ length hot * length cold
length-cell_rows site [] cold = omega arith
length-cell_rows site (p ∷ hot) cold = let rest = length-cell_rows site hot cold in
    omega (arith, length-append (map (part_reaches site p) cold) (cell_rows site hot cold), length-map cold (part_reaches site p))

-- a loop's step
pub cell_rows-more : (site : Site) (hot cold : List Part) (i : ℕ) (p : Part) → i < length hot → p ≡ get_or hot i p
    → cell_rows site (take (i + 1) hot) cold ≡ cell_rows site (take i hot) cold ++ map (part_reaches site p) cold
cell_rows-more site hot cold i p within is =
    let row = λ (q : Part). map (part_reaches site q) cold in
    ap (λ ps. cell_rows site ps cold) (take_more hot i p within ∙ ap (λ q. take i hot ++ q ∷ []) (sym is))
    ∙ flat_map-append row (take i hot) (p ∷ [])
    ∙ ap (λ cells. cell_rows site (take i hot) cold ++ cells) (append-nil (map (part_reaches site p) cold))

cell_at : (site : Site) (hot cold : List Part) (a b : ℕ) (d : Part) → a < length hot → b < length cold
    → get_or (cell_rows site hot cold) (a * length cold + b) false
    ≡ part_reaches site (get_or hot a d) (get_or cold b d)
cell_at site hot cold a b d h k =
    let row = λ (p : Part). map (part_reaches site p) cold in
    let before : length (cell_rows site (take a hot) cold) ≡ a * length cold = length-cell_rows site (take a hot) cold
    ∙ ap (λ n. n * length cold) (length-take-le a hot (omega (arith, h))) in
    ap (λ n. get_or (cell_rows site hot cold) (n + b) false) (sym before)
    ∙ get_or-flat_map row hot a b d false h (rw length-map k)
    ∙ get_or-map (part_reaches site (get_or hot a d)) cold b d false k

-- they are the reach of the parts
pub cell_rows-reach : (site : Site) (hot cold : List Part) (a b : ℕ)
    → (nat_lt a (length hot) && nat_lt b (length cold)) && get_or (cell_rows site hot cold) (a * length cold + b) false
    ≡ reach_between site hot cold a b
cell_rows-reach site hot cold a b = ⊎_elim (λ row.
    ⊎_elim (λ column. let cell = cell_at site hot cold a b blank row column in let p = slice_get-get_or hot a blank row in
    let q = slice_get-get_or cold b blank column in grind (arith, nat_tests, cell, p, q))
    (λ past. let p = slice_get-get_or hot a blank row in let none = slice_get_past cold b past in grind (arith, nat_tests, p, none)) (cases_lt b (length cold)))
    (λ past. let none = slice_get_past hot a past in grind (arith, nat_tests, none)) (cases_lt a (length hot))
