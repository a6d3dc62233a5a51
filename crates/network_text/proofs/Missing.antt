-- The first exchanger with a side that is not passed.
use Rattle.network_text.proofs.Words.{Exchanger, Line, Network, exchanger_of, exchangers_of, exchangers_of-push, few_exchangers, find_at, first_missing}
use Rattle.network_text.proofs.Words.{get_or-range_with_len, length-range_with_len, misses_pass, misses_side, position_or_len_is, range_with_len, take_more}
use Rattle.std.proofs.Common.{Bool, List, None, Option, Some, [], ap, arith, cond, false, get_or, is_some, length, length-append, length-take-le}
use Rattle.std.proofs.Common.{option_to_list, refl, slice_get, sym, take, true, ℕ, ◌++◌, ◌+◌, ◌<◌, ◌∙◌, ◌∷◌, ◌≡◌, ◌≤◌}
use Rattle.std.proofs.lemmas.Option.{slice_get-get_or, slice_get_past, slice_get_read}

-- what the line at a index misses
pub missing-at : (n : Network) (index count : ℕ) (l : Line) → index < length n.lines → l ≡ get_or n.lines index l
    → count ≡ length (exchangers_of (take index n.lines)) → misses_pass n index ≡ misses_side n count (exchanger_of l)
unfolding misses_pass
missing-at n index count l within here is =
    let at = slice_get_read n.lines (length n.lines) index l refl within here in
    rw (at, ← is) refl

-- one line more, which declares an exchanger or does not
count-push : (o : Option Exchanger) (xs : List Exchanger) (b : Bool) → is_some o ≡ b
    → length (xs ++ option_to_list o) ≡ length xs + cond b 1 0
count-push None xs true e = cc e
count-push None xs false e = omega (arith, length-append xs [])
count-push (Some x) xs true e = omega (arith, length-append xs (x ∷ []))
count-push (Some x) xs false e = cc e

pub count-more : (ls : List Line) (index : ℕ) (l : Line) (b : Bool) → index < length ls
    → l ≡ get_or ls index l → is_some (exchanger_of l) ≡ b
    → length (exchangers_of (take (index + 1) ls)) ≡ length (exchangers_of (take index ls)) + cond b 1 0
count-more ls index l b within here is =
    let more = take_more ls index l within ∙ ap (λ x. take index ls ++ x ∷ []) (sym here) in
    ap (λ s. length (exchangers_of s)) more ∙ ap length (exchangers_of-push (take index ls) l)
    ∙ count-push (exchanger_of l) (exchangers_of (take index ls)) b is

-- so few that their number fits
pub few_before : (ls : List Line) (index : ℕ) → index < length ls → length (exchangers_of (take index ls)) ≤ index
few_before ls index within = omega (arith, few_exchangers (take index ls), length-take-le index ls (omega arith))

-- ---- the first index

none_before : (n : Network) (index count : ℕ) → index ≤ count
    → ((k : ℕ) → k < index → misses_pass n k ≡ false) → (k : ℕ) → k < index
    → misses_pass n (get_or (range_with_len 0 count) k 0) ≡ false
none_before n index count fits before k within =
    let at : get_or (range_with_len 0 count) k 0 ≡ k
    = get_or-range_with_len 0 count k 0 (omega (arith, within, fits)) ∙ omega arith in
    ap (misses_pass n) at ∙ before k within

pub first-found : (n : Network) (index : ℕ) → index < length n.lines
    → ((k : ℕ) → k < index → misses_pass n k ≡ false) → misses_pass n index ≡ true
    → first_missing n ≡ Some index
unfolding first_missing
first-found n index within before here =
    let all = range_with_len 0 (length n.lines) in
    let wide = length-range_with_len 0 (length n.lines) in
    let at : get_or all index 0 ≡ index = get_or-range_with_len 0 (length n.lines) index 0 within ∙ omega arith in
    let first = position_or_len_is (misses_pass n) all index 0 (omega (arith, wide, within))
    (none_before n index (length n.lines) (omega (arith, within)) before) (λ inside. ap (misses_pass n) at ∙ here) in
    find_at (misses_pass n) all ∙ ap (slice_get all) first
    ∙ slice_get-get_or all index 0 (omega (arith, wide, within)) ∙ ap Some at

pub none-found : (n : Network) (index : ℕ) → length n.lines ≤ index
    → ((k : ℕ) → k < index → misses_pass n k ≡ false) → first_missing n ≡ None
unfolding first_missing
none-found n index past before =
    let all = range_with_len 0 (length n.lines) in
    let wide = length-range_with_len 0 (length n.lines) in
    let none : (k : ℕ) → k < length all
    → misses_pass n (get_or all k 0) ≡ false = none_before n (length all) (length n.lines) (omega (arith, wide))
    (λ k within. before k (omega (arith, within, wide, past))) in
    let first = position_or_len_is (misses_pass n) all (length all) 0 (omega arith) none (λ inside. absurd (omega (arith, inside))) in
    find_at (misses_pass n) all ∙ ap (slice_get all) first ∙ slice_get_past all (length all) (omega arith)
