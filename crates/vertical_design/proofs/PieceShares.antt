-- What the exchanges of a piece add up to: the shares of the piece of a source are the flow that it has in its
-- interval.
use Rattle.vertical_design.proofs.Words.{All-head, All-tail, Exchange, Option, Pair, Rational, Share, Side, cases_eq, cons_option, enumerate_from}
use Rattle.vertical_design.proofs.Words.{eq-eqb, eqb-true, filter, filter_map, int_sum_by, ints, ne_eqb, piece_on, plus, plus-ratio_same_den, ratio}
use Rattle.vertical_design.proofs.Words.{ratio-multiple, ratio-zero, rational_sum, share_of, shares_of, size_of, size_on, unsigned_abs, whole, ◌*ℤ◌}
use Rattle.std.proofs.Common.{All, Bool, List, None, Some, [], ap, arith, cond, false, if◌then◌else◌, length, pos, refl, slice_get, suc, sym, true, ℕ}
use Rattle.std.proofs.Common.{ℤ, ⊎_elim, ◌+◌, ◌<ℤ◌, ◌<◌, ◌==◌, ◌∙◌, ◌∷◌, ◌≡◌}
use Rattle.vertical_design.proofs.SideScales.{size_is}
use Rattle.vertical_design.proofs.SharedFlows.{other}

-- parts of one denominator that are kept of pairs
pub parts_sum : (h : Pair → Option Rational) (own : Pair → Bool) (part : Pair → ℤ) (d : ℕ) (ps : List Pair)
    → All (λ p. h p ≡ (if own p then Some (ratio (part p) d) else None)) ps
    → rational_sum (filter_map h ps) ≡ ratio (int_sum_by part (filter own ps)) d
parts_sum h own part d [] are = sym (ratio-zero d)
parts_sum h own part d (p ∷ ps) are =
    let R : Pair → Type 0 = λ q. h q ≡ (if own q then Some (ratio (part q) d) else None) in
    ap (λ o. rational_sum (cons_option o (filter_map h ps))) (All-head R p ps are)
    ∙ by (own p) (parts_sum h own part d ps (All-tail R p ps are))
  where
    by : (b : Bool) → rational_sum (filter_map h ps) ≡ ratio (int_sum_by part (filter own ps)) d
        → rational_sum (cons_option (if b then Some (ratio (part p) d) else None) (filter_map h ps))
        ≡ ratio (int_sum_by part (cond b (p ∷ filter own ps) (filter own ps))) d
    by false rest = rest
    by true rest = ap (plus (ratio (part p) d)) rest ∙ plus-ratio_same_den (part p) (int_sum_by part (filter own ps)) d

-- ---- the shares of a piece

-- the size of a share, without its number
abbrev pub own_size : Side → ℕ → Exchange → Option Rational
own_size of index e = if piece_on of e == index then Some (size_on of e) else None

pub size_shares : (of : Side) (index n : ℕ) (es : List Exchange)
    → size_of (filter_map (share_of of index) (enumerate_from n es))
    ≡ rational_sum (filter_map (own_size of index) es)
size_shares of index n [] = refl
size_shares of index n (e ∷ es) =
    by (piece_on of e == index) (filter_map (share_of of index) (enumerate_from (n + 1) es))
    (filter_map (own_size of index) es) (size_shares of index (n + 1) es)
  where
    by : (b : Bool) (shares : List Share) (sizes : List Rational) → size_of shares ≡ rational_sum sizes
        → size_of (cons_option (if b then Some (record { exchanger = n; cp = size_on of e }) else None) shares)
        ≡ rational_sum (cons_option (if b then Some (size_on of e) else None) sizes)
    by true shares sizes is = ap (plus (size_on of e)) is
    by false shares sizes is = is

-- a piece that has a share has an exchange
share_there : (of : Side) (index n : ℕ) (es : List Exchange)
    → 0 < length (filter_map (share_of of index) (enumerate_from n es))
    → (i : ℕ) × (e : Exchange) × (slice_get es i ≡ Some e) × (piece_on of e ≡ index)
share_there of index n [] some = absurd (omega (arith, some))
share_there of index n (e ∷ es) some = by (piece_on of e == index) refl some (share_there of index (n + 1) es)
  where
    rest : List Share
    rest = filter_map (share_of of index) (enumerate_from (n + 1) es)

    by : (b : Bool) → (piece_on of e == index) ≡ b
        → 0 < length (cons_option (if b then Some (record { exchanger = n; cp = size_on of e }) else None) rest)
        → (0 < length rest → (i : ℕ) × (x : Exchange) × (slice_get es i ≡ Some x) × (piece_on of x ≡ index))
        → (i : ℕ) × (x : Exchange) × (slice_get (e ∷ es) i ≡ Some x) × (piece_on of x ≡ index)
    by true own here on = (0, e, refl, eqb-true (piece_on of e) index own)
    by false own later on = let (i, x, at, is) = on later in (suc i, x, at, is)

pub exchange_there : (of : Side) (index : ℕ) (es : List Exchange) → 0 < length (shares_of of index es)
    → (i : ℕ) × (e : Exchange) × (slice_get es i ≡ Some e) × (piece_on of e ≡ index)
unfolding shares_of
exchange_there of index es some = share_there of index 0 es some

-- ---- a piece of an interval

-- equal places in one row
pub same_test : (row i k : ℕ) → (row + i == row + k) ≡ (i == k)
same_test row i k =
    ⊎_elim (λ same. eq-eqb (row + i) (row + k) (ap (λ n. row + n) same) ∙ sym (eq-eqb i k same))
    (λ other. ne_eqb (row + i) (row + k) (λ same. other (omega (arith, same))) ∙ sym (ne_eqb i k other)) (cases_eq i k)

pub whole_flow : (flow other : ℤ) → pos 0 <ℤ other → ratio (flow *ℤ other) (unsigned_abs other) ≡ whole flow
whole_flow flow other above =
    let size = size_is other above in
    ap (λ z. ratio (flow *ℤ z) (unsigned_abs other)) size
    ∙ ratio-multiple flow (unsigned_abs other) (omega (arith, ints, above, size))
