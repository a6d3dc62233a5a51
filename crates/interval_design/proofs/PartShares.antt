-- The heat and the width of a part of a stream: its shares are the whole stream, and bring it from the one state to
-- the other.
use Rattle.interval_design.proofs.Words.{Case, HIGHEST_LEVEL, IsBelow, IsContribution, IsPartOfLoad, IsPiece, IsShifted, IsSized, IsStreamPart}
use Rattle.interval_design.proofs.Words.{IsValidStream, LONGEST_RANGE, Part, Rational, Share, Side, Source, Stream, Transfer, at_most-whole, change}
use Rattle.interval_design.proofs.Words.{cons_option, entered_at, entered_state, enumerate_from, exchange_of, filter_map, first_state-latent, heat_at}
use Rattle.interval_design.proofs.Words.{interval_falls, ints, last_part_of_load, last_state-latent, left_at, left_state, nat_tests, on_side}
use Rattle.interval_design.proofs.Words.{option_map_or, part_index, piece_heat, piece_on, plus, plus-ratio_same_den, range-length, ratio, ratio-zero}
use Rattle.interval_design.proofs.Words.{rational_zero, share_of, size_of, size_on, sized-whole, source_state, unshifted, whole, width_at, width_of}
use Rattle.std.proofs.Common.{AllPairs, Bool, List, None, Option, Some, [], ap, arith, false, if◌then◌else◌, inl, inr, length, map, pos, refl}
use Rattle.std.proofs.Common.{slice_get, subst, sym, true, unsigned_abs, ℕ, ℤ, ◌*ℤ◌, ◌+ℤ◌, ◌+◌, ◌-ℤ◌, ◌<ℤ◌, ◌<◌, ◌==◌, ◌∙◌, ◌∷◌, ◌≡◌, ◌≤ℤ◌, ◌≤◌, ◌⊎◌}
use Rattle.interval_design.proofs.CaseFlow.{places}
use Rattle.interval_design.proofs.PartStates.{LiesOnInterval, LiesAtLevel, lies, entered-sensible, left-sensible, entered-latent, left-latent}
use Rattle.interval_design.proofs.PartStates.{change_over, load_change}
use Rattle.stream_case.specs.declared.source.Side.TheVariants as side
use Rattle.stream_case.specs.declared.source.Source.TheVariants as source

-- ---- sizes, widths and heats

-- the heat of a stream's part, the change of its state there, and its width
pub record FitsStream (s : Stream) (p : Part) : Type 0 where
  pub least : p.least ≡ (s.cp +ℤ s.load) *ℤ pos (width_of p)
  pub most : p.most ≡ (s.cp +ℤ s.load) *ℤ pos (width_of p)
  pub some : pos 0 <ℤ (s.cp +ℤ s.load)
  pub change_is : change s.side (entered_state p s) (left_state p s) ≡ whole (pos (width_of p))
  pub narrow : width_of p ≤ unsigned_abs LONGEST_RANGE

fits_heat : {streams : List Stream} {places : List ℤ} {of : Side} {number : ℕ} (s : Stream) (p : Part)
    → IsStreamPart streams places of number s p → pos 0 <ℤ (s.cp +ℤ s.load)
    → piece_heat p.high p.low s ≡ (s.cp +ℤ s.load) *ℤ pos (width_of p)
    → change s.side (entered_state p s) (left_state p s) ≡ whole (pos (width_of p))
    → width_of p ≤ unsigned_abs LONGEST_RANGE → FitsStream s p
fits_heat s p is some heat change_is narrow = record {
  least = ap (λ (q : Part). q.least) is.is ∙ heat;
  most = ap (λ (q : Part). q.most) is.is ∙ heat;
  some = some;
  change_is = change_is;
  narrow = narrow;
}

pub fits : {streams : List Stream} {of : Side} {number : ℕ} (places : List ℤ) (s : Stream) (p : Part) → IsValidStream s
    → AllPairs (λ a b. b <ℤ a) places → IsStreamPart streams places of number s p → FitsStream s p
fits places s p valid falls is = by (lies places s p valid falls is)
  where
    by : LiesOnInterval places s p ⊎ LiesAtLevel s p → FitsStream s p
    by (inl on) =
        let less = interval_falls places p.high p.low falls on.interval in
        let flow = on.sensible.cp.from in
        let none = on.sensible.load in
        let long = (range-length s valid).upto in
        let width : p.high -ℤ p.low ≡ pos (width_of p) = omega (arith, ints, less) in
        let no_load : piece_heat p.high p.low s ≡ s.cp *ℤ (p.high -ℤ p.low) = omega (arith, ints, none) in
        let size : s.cp ≡ s.cp +ℤ s.load = omega (arith, ints, none) in
        let entered = entered-sensible s p on.sensible in
        let left = left-sensible s p on.sensible in
        fits_heat s p is (omega (arith, ints, flow, none)) (no_load ∙ (λ i. size i *ℤ width i))
        ((λ i. change s.side (entered i) (left i)) ∙ change_over s.side p s.contribution ∙ ap whole width)
        (omega (arith, ints, less, is.from, is.upto, long))
    by (inr at) =
        let some = at.latent.load.from in
        let none = at.latent.cp in
        let one : width_of p ≡ 1 = omega (arith, ints, at.high, at.low) in
        let no_flow : s.cp *ℤ (p.high -ℤ p.low) ≡ pos 0 *ℤ (p.high -ℤ p.low) = ap (λ c. c *ℤ (p.high -ℤ p.low)) none in
        let load : piece_heat p.high p.low s ≡ (s.cp +ℤ s.load) *ℤ pos 1 = omega (arith, ints, no_flow, none) in
        let entered = entered-latent s p at.latent ∙ first_state-latent s at.latent in
        let left = left-latent s p at.latent ∙ last_state-latent s at.latent in
        let load_is = load ∙ ap (λ w. (s.cp +ℤ s.load) *ℤ pos w) (sym one) in
        fits_heat s p is (omega (arith, ints, some, none)) load_is
        ((λ i. change s.side (entered i) (left i)) ∙ load_change s.side ∙ ap (λ w. whole (pos w)) (sym one))
        (omega (arith, one))

-- ---- the shares of a part are the whole stream, and bring it from the one state to the other

-- the share of an own transfer, over the width of the part
abbrev pub own_share : Side → ℕ → ℕ → ℕ × Transfer → Option Share
own_share of index width (number, t) =
    if part_index of t == index then Some (record { exchanger = number; cp = ratio t.heat width }) else None

share_over : (size : ℕ → Rational) (k index n : ℕ)
    → ◌≡◌ {A = Option Share} (if k == index then Some (record { exchanger = n; cp = size k }) else None)
    (if k == index then Some (record { exchanger = n; cp = size index }) else None)
share_over size k index n = by (k == index) refl
  where
    share : ℕ → Option Share
    share j = Some (record { exchanger = n; cp = size j })

    by : (b : Bool) → (k == index) ≡ b → (if b then share k else None) ≡ (if b then share index else None)
    by true own = let same : k ≡ index = grind (arith, nat_tests) in ap share same
    by false own = refl

share-is : (hot cold : List Part) (of : Side) (index n : ℕ) (t : Transfer)
    → share_of of index (n, exchange_of hot cold t) ≡ own_share of index (width_at (on_side of hot cold) index) (n, t)
share-is hot cold side.Hot index n t = share_over (λ k. ratio t.heat (width_at hot k)) t.hot index n
share-is hot cold side.Cold index n t = share_over (λ k. ratio t.heat (width_at cold k)) t.cold index n

pub shares-are : (hot cold : List Part) (of : Side) (index n : ℕ) (ts : List Transfer)
    → filter_map (share_of of index) (enumerate_from n (map (exchange_of hot cold) ts))
    ≡ filter_map (own_share of index (width_at (on_side of hot cold) index)) (enumerate_from n ts)
shares-are hot cold of index n [] = refl
shares-are hot cold of index n (t ∷ ts) =
    λ i. cons_option (share-is hot cold of index n t i) (shares-are hot cold of index (n + 1) ts i)

one_size : (b : Bool) (number width : ℕ) (heat others : ℤ) (rest : List Share) → size_of rest ≡ ratio others width
    → size_of (cons_option (if b then Some (record { exchanger = number; cp = ratio heat width }) else None) rest)
    ≡ ratio ((if b then heat else pos 0) +ℤ others) width
one_size true number width heat others rest is = ap (plus (ratio heat width)) is ∙ plus-ratio_same_den heat others width
one_size false number width heat others rest is =
    let same : others ≡ pos 0 +ℤ others = omega (arith, ints) in
    is ∙ ap (λ h. ratio h width) same

-- together they are the heat of the part over its width
pub size-shares : (of : Side) (index width n : ℕ) (ts : List Transfer)
    → size_of (filter_map (own_share of index width) (enumerate_from n ts)) ≡ ratio (heat_at of ts index) width
size-shares of index width n [] = sym (ratio-zero width)
size-shares of index width n (t ∷ ts) =
    let others_have = size-shares of index width (n + 1) ts in
    one_size (part_index of t == index) n width t.heat (heat_at of ts index)
    (filter_map (own_share of index width) (enumerate_from (n + 1) ts)) others_have

-- shares of some size
pub some_share : (shares : List Share) (size : Rational) → size_of shares ≡ size → IsBelow rational_zero size
    → 0 < length shares
some_share [] size is some =
    let none = subst (IsBelow rational_zero) (sym is) some in
    absurd (omega (arith, ints))
some_share (share ∷ shares) size is some = omega arith

pub size_on-exchange : (of : Side) (hot cold : List Part) (t : Transfer)
    → size_on of (exchange_of hot cold t)
    ≡ ratio t.heat (width_at (on_side of hot cold) (piece_on of (exchange_of hot cold t)))
size_on-exchange side.Hot hot cold t = refl
size_on-exchange side.Cold hot cold t = refl

-- ---- states

pub state_is : (state : Stream → Rational) (case : Case) (a : Source) (number : ℕ) (s : Stream)
    → slice_get case.streams number ≡ Some s
    → a ≡ source.Stream number → source_state state case a ≡ state s
state_is state case a number s here own =
    ap (source_state state case) own ∙ ap (λ o. option_map_or state o rational_zero) here

abbrev pub highest : ℕ
highest = unsigned_abs HIGHEST_LEVEL

pub either_sized : (b : Bool) (x y : Rational) → IsSized 1 highest x → IsSized 1 highest y
    → IsSized 1 highest (if b then x else y)
either_sized true x y one other = one
either_sized false x y one other = other

pub temperature-sized : (of : Side) (place contribution : ℤ) → IsShifted place → IsContribution contribution
    → IsSized 1 highest (whole (unshifted of place contribution))
temperature-sized side.Hot place contribution is given =
    sized-whole 1 highest (place +ℤ contribution) (omega arith)
    (omega (arith, ints, is.from, is.upto, given.from, given.upto))
temperature-sized side.Cold place contribution is given =
    sized-whole 1 highest (place -ℤ contribution) (omega arith)
    (omega (arith, ints, is.from, is.upto, given.from, given.upto))

-- the last state of a latent stream
pub last_part-sized : (of : Side) → IsSized 1 highest (last_part_of_load of)
last_part-sized side.Hot = sized-whole 1 highest (pos 0) (omega arith) (omega arith)
last_part-sized side.Cold = sized-whole 1 highest (pos 1) (omega arith) (omega arith)

pub last_part : (of : Side) → IsPartOfLoad (last_part_of_load of)
last_part side.Hot =
    record {
      least = at_most-whole (pos 0) (pos 0) (omega (arith, ints));
      most = at_most-whole (pos 0) (pos 1) (omega (arith, ints));
    }
last_part side.Cold =
    record {
      least = at_most-whole (pos 0) (pos 1) (omega (arith, ints));
      most = at_most-whole (pos 1) (pos 1) (omega (arith, ints));
    }

pub both_ends : (P : ℤ → Type 0) (of : Side) (p : Part) → P p.high → P p.low → P (entered_at of p) × P (left_at of p)
both_ends P side.Hot p high low = (high, low)
both_ends P side.Cold p high low = (low, high)

-- neither end of a part lies above the other's place
pub piece_falls : {places : List ℤ} (s : Stream) (p : Part) → AllPairs (λ a b. b <ℤ a) places
    → IsPiece places s p.high p.low → p.low ≤ℤ p.high
piece_falls {places} s p falls (inl interval) =
    let less = interval_falls places p.high p.low falls interval in
    omega (arith, ints)
piece_falls s p falls (inr latent) = let level = latent.1 in omega (arith, ints)
