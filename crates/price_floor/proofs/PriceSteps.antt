-- The step prices that prices of cold parts make: they fall to the least price, they are ordered, and where a part lies they are at most
-- its price if it is hot, and at least its price if it is cold.
use Rattle.price_floor.proofs.Words.{All-enumerated, All-head, All-slice_get, All-tail, All-weaker, AllPairs-head}
use Rattle.price_floor.proofs.Words.{AllPairs-tail, AreAtMost, AreFalling, Case, Decides-int_eq, FallTo, IsInterval}
use Rattle.price_floor.proofs.Words.{IsOrderedTariff, Part, Side, Source, StepPrices, View, by_lt_z, clamps}
use Rattle.price_floor.proofs.Words.{comes_below, counts_for, enumerate_from, false_from_ne_true, greatest_price}
use Rattle.price_floor.proofs.Words.{if◌then◌else◌, int_eq, int_le, int_le-from, int_lt-from, int_max, interval_below}
use Rattle.price_floor.proofs.Words.{interval_ends, interval_falls, ints, is_forbidden, last_price, part_reaches}
use Rattle.price_floor.proofs.Words.{passes_heat, price_at, price_steps, same_source-same, same_source-true, tariff_of}
use Rattle.price_floor.proofs.Words.{views_of, ◌<ℤ◌}
use Rattle.std.proofs.Common.{All, AllPairs, Bool, Contains, List, Some, [], ap, arith, false, get_or, inl, inr, not, refl}
use Rattle.std.proofs.Common.{slice_get, subst, suc, sym, true, zero, ℕ, ℤ, ◌&&◌, ◌+◌, ◌<◌, ◌∙◌, ◌∷◌, ◌≡◌, ◌≤ℤ◌, ◌⊎◌}
use Rattle.std.proofs.lemmas.Bool.{and_from, and_parts, not_from_false, or_left, or_right}
use Rattle.stream_case.specs.declared.source.Side.TheVariants as side
use Rattle.price_floor.proofs.ViewLemmas.{HasEnds, from_place, low_on, lowest_of, none_inside, own_not}
use Rattle.price_floor.proofs.ViewLemmas.{own_view, stands, stands_later, stands_lowest, views-fall}
use Rattle.price_floor.proofs.ViewLemmas.{views-places}

-- ---- the greatest of two

front : (a x y : ℤ) → a ≤ℤ x → a ≤ℤ int_max x y
front a x y h = omega (arith, ints, clamps)

behind : (a x y : ℤ) → a ≤ℤ y → a ≤ℤ int_max x y
behind a x y h = omega (arith, ints, clamps)

both_upto : (x y a : ℤ) → x ≤ℤ a → y ≤ℤ a → int_max x y ≤ℤ a
both_upto x y a h k = omega (arith, ints, clamps)

-- ---- the greatest price

module _ (least : ℤ) (prices : List ℤ) where
  greatest-least : (counts : Part → Bool) (parts : List (ℕ × Part)) → least ≤ℤ greatest_price least counts prices parts
  greatest-least counts [] = omega (arith, ints)
  greatest-least counts ((b, p) ∷ parts) =
      let rest = greatest_price least counts prices parts in
      behind least (if counts p then price_at prices b else least) rest (greatest-least counts parts)

  -- no less where more parts count
  greatest-more : (counts more : Part → Bool) (parts : List (ℕ × Part))
      → All (λ (e : ℕ × Part). counts e.1 ≡ true → more e.1 ≡ true) parts
      → greatest_price least counts prices parts ≤ℤ greatest_price least more prices parts
  greatest-more counts more [] h = omega (arith, ints)
  greatest-more counts more ((b, p) ∷ parts) h =
      let x = price_at prices b in
      let rest = greatest_price least counts prices parts in
      let others = greatest_price least more prices parts in
      let first = All-head (λ (e : ℕ × Part). counts e.1 ≡ true → more e.1 ≡ true) (b, p) parts h in
      let later = All-tail (λ (e : ℕ × Part). counts e.1 ≡ true → more e.1 ≡ true) (b, p) parts h in
      both_upto (if counts p then x else least) rest (int_max (if more p then x else least) others)
      (by (counts p) (more p) first x others (greatest-least more parts))
      (behind rest (if more p then x else least) others (greatest-more counts more parts later))
    where
      by : (b c : Bool) → (b ≡ true → c ≡ true) → (x others : ℤ) → least ≤ℤ others
          → (if b then x else least) ≤ℤ int_max (if c then x else least) others
      by true true h x others k = front x x others (omega (arith, ints))
      by true false h x others k = absurd (let no = h refl in cc)
      by false c h x others k = behind least (if c then x else least) others k

  greatest-upto : (counts : Part → Bool) (bound : ℤ) (parts : List (ℕ × Part)) → least ≤ℤ bound
      → All (λ (e : ℕ × Part). counts e.1 ≡ true → price_at prices e.0 ≤ℤ bound) parts
      → greatest_price least counts prices parts ≤ℤ bound
  greatest-upto counts bound [] h each = h
  greatest-upto counts bound ((b, p) ∷ parts) h each =
      let first = All-head (λ (e : ℕ × Part). counts e.1 ≡ true → price_at prices e.0 ≤ℤ bound) (b, p) parts each in
      let later = All-tail (λ (e : ℕ × Part). counts e.1 ≡ true → price_at prices e.0 ≤ℤ bound) (b, p) parts each in
      both_upto (if counts p then price_at prices b else least) (greatest_price least counts prices parts) bound
      (by (counts p) (price_at prices b) first) (greatest-upto counts bound parts h later)
    where
      by : (c : Bool) (x : ℤ) → (c ≡ true → x ≤ℤ bound) → (if c then x else least) ≤ℤ bound
      by true x k = k refl
      by false x k = h

  -- no less than the price of a part that counts
  greatest-at : (counts : Part → Bool) (n : ℕ) (parts : List Part) (b : ℕ) (p : Part)
      → slice_get parts b ≡ Some p → counts p ≡ true
      → price_at prices (n + b) ≤ℤ greatest_price least counts prices (enumerate_from n parts)
  greatest-at counts n [] b p at h = absurd (cc)
  greatest-at counts n (q ∷ parts) zero p at h =
      let is : q ≡ p = cc in
      let index : n + 0 ≡ n = omega arith in
      let here : (if counts q then price_at prices n else least) ≡ price_at prices n
      = ap (λ c. if c then price_at prices n else least) (ap counts is ∙ h) in
      let rest = greatest_price least counts prices (enumerate_from (n + 1) parts) in
      subst (λ k. price_at prices k ≤ℤ greatest_price least counts prices (enumerate_from n (q ∷ parts))) (sym index)
      (front (price_at prices n) (if counts q then price_at prices n else least) rest (omega (arith, ints)))
  greatest-at counts n (q ∷ parts) (suc b) p at h =
      let index : n + 1 + b ≡ n + suc b = omega arith in
      subst (λ k. price_at prices k ≤ℤ greatest_price least counts prices (enumerate_from n (q ∷ parts))) index
      (behind (price_at prices (n + 1 + b)) (if counts q then price_at prices n else least)
      (greatest_price least counts prices (enumerate_from (n + 1) parts)) (greatest-at counts (n + 1) parts b p at h))

  -- the same of the cold parts of a side with their indices
  more_counted : (counts more : Part → Bool) (cold : List Part)
      → ((b : ℕ) (p : Part) → slice_get cold b ≡ Some p → counts p ≡ true → more p ≡ true)
      → greatest_price least counts prices (enumerate_from 0 cold) ≤ℤ greatest_price least more prices (enumerate_from 0 cold)
  more_counted counts more cold each =
      greatest-more counts more (enumerate_from 0 cold)
      (All-enumerated (λ (e : ℕ × Part). counts e.1 ≡ true → more e.1 ≡ true) cold each)

  upto_counted : (counts : Part → Bool) (bound : ℤ) (cold : List Part) → least ≤ℤ bound
      → ((b : ℕ) (p : Part) → slice_get cold b ≡ Some p → counts p ≡ true → price_at prices b ≤ℤ bound)
      → greatest_price least counts prices (enumerate_from 0 cold) ≤ℤ bound
  upto_counted counts bound cold some each =
      greatest-upto counts bound (enumerate_from 0 cold) some
      (All-enumerated (λ (e : ℕ × Part). counts e.1 ≡ true → price_at prices e.0 ≤ℤ bound) cold each)

-- ---- falling prices

falling_along : (R : View → View → Type 0) (P : View → Type 0) (below : View → ℤ)
    → ((u v : View) → P u → R u v → below v ≤ℤ below u)
    → (above : ℤ) (views : List View) → All (λ v. below v ≤ℤ above) views → AllPairs R views → All P views
    → AreFalling above below views
falling_along R P below step above [] each pairs of = tt
falling_along R P below step above (v ∷ views) each pairs of = (
  All-head (λ w. below w ≤ℤ above) v views each,
  falling_along R P below step (below v) views
      (All-weaker (R v) (λ w. below w ≤ℤ below v) (λ w r. step v w (All-head P v views of) r) views (AllPairs-head R v views pairs))
      (AllPairs-tail R v views pairs) (All-tail P v views of),
)

module _ (case : Case) (least : ℤ) (prices : List ℤ) (cold : List Part) (grid : List ℤ) (falls : AllPairs (λ a b. b <ℤ a) grid)
    (ends : All (HasEnds grid) cold) where
  ends_at : (b : ℕ) (p : Part) → slice_get cold b ≡ Some p → HasEnds grid p
  ends_at b p at = All-slice_get (HasEnds grid) cold b p ends at

  -- a cold part that counts for a source and does not stand above a view
  abbrev counts_below : Side → Source → View → Part → Bool
  counts_below on s v p = counts_for case on s p && not (stands p v)

  below-from : (on : Side) (s : Source) (v : View) (p : Part) → counts_for case on s p ≡ true
      → stands p v ≡ false → counts_below on s v p ≡ true
  below-from on s v p counted under =
      and_from (counts_for case on s p) (not (stands p v)) counted (not_from_false (stands p v) under)

  below-parts : (on : Side) (s : Source) (v : View) (p : Part) → counts_below on s v p ≡ true
      → (counts_for case on s p ≡ true) × (stands p v ≡ false)
  below-parts on s v p h =
      let (counted, under) = and_parts (counts_for case on s p) (not (stands p v)) h in
      (counted, false_from_ne_true (stands p v) (λ e. cc))

  module _ (on : Side) (s : Source) where
    abbrev steps : StepPrices
    steps = price_steps case least prices cold on s

    below_top : (v : View) → steps.below v ≤ℤ steps.top
    below_top v =
        more_counted least prices (counts_below on s v) (counts_for case on s) cold (λ b p at h. (below-parts on s v p h).0)

    below_before : (u v : View) → Contains grid u.place → comes_below u v → steps.below v ≤ℤ steps.below u
    below_before u v at below = more_counted least prices (counts_below on s v) (counts_below on s u) cold more
      where
        more : (b : ℕ) (p : Part) → slice_get cold b ≡ Some p → counts_below on s v p ≡ true
            → counts_below on s u p ≡ true
        more b p here h =
            let (counted, under) = below-parts on s v p h in
            below-from on s u p counted
            (false_from_ne_true (stands p u) (λ e. let later = stands_later grid p falls (ends_at b p here) u v at below e in cc))

    none_counts : (counted : Part → Bool) → ((b : ℕ) (p : Part) → slice_get cold b ≡ Some p → counted p ≡ true → ⊥)
        → greatest_price least counted prices (enumerate_from 0 cold) ≡ least
    none_counts counted none =
        let upto =
        upto_counted least prices counted least cold (omega (arith, ints)) (λ b p at h. absurd (none b p at h)) in
        let from = greatest-least least prices counted (enumerate_from 0 cold) in
        omega (arith, ints)

    last_least : (places : List ℤ) → AllPairs (λ a b. b <ℤ a) places → All (HasEnds places) cold
        → last_price steps.top steps.below (views_of places) ≡ least
    last_least [] down each =
        none_counts (counts_for case on s) (λ b p at h.
        let (k, within, is) = low_on [] p (All-slice_get (HasEnds []) cold b p each at) in
        omega arith)
    last_least (g ∷ places) down each =
        let (lowest, h) = lowest_of g places down in
        h.last steps.top steps.below ∙ none_counts (counts_below on s (from_place lowest)) (λ b p at counted.
        let above = stands_lowest (g ∷ places) p lowest (All-slice_get (HasEnds (g ∷ places)) cold b p each at) h in
        let under = (below-parts on s (from_place lowest) p counted).1 in cc)

    pub steps_fall : FallTo least (views_of grid) (price_steps case least prices cold on s)
    steps_fall = record {
      falling =
          falling_along comes_below (λ v. Contains grid v.place) steps.below below_before steps.top (views_of grid)
          (λ k d within. below_top (get_or (views_of grid) k d)) (views-fall grid falls) (views-places grid);
      last = last_least grid falls ends;
    }

  -- what counts for a cold source counts for a hot source that may heat it
  counts_more : (giver taker : Source) → is_forbidden case.forbids giver taker ≡ false → (p : Part)
      → counts_for case side.Cold taker p ≡ true → counts_for case side.Hot giver p ≡ true
  counts_more giver taker permitted p own =
      let same = ap (is_forbidden case.forbids giver) (same_source-true p.source taker own) in
      not_from_false (is_forbidden case.forbids giver p.source) (same ∙ permitted)

  steps_ordered : (giver taker : Source) → is_forbidden case.forbids giver taker ≡ false
      → AreAtMost (price_steps case least prices cold side.Cold taker) (price_steps case least prices cold side.Hot giver)
  steps_ordered giver taker permitted = record {
    top = more_counted least prices (counts_for case side.Cold taker) (counts_for case side.Hot giver) cold
        (λ b p at own. counts_more giver taker permitted p own);
    below = λ v. more_counted least prices (counts_below side.Cold taker v) (counts_below side.Hot giver v) cold
        (λ b p at h.
        let (own, under) = below-parts side.Cold taker v p h in
        below-from side.Hot giver v p (counts_more giver taker permitted p own) under);
  }

  pub steps_are_ordered : IsOrderedTariff case (tariff_of case least prices cold grid)
  steps_are_ordered = record { falls = steps_fall; ordered = steps_ordered }

  -- ---- the price where a part lies

  high_on : (r : Part) → HasEnds grid r → Contains grid r.high
  high_on r (inl (level, found)) = found
  high_on r (inr interval) = (interval_ends grid r.high r.low interval).0

  -- a part whose low end lies below the high one of an interval lies below the interval, or on it
  on_interval : (p q : Part) → IsInterval grid p.high p.low → HasEnds grid q → q.low <ℤ p.high
      → (q.high ≤ℤ p.low) ⊎ ((p.high ≡ q.high) × (p.low ≡ q.low))
  on_interval p q interval other less = by_lt_z p.low q.high (λ more. inr (same more)) (λ upto. inl upto)
    where
      width : p.low <ℤ p.high
      width = interval_falls grid p.high p.low falls interval

      lower : q.low ≤ℤ p.low
      lower = interval_below grid p.high p.low q.low falls interval (low_on grid q other) less

      -- no end of the one lies inside the other
      same : p.low <ℤ q.high → (p.high ≡ q.high) × (p.low ≡ q.low)
      same more =
          let low = none_inside grid q falls other p.low (interval_ends grid p.high p.low interval).1 more in
          let wide = width in
          let under = lower in (
            by_lt_z p.high q.high (λ up.
                let inside = none_inside grid q falls other p.high (interval_ends grid p.high p.low interval).0 up in
                absurd (omega (arith, ints))) (λ upto. by_lt_z q.high p.high (λ down.
                let inside = interval_below grid p.high p.low q.high falls interval (high_on q other) down in
                absurd (omega (arith, ints))) (λ from. omega (arith, ints))),
            omega (arith, ints),
          )

  -- heat passes from a hot part to each cold part that does not stand above the hot part's own view
  passes_own : (p q : Part) (own : HasEnds grid p) → HasEnds grid q → stands q (own_view grid p own) ≡ false
      → passes_heat p q ≡ true
  passes_own p q (inl (level, found)) other under =
      by_lt_z p.high q.high (λ more. let stood = int_lt-from p.high q.high more in absurd (cc))
      (λ most.
      let below = int_le-from q.high p.low (omega (arith, ints)) in
      or_left (int_le q.high p.low) (int_eq p.high q.high && int_eq p.low q.low) below)
  passes_own p q (inr interval) other under =
      by_lt_z q.low p.high (λ less. by (on_interval p q interval other less)) (λ more.
      let stood = int_le-from p.high q.low more in
      absurd (cc))
    where
      by : (q.high ≤ℤ p.low) ⊎ ((p.high ≡ q.high) × (p.low ≡ q.low)) → passes_heat p q ≡ true
      by (inl below) =
          or_left (int_le q.high p.low) (int_eq p.high q.high && int_eq p.low q.low) (int_le-from q.high p.low below)
      by (inr (high, low)) =
          let highs = (Decides-int_eq p.high q.high).1 high in
          let lows = (Decides-int_eq p.low q.low).1 low in
          or_right (int_le q.high p.low) (int_eq p.high q.high && int_eq p.low q.low)
          (and_from (int_eq p.high q.high) (int_eq p.low q.low) highs lows)

  -- a hot part's is at most a price that is at least that of each cold part that it reaches
  pub hot_price : (p : Part) (own : HasEnds grid p) (price : ℤ) → least ≤ℤ price
      → ((b : ℕ) (q : Part) → slice_get cold b ≡ Some q → part_reaches case p q ≡ true → price_at prices b ≤ℤ price)
      → (price_steps case least prices cold side.Hot p.source).below (own_view grid p own) ≤ℤ price
  hot_price p own price some reached =
      let v = own_view grid p own in
      upto_counted least prices (counts_below side.Hot p.source v) price cold some (λ b q at h.
      let (permitted, under) = below-parts side.Hot p.source v q h in
      let passes = passes_own p q own (ends_at b q at) under in
      reached b q at (and_from (passes_heat p q) (not (is_forbidden case.forbids p.source q.source)) passes permitted))

  -- a cold part's is at least its price
  pub cold_price : (b : ℕ) (p : Part) (at : slice_get cold b ≡ Some p) (own : HasEnds grid p)
      → price_at prices b ≤ℤ (price_steps case least prices cold side.Cold p.source).below (own_view grid p own)
  cold_price b p at own =
      let v = own_view grid p own in
      let index : 0 + b ≡ b = omega arith in
      subst (λ k. price_at prices k ≤ℤ (price_steps case least prices cold side.Cold p.source).below v) index
      (greatest-at least prices (counts_below side.Cold p.source v) 0 cold b p at
      (below-from side.Cold p.source v p (same_source-same p.source) (own_not grid p falls own)))
