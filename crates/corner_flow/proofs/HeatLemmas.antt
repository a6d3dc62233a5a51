-- Heat goes down: what the cold parts take above a place is at most what the hot parts give above it.
use Rattle.corner_flow.proofs.SideLemmas.{AreStandardParts, IsStandardPart, unit_price}
use Rattle.corner_flow.proofs.StandardLemmas.{end_of}
use Rattle.corner_flow.proofs.Words.{All, Case, Cold, Contains, Decides-int_eq, HaveParts, Hot, IsFlowOf, IsSupporting, IsTightOver, one_times, zero_times}
use Rattle.corner_flow.proofs.Words.{KeepsRanges, NeedsHeat, Part, Side, Stream, Transfer, UtilityHeat, and_parts, both_parts, cold_target, cost_of}
use Rattle.corner_flow.proofs.Words.{counts_above, false≢true, get_or-map, get_or_from_slice_get, heat_at, heat_over, heats_at-not_negative, hot_target}
use Rattle.corner_flow.proofs.Words.{if◌then◌else◌, int_eq, int_le, int_le-false, int_le-from, int_lt, int_lt-false, int_lt-from, int_sum_by, int_sum_by-le}
use Rattle.corner_flow.proofs.Words.{int_sum_by-not_negative, int_sum_from, int_sum_from-add, int_sum_from-by, int_sum_from-grouped, int_sum_from-same_each}
use Rattle.corner_flow.proofs.Words.{ints, is_forbidden, is_stream, not-true, or_cases, part_index, part_over, parts_of, passes_heat, pos, price_at}
use Rattle.corner_flow.proofs.Words.{reach_between, side_cost, side_worth, side_worth-parts, slice_get, slice_get_within, some_tight, stands_above, sum_side}
use Rattle.corner_flow.proofs.Words.{worth-le, ℤ, ◌*ℤ◌, ◌+ℤ◌, ◌<ℤ◌, ◌==◌, ◌≤ℤ◌}
use Rattle.std.proofs.Common.{Bool, List, Some, ap, ap₂, arith, false, map, not, refl, subst₂, sym, true, ℕ, ⊎_elim, ◌&&◌, ◌∙◌, ◌≡◌}

-- the target of a side
abbrev pub target_of : Side → List Stream → ℤ
target_of Hot streams = hot_target streams
target_of Cold streams = cold_target streams

-- ---- one part

-- 1 for a level that counts as above a place, and for a part that stands above it; 0 for the others
abbrev pub reached : Bool → ℤ → ℤ → ℤ
reached from_itself place level = if counts_above from_itself place level then pos 1 else pos 0

abbrev pub above : Bool → ℤ → Part → ℤ
above from_itself place p = if stands_above from_itself place p then pos 1 else pos 0

pub is_reached : (from_itself : Bool) (place level : ℤ) → counts_above from_itself place level ≡ true
    → reached from_itself place level ≡ pos 1
is_reached from_itself place level e = ap (λ b. if b then pos 1 else pos 0) e

pub is_missed : (from_itself : Bool) (place level : ℤ) → counts_above from_itself place level ≡ false
    → reached from_itself place level ≡ pos 0
is_missed from_itself place level e = ap (λ b. if b then pos 1 else pos 0) e

-- a part at one level stands above a place where the level does
pub stands-level : (from_itself : Bool) (place level : ℤ) (p : Part) → p.high ≡ level → p.low ≡ level
    → stands_above from_itself place p ≡ counts_above from_itself place level
stands-level false place level p high low = ap (int_lt place) high
stands-level true place level p high low = ap (int_le place) low

-- a level that is higher counts as above a place, and a lower one does not
pub counts_higher : (from_itself : Bool) (place level : ℤ) → place <ℤ level
    → counts_above from_itself place level ≡ true
counts_higher false place level less = int_lt-from place level less
counts_higher true place level less = int_le-from place level (omega (arith, ints))

pub counts_lower : (from_itself : Bool) (place level : ℤ) → level <ℤ place
    → counts_above from_itself place level ≡ false
counts_lower false place level less = int_lt-false place level (omega (arith, ints))
counts_lower true place level less = int_le-false place level less

-- from a place on lies what is not below it
pub from_place : (place level : ℤ) → place ≤ℤ level → counts_above true place level ≡ true
from_place place level most = int_le-from place level most

chosen : (b : Bool) (x : ℤ) → (if b then x else pos 0) ≡ (if b then pos 1 else pos 0) *ℤ x
chosen true x = omega (arith, ints)
chosen false x = sym (zero_times (pos 0) x refl)

pub from_stream : (from_itself : Bool) (place each : ℤ) (p : Part) → is_stream p.source ≡ true
    → part_over from_itself place each p ≡ above from_itself place p *ℤ p.least
from_stream from_itself place each p e =
    ap (λ b. if b then (if stands_above from_itself place p then p.least else pos 0) else each) e
    ∙ chosen (stands_above from_itself place p) p.least

pub from_utility : (from_itself : Bool) (place each : ℤ) (p : Part) → is_stream p.source ≡ false
    → part_over from_itself place each p ≡ each
from_utility from_itself place each p e =
    ap (λ b. if b then (if stands_above from_itself place p then p.least else pos 0) else each) e

-- a share of 0 or 1
share : (b : Bool) (x : ℤ) → pos 0 ≤ℤ x
    → (pos 0 ≤ℤ ((if b then pos 1 else pos 0) *ℤ x)) × (((if b then pos 1 else pos 0) *ℤ x) ≤ℤ x)
share true x h = let is = one_times (pos 1) x refl in (omega (arith, ints), omega (arith, ints))
share false x h = let is = zero_times (pos 0) x refl in (omega (arith, ints), omega (arith, ints))

-- the price of the part at an index, where each part has its own
pub price_at-map : (f : Part → ℤ) (parts : List Part) (a : ℕ) (p : Part) → slice_get parts a ≡ Some p
    → price_at (map f parts) a ≡ f p
price_at-map f parts a p at =
    get_or-map f parts a p (pos 0) (slice_get_within parts a p at) ∙ ap f (get_or_from_slice_get parts a p p at)

-- ---- parts that reach

passes_down : (p q : Part) → passes_heat p q ≡ true → p.low ≤ℤ p.high → q.low ≤ℤ q.high
    → (q.high ≤ℤ p.high) × (q.low ≤ℤ p.low)
passes_down p q h order other = ⊎_elim (λ e. (omega (arith, ints), omega (arith, ints))) (λ e.
    let same = and_parts (int_eq p.high q.high) (int_eq p.low q.low) e in
    let high = (Decides-int_eq p.high q.high).0 same.0 in
    let low = (Decides-int_eq p.low q.low).0 same.1 in
    (omega (arith, ints), omega (arith, ints))) (or_cases (int_le q.high p.low) (int_eq p.high q.high && int_eq p.low q.low) h)

pub stands_falls : (from_itself : Bool) (place : ℤ) (p q : Part) → q.high ≤ℤ p.high → q.low ≤ℤ p.low
    → stands_above from_itself place q ≡ true
    → stands_above from_itself place p ≡ true
stands_falls false place p q high low e = int_lt-from place p.high (omega (arith, ints))
stands_falls true place p q high low e = int_le-from place p.low (omega (arith, ints))

either_falls : (b c : Bool) → (b ≡ true → c ≡ true) → (if b then pos 1 else pos 0) ≤ℤ (if c then pos 1 else pos 0)
either_falls true true h = omega (arith, ints)
either_falls true false h = absurd (false≢true (h refl))
either_falls false true h = omega (arith, ints)
either_falls false false h = omega (arith, ints)

pub above_falls : (from_itself : Bool) (place : ℤ) (p q : Part) → q.high ≤ℤ p.high → q.low ≤ℤ p.low
    → above from_itself place q ≤ℤ above from_itself place p
above_falls from_itself place p q high low =
    either_falls (stands_above from_itself place q) (stands_above from_itself place p)
    (stands_falls from_itself place p q high low)

module _ {c : Case} {hot cold : List Part} (s : AreStandardParts c hot cold) where
  -- prices that do not rise downward support each heat flow
  pub supports_down : (f : Part → ℤ) → ((p q : Part) → q.high ≤ℤ p.high → q.low ≤ℤ p.low → f q ≤ℤ f p)
      → IsSupporting (reach_between c hot cold) (map f hot) (map f cold)
  supports_down f falls a b reach =
      let (p, q, from, to, both) = both_parts c (slice_get hot a) (slice_get cold b) reach in
      let passes = (and_parts (passes_heat p q) (not (is_forbidden c.forbids p.source q.source)) both).0 in
      let down = passes_down p q passes ((s.sides Hot).each a p from).falls ((s.sides Cold).each b q to).falls in
      subst₂ (λ y z. z ≤ℤ y) (sym (price_at-map f hot a p from)) (sym (price_at-map f cold b q to)) (falls p q down.0 down.1)

  -- a sum over the parts of a side that each add what stands above a place of the grid, and something for the utility
  pub sum_above : (side : Side) (f : ℕ → Part → ℤ) (from_itself : Bool) (place each : ℤ) → Contains s.grid place
      → ((a : ℕ) (p : Part) → slice_get (parts_of side hot cold) a ≡ Some p → IsStandardPart c s.grid side p
      → f a p ≡ part_over from_itself place each p)
      → int_sum_from f 0 (parts_of side hot cold) ≡ each +ℤ sum_side side (heat_over from_itself place) c.streams
  sum_above side f from_itself place each on h =
      let parts = parts_of side hot cold in
      int_sum_from-same_each f (λ a p. part_over from_itself place each p) parts
      (λ a p at. h a p at ((s.sides side).each a p at))
      ∙ int_sum_from-by (part_over from_itself place each) 0 parts ∙ (s.sides side).sum from_itself place each on

  -- what a side costs is what its utility costs
  side_cost-standard : (side : Side) (ts : List Transfer) (heat : ℤ) → UtilityHeat side (parts_of side hot cold) ts heat
      → side_cost side (parts_of side hot cold) ts ≡ unit_price side *ℤ heat
  side_cost-standard side ts heat utility =
      let place = end_of c Cold in
      let each = unit_price side *ℤ heat in
      let whole = sum_above side (λ a p. p.price *ℤ heat_at side ts a +ℤ part_over true place (pos 0) p) true place each (s.ends Cold) (λ a p at h. ⊎_elim (λ k.
      let free = zero_times p.price (heat_at side ts a) k.price in
      let none = from_stream true place (pos 0) p k.source_is in
      let other = from_stream true place each p k.source_is in
      omega (arith, ints)) (λ k.
      let priced = ap₂ ◌*ℤ◌ k.price (utility a p at (ap not k.source_is)) in
      let none = from_utility true place (pos 0) p k.source_is in
      let other = from_utility true place each p k.source_is in
      omega (arith, ints))
      h.kind) in
      let split = int_sum_from-add (λ a p. p.price *ℤ heat_at side ts a) (λ a p. part_over true place (pos 0) p) 0 (parts_of side hot cold) in
      let plain = int_sum_from-by (part_over true place (pos 0)) 0 (parts_of side hot cold) in
      let above_place = (s.sides side).sum true place (pos 0) (s.ends Cold) in omega (arith, ints)

  -- a heat flow costs what the hot utility gives
  pub cost-hot_utility : (ts : List Transfer) (given taken : ℤ) → UtilityHeat Hot hot ts given
      → UtilityHeat Cold cold ts taken → cost_of hot cold ts ≡ given
  cost-hot_utility ts given taken h k =
      let hots = side_cost-standard Hot ts given h in
      let colds = side_cost-standard Cold ts taken k ∙ zero_times (pos 0) taken refl in
      omega (arith, ints)

  -- the utility has one heat
  abbrev pub heat : Side → List Transfer → ℤ
  heat side ts = heat_at side ts (s.sides side).utility

  pub utility_heat : (side : Side) (ts : List Transfer) → UtilityHeat side (parts_of side hot cold) ts (heat side ts)
  utility_heat side ts a p at utility =
      ap (heat_at side ts) ((s.sides side).only a p at (not-true (is_stream p.source) utility))

  module _ (ts : List Transfer) (flow : IsFlowOf c hot cold ts) where
    on_side : (side : Side) → HaveParts side (parts_of side hot cold) ts × KeepsRanges side (parts_of side hot cold) ts
    on_side Hot = (flow.hot_indexes, flow.hot_ranges)
    on_side Cold = (flow.cold_indexes, flow.cold_ranges)

    -- the heats of the parts of a side above a place
    heats_above : (side : Side) (w : ℕ → Part → ℤ) (from_itself : Bool) (place each : ℤ) → Contains s.grid place
        → UtilityHeat side (parts_of side hot cold) ts each
        → ((a : ℕ) (p : Part) → slice_get (parts_of side hot cold) a ≡ Some p → w a p ≡ above from_itself place p)
        → int_sum_from (λ a p. w a p *ℤ heat_at side ts a) 0 (parts_of side hot cold)
        ≡ reached from_itself place (end_of c side) *ℤ each +ℤ sum_side side (heat_over from_itself place) c.streams
    heats_above side w from_itself place each on utility weight =
        sum_above side (λ a p. w a p *ℤ heat_at side ts a) from_itself place
        (reached from_itself place (end_of c side) *ℤ each) on
        (λ a p at h. ap (λ z. z *ℤ heat_at side ts a) (weight a p at) ∙ ⊎_elim (λ k.
        let range = (on_side side).1 a p at in
        let fixed = k.fixed in
        ap (λ z. above from_itself place p *ℤ z) (omega (arith, ints))
        ∙ sym (from_stream from_itself place (reached from_itself place (end_of c side) *ℤ each) p k.source_is)) (λ k.
        let level = ap (λ b. if b then pos 1 else pos 0)
        (stands-level from_itself place (end_of c side) p k.high k.low) in
        ap₂ ◌*ℤ◌ level (utility a p at (ap not k.source_is))
        ∙ sym (from_utility from_itself place (reached from_itself place (end_of c side) *ℤ each) p k.source_is))
        h.kind)

    -- the same, transfer by transfer
    pub worth_above : (side : Side) (from_itself : Bool) (place each : ℤ) → Contains s.grid place
        → UtilityHeat side (parts_of side hot cold) ts each
        → side_worth side (map (above from_itself place) (parts_of side hot cold)) ts
        ≡ reached from_itself place (end_of c side) *ℤ each +ℤ sum_side side (heat_over from_itself place) c.streams
    worth_above side from_itself place each on utility =
        let parts = parts_of side hot cold in
        sym (side_worth-parts side (map (above from_itself place) parts) parts ts (on_side side).0)
        ∙ heats_above side (λ a p. price_at (map (above from_itself place) parts) a) from_itself place each on utility
        (price_at-map (above from_itself place) parts)

    pub taken-le : (from_itself : Bool) (place : ℤ)
        → All (λ t. (price_at (map (above from_itself place) cold) t.cold *ℤ t.heat)
        ≤ℤ (price_at (map (above from_itself place) hot) t.hot *ℤ t.heat)) ts
    taken-le from_itself place =
        worth-le (reach_between c hot cold) (map (above from_itself place) hot) (map (above from_itself place) cold) ts
        (supports_down (above from_itself place) (above_falls from_itself place)) flow.positive flow.joined

    -- all heat of a side: that of its streams and of its utility
    whole_heat : (side : Side)
        → int_sum_by (λ t. pos 1 *ℤ t.heat) ts
        ≡ heat side ts +ℤ sum_side side (heat_over true (end_of c Cold)) c.streams
    whole_heat side =
        let bottom = end_of c Cold in
        let all = one_times (reached true bottom (end_of c side)) (heat side ts)
        (is_reached true bottom (end_of c side) (from_place bottom (end_of c side) (s.within Cold (end_of c side) (s.ends side)))) in
        let sum = heats_above side (λ a p. pos 1) true bottom (heat side ts) (s.ends Cold) (utility_heat side ts)
        (λ a p at. sym (is_reached true bottom p.low (from_place bottom p.low ((s.sides side).each a p at).from))) in
        sym (int_sum_from-grouped (part_index side) (λ t. t.heat) (λ a. pos 1) (parts_of side hot cold) ts (on_side side).0) ∙ sum
        ∙ ap (λ z. z +ℤ sum_side side (heat_over true bottom) c.streams) all

    utility-not_negative : (side : Side) → pos 0 ≤ℤ heat side ts
    utility-not_negative side =
        int_sum_by-not_negative (λ t. if part_index side t == (s.sides side).utility then t.heat else pos 0) ts
        (heats_at-not_negative side ts (s.sides side).utility flow.positive)

    -- above a place where a deficit is the hot target the cold parts need that much more than the hot streams give
    hot-at_least : hot_target c.streams ≤ℤ heat Hot ts
    hot-at_least =
        let (place, tight) = some_tight c.streams s.valid in
        let on = s.stream_end place tight.end in
        ⊎_elim (at_tight false place on) (at_tight true place on) tight.tight
      where
        at_tight : (from_itself : Bool) (place : ℤ) → Contains s.grid place → IsTightOver from_itself c.streams place
            → hot_target c.streams ≤ℤ heat Hot ts
        at_tight from_itself place on tight =
            let hots = worth_above Hot from_itself place (heat Hot ts) on (utility_heat Hot ts) in
            let colds = worth_above Cold from_itself place (heat Cold ts) on (utility_heat Cold ts) in
            let most = (share (counts_above from_itself place (end_of c Hot)) (heat Hot ts)
            (utility-not_negative Hot)).1 in
            let some = (share (counts_above from_itself place (end_of c Cold)) (heat Cold ts)
            (utility-not_negative Cold)).0 in
            let le =
            int_sum_by-le (λ t. price_at (map (above from_itself place) cold) t.cold *ℤ t.heat)
            (λ t. price_at (map (above from_itself place) hot) t.hot *ℤ t.heat) ts
            (taken-le from_itself place) in
            omega (arith, ints)

    -- the utilities give and take at least the targets
    at_least : (side : Side) → target_of side c.streams ≤ℤ heat side ts
    at_least Hot = hot-at_least
    at_least Cold =
        let least = hot-at_least in
        let hots = whole_heat Hot in
        let colds = whole_heat Cold in
        let targets = s.lowest in
        omega (arith, ints)

    pub cost-at_least : hot_target c.streams ≤ℤ cost_of hot cold ts
    cost-at_least =
        let least = hot-at_least in
        let cost = cost-hot_utility ts (heat Hot ts) (heat Cold ts) (utility_heat Hot ts) (utility_heat Cold ts) in
        omega (arith, ints)

  pub needs_heat : (side : Side) → NeedsHeat c hot cold side (target_of side c.streams)
  needs_heat side ts flow a p at utility =
      let least = at_least ts flow side in
      let one = utility_heat side ts a p at utility in
      omega (arith, ints)
