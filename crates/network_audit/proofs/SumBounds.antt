-- The sums of utilities and of the balance are within the limits where their numbers are few and small.
use Rattle.network_audit.proofs.Words.{All-append, All-cons, All-enumerated, All-from_recursion, All-head, All-map, All-nil, All-tail, AreStreams-IsComplete}
use Rattle.network_audit.proofs.Words.{Case, HasShape, IsComplete, IsFormed, IsInRange, IsPlaced, IsPlaced-IsComplete, Item, Network, Place, Rational, Side}
use Rattle.network_audit.proofs.Words.{Step, Utility, all_at, at_most-whole, at_most_trans, balance_items, cons_option, cost_steps, duties_with}
use Rattle.network_audit.proofs.Words.{enumerate_from, excess_of, heat_on, heat_price, heat_with, heats_on, hot_heat, hot_target}
use Rattle.network_audit.proofs.Words.{hot_target-between, ints, length-enumerate_from, length-map, length-utilities, plus, range_items, ratio}
use Rattle.network_audit.proofs.Words.{rational_sum, rational_zero, same_side, sum_steps, utility_items_at, whole}
use Rattle.network_audit.proofs.FormedLemmas.{AreFormed, formed-none, formed-step}
use Rattle.network_audit.proofs.HeatLemmas.{hot_heat-is}
use Rattle.network_audit.proofs.Sized.{IsSized, most_den, most_num, sized-between, sized-minus, sized-more, sized-plus, sized-times, sized-whole, sized-within}
use Rattle.std.proofs.Common.{All, Bool, List, None, Option, Some, [], arith, false, filter_map, if◌then◌else◌, length, map, pos, refl, slice_get}
use Rattle.std.proofs.Common.{subst, suc, true, unsigned_abs, ℕ, ℤ, ◌*◌, ◌+◌, ◌<◌, ◌∷◌, ◌≡◌, ◌≤◌}
use Rattle.stream_case.specs.declared.limits.TheConstants.{ALL_STREAMS_HEAT, ALL_UTILITIES, MOST_HEAT, MOST_PRICE}
use Rattle.network_audit.specs.declared.findings.Place.TheVariants as place
use Rattle.stream_case.specs.declared.source.Side.TheVariants as side

-- ---- numbers that some members have

module _ {X Y : Type 0} (P : Y → Type 0) (f : X → Option Y) where
  one_kept : (o : Option Y) (rest : List Y) → ((y : Y) → o ≡ Some y → P y) → All P rest → All P (cons_option o rest)
  one_kept None rest here all = all
  one_kept (Some y) rest here all = All-cons P _ _ (here y refl) all

  All-kept : (xs : List X) → All (λ x. (y : Y) → f x ≡ Some y → P y) xs → All P (filter_map f xs)
  All-kept [] each = All-nil P
  All-kept (x ∷ xs) each = one_kept (f x) (filter_map f xs) (All-head (λ z. (y : Y) → f z ≡ Some y → P y) x xs each)
      (All-kept xs (All-tail (λ z. (y : Y) → f z ≡ Some y → P y) x xs each))

module _ {X Y : Type 0} (f : X → Option Y) where
  one_more : (o : Option Y) (rest : List Y) (n : ℕ) → length rest ≤ n → length (cons_option o rest) ≤ suc n
  one_more None rest n few = omega (arith, few)
  one_more (Some y) rest n few = omega (arith, few)

  few-kept : (xs : List X) → length (filter_map f xs) ≤ length xs
  few-kept [] = omega arith
  few-kept (x ∷ xs) = one_more (f x) (filter_map f xs) (length xs) (few-kept xs)

some_if : {Y : Type 0} (P : Y → Type 0) (b : Bool) (x y : Y) → P x → (if b then Some x else None) ≡ Some y → P y
some_if P true x y holds same = let is : x ≡ y = cc same in subst P is holds
some_if P false x y holds same = cc same

-- a utility forms the sum of its duties
pub with_range : (network : Network) (index : ℕ) (u : Utility)
    → AreFormed (sum_steps (place.Utility index) 0 rational_zero (duties_with network index))
    → AreFormed (utility_items_at network (index, u))
with_range network index u sums =
    All-append IsFormed (sum_steps (place.Utility index) 0 rational_zero (duties_with network index))
    (range_items (place.Utility index) u (heat_with network index)) sums
    (All-from_recursion IsFormed (range_items (place.Utility index) u (heat_with network index)) (tt, (tt, tt)))

-- ---- sums over one denominator

module _ (d m : ℕ) (some : 0 < d) (den : d ≤ most_den) where
  -- a sum of so many numbers
  pub sized-sum : (numbers : List Rational) → All (IsSized d m) numbers
      → IsSized d (length numbers * m) (rational_sum numbers)
  sized-sum [] each = sized-whole d (0 * m) (pos 0) some (omega arith)
  sized-sum (a ∷ numbers) each =
      sized-more d (m + length numbers * m) (suc (length numbers) * m) (plus a (rational_sum numbers)) (omega arith)
      (sized-plus d m (length numbers * m) a (rational_sum numbers) (All-head (IsSized d m) a numbers each)
      (sized-sum numbers (All-tail (IsSized d m) a numbers each)))

  -- the steps of a sum, from a total up to k on
  pub sums_formed : (at : Place) (before k : ℕ) (total : Rational) (numbers : List Rational)
      → (k + length numbers * m) * d ≤ most_num → IsSized d k total
      → All (IsSized d m) numbers → AreFormed (sum_steps at before total numbers)
  sums_formed at before k total [] most sized each = formed-none
  sums_formed at before k total (a ∷ numbers) most sized each =
      let next = sized-plus d k m total a sized (All-head (IsSized d m) a numbers each) in
      let later : (k + m + length numbers * m) * d ≤ most_num = omega (arith, most) in
      let now : (k + m) * d ≤ most_num = omega (arith, later) in
      formed-step _ _ _ _ (sized-within d (k + m) (plus total a) some den now next)
      (sums_formed at (before + 1) (k + m) (plus total a) numbers later next (All-tail (IsSized d m) a numbers each))

  -- and of a cost
  costs_formed : (at : Place) (before k : ℕ) (cost : Rational) (prices : List Rational) → m * d ≤ most_num
      → (k + length prices * m) * d ≤ most_num
      → IsSized d k cost → All (IsSized d m) prices → AreFormed (cost_steps at before cost prices)
  costs_formed at before k cost [] one most sized each = formed-none
  costs_formed at before k cost (a ∷ prices) one most sized each =
      let price = All-head (IsSized d m) a prices each in
      let next = sized-plus d k m cost a sized price in
      let later : (k + m + length prices * m) * d ≤ most_num = omega (arith, most) in
      let now : (k + m) * d ≤ most_num = omega (arith, later) in
      formed-step at (before + 1) a (Step at (before + 2) (plus cost a) ∷ cost_steps at (before + 2) (plus cost a) prices)
      (sized-within d m a some den one price)
      (formed-step at (before + 2) (plus cost a) (cost_steps at (before + 2) (plus cost a) prices) (sized-within d (k + m) (plus cost a) some den now next)
      (costs_formed at (before + 2) (k + m) (plus cost a) prices one later next (All-tail (IsSized d m) a prices each)))

-- ---- the heats of utilities

abbrev pub most_heat : ℕ
most_heat = unsigned_abs MOST_HEAT

-- a heat in the range of a utility is at most the most that utilities have
pub heat-sized : (d : ℕ) (u : Utility) (heat : Rational) (n : ℤ) → 0 < d → heat ≡ ratio n d → IsPlaced u
    → IsInRange u heat → IsSized d most_heat heat
heat-sized d u heat n some is placed range =
    let least = placed.least in
    let most = placed.most in
    let from = least.from in
    let upto = most.upto in
    sized-between d most_heat heat n some is (at_most_trans rational_zero (whole u.least) heat (at_most-whole (pos 0) u.least from) range.least)
    (at_most_trans heat (whole u.most) (whole (pos most_heat)) range.most (at_most-whole u.most (pos most_heat) upto))

-- ---- the balance

-- the heats of all utilities are whole
abbrev pub HaveWholeHeats : Case → Network → Type 0
HaveWholeHeats case network =
    (index : ℕ) (u : Utility) → slice_get case.utilities index ≡ Some u → IsSized 1 most_heat (heat_with network index)

heats-sized : (on : Side) (case : Case) (network : Network) → HaveWholeHeats case network
    → All (IsSized 1 most_heat) (heats_on on case network)
unfolding heats_on
heats-sized on case network heats =
    All-kept (IsSized 1 most_heat) (heat_on on network) (enumerate_from 0 case.utilities)
    (All-enumerated (λ (e : ℕ × Utility). (h : Rational) → heat_on on network e ≡ Some h → IsSized 1 most_heat h) case.utilities (λ index u at. λ h is.
    some_if (IsSized 1 most_heat) (same_side u.side on) (heat_with network index) h (heats index u at) is))

few-heats : (on : Side) (case : Case) (network : Network) → length (heats_on on case network) ≤ length case.utilities
unfolding heats_on
few-heats on case network =
    omega (arith, few-kept (heat_on on network) (enumerate_from 0 case.utilities), length-enumerate_from 0 case.utilities)

abbrev most_price : ℕ
most_price = unsigned_abs MOST_PRICE * most_heat

module _ (case : Case) (network : Network) where
  prices-sized : IsComplete case → HaveWholeHeats case network
      → All (IsSized 1 most_price) (map (heat_price network) (enumerate_from 0 case.utilities))
  prices-sized complete heats = All-map (IsSized 1 most_price) (heat_price network) (enumerate_from 0 case.utilities)
      (All-enumerated (λ (e : ℕ × Utility). IsSized 1 most_price (heat_price network e)) case.utilities (λ index u at.
      let placed = all_at IsPlaced case.utilities index u (IsPlaced-IsComplete case complete) at in
      let price = placed.price in
      sized-times 1 1 (unsigned_abs MOST_PRICE) most_heat (whole u.price) (heat_with network index) (omega arith) (omega arith)
      (sized-whole 1 (unsigned_abs MOST_PRICE) u.price (omega arith) (omega (arith, ints))) (heats index u at)))

  -- the excess
  excess-sized : IsComplete case → HasShape case network → HaveWholeHeats case network
      → IsSized 1 (length (heats_on side.Hot case network) * most_heat + unsigned_abs ALL_STREAMS_HEAT) (excess_of case network)
  excess-sized complete shape heats =
      let hot = heats_on side.Hot case network in
      let sum = sized-sum 1 most_heat (omega arith) (omega arith) hot (heats-sized side.Hot case network heats) in
      let target = hot_target case.streams in
      let is = hot_target-between case.streams (AreStreams-IsComplete case complete) in
      sized-minus 1 (length hot * most_heat) (unsigned_abs ALL_STREAMS_HEAT) (hot_heat network) (whole target)
      (subst (IsSized 1 (length hot * most_heat)) (hot_heat-is case network shape) sum)
      (sized-whole 1 (unsigned_abs ALL_STREAMS_HEAT) target (omega arith) (omega (arith, ints)))

  pub balance_formed : IsComplete case → HasShape case network → HaveWholeHeats case network
      → AreFormed (balance_items case network)
  unfolding balance_items
  balance_formed complete shape heats =
      let hot = heats_on side.Hot case network in
      let cold = heats_on side.Cold case network in
      let prices = map (heat_price network) (enumerate_from 0 case.utilities) in
      let before = length hot + length cold + 1 in
      let few = length-utilities case complete in
      let few_hot = few-heats side.Hot case network in
      let few_cold = few-heats side.Cold case network in
      let few_prices : length prices ≤ ALL_UTILITIES =
      omega (arith, few, length-map (enumerate_from 0 case.utilities) (heat_price network), length-enumerate_from 0 case.utilities) in
      let none = sized-whole 1 0 (pos 0) (omega arith) (omega arith) in
      let excess = sized-within 1 (length hot * most_heat + unsigned_abs ALL_STREAMS_HEAT) (excess_of case network) (omega arith) (omega arith)
      (omega (arith, few, few_hot)) (excess-sized complete shape heats) in
      let costs = costs_formed 1 most_price (omega arith) (omega arith) place.Balance before 0 rational_zero prices (omega arith) (omega (arith, few_prices))
      none (prices-sized complete heats) in
      let last = formed-step place.Balance before (excess_of case network) (cost_steps place.Balance before rational_zero prices) excess costs in
      let colds = sums_formed 1 most_heat (omega arith) (omega arith) place.Balance (length hot) 0 rational_zero cold (omega (arith, few, few_cold)) none
      (heats-sized side.Cold case network heats) in
      let hots = sums_formed 1 most_heat (omega arith) (omega arith) place.Balance 0 0 rational_zero hot (omega (arith, few, few_hot)) none
      (heats-sized side.Hot case network heats) in
      let behind : List Item
      = Step place.Balance before (excess_of case network) ∷ cost_steps place.Balance before rational_zero prices in
      All-append IsFormed _ _ hots (All-append IsFormed _ _ colds last)
