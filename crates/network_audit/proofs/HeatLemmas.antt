-- The heats of the utilities make up the hot and the cold heat, and the balance.
use Rattle.network_audit.proofs.Words.{All-enumerated, All-head, All-tail, Case, Exchanger, HasShape, IsExchanger, IsSourceOf, IsSourceOf-side, Item, Network}
use Rattle.network_audit.proofs.Words.{Rational, Side, Source, Step, Utility, balance_in, balance_items, balance_of, balance_steps_in, cold_heat, cons_option}
use Rattle.network_audit.proofs.Words.{cost_of, cost_steps, duties_in, duties_with, duty_with, enumerate_from, exchangers_of, get_or-enumerate_from}
use Rattle.network_audit.proofs.Words.{get_or_default, heat_at, heat_on, heat_on_in, heat_price, heat_with, heats_in, heats_on, heats_on_in, hot_heat}
use Rattle.network_audit.proofs.Words.{hot_target, joints_of, minus, price_in, prices_in, range_with_len, rational_sum, rational_sum_by, rational_sum_by-map}
use Rattle.network_audit.proofs.Words.{rational_zero, same_side, same_source, side_of, sum_steps, times, utility_part, whole}
use Rattle.std.proofs.Common.{All, Bool, List, None, Option, Some, [], ap, ap₂, arith, false, filter_map, get_or, if◌then◌else◌, is_some, length, map, ne_eqb}
use Rattle.std.proofs.Common.{option_map, refl, slice_get, subst, sym, true, unwrap_or, ℕ, ◌++◌, ◌+◌, ◌<◌, ◌||◌, ◌∙◌, ◌∷◌, ◌≡◌}
use Rattle.network_audit.proofs.JointLemmas.{duties-are, get_or-made}
use Rattle.fractions.proofs.RationalSums.{rational_sum_by-same, rational_sum_by-swap, rational_sum_by-zero, sum-enumerate, sum-filter_map, sum-one_number}
use Rattle.stream_case.specs.declared.source.Side.TheVariants as side
use Rattle.stream_case.specs.declared.source.Source.TheVariants as source
use Rattle.network_audit.specs.declared.findings.Place.TheVariants as place

-- ---- the source of an exchanger on a side

abbrev pub source_on : Side → Exchanger → Source
source_on side.Hot e = e.hot
source_on side.Cold e = e.cold

-- the duty with a utility of the side
abbrev pub part_on : Side → ℕ × Utility → Exchanger → Rational
part_on on (index, u) e = if same_side u.side on then unwrap_or (duty_with index e) rational_zero else rational_zero

abbrev pub own_part : Side → Exchanger → ℕ → Rational
own_part on e index = if same_source (source_on on e) (source.Utility index) then e.duty else rational_zero

-- a source of another side is not this utility
not_of : (case : Case) (of : Source) (index : ℕ) (u : Utility) (on : Side) → side_of case of ≡ Some on
    → slice_get case.utilities index ≡ Some u
    → same_side u.side on ≡ false → same_source of (source.Utility index) ≡ false
not_of case (source.Stream stream) index u on is at other = refl
not_of case (source.Utility k) index u on is at other = ne_eqb k index (λ same. clash same)
  where
    own : (s : Side) → same_side s s ≡ true
    own side.Hot = refl
    own side.Cold = refl

    clash : k ≡ index → ⊥
    clash same =
        let here : Some u.side ≡ Some on
        = sym (ap (option_map (λ v. v.side)) (ap (slice_get case.utilities) same ∙ at)) ∙ is in
        let side_is : u.side ≡ on = cc here in
        cc (sym other, ap (λ s. same_side s on) side_is, own on)

pub part-own : (case : Case) (e : Exchanger) (on : Side) (index : ℕ) (u : Utility) → IsExchanger case e
    → slice_get case.utilities index ≡ Some u
    → part_on on (index, u) e ≡ own_part on e index
part-own case e side.Hot index u is at = by u.side refl
  where
    by : (s : Side) → u.side ≡ s
        → (if same_side s side.Hot then unwrap_or (duty_with index e) rational_zero else rational_zero)
        ≡ own_part side.Hot e index
    by side.Hot is_hot =
        let cold : same_source e.cold (source.Utility index) ≡ false = not_of case e.cold index u side.Cold is.cold at
        (ap (λ s. same_side s side.Cold) is_hot) in
        ap (λ b. unwrap_or (if same_source e.hot (source.Utility index) || b then Some e.duty else None) rational_zero) cold
        ∙ one (same_source e.hot (source.Utility index))
      where
        one : (b : Bool) → unwrap_or (if b || false then Some e.duty else None) rational_zero
            ≡ (if b then e.duty else rational_zero)
        one true = refl
        one false = refl
    by side.Cold is_cold = sym (ap (λ b. if b then e.duty else rational_zero)
        (not_of case e.hot index u side.Hot is.hot at (ap (λ s. same_side s side.Hot) is_cold)))
part-own case e side.Cold index u is at = by u.side refl
  where
    by : (s : Side) → u.side ≡ s
        → (if same_side s side.Cold then unwrap_or (duty_with index e) rational_zero else rational_zero)
        ≡ own_part side.Cold e index
    by side.Cold is_cold =
        let hot : same_source e.hot (source.Utility index) ≡ false
        = not_of case e.hot index u side.Hot is.hot at (ap (λ s. same_side s side.Hot) is_cold) in
        ap (λ b. unwrap_or (if b || same_source e.cold (source.Utility index) then Some e.duty else None) rational_zero) hot
        ∙ one (same_source e.cold (source.Utility index))
      where
        one : (b : Bool) → unwrap_or (if b then Some e.duty else None) rational_zero
            ≡ (if b then e.duty else rational_zero)
        one true = refl
        one false = refl
    by side.Hot is_hot = sym (ap (λ b. if b then e.duty else rational_zero)
        (not_of case e.cold index u side.Cold is.cold at (ap (λ s. same_side s side.Cold) is_hot)))

-- the parts of one exchanger: its duty, where its source on the side is a utility
own-sum : (n : ℕ) (duty : Rational) (of : Source) → ((k : ℕ) → of ≡ source.Utility k → k < n)
    → rational_sum_by (λ index. if same_source of (source.Utility index) then duty else rational_zero) (range_with_len 0 n)
    ≡ utility_part duty of
own-sum n duty (source.Stream stream) within =
    rational_sum_by-zero (λ index. rational_zero) (range_with_len 0 n) (λ k d inside. refl)
own-sum n duty (source.Utility k) within = sum-one_number duty k n (within k refl)

module _ (case : Case) (network : Network) where
  side_heat-is : (on : Side) → HasShape case network
      → ((e : Exchanger) → IsExchanger case e → side_of case (source_on on e) ≡ Some on)
      → rational_sum (heats_on on case network)
      ≡ rational_sum_by (λ e. utility_part e.duty (source_on on e)) (exchangers_of network.lines)
  unfolding heats_on duties_with
  side_heat-is on shape sides =
      let es = exchangers_of network.lines in
      let us = enumerate_from 0 case.utilities in
      sum-filter_map (heat_on on network) us
      ∙ rational_sum_by-same (λ p. unwrap_or (heat_on on network p) rational_zero) (λ p. rational_sum_by (part_on on p) es) us
      (λ k d inside. heat (get_or us k d)) ∙ rational_sum_by-swap (part_on on) us es
      ∙ rational_sum_by-same (λ e. rational_sum_by (λ p. part_on on p e) us) (λ e. utility_part e.duty (source_on on e)) es
      (λ k d inside. one (get_or es k d) (shape.exchangers.each k d inside))
    where
      heat : (p : ℕ × Utility)
          → unwrap_or (heat_on on network p) rational_zero
          ≡ rational_sum_by (part_on on p) (exchangers_of network.lines)
      heat (index, u) = by (same_side u.side on)
        where
          by : (b : Bool) → unwrap_or (if b then Some (heat_with network index) else None) rational_zero
              ≡ rational_sum_by
              (λ e. if b then unwrap_or (duty_with index e) rational_zero else rational_zero) (exchangers_of network.lines)
          by true = sum-filter_map (duty_with index) (exchangers_of network.lines)
          by false = sym (rational_sum_by-zero (λ e. rational_zero) (exchangers_of network.lines) (λ k d inside. refl))

      one : (e : Exchanger) → IsExchanger case e
          → rational_sum_by (λ p. part_on on p e) (enumerate_from 0 case.utilities)
          ≡ utility_part e.duty (source_on on e)
      one e is =
          sum-enumerate (λ p. part_on on p e) (own_part on e) case.utilities (λ index u at. part-own case e on index u is at)
          ∙ own-sum (length case.utilities) e.duty (source_on on e)
          (λ k is_k. let there = IsSourceOf-side case (source_on on e) (ap is_some (sides e is)) in subst (IsSourceOf case) is_k there)

  pub hot_heat-is : HasShape case network → rational_sum (heats_on side.Hot case network) ≡ hot_heat network
  hot_heat-is shape = side_heat-is side.Hot shape (λ e is. is.hot)

  pub cold_heat-is : HasShape case network → rational_sum (heats_on side.Cold case network) ≡ cold_heat network
  cold_heat-is shape = side_heat-is side.Cold shape (λ e is. is.cold)

-- The balance from the heats of the utilities is that of the network, and so are its steps.

-- ---- lists made of members

module _ {X Y : Type 0} where
  filter_map-same : (f g : X → Option Y) (xs : List X) → All (λ x. f x ≡ g x) xs → filter_map f xs ≡ filter_map g xs
  filter_map-same f g [] same = refl
  filter_map-same f g (x ∷ xs) same =
      ap₂ cons_option (All-head (λ y. f y ≡ g y) x xs same) (filter_map-same f g xs (All-tail (λ y. f y ≡ g y) x xs same))

  map-same : (f g : X → Y) (xs : List X) → All (λ x. f x ≡ g x) xs → map f xs ≡ map g xs
  map-same f g [] same = refl
  map-same f g (x ∷ xs) same =
      ap₂ (λ y ys. y ∷ ys) (All-head (λ y. f y ≡ g y) x xs same) (map-same f g xs (All-tail (λ y. f y ≡ g y) x xs same))

-- ---- the heats

module _ (case : Case) (network : Network) where
  -- a list of heats has those of the utilities
  pub record AreHeats (heats : List Rational) : Type 0 where
    pub each : (index : ℕ) (u : Utility) → slice_get case.utilities index ≡ Some u
        → heat_at heats index ≡ heat_with network index

  pub heats-are : (heats : List Rational) → heats ≡ heats_in (joints_of network) case.utilities → AreHeats heats
  unfolding heats_in
  heats-are heats is = record {
    each = λ index u at. ap (λ hs. get_or hs index rational_zero) is
        ∙ get_or-made (λ (p : ℕ × Utility). rational_sum (duties_in (joints_of network) p.0)) 0 case.utilities index u rational_zero at
        ∙ ap (λ n. rational_sum (duties_in (joints_of network) n)) (omega arith)
        ∙ ap rational_sum (duties-are network index);
  }

heats_on-are : (on : Side) (case : Case) (network : Network) (heats : List Rational) → AreHeats case network heats
    → heats_on_in on case.utilities heats ≡ heats_on on case network
unfolding heats_on_in heats_on
heats_on-are on case network heats are =
    filter_map-same (heat_on_in on heats) (heat_on on network) (enumerate_from 0 case.utilities)
    (All-enumerated (λ p. heat_on_in on heats p ≡ heat_on on network p) case.utilities
    (λ index u at. ap (λ h. if same_side u.side on then Some h else None) (are.each index u at)))

module _ (case : Case) (network : Network) where
  prices-are : (heats : List Rational) → AreHeats case network heats
      → prices_in case.utilities heats ≡ map (heat_price network) (enumerate_from 0 case.utilities)
  unfolding prices_in
  prices-are heats are = map-same (price_in heats) (heat_price network) (enumerate_from 0 case.utilities)
      (All-enumerated (λ p. price_in heats p ≡ heat_price network p) case.utilities (λ index u at. ap (times (whole u.price)) (are.each index u at)))

  -- ---- the balance

  pub balance-is : (heats : List Rational) → HasShape case network → AreHeats case network heats
      → balance_in (whole (hot_target case.streams)) case.utilities heats ≡ balance_of case network
  unfolding cost_of
  balance-is heats shape are =
      let hot = ap rational_sum (heats_on-are side.Hot case network heats are) ∙ hot_heat-is case network shape in
      let cold = ap rational_sum (heats_on-are side.Cold case network heats are) ∙ cold_heat-is case network shape in
      let cost = ap rational_sum (prices-are heats are)
      ∙ rational_sum_by-map (λ a. a) (heat_price network) (enumerate_from 0 case.utilities) in
      λ i. record { hot = hot i; cold = cold i; excess = minus (hot i) (whole (hot_target case.streams)); cost = cost i }

abbrev steps_from : Case → List Rational → List Rational → List Rational → Rational → List Item
steps_from case hot cold prices excess =
    sum_steps place.Balance 0 rational_zero hot ++ (sum_steps place.Balance (length hot) rational_zero cold
    ++ Step place.Balance (length hot + length cold + 1) excess ∷ cost_steps place.Balance (length hot + length cold + 1) rational_zero prices)

pub balance_items-are : (case : Case) (network : Network) (heats : List Rational) → HasShape case network
    → AreHeats case network heats
    → balance_steps_in place.Balance (whole (hot_target case.streams)) case.utilities heats ≡ balance_items case network
unfolding balance_items
balance_items-are case network heats shape are =
    let hot = heats_on-are side.Hot case network heats are in
    let excess = ap (λ h. minus h (whole (hot_target case.streams))) (ap rational_sum hot ∙ hot_heat-is case network shape) in
    λ i. steps_from case (hot i) ((heats_on-are side.Cold case network heats are) i) ((prices-are case network heats are) i) (excess i)

-- ---- what the loops read

member-here : (us : List Utility) (n : ℕ) (u : Utility) → n < length us → u ≡ get_or us n u
    → get_or (enumerate_from 0 us) n (n, u) ≡ (n, u)
member-here us n u within read =
    get_or-enumerate_from 0 us n (n, u) within ∙ (let at : 0 + n ≡ n = omega arith in λ i. (at i, sym read i))

pub heat-here : (on : Side) (heats : List Rational) (us : List Utility) (n : ℕ) (u : Utility) (h : Rational)
    → n < length us → length heats ≡ length us
    → u ≡ get_or us n u → h ≡ get_or heats n h → same_side u.side on ≡ true
    → heat_on_in on heats (get_or (enumerate_from 0 us) n (n, u)) ≡ Some h
heat-here on heats us n u h within long read value is =
    ap (heat_on_in on heats) (member-here us n u within read) ∙ ap (λ b. if b then Some (heat_at heats n) else None) is
    ∙ ap Some (get_or_default heats n rational_zero h (omega (arith, within, long)) ∙ sym value)

pub heat-other : (on : Side) (heats : List Rational) (us : List Utility) (n : ℕ) (u : Utility)
    → n < length us → u ≡ get_or us n u → same_side u.side on ≡ false
    → heat_on_in on heats (get_or (enumerate_from 0 us) n (n, u)) ≡ None
heat-other on heats us n u within read is =
    ap (heat_on_in on heats) (member-here us n u within read) ∙ ap (λ b. if b then Some (heat_at heats n) else None) is

pub price-here : (heats : List Rational) (us : List Utility) (n : ℕ) (u : Utility) (h : Rational)
    → n < length us → length heats ≡ length us → u ≡ get_or us n u
    → h ≡ get_or heats n h → price_in heats (get_or (enumerate_from 0 us) n (n, u)) ≡ times (whole u.price) h
price-here heats us n u h within long read value = ap (price_in heats) (member-here us n u within read)
    ∙ ap (times (whole u.price)) (get_or_default heats n rational_zero h (omega (arith, within, long)) ∙ sym value)
