-- The duties of a utility are worth what its part is worth.
use Rattle.price_floor.proofs.Words.{All-enumerated, All-slice_get, AreParts, Case, Exchanger, HasShape, IsExchanger}
use Rattle.price_floor.proofs.Words.{IsPartOf, IsSourceOf, IsSourceOf-side, Level, Network, Part, Rational, Side}
use Rattle.price_floor.proofs.Words.{Source, Stream, Tariff, Utility, Valuation, View, cases_Bool, counts_above}
use Rattle.price_floor.proofs.Words.{duties_with, duty_with, enumerate_from, exchangers_of, false_from_ne_true}
use Rattle.price_floor.proofs.Words.{heat_with, ints, is_above-whole, minus, option_map_or, other_source, own_side}
use Rattle.price_floor.proofs.Words.{part-own, plus, pos, rational_sum_by, rational_sum_by-same, rational_sum_by-zero}
use Rattle.price_floor.proofs.Words.{rational_zero, same_side, same_side-true, same_source, same_source-same}
use Rattle.price_floor.proofs.Words.{same_source-true, share_in, shifted, shifted_level, shifted_run, side_of, side_run}
use Rattle.price_floor.proofs.Words.{source_on, step_worth, sum-filter_map, sum-items, unshifted, utility_part}
use Rattle.price_floor.proofs.Words.{utility_worth, whole, whole-minus, zero-plus, ◌-ℤ◌}
use Rattle.std.proofs.Common.{Bool, List, Some, ap, ap₂, arith, false, get_or, if◌then◌else◌, inl, inr, is_some, refl}
use Rattle.std.proofs.Common.{slice_get, sym, true, unwrap_or, ℕ, ℤ, ⊎_elim, ◌==◌, ◌∙◌, ◌≡◌}
use Rattle.price_floor.proofs.SourceSums.{before-not, of_source, own_worth, part_worth, sum-by_source, sum-single}
use Rattle.price_floor.proofs.ViewLemmas.{stands}
use Rattle.price_floor.proofs.StepLemmas.{step-none, step-same, step-sum, stood}
use Rattle.stream_case.specs.declared.source.Side.TheVariants as side
use Rattle.stream_case.specs.declared.source.Source.TheVariants as source

-- ---- the source of an exchanger on a side

side-on : (case : Case) (on : Side) (e : Exchanger) → IsExchanger case e → side_of case (source_on on e) ≡ Some on
side-on case side.Hot e is = is.hot
side-on case side.Cold e is = is.cold

-- ---- the heat of a utility

-- the duty of an exchanger that has the utility on a side
abbrev own_duty : Side → ℕ → Exchanger → Rational
own_duty on k e = if same_source (source_on on e) (source.Utility k) then e.duty else rational_zero

duty-own : (case : Case) (on : Side) (k : ℕ) (u : Utility) (e : Exchanger) → IsExchanger case e
    → slice_get case.utilities k ≡ Some u → u.side ≡ on
    → unwrap_or (duty_with k e) rational_zero ≡ own_duty on k e
duty-own case on k u e is at side_is =
    let same : same_side u.side on ≡ true = ap (λ s. same_side s on) side_is ∙ own_side on in
    sym (ap (λ b. if b then unwrap_or (duty_with k e) rational_zero else rational_zero) same)
    ∙ part-own case e on k u is at

heat-own : (case : Case) (network : Network) (on : Side) (k : ℕ) (u : Utility) → HasShape case network
    → slice_get case.utilities k ≡ Some u → u.side ≡ on
    → rational_sum_by (own_duty on k) (exchangers_of network.lines) ≡ heat_with network k
unfolding duties_with
heat-own case network on k u shape at side_is =
    let es = exchangers_of network.lines in
    rational_sum_by-same (own_duty on k) (λ e. unwrap_or (duty_with k e) rational_zero) es
    (λ n d within. sym (duty-own case on k u (get_or es n d) (shape.exchangers.each n d within) at side_is))
    ∙ sym (sum-filter_map (duty_with k) es)

if_either : {A : Type 0} (b : Bool) (x : A) → (if b then x else x) ≡ x
if_either true x = refl
if_either false x = refl

-- ---- the run of a utility is the level of its part

shifted-base : (on : Side) (level c : ℤ) → level -ℤ unshifted on (pos 0) c ≡ shifted on level c
shifted-base side.Hot level c = omega (arith, ints)
shifted-base side.Cold level c = omega (arith, ints)

module _ (case : Case) (network : Network) (values : Valuation) (on : Side) (number k : ℕ) (u : Utility)
    (at : slice_get case.utilities k ≡ Some u) (side_is : u.side ≡ on) where
  run-is : shifted_run on case network values number (source.Utility k) ≡ Level (whole (shifted_level u))
  unfolding side_run
  run-is = ap (λ o. Level (minus (whole (option_map_or (λ (v : Utility). v.level) o (pos 0)))
      (whole (unshifted on (pos 0) (option_map_or (λ (v : Utility). v.contribution) o (pos 0)))))) at
      ∙ ap Level (whole-minus u.level (unshifted on (pos 0) u.contribution)
      ∙ ap whole (shifted-base on u.level u.contribution ∙ ap (λ s. shifted s u.level u.contribution) (sym side_is)))

  share-stood : (v : View) (duty : Rational)
      → share_in v duty (shifted_run on case network values number (source.Utility k)) ≡ stood (utility_part k u) duty v
  share-stood v duty =
      let either = ap (counts_above v.from_itself v.place) (sym (if_either v.from_itself (shifted_level u))) in
      ap (share_in v duty) run-is
      ∙ ap (λ b. if b then duty else rational_zero) (is_above-whole v.from_itself v.place (shifted_level u) ∙ either)

-- ---- duties at step prices

module _ (case : Case) (network : Network) (values : Valuation) (tariff : Tariff) (on : Side) where
  -- the duty of an exchanger, where its source on the side is a utility
  abbrev pub duty_worth : ℕ × Exchanger → Rational
  duty_worth e = utility_worth (shifted_run on case network values e.0) tariff on e.1.duty (source_on on e.1)

  abbrev side_source : ℕ × Exchanger → Source
  side_source e = source_on on e.1

  -- the same of the exchangers with one utility
  abbrev pub duties_of : ℕ → Rational
  duties_of k =
      rational_sum_by (of_source side_source duty_worth (source.Utility k)) (enumerate_from 0 (exchangers_of network.lines))

  module _ (k : ℕ) (u : Utility) (at : slice_get case.utilities k ≡ Some u) where
    -- heat at the utility's prices, where its part stands
    abbrev stood_worth : Rational → Rational
    stood_worth heat =
        step_worth tariff.least tariff.views (tariff.prices on (source.Utility k)) heat (stood (utility_part k u) heat)

    duty-stood : u.side ≡ on → (e : ℕ × Exchanger)
        → of_source side_source duty_worth (source.Utility k) e ≡ stood_worth (own_duty on k e.1)
    duty-stood side_is e =
        by (same_source (source_on on e.1) (source.Utility k)) (same_source-true (source_on on e.1) (source.Utility k))
      where
        by : (b : Bool) → (b ≡ true → source_on on e.1 ≡ source.Utility k)
            → (if b then duty_worth e else rational_zero) ≡ stood_worth (if b then e.1.duty else rational_zero)
        by true same =
            let run = shifted_run on case network values e.0 in
            ap (utility_worth run tariff on e.1.duty) (same refl)
            ∙ step-same tariff.least tariff.views (tariff.prices on (source.Utility k)) e.1.duty e.1.duty
            (λ v. share_in v e.1.duty (run (source.Utility k))) (stood (utility_part k u) e.1.duty) refl
            (λ n d within. share-stood case network values on e.0 k u at side_is (get_or tariff.views n d) e.1.duty)
        by false same =
            let q = tariff.prices on (source.Utility k) in
            let nothing = stood (utility_part k u) rational_zero in
            sym (step-none tariff.least tariff.views q)
            ∙ step-same tariff.least tariff.views q rational_zero rational_zero (λ v. rational_zero) nothing refl
            (λ n d within. sym (if_either (stands (utility_part k u) (get_or tariff.views n d)) rational_zero))

    -- the duties of a utility of the side are worth what its part is worth
    duties-worth : HasShape case network → u.side ≡ on
        → duties_of k ≡ part_worth tariff network on (utility_part k u)
    duties-worth shape side_is =
        let es = exchangers_of network.lines in
        let numbered = enumerate_from 0 es in
        let q = tariff.prices on (source.Utility k) in
        let duty = λ (e : ℕ × Exchanger). own_duty on k e.1 in
        let heat = heat_with network k in
        let total : rational_sum_by duty numbered ≡ heat =
        sum-items duty (own_duty on k) es (λ n e here. refl) ∙ heat-own case network on k u shape at side_is in
        rational_sum_by-same (of_source side_source duty_worth (source.Utility k))
        (λ e. stood_worth (duty e)) numbered (λ n d within. duty-stood side_is (get_or numbered n d))
        ∙ step-sum tariff.least tariff.views q duty (λ e. stood (utility_part k u) (duty e)) numbered
        ∙ step-same tariff.least tariff.views q (rational_sum_by duty numbered) heat
        (λ v. rational_sum_by (λ e. stood (utility_part k u) (duty e) v) numbered) (stood (utility_part k u) heat) total
        (λ n d within. where_stood (stands (utility_part k u) (get_or tariff.views n d)) duty numbered heat total)
      where
        where_stood : (b : Bool) (f : ℕ × Exchanger → Rational) (xs : List (ℕ × Exchanger)) (a : Rational)
            → rational_sum_by f xs ≡ a
            → rational_sum_by (λ e. if b then f e else rational_zero) xs ≡ (if b then a else rational_zero)
        where_stood true f xs a is = is
        where_stood false f xs a is = rational_sum_by-zero (λ e. rational_zero) xs (λ n d within. refl)

    -- a utility of the other side has none here
    duties-none : HasShape case network → (u.side ≡ on → ⊥) → duties_of k ≡ rational_zero
    duties-none shape other =
        let es = exchangers_of network.lines in
        let own = of_source side_source duty_worth (source.Utility k) in
        rational_sum_by-zero own (enumerate_from 0 es)
        (All-enumerated (λ (e : ℕ × Exchanger). own e ≡ rational_zero) es (λ n e here.
        let is = side-on case on e (All-slice_get (IsExchanger case) es n e shape.exchangers.each here) in
        ap (λ b. if b then duty_worth (n, e) else rational_zero) (other_source case (source_on on e) on k u is at other)))

    -- a part of the utility is its one part, and on its side
    part-is : (places : List ℤ) (p : Part) → IsPartOf case.streams case.utilities places on p
        → p.source ≡ source.Utility k
        → (p ≡ utility_part k u) × (u.side ≡ on)
    part-is places p (inl (i, s, h)) of =
        let from : p.source ≡ source.Stream i = ap (λ (r : Part). r.source) h.is in
        absurd (cc)
    part-is places p (inr (j, w, h)) of =
        let from : p.source ≡ source.Utility j = ap (λ (r : Part). r.source) h.is in
        let number : j ≡ k = cc in
        let found : Some w ≡ Some u = sym h.utility ∙ ap (slice_get case.utilities) number ∙ at in
        let utility : w ≡ u = cc in
        (h.is ∙ ap₂ utility_part number utility, sym (ap (λ (r : Utility). r.side) utility) ∙ h.side_is)

    own-none : (p : Part) → (p.source ≡ source.Utility k → ⊥)
        → own_worth tariff network on (source.Utility k) p ≡ rational_zero
    own-none p other = ap (λ b. if b then part_worth tariff network on p else rational_zero)
        (false_from_ne_true (same_source p.source (source.Utility k)) (λ e. other (same_source-true p.source (source.Utility k) e)))

    -- its part among the parts of the side
    part-once : (places : List ℤ) (parts : List Part) → AreParts case.streams case.utilities places on parts
        → u.side ≡ on
        → rational_sum_by (own_worth tariff network on (source.Utility k)) parts
        ≡ part_worth tariff network on (utility_part k u)
    part-once places parts are side_is =
        let own = utility_part k u in
        sum-single (own_worth tariff network on (source.Utility k)) parts own
        (λ i j d less within. before-not (get_or parts i d) (get_or parts j d) (are.ordered i j d less within))
        (are.every own (inr (k, u, record { utility = at; side_is = side_is; is = refl })))
        (λ n d within differ. own-none (get_or parts n d) (λ of. differ (part-is places (get_or parts n d) (are.each n d within) of).0))
        ∙ ap (λ b. if b then part_worth tariff network on own else rational_zero) (same_source-same (source.Utility k))

    part-none : (places : List ℤ) (parts : List Part) → AreParts case.streams case.utilities places on parts
        → (u.side ≡ on → ⊥)
        → rational_sum_by (own_worth tariff network on (source.Utility k)) parts ≡ rational_zero
    part-none places parts are other =
        rational_sum_by-zero (own_worth tariff network on (source.Utility k)) parts
        (λ n d within. own-none (get_or parts n d) (λ of. other (part-is places (get_or parts n d) (are.each n d within) of).1))

    pub utility_worth-is : HasShape case network → (places : List ℤ) (parts : List Part)
        → AreParts case.streams case.utilities places on parts
        → rational_sum_by (own_worth tariff network on (source.Utility k)) parts ≡ duties_of k
    utility_worth-is shape places parts are =
        ⊎_elim (λ same.
        let side_is = same_side-true u.side on same in
        part-once places parts are side_is ∙ sym (duties-worth shape side_is)) (λ differ.
        let other = λ (side_is : u.side ≡ on). absurd_side (ap (λ s. same_side s on) side_is) differ in
        part-none places parts are other ∙ sym (duties-none shape other)) (cases_Bool (same_side u.side on))
      where
        absurd_side : same_side u.side on ≡ same_side on on → same_side u.side on ≡ false → ⊥
        absurd_side same differ = let own = own_side on in absurd (cc)

  -- ---- all utilities

  -- what the exchangers have with streams of the side is no utility's
  pub duty_worth-by : HasShape case network
      → rational_sum_by duty_worth (enumerate_from 0 (exchangers_of network.lines))
      ≡ rational_sum_by (λ e. duties_of e.0) (enumerate_from 0 case.utilities)
  duty_worth-by shape =
      let es = enumerate_from 0 (exchangers_of network.lines) in
      let streams = enumerate_from 0 case.streams in
      let utilities = rational_sum_by (λ (e : ℕ × Utility). duties_of e.0) (enumerate_from 0 case.utilities) in
      sum-by_source case side_source duty_worth es
      (All-enumerated (λ (e : ℕ × Exchanger). IsSourceOf case (source_on on e.1)) (exchangers_of network.lines)
      (λ n e here.
      let is = All-slice_get (IsExchanger case) (exchangers_of network.lines) n e shape.exchangers.each here in
      IsSourceOf-side case (source_on on e) (ap is_some (side-on case on e is))))
      ∙ ap (λ none. plus none utilities)
      (rational_sum_by-zero (λ e. rational_sum_by (of_source side_source duty_worth (source.Stream e.0)) es) streams
      (λ n d within. rational_sum_by-zero (of_source side_source duty_worth (source.Stream (get_or streams n d).0)) es
      (λ m c inside. nothing (get_or streams n d).0 (get_or es m c)))) ∙ zero-plus utilities
    where
      nothing : (i : ℕ) (e : ℕ × Exchanger) → of_source side_source duty_worth (source.Stream i) e ≡ rational_zero
      nothing i e = by (source_on on e.1)
        where
          by : (s : Source)
              → (if same_source s (source.Stream i) then utility_worth (shifted_run on case network values e.0) tariff on e.1.duty s else rational_zero)
              ≡ rational_zero
          by (source.Stream j) = if_either (j == i) rational_zero
          by (source.Utility j) = refl
