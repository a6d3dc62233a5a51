-- The exchangers of a utility have what the flow gives or takes in its part, and so the balance of the network is that of the flow; in a standard case a flow
-- that costs the hot target has no excess.
use Rattle.interval_design.proofs.Words.{*ℤ-+ℤ, *ℤ-zero, +ℤ_idr, All-cons, All-head, All-nil, All-slice_get, All-tail, AreCaseParts, AreParts, Case, Exchanger}
use Rattle.interval_design.proofs.Words.{HasUtilityHeat, HaveParts, IsHeat, IsPartOf, IsSized, IsStandard, IsWholeGroup, MOST_HEAT, Part, Rational, Side}
use Rattle.interval_design.proofs.Words.{Source, Transfer, Utility, blank, cases_eq, cons_option, cost_of, duty_with, enumerate_from, eq-eqb, exchange_balance}
use Rattle.interval_design.proofs.Words.{exchange_of, exchanger_of, exchangers_for, false_from_ne_true, filter_map, flow_balance, get_or_from_slice_get}
use Rattle.interval_design.proofs.Words.{heat_at, heats_with, hot_target, int_sum_by, int_sum_from, ints, is_stream, minus, ne_eqb, on_side, one_times}
use Rattle.interval_design.proofs.Words.{option_map, own_utility, part_index, part_price, part_sources, plus, rational_sum, rational_sum_by}
use Rattle.interval_design.proofs.Words.{rational_sum_by-same, rational_sum_by-whole, rational_zero, same_Some, same_source, same_source-same, same_source-true}
use Rattle.interval_design.proofs.Words.{side_cost, side_cost-transfers, side_of, sized-whole, slice_get-get_or, slice_get_within, standard_utility, times}
use Rattle.interval_design.proofs.Words.{utilities_heat, utility_part, whole, whole-minus, whole-plus, whole-times, zero_times, ◌||◌}
use Rattle.std.proofs.Common.{All, Bool, List, None, Some, [], ap, append-nil, ap₂, arith, false, get_or, if◌then◌else◌, inl, inr, length, map, pos, refl}
use Rattle.std.proofs.Common.{slice_get, subst, suc, sym, true, unsigned_abs, ℕ, ℤ, ⊎_elim, ◌*ℤ◌, ◌+ℤ◌, ◌+◌, ◌-ℤ◌, ◌-◌, ◌<◌, ◌==◌, ◌∙◌, ◌∷◌, ◌≡◌, ◌≢◌, ◌≤◌}
use Rattle.interval_design.proofs.CaseFlow.{IsCaseFlow, most_transfers, one_place, part_of_utility, part_on, part_there, places, side_parts, side_ranges}
use Rattle.interval_design.proofs.CaseFlow.{source_in, source_side, source_there}
use Rattle.network_values.specs.Penalties.{utility_part as utility_duty}
use Rattle.pieces.specs.Pieces.{exchanger_of as exchanger_for}
use Rattle.sums.proofs.SumLemmas.{int_sum_by-add, int_sum_by-same, int_sum_by-swap, int_sum_from-add, int_sum_from-grouped, int_sum_from-same}
use Rattle.sums.proofs.SumLemmas.{int_sum_from-same_each, int_sum_from-single, int_sum_from-zero}
use Rattle.stream_case.specs.declared.source.Side.TheVariants as side
use Rattle.stream_case.specs.declared.source.Source.TheVariants as source

-- ---- the exchangers of transfers

pub exchangers-are : (hot cold : List Part) (n : ℕ) (ts : List Transfer)
    → map (exchanger_for (part_sources hot) (part_sources cold)) (enumerate_from n (map (exchange_of hot cold) ts))
    ≡ map (exchanger_of hot cold) (enumerate_from n ts)
exchangers-are hot cold n [] = refl
exchangers-are hot cold n (t ∷ ts) = ap (λ es. exchanger_of hot cold (n, t) ∷ es) (exchangers-are hot cold (n + 1) ts)

-- ---- the heat of a utility, transfer by transfer

-- the exchanger of a transfer has the utility
abbrev pub joins_utility : List Part → List Part → ℕ → Transfer → Bool
joins_utility hot cold index t =
    same_source (source_in hot t.hot) (source.Utility index) || same_source (source_in cold t.cold)
    (source.Utility index)

-- the heat of a transfer with the utility
abbrev pub utility_heat : List Part → List Part → ℕ → Transfer → ℤ
utility_heat hot cold index t = if joins_utility hot cold index t then t.heat else pos 0

-- the duties of the exchangers are few and small, and have this sum
pub record HaveSum (duties : List Rational) (count : ℕ) (heat : ℤ) : Type 0 where
  pub sum : rational_sum duties ≡ whole heat
  pub few : length duties ≤ count
  pub each : All (IsSized 1 (unsigned_abs MOST_HEAT)) duties

one_more : (b : Bool) (heat rest : ℤ) (count : ℕ) (duties : List Rational) → IsHeat heat → HaveSum duties count rest
    → HaveSum (cons_option (if b then Some (whole heat) else None) duties) (suc count)
    ((if b then heat else pos 0) +ℤ rest)
one_more true heat rest count duties is have =
    record {
      sum = ap (plus (whole heat)) have.sum ∙ whole-plus heat rest;
      few = omega (arith, have.few);
      each = All-cons (IsSized 1 (unsigned_abs MOST_HEAT)) (whole heat) duties
          (sized-whole 1 (unsigned_abs MOST_HEAT) heat (omega arith) (omega (arith, ints, is.from, is.upto))) have.each;
    }
one_more false heat rest count duties is have =
    let same : rest ≡ pos 0 +ℤ rest = omega (arith, ints) in
    record { sum = have.sum ∙ ap whole same; few = omega (arith, have.few); each = have.each }

duties_have : (hot cold : List Part) (index n : ℕ) (ts : List Transfer) → All (λ t. IsHeat t.heat) ts
    → HaveSum (filter_map (duty_with index) (map (exchanger_of hot cold) (enumerate_from n ts))) (length ts)
    (int_sum_by (utility_heat hot cold index) ts)
duties_have hot cold index n [] heats =
    record { sum = refl; few = omega arith; each = All-nil (IsSized 1 (unsigned_abs MOST_HEAT)) }
duties_have hot cold index n (t ∷ ts) heats =
    let duties = filter_map (duty_with index) (map (exchanger_of hot cold) (enumerate_from (n + 1) ts)) in
    let first_heat = All-head (λ (u : Transfer). IsHeat u.heat) t ts heats in
    let other_heats = All-tail (λ (u : Transfer). IsHeat u.heat) t ts heats in
    let others_have = duties_have hot cold index (n + 1) ts other_heats in
    one_more (joins_utility hot cold index t) t.heat (int_sum_by (utility_heat hot cold index) ts) (length ts) duties
    first_heat others_have

-- the heat of a utility in the network
pub heats-have : (hot cold : List Part) (ts : List Transfer) (index : ℕ) → All (λ t. IsHeat t.heat) ts
    → HaveSum (heats_with (part_sources hot) (part_sources cold) (map (exchange_of hot cold) ts) index) (length ts)
    (int_sum_by (utility_heat hot cold index) ts)
heats-have hot cold ts index heats =
    let exchangers = sym (exchangers-are hot cold 0 ts) in
    let have = duties_have hot cold index 0 ts heats in
    subst (λ es.
    HaveSum (filter_map (duty_with index) es) (length ts) (int_sum_by (utility_heat hot cold index) ts)) exchangers have

-- ---- within the range

module _ (case : Case) (hot cold : List Part) (ts : List Transfer) (given : IsCaseFlow case hot cold ts)
    (index : ℕ) (u : Utility) (here : slice_get case.utilities index ≡ Some u) where
  abbrev own : Source
  own = source.Utility index

  -- the source at an index is the utility exactly where the index is that of its part
  own_place : (of : Side) (a b : ℕ) → slice_get (on_side of hot cold) a ≡ Some (utility_part index u)
      → b < length (on_side of hot cold)
      → same_source (source_in (on_side of hot cold) b) own ≡ (b == a)
  own_place of a b there within =
      let parts = on_side of hot cold in
      let (q, at) = part_there parts b within in
      ap (λ x. same_source x own) (source_there parts b q at)
      ∙ ⊎_elim (λ same.
      let part_is = same_Some q (utility_part index u) (sym at ∙ ap (slice_get parts) same ∙ there) in
      ap (λ (r : Part). same_source r.source own) part_is ∙ same_source-same own ∙ sym (eq-eqb b a same))
      (λ other.
      false_from_ne_true (same_source q.source own) (λ holds.
      let grid = places case hot cold ts given in
      let part = part_on case hot cold ts given of b q at in
      let own_source = same_source-true q.source own holds in
      let is = part_of_utility {streams = case.streams} grid of index u q here part own_source in
      let twice = at ∙ ap (λ (r : Part). Some r) is in
      let same_place = one_place {utilities = case.utilities} grid of parts b a (utility_part index u)
      (side_parts case hot cold ts given of) twice there in
      other same_place) ∙ sym (ne_eqb b a other)) (cases_eq b a)

  -- a source of the other side is not the utility
  other_source : (of : Side) (b : ℕ) → u.side ≢ of → b < length (on_side of hot cold)
      → same_source (source_in (on_side of hot cold) b) own ≡ false
  other_source of b other within =
      let a = source_in (on_side of hot cold) b in
      false_from_ne_true (same_source a own) (λ holds.
      let its = ap (side_of case) (same_source-true a own holds) ∙ ap (option_map (λ (v : Utility). v.side)) here in
      other (same_Some u.side of (sym its ∙ source_side case hot cold ts given of b within)))

  or_none : (b : Bool) → (b || false) ≡ b
  or_none true = refl
  or_none false = refl

  -- a transfer is the utility's where it is one of the utility's part
  its_transfer : (of : Side) (a number : ℕ) (t : Transfer) → u.side ≡ of
      → slice_get (on_side of hot cold) a ≡ Some (utility_part index u)
      → slice_get ts number ≡ Some t → joins_utility hot cold index t ≡ (part_index of t == a)
  its_transfer side.Hot a number t side_is there at =
      let within = All-slice_get (λ (v : Transfer). v.hot < length hot) ts number t given.flow.hot_indexes at in
      let cold_within = All-slice_get (λ (v : Transfer). v.cold < length cold) ts number t given.flow.cold_indexes at in
      let other = other_source side.Cold t.cold (λ same.
      let clash : side.Hot ≡ side.Cold = sym side_is ∙ same in
      cc clash) cold_within in
      (λ i. own_place side.Hot a t.hot there within i || other i) ∙ or_none (t.hot == a)
  its_transfer side.Cold a number t side_is there at =
      let within = All-slice_get (λ (v : Transfer). v.cold < length cold) ts number t given.flow.cold_indexes at in
      let hot_within = All-slice_get (λ (v : Transfer). v.hot < length hot) ts number t given.flow.hot_indexes at in
      let other = other_source side.Hot t.hot (λ same.
      let clash : side.Cold ≡ side.Hot = sym side_is ∙ same in
      cc clash) hot_within in
      λ i. other i || own_place side.Cold a t.cold there within i

  pub utility_has_heat : length ts ≤ most_transfers
      → HasUtilityHeat (part_sources hot) (part_sources cold) (map (exchange_of hot cold) ts) index u
  utility_has_heat few_ts =
      let of = u.side in
      let part = utility_part index u in
      let duties = heats_with (part_sources hot) (part_sources cold) (map (exchange_of hot cold) ts) index in
      let are = side_parts case hot cold ts given of in
      let (a, within, is) = are.every part (inr (index, u, record { utility = here; side_is = refl; is = refl })) in
      let there = slice_get-get_or (on_side of hot cold) a part within ∙ ap (λ (q : Part). Some q) is in
      let range = side_ranges case hot cold ts given of a part there in
      let sum : int_sum_by (utility_heat hot cold index) ts ≡ heat_at of ts a =
      int_sum_by-same (utility_heat hot cold index) (λ t. if part_index of t == a then t.heat else pos 0) ts
      (λ k d inside.
      let t = get_or ts k d in
      ap (λ b. if b then t.heat else pos 0) (its_transfer of a k t refl there (slice_get-get_or ts k d inside))) in
      let have = heats-have hot cold ts index given.heats in
      let few = have.few in
      let total = have.sum ∙ ap whole sum in
      record {
        den = 1;
        most = unsigned_abs MOST_HEAT;
        groups = duties ∷ [];
        are = sym (append-nil duties);
        each =
            All-cons (IsWholeGroup 1 (unsigned_abs MOST_HEAT)) duties [] (record {
              over = 1;
              some = omega arith;
              upto = omega arith;
              each = have.each;
              sum = heat_at of ts a;
              is = total;
            }) (All-nil (IsWholeGroup 1 (unsigned_abs MOST_HEAT)));
        small = omega arith;
        few = omega arith;
        heat = heat_at of ts a;
        total = total;
        from = range.from;
        upto = range.upto;
      }

-- ---- the heat of the utilities of a side

-- the heat of a transfer, where its part on a side is a utility's
abbrev part_heat : List Part → ℕ → ℤ → ℤ
part_heat parts index heat = if is_stream (source_in parts index) then pos 0 else heat

-- 1 for a part of a utility, and 0 for one of a stream
abbrev weight_of : Source → ℤ
weight_of a = if is_stream a then pos 0 else pos 1

weighed : (b : Bool) (heat : ℤ) → (if b then pos 0 else heat) ≡ (if b then pos 0 else pos 1) *ℤ heat
weighed true heat = omega (arith, ints)
weighed false heat = omega (arith, ints)

-- transfer by transfer
heat-by-transfers : (of : Side) (parts : List Part) (ts : List Transfer) → HaveParts of parts ts
    → utilities_heat of parts ts ≡ int_sum_by (λ t. part_heat parts (part_index of t) t.heat) ts
heat-by-transfers of parts ts within =
    let weight : ℕ → ℤ = λ a. weight_of (source_in parts a) in
    int_sum_from-same_each (λ a p. if is_stream p.source then pos 0 else heat_at of ts a)
    (λ a p. weight a *ℤ heat_at of ts a) parts
    (λ a p at.
    weighed (is_stream p.source) (heat_at of ts a)
    ∙ ap (λ x. weight_of x *ℤ heat_at of ts a) (sym (source_there parts a p at)))
    ∙ int_sum_from-grouped (part_index of) (λ t. t.heat) weight parts ts within
    ∙ int_sum_by-same (λ t. weight (part_index of t) *ℤ t.heat) (λ t. part_heat parts (part_index of t) t.heat) ts
    (λ k d inside. let t = get_or ts k d in sym (weighed (is_stream (source_in parts (part_index of t))) t.heat))

duty-part : (heat : ℤ) (a : Source) → utility_duty (whole heat) a ≡ whole (if is_stream a then pos 0 else heat)
duty-part heat (source.Stream i) = refl
duty-part heat (source.Utility i) = refl

-- a sum over the exchangers of transfers
exchanger-sum : (hot cold : List Part) (f : Exchanger → Rational) (g : Transfer → ℤ)
    → ((n : ℕ) (t : Transfer) → f (exchanger_of hot cold (n, t)) ≡ whole (g t))
    → (n : ℕ) (ts : List Transfer)
    → rational_sum_by f (map (exchanger_of hot cold) (enumerate_from n ts)) ≡ whole (int_sum_by g ts)
exchanger-sum hot cold f g same n [] = refl
exchanger-sum hot cold f g same n (t ∷ ts) =
    ap₂ plus (same n t) (exchanger-sum hot cold f g same (n + 1) ts) ∙ whole-plus (g t) (int_sum_by g ts)

side-heat : (of : Side) (hot cold parts : List Part) (ts : List Transfer) (source_on : Exchanger → Source)
    → HaveParts of parts ts
    → ((n : ℕ) (t : Transfer) → source_on (exchanger_of hot cold (n, t)) ≡ source_in parts (part_index of t))
    → rational_sum_by (λ x. utility_duty x.duty (source_on x))
    (exchangers_for (part_sources hot) (part_sources cold) (map (exchange_of hot cold) ts))
    ≡ whole (utilities_heat of parts ts)
side-heat of hot cold parts ts source_on within same =
    ap (rational_sum_by (λ x. utility_duty x.duty (source_on x))) (exchangers-are hot cold 0 ts)
    ∙ exchanger-sum hot cold (λ x. utility_duty x.duty (source_on x)) (λ t. part_heat parts (part_index of t) t.heat)
    (λ n t. ap (utility_duty (whole t.heat)) (same n t) ∙ duty-part t.heat (source_in parts (part_index of t))) 0 ts
    ∙ ap whole (sym (heat-by-transfers of parts ts within))

-- ---- what the heat of one source costs

-- what a heat costs where the utility has a source
abbrev worth : Source → ℤ → ℕ → Utility → ℤ
worth a heat index u = u.price *ℤ (if same_source a (source.Utility index) then heat else pos 0)

worth-none : (a : Source) (heat : ℤ) (index : ℕ) (u : Utility) → same_source a (source.Utility index) ≡ false
    → worth a heat index u ≡ pos 0
worth-none a heat index u other = ap (λ b. u.price *ℤ (if b then heat else pos 0)) other ∙ *ℤ-zero u.price

-- the price of a part is that of its source
part-worth : (case : Case) (grid : List ℤ) (of : Side) (p : Part) (heat : ℤ)
    → IsPartOf case.streams case.utilities grid of p
    → int_sum_from (worth p.source heat) 0 case.utilities ≡ p.price *ℤ heat
part-worth case grid of p heat (inl (i, s, is)) =
    let source_is = ap (λ (q : Part). q.source) is.is in
    let price_is = ap (λ (q : Part). q.price) is.is in
    let nothing = zero_times p.price heat price_is in
    ap (λ a. int_sum_from (worth a heat) 0 case.utilities) source_is
    ∙ int_sum_from-zero (worth (source.Stream i) heat) 0 case.utilities (λ j u from.
    worth-none (source.Stream i) heat j u refl)
    ∙ sym nothing
part-worth case grid of p heat (inr (i, u, is)) =
    let within = slice_get_within case.utilities i u is.utility in
    let first : i - 0 ≡ i = omega arith in
    ap (λ a. int_sum_from (worth a heat) 0 case.utilities) (ap (λ (q : Part). q.source) is.is)
    ∙ int_sum_from-single (worth (source.Utility i) heat) i 0 case.utilities u (omega arith) (omega (arith, within))
    (λ j v other. worth-none (source.Utility i) heat j v (ne_eqb i j (λ same. other (sym same))))
    ∙ ap (λ k. worth (source.Utility i) heat i (get_or case.utilities k u)) first
    ∙ ap (worth (source.Utility i) heat i) (get_or_from_slice_get case.utilities i u u is.utility)
    ∙ ap (λ b. u.price *ℤ (if b then heat else pos 0)) (eq-eqb i i refl)
    ∙ sym (ap (λ (q : Part). q.price *ℤ heat) is.is)

-- ---- both sources of an exchanger

-- a utility is one of them at most
apart : (x y : Bool) (price heat : ℤ) → (x ≡ true → y ≡ true → ⊥)
    → price *ℤ (if x || y then heat else pos 0)
    ≡ price *ℤ (if x then heat else pos 0) +ℤ price *ℤ (if y then heat else pos 0)
apart true true price heat one = absurd (one refl refl)
apart true false price heat one = omega (arith, ints)
apart false true price heat one = omega (arith, ints)
apart false false price heat one = omega (arith, ints)

differ : (case : Case) (a b : Source) (index : ℕ) → side_of case a ≡ Some side.Hot → side_of case b ≡ Some side.Cold
    → same_source a (source.Utility index) ≡ true → same_source b (source.Utility index) ≡ true → ⊥
differ case a b index hot cold one other =
    let same = same_source-true a (source.Utility index) one ∙ sym (same_source-true b (source.Utility index) other) in
    let clash : Some side.Hot ≡ Some side.Cold = sym hot ∙ ap (side_of case) same ∙ cold in
    cc clash

sum-enumerated : {X : Type 0} (f : ℕ × X → ℤ) (n : ℕ) (xs : List X)
    → int_sum_by f (enumerate_from n xs) ≡ int_sum_from (λ i x. f (i, x)) n xs
sum-enumerated f n [] = refl
sum-enumerated f n (x ∷ xs) =
    let next : n + 1 ≡ suc n = omega arith in
    ap (λ rest. f (n, x) +ℤ rest) (sum-enumerated f (n + 1) xs ∙ ap (λ k. int_sum_from (λ i y. f (i, y)) k xs) next)

module _ (case : Case) (hot cold : List Part) (ts : List Transfer) (given : IsCaseFlow case hot cold ts) where
  index-worth : (of : Side) (index : ℕ) (heat : ℤ) → index < length (on_side of hot cold)
      → int_sum_from (worth (source_in (on_side of hot cold) index) heat) 0 case.utilities
      ≡ part_price (on_side of hot cold) index *ℤ heat
  index-worth of index heat within =
      let parts = on_side of hot cold in
      let (p, at) = part_there parts index within in
      ap (λ a. int_sum_from (worth a heat) 0 case.utilities) (source_there parts index p at)
      ∙ part-worth case (places case hot cold ts given) of p heat (part_on case hot cold ts given of index p at)
      ∙ sym (ap (λ (q : Part). q.price *ℤ heat) (get_or_from_slice_get parts index p blank at))

  -- what a transfer costs with a utility, and with all of them
  abbrev utility_worth : ℕ × Utility → Transfer → ℤ
  utility_worth e t = e.1.price *ℤ utility_heat hot cold e.0 t

  transfer-worth : (number : ℕ) (t : Transfer) → slice_get ts number ≡ Some t
      → int_sum_by (λ e. utility_worth e t) (enumerate_from 0 case.utilities)
      ≡ part_price hot t.hot *ℤ t.heat +ℤ part_price cold t.cold *ℤ t.heat
  transfer-worth number t at =
      let a = source_in hot t.hot in
      let b = source_in cold t.cold in
      let hot_within = All-slice_get (λ (u : Transfer). u.hot < length hot) ts number t given.flow.hot_indexes at in
      let cold_within = All-slice_get (λ (u : Transfer). u.cold < length cold) ts number t given.flow.cold_indexes at in
      let hot_side = source_side case hot cold ts given side.Hot t.hot hot_within in
      let cold_side = source_side case hot cold ts given side.Cold t.cold cold_within in
      let hot_worth = index-worth side.Hot t.hot t.heat hot_within in
      let cold_worth = index-worth side.Cold t.cold t.heat cold_within in
      sum-enumerated (λ e. utility_worth e t) 0 case.utilities
      ∙ int_sum_from-same (λ i u. utility_worth (i, u) t) (λ i u. worth a t.heat i u +ℤ worth b t.heat i u) 0
      case.utilities
      (λ i u.
      apart (same_source a (source.Utility i)) (same_source b (source.Utility i)) u.price t.heat
      (differ case a b i hot_side cold_side))
      ∙ int_sum_from-add (worth a t.heat) (worth b t.heat) 0 case.utilities ∙ ap₂ ◌+ℤ◌ hot_worth cold_worth

  utility-worth : (e : ℕ × Utility) (us : List Transfer)
      → e.1.price *ℤ int_sum_by (utility_heat hot cold e.0) us ≡ int_sum_by (utility_worth e) us
  utility-worth e [] = omega (arith, ints)
  utility-worth e (t ∷ us) =
      *ℤ-+ℤ e.1.price (utility_heat hot cold e.0 t) (int_sum_by (utility_heat hot cold e.0) us)
      ∙ ap (λ x. utility_worth e t +ℤ x) (utility-worth e us)

  cost-is : (exchange_balance case (part_sources hot) (part_sources cold) (map (exchange_of hot cold) ts)).cost
      ≡ whole (cost_of hot cold ts)
  cost-is =
      let us = enumerate_from 0 case.utilities in
      let priced : ℕ × Utility → ℤ = λ e. int_sum_by (utility_worth e) ts in
      let hot_cost : Transfer → ℤ = λ t. part_price hot t.hot *ℤ t.heat in
      let cold_cost : Transfer → ℤ = λ t. part_price cold t.cold *ℤ t.heat in
      rational_sum_by-same (λ e.
      times (whole e.1.price)
      (rational_sum (heats_with (part_sources hot) (part_sources cold) (map (exchange_of hot cold) ts) e.0)))
      (λ e. whole (priced e)) us (λ k d within.
      let e = get_or us k d in
      ap (times (whole e.1.price)) (heats-have hot cold ts e.0 given.heats).sum
      ∙ whole-times e.1.price (int_sum_by (utility_heat hot cold e.0) ts) ∙ ap whole (utility-worth e ts))
      ∙ rational_sum_by-whole priced (int_sum_by priced) refl (λ e es. refl) us
      ∙ ap whole
      (int_sum_by-swap utility_worth us ts
      ∙ int_sum_by-same (λ t. int_sum_by (λ e. utility_worth e t) us) (λ t. hot_cost t +ℤ cold_cost t) ts
      (λ k d within. transfer-worth k (get_or ts k d) (slice_get-get_or ts k d within))
      ∙ int_sum_by-add hot_cost cold_cost ts
      ∙ ap₂ ◌+ℤ◌ (side_cost-transfers side.Hot hot ts given.flow.hot_indexes)
      (side_cost-transfers side.Cold cold ts given.flow.cold_indexes))

  pub balance-is : exchange_balance case (part_sources hot) (part_sources cold) (map (exchange_of hot cold) ts)
      ≡ flow_balance case hot cold ts
  balance-is =
      let target = hot_target case.streams in
      let gives = side-heat side.Hot hot cold hot ts (λ x. x.hot) given.flow.hot_indexes (λ n t. refl) in
      let takes = side-heat side.Cold hot cold cold ts (λ x. x.cold) given.flow.cold_indexes (λ n t. refl) in
      let beyond = ap (λ x. minus x (whole target)) gives ∙ whole-minus (utilities_heat side.Hot hot ts) target in
      λ i. record { hot = gives i; cold = takes i; excess = beyond i; cost = cost-is i }

-- ---- standard cases

-- the price of the standard utility of a side
abbrev unit_price : Side → ℤ
unit_price side.Hot = pos 1
unit_price side.Cold = pos 0

standard-price : (of : Side) (case : Case) → (standard_utility of case).price ≡ unit_price of
standard-price side.Hot case = refl
standard-price side.Cold case = refl

-- what a heat of a part costs in a standard case
abbrev standard_cost : Side → Source → ℤ → ℤ
standard_cost of a heat = if is_stream a then pos 0 else unit_price of *ℤ heat

part-cost : (case : Case) (grid : List ℤ) (of : Side) (p : Part) (heat : ℤ) → IsStandard case
    → IsPartOf case.streams case.utilities grid of p
    → p.price *ℤ heat ≡ standard_cost of p.source heat
part-cost case grid of p heat standard (inl (i, s, is)) =
    zero_times p.price heat (ap (λ (q : Part). q.price) is.is)
    ∙ sym (ap (λ (q : Part). standard_cost of q.source heat) is.is)
part-cost case grid of p heat standard (inr (i, u, is)) =
    let price : p.price ≡ unit_price of =
    ap (λ (q : Part). q.price) is.is ∙ ap (λ (v : Utility). v.price) (own_utility case standard i u is.utility)
    ∙ ap (λ d. (standard_utility d case).price) is.side_is ∙ standard-price of case in
    ap (λ x. x *ℤ heat) price ∙ sym (ap (λ (q : Part). standard_cost of q.source heat) is.is)

side-cost : (case : Case) (grid : List ℤ) (of : Side) (parts : List Part) (ts : List Transfer) → IsStandard case
    → AreParts case.streams case.utilities grid of parts
    → side_cost of parts ts ≡ int_sum_from (λ a p. standard_cost of p.source (heat_at of ts a)) 0 parts
side-cost case grid of parts ts standard are =
    int_sum_from-same_each (λ a p. p.price *ℤ heat_at of ts a) (λ a p. standard_cost of p.source (heat_at of ts a))
    parts (λ a p at.
    let is_part = All-slice_get (IsPartOf case.streams case.utilities grid of) parts a p are.each at in
    part-cost case grid of p (heat_at of ts a) standard is_part)

-- the cost of a standard flow is what its hot utility gives
standard-cost : (case : Case) (hot cold : List Part) (ts : List Transfer) → IsStandard case → AreCaseParts case hot cold
    → cost_of hot cold ts ≡ utilities_heat side.Hot hot ts
standard-cost case hot cold ts standard parts =
    let gives = side-cost case parts.grid side.Hot hot ts standard parts.hot_parts
    ∙ int_sum_from-same_each (λ a p. standard_cost side.Hot p.source (heat_at side.Hot ts a))
    (λ a p. if is_stream p.source then pos 0 else heat_at side.Hot ts a) hot
    (λ a p at. ap (λ x. if is_stream p.source then pos 0 else x) (one_times (pos 1) (heat_at side.Hot ts a) refl)) in
    let takes = side-cost case parts.grid side.Cold cold ts standard parts.cold_parts
    ∙ int_sum_from-same_each (λ a p. standard_cost side.Cold p.source (heat_at side.Cold ts a)) (λ a p. pos 0) cold
    (λ a p at. nothing (is_stream p.source) (heat_at side.Cold ts a))
    ∙ int_sum_from-zero (λ a p. pos 0) 0 cold (λ a p from. refl) in
    ap₂ ◌+ℤ◌ gives takes ∙ +ℤ_idr (utilities_heat side.Hot hot ts)
  where
    nothing : (b : Bool) (heat : ℤ) → (if b then pos 0 else pos 0 *ℤ heat) ≡ pos 0
    nothing true heat = refl
    nothing false heat = zero_times (pos 0) heat refl

pub no_excess : (case : Case) (hot cold : List Part) (ts : List Transfer) → IsStandard case → AreCaseParts case hot cold
    → cost_of hot cold ts ≡ hot_target case.streams → (flow_balance case hot cold ts).excess ≡ rational_zero
no_excess case hot cold ts standard parts costs =
    let same : utilities_heat side.Hot hot ts ≡ hot_target case.streams
    = sym (standard-cost case hot cold ts standard parts) ∙ costs in
    ap whole (difference (utilities_heat side.Hot hot ts) (hot_target case.streams) same)
  where
    difference : (x y : ℤ) → x ≡ y → x -ℤ y ≡ pos 0
    difference x y same = omega (arith, ints)
