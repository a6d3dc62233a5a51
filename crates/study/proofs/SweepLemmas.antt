-- Sweeps: the cost of a row, a case has one row for each contribution, a sweep has one list of rows, and how many rows there are.
use Rattle.study.proofs.Words.{*ℤ-≤ℤ_left, All-map, All-weaker, AllPairs, AreRows, Case, Cut, Forbid, HasValidStreams}
use Rattle.study.proofs.Words.{IsCaseCost, IsCaseCut, IsComplete, IsContribution, IsCostOf, IsLatent, IsRightlyNamed}
use Rattle.study.proofs.Words.{IsSensible, IsSweepPlan, IsUnreserved, IsValid, IsValidForbid, IsValidStream}
use Rattle.study.proofs.Words.{IsValidUtility, MOST_CONTRIBUTION, MOST_ROWS, MatchResult, OneRow, OneSweep, Source}
use Rattle.study.proofs.Words.{Stream, SweepPlan, SweepRow, Utility, case_with, cases_lt, completed, contribution_at}
use Rattle.study.proofs.Words.{count_by-map, cut_side, cuts_refuse_flows, has_row, ints, le-div_iff_mul-le, length-map}
use Rattle.study.proofs.Words.{names_of, option_map, pos, reach_between, result_ok, same_lists, same_side, side_of}
use Rattle.study.proofs.Words.{slice_get, slice_get-get_or, slice_get-map, stream_with, to_z-of_z, utility_with}
use Rattle.study.proofs.Words.{with_contribution, ℤ, ◌*ℤ◌, ◌+ℤ◌, ◌-ℤ◌, ◌≤ℤ◌}
use Rattle.std.proofs.Common.{Err, FitsSigned, List, None, Ok, Option, Result, Some, [], ap, ap₂, arith, get_or, inl}
use Rattle.std.proofs.Common.{inr, length, map, of_z, refl, subst, sym, to_z, w32, ℕ, ⊎_elim, ◌*◌, ◌++◌, ◌+◌, ◌/◌, ◌<◌}
use Rattle.std.proofs.Common.{◌↔◌, ◌∙◌, ◌∷◌, ◌≡◌, ◌≢◌, ◌≤◌, ◌⊎◌}
use Rattle.study.proofs.LeastCosts.{one_option}
use Rattle.stream_case.specs.declared.source.Source.TheVariants.{Stream as of_stream, Utility as of_utility}

-- a cut leaves no cost, since it leaves no heat flow
pub IsCostOf-found : (c : Case) (found : Result ℤ Cut) → MatchResult found (IsCaseCost c) (IsCaseCut c)
    → IsCostOf c (result_ok found)
IsCostOf-found c (Ok cost) is = is.least
IsCostOf-found c (Err cut) is = record {
  some = is.some;
  each = λ hot cold parts.
      cuts_refuse_flows (reach_between c hot cold) hot cold (cut_side cut.kind) cut.parts (is.each hot cold parts).parts;
}

same_row : (row other : SweepRow) → row.contribution ≡ other.contribution → row.hot ≡ other.hot
    → row.cold ≡ other.cold → row.cost ≡ other.cost → row ≡ other
same_row row other a b c d = λ i. record { contribution = a i; hot = b i; cold = c i; cost = d i }

pub one_row : (c : Case) → OneRow c
one_row c contribution row other one two =
    same_row row other (one.contribution_is ∙ sym two.contribution_is) (one.hot ∙ sym two.hot) (one.cold ∙ sym two.cold)
    (one_option (case_with contribution c) (λ ps. ps) row.cost other.cost one.cost two.cost)

-- A sweep has one list of rows.

-- two lists of the same rows
same_length : (c : Case) (p : SweepPlan) (rows others : List SweepRow) → AreRows c p rows
    → AreRows c p others → length others ≤ length rows
same_length c p rows others one two =
    ⊎_elim (λ more. let inside = (one.as_many (length rows)).1 ((two.as_many (length rows)).0 more) in absurd (omega (arith, inside))) (λ less. less)
    (cases_lt (length rows) (length others))

pub one_sweep : (c : Case) → OneSweep c
one_sweep c p rows others one two =
    let up = same_length c p rows others one two in
    let down = same_length c p others rows two one in
    same_lists rows others (omega (arith, up, down)) (λ k d within.
    one_row c _ (get_or rows k d) (get_or others k d) (one.each k (get_or rows k d) (slice_get-get_or rows k d within))
    (two.each k (get_or others k d) (slice_get-get_or others k d (omega (arith, within, up, down)))))

-- How many rows a sweep has.

-- so many steps of a width lie within a length
steps_within : (length width k : ℕ) → 0 < width → (k < length / width + 1) ↔ (k * width ≤ length)
steps_within length width k some =
    let both = le-div_iff_mul-le {k = width} {x = k} {y = length} some in
    (λ less. both.0 (omega (arith, less)), λ within. let most = both.1 within in omega (arith, most))

-- and so many contributions within a plan
pub rows_counted : (p : SweepPlan) (length width : ℕ) → p.to -ℤ p.from ≡ pos length → p.step ≡ pos width
    → 0 < width → (k : ℕ)
    → (k < length / width + 1) ↔ has_row p k
rows_counted p length width l w some k =
    let both = steps_within length width k some in
    let product : pos k *ℤ p.step ≡ pos (k * width) = ap (λ z. pos k *ℤ z) w in
    (λ less. let within = both.0 less in omega (arith, ints, product, within, l), λ has. both.1 (omega (arith, ints, product, has, l)))

-- a plan has no more rows than the limit
pub few_rows : (p : SweepPlan) (count : ℕ) → IsSweepPlan p → ((k : ℕ) → (k < count) ↔ has_row p k) → count ≤ MOST_ROWS
few_rows p count plan rows =
    ⊎_elim (λ more. let has = (rows MOST_ROWS).0 more in absurd (omega (arith, ints, has))) (λ most. most) (cases_lt MOST_ROWS count)

-- what a row adds to the first contribution
pub record IsWithinPlan (p : SweepPlan) (k : ℕ) : Type 0 where
  pub number : pos k ≤ℤ (pos k *ℤ p.step)
  pub most : (pos k *ℤ p.step) ≤ℤ MOST_CONTRIBUTION

pub within_plan : (p : SweepPlan) (k : ℕ) → IsSweepPlan p → has_row p k → IsWithinPlan p k
within_plan p k plan has =
    let product = *ℤ-≤ℤ_left (pos k) (pos 1) p.step (omega (arith, ints)) plan.step.from in
    let one : pos k *ℤ pos 1 ≡ pos k = ap pos (omega arith) in
    record { number = omega (arith, ints, product, one); most = omega (arith, ints, has) }

-- the contribution of a row, as it is formed
module _ (p : SweepPlan) (k : ℕ) (plan : IsSweepPlan p) (has : has_row p k) where
  pub product_is : to_z w32 k *ℤ to_z w32 (of_z w32 p.step) ≡ pos k *ℤ p.step
  product_is =
      let within = within_plan p k plan has in
      let row : to_z w32 k ≡ pos k = omega (arith, ints) in
      let step : to_z w32 (of_z w32 p.step) ≡ p.step = omega (arith, ints) in
      ap₂ (λ a b. a *ℤ b) row step

  pub product_fits : FitsSigned w32 (pos k *ℤ p.step)
  product_fits = let within = within_plan p k plan has in omega (arith, ints)

  pub sum_is : to_z w32 (of_z w32 p.from) +ℤ to_z w32 (of_z w32 (to_z w32 k *ℤ to_z w32 (of_z w32 p.step)))
      ≡ contribution_at p k
  sum_is = let first : to_z w32 (of_z w32 p.from) ≡ p.from = omega (arith, ints) in
      ap₂ (λ a b. a +ℤ b) first (ap (λ z. to_z w32 (of_z w32 z)) product_is ∙ to_z-of_z w32 (pos k *ℤ p.step) product_fits)

  pub contribution_within : IsContribution (contribution_at p k)
  contribution_within =
      let within = within_plan p k plan has in
      let from = plan.from in
      let upto = plan.upto in
      record { from = omega (arith, ints, from); upto = omega (arith, ints, has, upto) }

  pub sum_fits : FitsSigned w32 (contribution_at p k)
  sum_fits =
      let low = contribution_within.from in
      let high = contribution_within.upto in
      omega (arith, ints, low, high)

  pub value_is : to_z w32 (of_z w32 (to_z w32 (of_z w32 p.from) +ℤ to_z w32 (of_z w32 (to_z w32 k *ℤ to_z w32 (of_z w32 p.step)))))
      ≡ contribution_at p k
  value_is = ap (λ z. to_z w32 (of_z w32 z)) sum_is ∙ to_z-of_z w32 (contribution_at p k) sum_fits

-- A valid case stays valid with another contribution.

-- what a change of each element leaves as it is
same_map : {X Y : Type 0} (f : X → X) (v : X → Y) → ((x : X) → v (f x) ≡ v x) → (xs : List X)
    → map v (map f xs) ≡ map v xs
same_map f v same [] = refl
same_map f v same (x ∷ xs) = ap₂ ◌∷◌ (same x) (same_map f v same xs)

same_at : {X Y : Type 0} (f : X → X) (v : X → Y) → ((x : X) → v (f x) ≡ v x) → (xs : List X) (i : ℕ)
    → option_map v (slice_get (map f xs) i) ≡ option_map v (slice_get xs i)
same_at {X} {Y} f v same xs i = ap (option_map v) (slice_get-map f xs i) ∙ by (slice_get xs i)
  where
    by : (o : Option X) → option_map v (option_map f o) ≡ option_map v o
    by None = refl
    by (Some x) = ap Some (same x)

module _ (contribution : ℤ) where
  same_names : (c : Case) → names_of (with_contribution contribution c) ≡ names_of c
  same_names c = ap₂ (λ ss us. ss ++ us) (same_map (stream_with contribution) (λ s. s.name) (λ s. refl) c.streams)
      (same_map (utility_with contribution) (λ u. u.name) (λ u. refl) c.utilities)

  same_sides : (c : Case) (source : Source) → side_of (with_contribution contribution c) source ≡ side_of c source
  same_sides c (of_stream i) = same_at (stream_with contribution) (λ s. s.side) (λ s. refl) c.streams i
  same_sides c (of_utility i) = same_at (utility_with contribution) (λ u. u.side) (λ u. refl) c.utilities i

  IsValidForbid-with : (c : Case) (f : Forbid) → IsValidForbid c f → IsValidForbid (with_contribution contribution c) f
  IsValidForbid-with c f (hot, cold) = (same_sides c f.hot ∙ hot, same_sides c f.cold ∙ cold)

  module _ (within : IsContribution contribution) where
    IsValidStream-with : (s : Stream) → IsValidStream s → IsValidStream (stream_with contribution s)
    IsValidStream-with s h =
        record { name = h.name; supply = h.supply; target = h.target; heat = heat-with h.heat; contribution = within }
      where
        heat-with : IsSensible s ⊎ IsLatent s
            → IsSensible (stream_with contribution s) ⊎ IsLatent (stream_with contribution s)
        heat-with (inl sensible) = inl (record { way = sensible.way; cp = sensible.cp; load = sensible.load })
        heat-with (inr latent) = inr (record { level = latent.level; cp = latent.cp; load = latent.load })

    IsValidUtility-with : (u : Utility) → IsValidUtility u → IsValidUtility (utility_with contribution u)
    IsValidUtility-with u h =
        record { name = h.name; level = h.level; least = h.least; most = h.most; price = h.price; contribution = within }

    HasValidStreams-with : (streams : List Stream) → HasValidStreams streams
        → HasValidStreams (map (stream_with contribution) streams)
    HasValidStreams-with streams h = record {
      some =
          let long = length-map streams (stream_with contribution) in
          let some = h.some in
          omega (arith, long, some);
      are_streams = record {
        each = All-map IsValidStream (stream_with contribution) streams
            (All-weaker IsValidStream (λ s. IsValidStream (stream_with contribution s)) IsValidStream-with streams h.are_streams.each);
        few = λ side. let few = h.are_streams.few side in
            let same = count_by-map (λ (s : Stream). same_side s.side side) (stream_with contribution) streams in
            omega (arith, few, same);
      };
    }

    pub IsValid-with : (c : Case) → IsValid c → IsValid (with_contribution contribution c)
    IsValid-with c h = record {
      contribution = within;
      streams = HasValidStreams-with c.streams h.streams;
      utilities = All-map IsValidUtility (utility_with contribution) c.utilities
          (All-weaker IsValidUtility (λ u. IsValidUtility (utility_with contribution u)) IsValidUtility-with c.utilities h.utilities);
      few_utilities =
          let long = length-map c.utilities (utility_with contribution) in
          omega (arith, long);
      distinct_names = subst (AllPairs (λ a b. a ≢ b)) (sym (same_names c)) h.distinct_names;
      stream_names = All-map (λ s. IsUnreserved s.name) (stream_with contribution) c.streams h.stream_names;
      utility_names = All-map IsRightlyNamed (utility_with contribution) c.utilities h.utility_names;
      forbids =
          All-weaker (IsValidForbid c) (IsValidForbid (with_contribution contribution c)) (IsValidForbid-with c) c.forbids h.forbids;
      few_forbids = h.few_forbids;
      distinct_forbids = h.distinct_forbids;
    }

    -- and it is completed
    pub IsComplete-with : (c given case : Case) → IsValid c → given ≡ with_contribution contribution c
        → case ≡ completed given → IsComplete case
    IsComplete-with c given case h changed done = (given, subst IsValid (sym changed) (IsValid-with c h), done)
