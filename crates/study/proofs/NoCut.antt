-- A case that has a heat flow whatever its streams are: what some of the parts of a side have to have in all is no more than what all have to
-- have, and the standard utilities have more.
use Rattle.study.proofs.Words.{ALL_STREAMS_HEAT, All, All-drop, All-head, All-nil, All-weaker, AllPairs, AllPairs-head, AllPairs-nil, AllPairs-tail, one_times}
use Rattle.study.proofs.Words.{AreCaseParts, AreParts, AreStandardParts, AreStandardParts-parts, Case, Cold, Forbid, Hot, IsComplete, IsCut, IsStandard}
use Rattle.study.proofs.Words.{IsStandardPart, IsUtilityHere, IsValid, Part, Side, Source, and_from, and_left, and_right, blank, both_reach}
use Rattle.study.proofs.Words.{both_ways, cases_eq, cases_lt, end_of, eq-eqb, heat_over, heat_over-between, if_between, if◌then◌else◌, int_eq, int_le-from}
use Rattle.study.proofs.Words.{int_sum_by, int_sum_by-le, int_sum_by-not_negative, int_sum_from-le_each, int_sum_from-single, int_sum_from-zero, ints}
use Rattle.study.proofs.Words.{is_forbidden, is_stream, joins, least_at, length-AreStreams, list_any_at, list_any_none, meets, ne_eqb, need_of, offer_of}
use Rattle.study.proofs.Words.{opposite, part_over, part_reaches, parts_of, passes_heat, pos, reach_between, same_Some, same_source, slice_get}
use Rattle.study.proofs.Words.{slice_get-get_or, slice_get_past, slice_get_within, some_utility, standard_side, standard_utility, sum_side-heat, true≢false}
use Rattle.study.proofs.Words.{utility_part, ℤ, ◌+ℤ◌, ◌<ℤ◌, ◌==◌, ◌≤ℤ◌}
use Rattle.std.proofs.Common.{Bool, List, Some, [], ap, ap₂, arith, drop, false, get_or, inr, length, not, refl, suc, sym, true, zero, ℕ, ⊎_elim, ◌&&◌, ◌<◌}
use Rattle.std.proofs.Common.{◌||◌, ◌∙◌, ◌∷◌, ◌≡◌, ◌≢◌, ◌≤◌}
use Rattle.std.specs.Option.{option_map_or}
use Rattle.std.specs.Prelude.{IsTrue, ◌⊎◌}
use Rattle.corner_flow.proofs.HeatLemmas.{above, from_place, from_stream, from_utility, is_reached}
use Rattle.stream_case.specs.declared.source.Source.TheVariants.{Stream as of_stream, Utility as of_utility}

-- it joins two streams
abbrev pub JoinsStreams : Forbid → Type 0
JoinsStreams f = IsTrue (is_stream f.hot) × IsTrue (is_stream f.cold)

-- the utilities are just the two standard ones, and no forbidden match has one of them: `HOT` may heat each cold part, and `COLD` may cool
-- each hot one
pub record IsSupplied (c : Case) : Type 0 where
  pub utilities :
      (c.utilities ≡ standard_utility Hot c ∷ standard_utility Cold c ∷ [])
      ⊎ (c.utilities ≡ standard_utility Cold c ∷ standard_utility Hot c ∷ [])
  pub joins_streams : All JoinsStreams c.forbids

-- a part that has to have some heat is there
pub part_at : (parts : List Part) (i : ℕ) → pos 0 <ℤ least_at parts i → (p : Part) × (slice_get parts i ≡ Some p)
part_at parts i some = ⊎_elim (λ row. (get_or parts i blank, slice_get-get_or parts i blank row))
    (λ past. let none = ap (λ o. option_map_or (λ (p : Part). p.least) o (pos 0)) (slice_get_past parts i past) in absurd (omega (arith, ints)))
    (cases_lt i (length parts))

-- what the parts from an index on have to have
abbrev least_from : List Part → ℕ → ℤ
least_from parts n = int_sum_by (λ p. p.least) (drop n parts)

least_from-step : (parts : List Part) (n : ℕ) → least_from parts n ≡ least_at parts n +ℤ least_from parts (suc n)
least_from-step [] zero = refl
least_from-step [] (suc n) = refl
least_from-step (p ∷ ps) zero = refl
least_from-step (p ∷ ps) (suc n) = least_from-step ps n

module _ (parts : List Part) (not_negative : All (λ p. pos 0 ≤ℤ p.least) parts) where
  least_at-not_negative : (n : ℕ) → pos 0 ≤ℤ least_at parts n
  least_at-not_negative n = ⊎_elim (λ row. let some = not_negative n blank row in
      let here = ap (λ o. option_map_or (λ (p : Part). p.least) o (pos 0)) (slice_get-get_or parts n blank row) in
      omega (arith, ints))
      (λ past. let none = ap (λ o. option_map_or (λ (p : Part). p.least) o (pos 0)) (slice_get_past parts n past) in omega (arith, ints))
      (cases_lt n (length parts))

  least_from-falls : (n k : ℕ) → n ≤ k → least_from parts k ≤ℤ least_from parts n
  least_from-falls n zero le =
      let same = ap (least_from parts) {x = n} {y = zero} (omega arith) in
      omega (arith, ints)
  least_from-falls n (suc k) le = ⊎_elim (λ e. let same = ap (least_from parts) e in omega (arith, ints)) (λ other.
      let rest = least_from-falls n k (omega (arith, le, other)) in
      let step = least_from-step parts k in
      let some = least_at-not_negative k in
      omega (arith, ints)) (cases_eq n (suc k))

  need-from : (n : ℕ) (members : List ℕ) → All (λ i. n ≤ i) members → AllPairs (λ i j. i < j) members
      → need_of parts members ≤ℤ least_from parts n
  need-from n [] late ordered =
      int_sum_by-not_negative (λ p. p.least) (drop n parts) (All-drop (λ p. pos 0 ≤ℤ p.least) n parts not_negative)
  need-from n (m ∷ members) late ordered =
      let behind = AllPairs-head (λ i j. i < j) m members ordered in
      let rest =
      need-from (suc m) members (All-weaker (λ i. m < i) (λ i. suc m ≤ i) (λ i less. omega (arith, less)) members behind)
      (AllPairs-tail (λ i j. i < j) m members ordered) in
      let step = least_from-step parts m in
      let falls = least_from-falls n m (All-head (λ i. n ≤ i) m members late) in
      omega (arith, ints)

  pub need-at_most : (members : List ℕ) → AllPairs (λ i j. i < j) members
      → need_of parts members ≤ℤ int_sum_by (λ p. p.least) parts
  need-at_most members ordered = need-from 0 members (λ k d within. omega arith) ordered

-- A case whose utilities are the two standard ones, neither of them in a forbidden match, has no cut: `HOT` reaches each cold part and can give
-- more than all of them take, and each hot part reaches `COLD`, which can take more than all of them give.

-- ---- the case without its forbidden matches is standard, and has the same parts

abbrev unforbidden : Case → Case
unforbidden c = record c { forbids = [] }

IsValid-unforbidden : (c : Case) → IsValid c → IsValid (unforbidden c)
IsValid-unforbidden c h = record {
  contribution = h.contribution;
  streams = h.streams;
  utilities = h.utilities;
  few_utilities = h.few_utilities;
  distinct_names = h.distinct_names;
  stream_names = h.stream_names;
  utility_names = h.utility_names;
  forbids = All-nil _;
  few_forbids = omega arith;
  distinct_forbids = AllPairs-nil (λ (f g : Forbid). f ≢ g);
}

IsComplete-unforbidden : (c : Case) → IsComplete c → IsComplete (unforbidden c)
IsComplete-unforbidden c (k, valid, is) = (unforbidden k, IsValid-unforbidden k valid, ap unforbidden is)

IsStandard-unforbidden : (c : Case) → IsSupplied c → IsStandard (unforbidden c)
IsStandard-unforbidden c supplied = record { free = refl; utilities = supplied.utilities }

AreCaseParts-unforbidden : (c : Case) (hot cold : List Part) → AreCaseParts c hot cold
    → AreCaseParts (unforbidden c) hot cold
AreCaseParts-unforbidden c hot cold parts =
    record { grid = parts.grid; is_grid = parts.is_grid; hot_parts = parts.hot_parts; cold_parts = parts.cold_parts }

-- ---- a part that meets a member is on offer

offer-at_least : (side : Side) (reach : ℕ → ℕ → Bool) (others : List Part) (members : List ℕ) (u : ℕ) (p : Part)
    → ((j : ℕ) (q : Part) → slice_get others j ≡ Some q → pos 0 ≤ℤ q.most)
    → slice_get others u ≡ Some p → meets side reach members u ≡ true → p.most ≤ℤ offer_of side reach others members
offer-at_least side reach others members u p not_negative at met =
    let within = slice_get_within others u p at in
    let single = int_sum_from-single (λ j q. if j == u then p.most else pos 0) u 0 others p (omega arith) (omega (arith, within))
    (λ j q other. ap (λ b. if b then p.most else pos 0) (ne_eqb j u other)) in
    let own = ap (λ b. if b then p.most else pos 0) (eq-eqb u u refl) in
    let each = int_sum_from-le_each (λ j q. if j == u then p.most else pos 0)
    (λ j q. if meets side reach members j then q.most else pos 0) others (λ j q other.
    ⊎_elim (λ same.
    let left = ap (λ b. if b then p.most else pos 0) (eq-eqb j u same) in
    let right = ap (λ b. if b then q.most else pos 0) (ap (meets side reach members) same ∙ met) in
    let is : p ≡ q = same_Some p q (sym at ∙ ap (slice_get others) (sym same) ∙ other) in
    let most = ap (λ r. r.most) is in
    omega (arith, ints)) (λ differ.
    let left = ap (λ b. if b then p.most else pos 0) (ne_eqb j u differ) in
    let right = (if_between (meets side reach members j) q.most (not_negative j q other)).0 in
    omega (arith, ints)) (cases_eq j u)) in
    omega (arith, ints)

-- ---- what a utility reaches

unlike : (a b : Source) → is_stream a ≡ true → is_stream b ≡ false → same_source a b ≡ false
unlike (of_stream i) (of_stream j) h k = absurd (true≢false k)
unlike (of_stream i) (of_utility j) h k = refl
unlike (of_utility i) b h k = absurd (true≢false (sym h))

module _ (c : Case) (supplied : IsSupplied c) where
  free_hot : (p q : Part) → is_stream p.source ≡ false → is_forbidden c.forbids p.source q.source ≡ false
  free_hot p q utility =
      list_any_none (λ f. same_source f.hot p.source && same_source f.cold q.source) c.forbids (λ k d within. let f = get_or c.forbids k d in
      and_left (same_source f.hot p.source) (same_source f.cold q.source) (unlike f.hot p.source (supplied.joins_streams k d within).0 utility))

  free_cold : (p q : Part) → is_stream q.source ≡ false → is_forbidden c.forbids p.source q.source ≡ false
  free_cold p q utility =
      list_any_none (λ f. same_source f.hot p.source && same_source f.cold q.source) c.forbids (λ k d within. let f = get_or c.forbids k d in
      and_right (same_source f.hot p.source) (same_source f.cold q.source) (unlike f.cold q.source (supplied.joins_streams k d within).1 utility))

  reaches_below : (p q : Part) → q.high ≤ℤ p.low → is_forbidden c.forbids p.source q.source ≡ false
      → part_reaches c p q ≡ true
  reaches_below p q below free =
      let passes : passes_heat p q ≡ true
      = ap (λ b. b || (int_eq p.high q.high && int_eq p.low q.low)) (int_le-from q.high p.low below) in
      and_from (passes_heat p q) (not (is_forbidden c.forbids p.source q.source)) passes (ap not free)

-- ---- no cut

module _ (c : Case) (hot cold : List Part) (complete : IsComplete c) (supplied : IsSupplied c) (parts : AreCaseParts c hot cold) where
  standard : AreStandardParts (unforbidden c) hot cold
  standard =
      AreStandardParts-parts (IsComplete-unforbidden c complete) (IsStandard-unforbidden c supplied) (AreCaseParts-unforbidden c hot cold parts)

  -- the lowest stream end, from which on all parts lie
  abbrev bottom : ℤ
  bottom = end_of (unforbidden c) Cold

  part_least : (side : Side) (p : Part) → IsStandardPart (unforbidden c) standard.grid side p
      → p.least ≤ℤ part_over true bottom (pos 0) p
  part_least side p here = ⊎_elim (λ stream. let whole = from_stream true bottom (pos 0) p stream.source_is
      ∙ one_times (above true bottom p) p.least (is_reached true bottom p.low (from_place bottom p.low here.from)) in omega (arith, ints))
      (λ utility. let none = from_utility true bottom (pos 0) p utility.source_is in omega (arith, ints))
      here.kind

  -- the parts of a side have to have no more than the heat of all streams
  leasts-at_most : (side : Side) → int_sum_by (λ p. p.least) (parts_of side hot cold) ≤ℤ ALL_STREAMS_HEAT
  leasts-at_most side =
      let mine = parts_of side hot cold in
      let streams = standard.valid.are_streams in
      let each = int_sum_by-le (λ p. p.least) (part_over true bottom (pos 0)) mine
      (λ k d within. let p = get_or mine k d in part_least side p ((standard.sides side).each k p (slice_get-get_or mine k d within))) in
      let sum = (standard.sides side).sum true bottom (pos 0) (standard.ends Cold) in
      let heat =
      (sum_side-heat side (heat_over true bottom) (heat_over-between true bottom) c.streams streams.each (length-AreStreams c.streams streams)).upto in
      omega (arith, ints)

  leasts-not_negative : (side : Side) → All (λ p. pos 0 ≤ℤ p.least) (parts_of side hot cold)
  leasts-not_negative side k d within =
      let mine = parts_of side hot cold in
      ((standard.sides side).each k (get_or mine k d) (slice_get-get_or mine k d within)).bounded.least.from

  mosts-not_negative : (side : Side) (j : ℕ) (p : Part) → slice_get (parts_of side hot cold) j ≡ Some p
      → pos 0 ≤ℤ p.most
  mosts-not_negative side j p at =
      let bounded = ((standard.sides side).each j p at).bounded in
      omega (arith, ints)

  -- the utility of a side is one of its parts
  abbrev OwnUtility : Side → List Part → Type 0
  OwnUtility side mine = (u : ℕ) × (p : Part) × (slice_get mine u ≡ Some p) × (is_stream p.source ≡ false)

  own_among : (side : Side) (mine : List Part) → AreParts c.streams c.utilities parts.grid side mine
      → OwnUtility side mine
  own_among side mine are =
      let (i, at) = some_utility (unforbidden c) (IsStandard-unforbidden c supplied) side in
      let p = utility_part i (standard_utility side (unforbidden c)) in
      let (u, within, is) =
      are.every p (inr (i, standard_utility side (unforbidden c), record { utility = at; side_is = standard_side side (unforbidden c); is = refl })) in
      (u, p, slice_get-get_or mine u p within ∙ ap Some is, refl)

  own_utility : (side : Side) → OwnUtility side (parts_of side hot cold)
  own_utility Hot = own_among Hot hot parts.hot_parts
  own_utility Cold = own_among Cold cold parts.cold_parts

  utility_here : (side : Side) (u : ℕ) (p : Part) → slice_get (parts_of side hot cold) u ≡ Some p
      → is_stream p.source ≡ false
      → IsUtilityHere (unforbidden c) side p
  utility_here side u p at utility =
      ⊎_elim (λ stream. absurd (both_ways (is_stream p.source) utility stream.source_is)) (λ here. here) ((standard.sides side).each u p at).kind

  -- each part joins the utility of the other side
  joins_utility : (side : Side) (m u : ℕ) (q p : Part) → slice_get (parts_of side hot cold) m ≡ Some q
      → slice_get (parts_of (opposite side) hot cold) u ≡ Some p → is_stream p.source ≡ false
      → joins side (reach_between c hot cold) m u ≡ true
  joins_utility Hot m u q p at other utility =
      let low = (utility_here Cold u p other utility).high in
      let from = ((standard.sides Hot).each m q at).from in
      ap₂ (both_reach c) at other
      ∙ reaches_below c supplied q p (omega (arith, ints)) (free_cold c supplied q p utility)
  joins_utility Cold m u q p at other utility =
      let high = (utility_here Hot u p other utility).low in
      let upto = ((standard.sides Cold).each m q at).upto in
      ap₂ (both_reach c) other at ∙ reaches_below c supplied p q (omega (arith, ints)) (free_hot c supplied p q utility)

  pub no_cut : (side : Side) (members : List ℕ) → IsCut side (reach_between c hot cold) hot cold members → ⊥
  no_cut side [] cut =
      let short = cut.short in
      let others = parts_of (opposite side) hot cold in
      let none = int_sum_from-zero (λ j p. if meets side (reach_between c hot cold) [] j then p.most else pos 0) 0 others (λ j p le. refl) in
      omega (arith, ints)
  no_cut side (m ∷ members) cut =
      let reach = reach_between c hot cold in
      let mine = parts_of side hot cold in
      let (u, p, other, utility) = own_utility (opposite side) in
      let (q, at) = part_at mine m (All-head (λ i. pos 0 <ℤ least_at mine i) m members cut.needing) in
      let joined = joins_utility side m u q p at other utility in
      let met = list_any_at (λ i. joins side reach i u) (m ∷ members) 0 m (omega arith) joined in
      let others = parts_of (opposite side) hot cold in
      let offer = offer-at_least side reach others (m ∷ members) u p (mosts-not_negative (opposite side)) other met in
      let most = (utility_here (opposite side) u p other utility).most in
      let need = need-at_most mine (leasts-not_negative side) (m ∷ members) cut.ordered in
      let heat = leasts-at_most side in
      let short = cut.short in
      omega (arith, ints)
