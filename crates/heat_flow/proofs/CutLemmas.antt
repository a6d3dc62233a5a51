-- Where there is a cut there is no heat flow.
use Rattle.heat_flow.proofs.Words.{All, AllPairs, AllPairs-head, AllPairs-tail, ArePositive, Cold, HasNoFlow, HaveParts, Hot, IsCut, KeepsRanges, Part, Side}
use Rattle.heat_flow.proofs.Words.{Transfer, cases_lt, eqb-true, heat_at, if◌then◌else◌, int_sum_by, int_sum_by-add, int_sum_by-le, int_sum_by-not_negative}
use Rattle.heat_flow.proofs.Words.{int_sum_from-grouped, int_sum_from-le_each, ints, joins, least_at, list_any, meets, ne_eqb, need_of, offer_of, opposite}
use Rattle.heat_flow.proofs.Words.{part_index, pos, slice_get-get_or, slice_get_past, true≢false, ℤ, ◌*ℤ◌, ◌+ℤ◌, ◌<ℤ◌, ◌==◌, ◌≤ℤ◌}
use Rattle.heat_flow.proofs.Blanks.{blank}
use Rattle.heat_flow.proofs.CostLemmas.{heats_at-not_negative}
use Rattle.std.proofs.Common.{Bool, List, [], arith, false, get_or, length, refl, subst, true, ℕ, ⊎_elim, ◌<◌, ◌||◌, ◌∷◌, ◌≡◌}
use Rattle.std.proofs.lemmas.List.Folds.{Any-from_list_any, list_any-from_Any, list_any_none}

-- the heat of a transfer whose part is a member
abbrev taken : Side → List ℕ → Transfer → ℤ
taken side members t = if list_any (λ i. part_index side t == i) members then t.heat else pos 0

one_of : (x y : Bool) (w : ℤ) → (x ≡ true → y ≡ false)
    → ((if x then w else pos 0) +ℤ (if y then w else pos 0)) ≤ℤ (if x || y then w else pos 0)
one_of true true w h = absurd (true≢false (h refl))
one_of true false w h = omega (arith, ints)
one_of false y w h = omega (arith, ints)

-- what the members give or take in all
members_heat : (side : Side) (members : List ℕ) (ts : List Transfer) → AllPairs (λ i j. i < j) members
    → int_sum_by (heat_at side ts) members ≤ℤ int_sum_by (taken side members) ts
members_heat side [] ts ordered = int_sum_by-not_negative (taken side []) ts (λ k d within. omega (arith, ints))
members_heat side (i ∷ members) ts ordered =
    let above = AllPairs-head (λ a b. a < b) i members ordered in
    let rest = members_heat side members ts (AllPairs-tail (λ a b. a < b) i members ordered) in
    let split = int_sum_by-add (λ t. if part_index side t == i then t.heat else pos 0) (taken side members) ts in
    let each = int_sum_by-le (λ t. (if part_index side t == i then t.heat else pos 0) +ℤ taken side members t) (taken side (i ∷ members)) ts (λ k d within.
    let t = get_or ts k d in
    one_of (part_index side t == i) (list_any (λ j. part_index side t == j) members) t.heat (λ here.
    let is = eqb-true (part_index side t) i here in
    list_any_none (λ j. part_index side t == j) members
    (λ n e inside. let less = above n e inside in ne_eqb (part_index side t) (get_or members n e) (λ same. omega (arith, less))))) in
    omega (arith, ints)

least_le : (side : Side) (parts : List Part) (ts : List Transfer) (i : ℕ) → KeepsRanges side parts ts
    → ArePositive ts → least_at parts i ≤ℤ heat_at side ts i
least_le side parts ts i ranges positive =
    let none = int_sum_by-not_negative (λ t. if part_index side t == i then t.heat else pos 0) ts (heats_at-not_negative side ts i positive) in
    ⊎_elim (λ row. let at = slice_get-get_or parts i blank row in let range = (ranges i (get_or parts i blank) at).from in rw at range)
    (λ past. rw (slice_get_past parts i past) none) (cases_lt i (length parts))

-- a factor that is 1 for a part that meets a member
abbrev one_if : Bool → ℤ
one_if b = if b then pos 1 else pos 0

taken_le : (x b : Bool) (w : ℤ) → pos 0 <ℤ w → (x ≡ true → b ≡ true) → (if x then w else pos 0) ≤ℤ (one_if b *ℤ w)
taken_le true b w h k = rw (k refl) (omega (arith, ints))
taken_le false true w h k = omega (arith, ints)
taken_le false false w h k = omega (arith, ints)

most_le : (b : Bool) (s most : ℤ) → s ≤ℤ most → (one_if b *ℤ s) ≤ℤ (if b then most else pos 0)
most_le true s most h = omega (arith, ints)
most_le false s most h = omega (arith, ints)

offered : (side : Side) (reach : ℕ → ℕ → Bool) (others : List Part) (members : List ℕ) (ts : List Transfer)
    → ArePositive ts
    → HaveParts (opposite side) others ts
    → All (λ t. joins side reach (part_index side t) (part_index (opposite side) t) ≡ true) ts
    → KeepsRanges (opposite side) others ts → int_sum_by (taken side members) ts ≤ℤ offer_of side reach others members
offered side reach others members ts positive indexes joined ranges =
    let factor = λ (j : ℕ). one_if (meets side reach members j) in
    let each = int_sum_by-le (taken side members) (λ t. factor (part_index (opposite side) t) *ℤ t.heat) ts (λ k d within.
    let t = get_or ts k d in
    taken_le (list_any (λ i. part_index side t == i) members) (meets side reach members (part_index (opposite side) t)) t.heat (positive k d within) (λ e.
    let (n, i, inside, at, same) = Any-from_list_any (λ i. part_index side t == i) members e in
    list_any-from_Any (λ i. joins side reach i (part_index (opposite side) t)) members
    (n, i, inside, at, subst (λ m. joins side reach m (part_index (opposite side) t) ≡ true) (eqb-true (part_index side t) i same) (joined k d within)))) in
    let grouped = int_sum_from-grouped (part_index (opposite side)) (λ t. t.heat) factor others ts indexes in
    let bound = int_sum_from-le_each (λ j p. factor j *ℤ heat_at (opposite side) ts j) (λ j p. if meets side reach members j then p.most else pos 0) others
    (λ j p at. most_le (meets side reach members j) (heat_at (opposite side) ts j) p.most (ranges j p at).upto) in
    omega (arith, ints)

need_le_offer : (side : Side) (reach : ℕ → ℕ → Bool) (parts others : List Part) (members : List ℕ) (ts : List Transfer)
    → AllPairs (λ i j. i < j) members
    → ArePositive ts → HaveParts (opposite side) others ts
    → All (λ t. joins side reach (part_index side t) (part_index (opposite side) t) ≡ true) ts
    → KeepsRanges side parts ts → KeepsRanges (opposite side) others ts
    → need_of parts members ≤ℤ offer_of side reach others members
need_le_offer side reach parts others members ts ordered positive indexes joined own ranges =
    let least = int_sum_by-le (least_at parts) (heat_at side ts) members (λ k d within. least_le side parts ts (get_or members k d) own positive) in
    let given = members_heat side members ts ordered in
    let taken = offered side reach others members ts positive indexes joined ranges in
    omega (arith, ints)

pub cuts_refuse_flows : (reach : ℕ → ℕ → Bool) (hot cold : List Part) (side : Side) (members : List ℕ)
    → IsCut side reach hot cold members
    → HasNoFlow reach hot cold
cuts_refuse_flows reach hot cold Hot members cut ts flow =
    let le = need_le_offer Hot reach hot cold members ts cut.ordered flow.positive flow.cold_indexes flow.joined flow.hot_ranges flow.cold_ranges in
    let short = cut.short in omega (arith, ints)
cuts_refuse_flows reach hot cold Cold members cut ts flow =
    let le = need_le_offer Cold reach cold hot members ts cut.ordered flow.positive flow.hot_indexes flow.joined flow.cold_ranges flow.hot_ranges in
    let short = cut.short in omega (arith, ints)
