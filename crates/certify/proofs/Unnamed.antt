-- A report that names no parts proves nothing: a completed case has parts on both sides, and no parts are no cut.
use Rattle.certify.proofs.Words.{All-contains, All-nil, AreCaseParts, AreParts, ArePricesOf, Case, Cold, Contains, CutKind, Demand, Hot, IsAnswer}
use Rattle.certify.proofs.Words.{IsComplete, IsCutOf, Moved, No, Part, Priced, Side, Span, Supply, Used, Utility, completed, has_utility, int_sum_from-zero}
use Rattle.certify.proofs.Words.{ints, list_any, list_any-append, pos, reach_between, same_side, same_side-true, some_parts, standard_utility, unless_given, utility_part}
use Rattle.std.proofs.Common.{List, Some, [], ap, arith, false, if◌then◌else◌, inl, inr, refl, slice_get, suc, true, zero, ℕ, ℤ, Bool, ◌++◌, ◌∙◌, ◌∷◌, ◌≡◌, ◌⊎◌, ◌||◌}
use Rattle.certify.specs.declared.report.NoWhy.TheVariants as why
use Rattle.certify.specs.declared.report.Report.TheVariants as report

-- ---- a completed case has a utility on each side

has_each : (side : Side) (k : Case) → has_utility side (completed k).utilities ≡ true
has_each Hot k =
    let on = λ (u : Utility). same_side u.side Hot in
    list_any-append on (k.utilities ++ unless_given Hot k) (unless_given Cold k)
    ∙ ap (λ b. b || list_any on (unless_given Cold k)) (list_any-append on k.utilities (unless_given Hot k) ∙ first (has_utility Hot k.utilities))
  where
    first : (b : Bool)
        → (b || list_any (λ (u : Utility). same_side u.side Hot) (if b then [] else standard_utility Hot k ∷ [])) ≡ true
    first true = refl
    first false = refl
has_each Cold k =
    let on = λ (u : Utility). same_side u.side Cold in
    list_any-append on (k.utilities ++ unless_given Hot k) (unless_given Cold k)
    ∙ ap (λ b. b || list_any on (unless_given Cold k)) (list_any-append on k.utilities (unless_given Hot k))
    ∙ second (has_utility Cold k.utilities) (list_any on (unless_given Hot k))
  where
    second : (b x : Bool)
        → ((b || x) || list_any (λ (u : Utility). same_side u.side Cold) (if b then [] else standard_utility Cold k ∷ []))
        ≡ true
    second true x = refl
    second false true = refl
    second false false = refl

-- one of the utilities is on the side
abbrev IsAmong : Side → List Utility → Type 0
IsAmong side us = (i : ℕ) × (u : Utility) × (slice_get us i ≡ Some u) × (u.side ≡ side)

found : (side : Side) (us : List Utility) → has_utility side us ≡ true → IsAmong side us
found side [] has = cc has
found side (u ∷ us) has = by (same_side u.side side) (found side us) refl has
  where
    by : (b : Bool) → (has_utility side us ≡ true → IsAmong side us) → same_side u.side side ≡ b
        → (b || has_utility side us) ≡ true
        → IsAmong side (u ∷ us)
    by true rest same has = (zero, u, refl, same_side-true u.side side same)
    by false rest same has = let (i, v, at, is) = rest has in (suc i, v, at, is)

-- ---- so it has parts on each side

not_none : (c : Case) (side : Side) (grid : List ℤ) (parts : List Part) → IsComplete c
    → AreParts c.streams c.utilities grid side parts → parts ≡ [] → ⊥
not_none c side grid parts (k, valid, is) are none =
    let (i, u, at, on) =
    found side c.utilities (ap (λ (d : Case). has_utility side d.utilities) is ∙ has_each side k) in
    let there : Contains parts (utility_part i u)
    = are.every (utility_part i u) (inr (i, u, record { utility = at; side_is = on; is = refl })) in
    All-contains (λ (p : Part). ⊥) [] (utility_part i u) (All-nil (λ (p : Part). ⊥)) (rw none at there)

no_prices : (c : Case) (parts : List Part) → (parts ≡ [] → ⊥) → ArePricesOf c parts [] → ⊥
no_prices c [] some prices = some refl
no_prices c (p ∷ ps) some prices = cc prices.one_each

-- ---- the answers

pub flow_unnamed : (c : Case) (cost : ℤ) (uses : List Used) (moves : List Moved) (gives takes : List Priced)
    → (gives ≡ []) ⊎ (takes ≡ []) → IsComplete c
    → IsAnswer c (report.Flow cost uses moves gives takes) (No why.Parts)
flow_unnamed c cost uses moves gives takes unnamed complete = record {
  some = some_parts c;
  each = λ hot cold are. inl (refl, λ prices. by hot cold are unnamed prices);
}
  where
    by : (hot cold : List Part) → AreCaseParts c hot cold → (gives ≡ []) ⊎ (takes ≡ [])
        → ArePricesOf c hot gives × ArePricesOf c cold takes
        → ⊥
    by hot cold are (inl none) prices =
        no_prices c hot (not_none c Hot are.grid hot complete are.hot_parts) (rw none at prices.0)
    by hot cold are (inr none) prices =
        no_prices c cold (not_none c Cold are.grid cold complete are.cold_parts) (rw none at prices.1)

no_cut : (c : Case) (hot cold : List Part) (kind : CutKind) (need offer : ℤ)
    → IsCutOf (reach_between c hot cold) hot cold (record { kind = kind; parts = []; need = need; offer = offer })
    → ⊥
no_cut c hot cold Demand need offer is =
    let none = int_sum_from-zero (λ (j : ℕ) (p : Part). pos 0) 0 hot (λ i x within. refl) in
    let short = is.parts.short in
    omega (arith, ints)
no_cut c hot cold Supply need offer is =
    let none = int_sum_from-zero (λ (j : ℕ) (p : Part). pos 0) 0 cold (λ i x within. refl) in
    let short = is.parts.short in
    omega (arith, ints)

pub cut_unnamed : (c : Case) (kind : CutKind) (need offer : ℤ) (parts : List Span) → parts ≡ []
    → IsAnswer c (report.Cut kind need offer parts) (No why.Cut)
cut_unnamed c kind need offer [] none = record {
  some = some_parts c;
  each = λ hot cold are. inr (All-nil _, inl (refl, no_cut c hot cold kind need offer));
}
cut_unnamed c kind need offer (s ∷ ss) none = cc none
