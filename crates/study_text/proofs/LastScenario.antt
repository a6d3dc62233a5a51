-- Where the entries of the last scenario begin behind one more.
use Rattle.std.proofs.Common.{List, [], ap, arith, drop, false, length, length-append, not, refl, sym, true, ℕ, ◌&&◌, ◌++◌, ◌||◌, ◌∙◌, ◌∷◌, ◌≡◌}
use Rattle.std.proofs.Math.Bool.{and-false, and-true, or-false, or-true, or_assoc}
use Rattle.std.proofs.Math.Seq.{drop-append-le, drop-length}
use Rattle.std.proofs.lemmas.List.Folds.{list_any-append}
use Rattle.std.specs.List.{list_any}
use Rattle.study_text.specs.Entries.{IsOwn}
use Rattle.study_text.specs.Given.{has_scenario, is_price_of, is_priced, is_scenario}
use Rattle.study_text.specs.declared.entry.Entry.{Entry}
use Rattle.study_text.specs.declared.entry.Entry.TheVariants as entry

-- a scenario is no price
no_price : (i : ℕ) (e : Entry) → is_scenario e ≡ true → is_price_of i e ≡ false
no_price i (entry.Scenario name) is = refl
no_price i (entry.Price utility price) is = cc is
no_price i (entry.Span utility from to) is = refl

has_scenario-more : (entries : List Entry) (e : Entry)
    → has_scenario (entries ++ e ∷ []) ≡ (has_scenario entries || is_scenario e)
has_scenario-more entries e =
    list_any-append is_scenario entries (e ∷ []) ∙ ap (λ b. has_scenario entries || b) (or-false (is_scenario e))

-- a scenario has no price yet
is_priced-scenario : (i : ℕ) (entries : List Entry) (e : Entry) → is_scenario e ≡ true
    → is_priced i (entries ++ e ∷ []) ≡ false
is_priced-scenario i [] e is = rw (no_price i e is) refl
is_priced-scenario i (x ∷ entries) e is =
    let behind : has_scenario (entries ++ e ∷ []) ≡ true
    = has_scenario-more entries e ∙ ap (λ b. has_scenario entries || b) is
    ∙ or-true (has_scenario entries) in
    let none_behind : (is_price_of i x && not true) ≡ false = and-false (is_price_of i x) in
    rw (behind, none_behind) (is_priced-scenario i entries e is)

-- what is no scenario belongs to the last one
is_priced-more : (i : ℕ) (entries : List Entry) (e : Entry) → is_scenario e ≡ false
    → is_priced i (entries ++ e ∷ []) ≡ (is_priced i entries || is_price_of i e)
is_priced-more i [] e not_one = or-false (is_price_of i e && true) ∙ and-true (is_price_of i e)
is_priced-more i (x ∷ entries) e not_one =
    let behind : has_scenario (entries ++ e ∷ []) ≡ has_scenario entries
    = has_scenario-more entries e ∙ ap (λ b. has_scenario entries || b) not_one
    ∙ or-false (has_scenario entries) in
    rw (behind, is_priced-more i entries e not_one)
    (sym (or_assoc (is_price_of i x && not (has_scenario entries)) (is_priced i entries) (is_price_of i e)))

-- ---- where the entries of the last scenario begin

pub own-scenario : (own : ℕ) (entries : List Entry) (e : Entry) → own ≡ length (entries ++ e ∷ [])
    → is_scenario e ≡ true → IsOwn own (entries ++ e ∷ [])
own-scenario own entries e at is = record {
  within = omega (arith, at);
  priced = λ i. is_priced-scenario i entries e is
      ∙ sym (ap (list_any (is_price_of i)) (ap (λ n. drop n (entries ++ e ∷ [])) at ∙ drop-length (entries ++ e ∷ [])));
}

pub own-more : (own : ℕ) (entries : List Entry) (e : Entry) → IsOwn own entries → is_scenario e ≡ false
    → IsOwn own (entries ++ e ∷ [])
own-more own entries e is not_one = record {
  within = omega (arith, is.within, length-append entries (e ∷ []));
  priced = λ i.
      is_priced-more i entries e not_one ∙ ap (λ b. b || is_price_of i e) (is.priced i)
      ∙ ap (λ b. list_any (is_price_of i) (drop own entries) || b) (sym (or-false (is_price_of i e)))
      ∙ sym (ap (list_any (is_price_of i)) (drop-append-le own entries (e ∷ []) is.within) ∙ list_any-append (is_price_of i) (drop own entries) (e ∷ []));
}
