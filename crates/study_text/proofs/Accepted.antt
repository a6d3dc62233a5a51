-- The study of a file that is accepted may be asked of the case, and is that of what its rows say.
use Rattle.first_fault.proofs.CheckLemmas.{Passes}
use Rattle.first_fault.proofs.Steps.{IsKept, given_has}
use Rattle.first_fault.specs.Outcome.{SoundBefore, given_by}
use Rattle.rows.proofs.Tests.{Decides-int_le, passed-room, passed-within}
use Rattle.rows.specs.Rows.{Row}
use Rattle.rows.specs.declared.fault.RowFault.{RowFault}
use Rattle.std.proofs.Math.Seq.{append_snoc}
use Rattle.std.proofs.lemmas.Int.{ints}
use Rattle.std.proofs.lemmas.List.{length-map, length-set}
use Rattle.std.proofs.lemmas.List.Elements.{All-cons, All-head, All-nil, All-push, All-set, All-tail}
use Rattle.std.proofs.lemmas.List.Quantifiers.{position-Some}
use Rattle.std.proofs.lemmas.List.Sums.{sum_by_push}
use Rattle.std.specs.List.{cons_option}
use Rattle.std.specs.Prelude.{fold, slice_set}
use Rattle.std.specs.Str.{bytes_eq}
use Rattle.stream_case.proofs.CompleteLemmas.{IsPlaced-IsComplete}
use Rattle.stream_case.specs.Case.{IsComplete, utility_named}
use Rattle.stream_case.specs.Limits.{IsPrice}
use Rattle.stream_case.specs.Utility.{IsPlaced}
use Rattle.stream_case.specs.declared.case.Case.{Case}
use Rattle.stream_case.specs.declared.utility.Utility.{Utility}
use Rattle.study_text.specs.Entries.{IsKnown}
use Rattle.study_text.specs.Given.{count_items, is_item, items_of, prices_by, study_of}
use Rattle.study_text.specs.Outcome.{IsStudyOf, IsStudyOutcome, grammar}
use Rattle.study_text.specs.Rows.{entries_in, entry_by, entry_in, kind_of, next, utility_in}
use Rattle.study_text.specs.Study.{AreCasePrices, IsItem, IsSpan, IsStudy, case_prices}
use Rattle.study_text.specs.declared.entry.Entry.{Entry}
use Rattle.study_text.specs.declared.fault.StudyWhy.{StudyWhy}
use Rattle.study_text.specs.declared.kind.Kind.{Kind}
use Rattle.study_text.specs.declared.limits.TheConstants.{MOST_ITEMS}
use Rattle.study_text.specs.declared.study.Study.{Study}
use Rattle.sums.proofs.CountLemmas.{count_by-cons}
use Rattle.std.proofs.Common.{All, Err, IfOk, List, None, Ok, Option, Result, Some, [], ap, append-nil, arith, cond, is_some, length, map}
use Rattle.std.proofs.Common.{option_to_list, position, refl, sym, true, unwrap_or, ℕ, ℤ, ◌++◌, ◌+◌, ◌<◌, ◌∙◌, ◌∷◌, ◌≡◌, ◌≤◌}
use Rattle.rows.specs.Fields.{field, number}
use Rattle.study_text.specs.Checks.{checks, kind_checks, price_checks, scenario_checks, span_checks, span_number_checks}
use Rattle.study_text.specs.declared.entry.Entry.TheVariants as entry
use Rattle.study_text.specs.declared.study.StudyItem.TheVariants as item
use Rattle.study_text.specs.declared.kind.Kind.TheVariants as kind

-- ---- the items

-- one item more
pub item-more : {X : Type 0} (items new rest all : List X) (x : X) → new ≡ items ++ x ∷ []
    → items ++ x ∷ rest ≡ all → new ++ rest ≡ all
item-more items new rest all x new_is is = ap (λ xs. xs ++ rest) new_is ∙ append_snoc items x rest ∙ is

-- what rows say, as far as it goes, is that of an accepted file
pub record Fits (c : Case) (entries : List Entry) : Type 0 where
  pub known : All (IsKnown c) entries
  pub few : count_items entries ≤ MOST_ITEMS

-- ---- one row more

one_more_item : (entries : List Entry) (e : Entry)
    → count_items (entries ++ e ∷ []) ≡ count_items entries + cond (is_item e) 1 0
one_more_item entries e = sum_by_push (λ (x : Entry). cond (is_item x) 1 0) entries e

utility_within : (c : Case) (row : Row) → is_some (utility_named c (field row 1)) ≡ true
    → utility_in c row < length c.utilities
unfolding utility_in
utility_within c row named = by c.utilities named
  where
    by : (utilities : List Utility) → is_some (position (λ u. bytes_eq (field row 1) u.name) utilities) ≡ true
        → unwrap_or (position (λ u. bytes_eq (field row 1) u.name) utilities) 0 < length utilities
    by [] some = cc some
    by (u ∷ us) some = at (position (λ v. bytes_eq (field row 1) v.name) (u ∷ us)) refl some
      where
        at : (o : Option ℕ) → position (λ v. bytes_eq (field row 1) v.name) (u ∷ us) ≡ o → is_some o ≡ true
            → unwrap_or o 0 < length (u ∷ us)
        at None is some = cc some
        at (Some i) is some = (position-Some (λ (v : Utility). bytes_eq (field row 1) v.name) (u ∷ us) i u is).0

scenario_kept : (c : Case) (given : List Entry) (row : Row) → Fits c given → Passes (scenario_checks given row)
    → Fits c (given ++ entry.Scenario (field row 1) ∷ [])
unfolding scenario_checks
scenario_kept c given row fits (_, (room, _)) = record {
  known = All-push (IsKnown c) given (entry.Scenario (field row 1)) fits.known tt;
  few =
      omega (arith, passed-room (count_items given) MOST_ITEMS room, one_more_item given (entry.Scenario (field row 1)));
}

price_kept : (c : Case) (given : List Entry) (row : Row) → Fits c given → Passes (price_checks c given row)
    → Fits c (given ++ entry.Price (utility_in c row) (number row 2) ∷ [])
unfolding price_checks
price_kept c given row fits (_, (_, (named, (_, (_, (price, _)))))) =
    let e = entry.Price (utility_in c row) (number row 2) in
    record {
      known = All-push (IsKnown c) given e fits.known (utility_within c row named, passed-within _ _ _ price);
      few = omega (arith, fits.few, one_more_item given e);
    }

span_kept : (c : Case) (given : List Entry) (row : Row) → Fits c given → Passes (span_checks c given row)
    → Fits c (given ++ entry.Span (utility_in c row) (number row 2) (number row 3) ∷ [])
unfolding span_checks span_number_checks
span_kept c given row fits (room, (named, (_, (_, (first, (last, (order, (few, _)))))))) =
    let e = entry.Span (utility_in c row) (number row 2) (number row 3) in
    let span : IsSpan c (utility_in c row) (number row 2) (number row 3) = record {
      utility = utility_within c row named;
      first = passed-within _ _ _ first;
      last = passed-within _ _ _ last;
      order = (Decides-int_le (number row 2) (number row 3)).0 order;
      few = grind (arith, ints, few);
    } in
    record { known = All-push (IsKnown c) given e fits.known span; few = omega (arith, passed-room (count_items given) MOST_ITEMS room, one_more_item given e) }

row_kept : (c : Case) (given : List Entry) (row : Row) (k : Option Kind) → Fits c given
    → Passes (kind_checks c k given row)
    → Fits c (given ++ option_to_list (entry_by c k row))
unfolding kind_checks
row_kept c given row None fits passes = rw (append-nil given) fits
row_kept c given row (Some kind.PassedOver) fits passes = rw (append-nil given) fits
row_kept c given row (Some kind.Scenario) fits passes = scenario_kept c given row fits passes
row_kept c given row (Some kind.Price) fits passes = price_kept c given row fits passes
row_kept c given row (Some kind.Span) fits passes = span_kept c given row fits passes

each_row_keeps : (c : Case) → IsKept (grammar c) (Fits c)
unfolding checks
each_row_keeps c given row fits (_, (_, passes)) = row_kept c given row (kind_of row) fits passes

pub accepted-fits : (c : Case) (rows : List Row) → SoundBefore (grammar c) rows (length rows)
    → Fits c (given_by (grammar c) rows)
accepted-fits c rows sound =
    given_has (grammar c) (Fits c) (record { known = All-nil (IsKnown c); few = omega arith }) (each_row_keeps c) rows sound

-- ---- the prices of the case

prices_of : (us : List Utility) → All IsPlaced us → All IsPrice (map (λ u. u.price) us)
prices_of [] h = All-nil IsPrice
prices_of (u ∷ us) h =
    All-cons IsPrice u.price (map (λ v. v.price) us) (All-head IsPlaced u us h).price (prices_of us (All-tail IsPlaced u us h))

pub case_prices-within : (c : Case) → IsComplete c → All IsPrice (case_prices c)
case_prices-within c complete = prices_of c.utilities (IsPlaced-IsComplete c complete)

-- ---- the study

prices_kept : (c : Case) (prices : List ℤ) (entries : List Entry) → AreCasePrices c prices → All (IsKnown c) entries
    → AreCasePrices c (prices_by prices entries)
prices_kept c prices [] are known = are
prices_kept c prices (entry.Scenario name ∷ entries) are known = are
prices_kept c prices (entry.Price i price ∷ entries) are known =
    let own = All-head (IsKnown c) (entry.Price i price) entries known in
    let changed : AreCasePrices c (slice_set prices i price) =
    record { one_each = length-set prices i price ∙ are.one_each; within = All-set IsPrice prices i price own.1 are.within } in
    prices_kept c (slice_set prices i price) entries changed (All-tail (IsKnown c) (entry.Price i price) entries known)
prices_kept c prices (entry.Span i from to ∷ entries) are known =
    prices_kept c prices entries are (All-tail (IsKnown c) (entry.Span i from to) entries known)

items_are : (c : Case) (entries : List Entry) → AreCasePrices c (case_prices c) → All (IsKnown c) entries
    → All (IsItem c) (items_of c entries)
items_are c [] own known = All-nil (IsItem c)
items_are c (entry.Scenario name ∷ entries) own known =
    let rest = All-tail (IsKnown c) (entry.Scenario name) entries known in
    All-cons (IsItem c) (item.Scenario name (prices_by (case_prices c) entries)) (items_of c entries) (prices_kept c (case_prices c) entries own rest)
    (items_are c entries own rest)
items_are c (entry.Price i price ∷ entries) own known =
    items_are c entries own (All-tail (IsKnown c) (entry.Price i price) entries known)
items_are c (entry.Span i from to ∷ entries) own known =
    let e = entry.Span i from to in
    All-cons (IsItem c) (item.Span i from to) (items_of c entries) (All-head (IsKnown c) e entries known)
    (items_are c entries own (All-tail (IsKnown c) e entries known))

-- as many items as scenarios and spans
items_count : (c : Case) (entries : List Entry) → length (items_of c entries) ≡ count_items entries
items_count c [] = refl
items_count c (entry.Scenario name ∷ entries) =
    omega (arith, items_count c entries, count_by-cons is_item (entry.Scenario name) entries)
items_count c (entry.Price i price ∷ entries) =
    omega (arith, items_count c entries, count_by-cons is_item (entry.Price i price) entries)
items_count c (entry.Span i from to ∷ entries) =
    omega (arith, items_count c entries, count_by-cons is_item (entry.Span i from to) entries)

pub study-is_asked : (c : Case) (rows : List Row) (study : Study) → IsComplete c → IsStudyOf c rows study
    → IsStudy c study
study-is_asked c rows study complete is =
    let entries = given_by (grammar c) rows in
    let fits = accepted-fits c rows is.sound in
    let own : AreCasePrices c (case_prices c) =
    record { one_each = length-map c.utilities (λ (u : Utility). u.price); within = case_prices-within c complete } in
    rw is.value_is (record { items = items_are c entries own fits.known; few = rw (items_count c entries) fits.few })

pub outcome_is_study : (c : Case) (rows : List Row) (result : Result Study (RowFault StudyWhy))
    → IsComplete c → IsStudyOutcome c rows result
    → IfOk result (IsStudy c)
outcome_is_study c rows (Ok study) complete is = study-is_asked c rows study complete is
outcome_is_study c rows (Err fault) complete is = tt

-- what rows give one after the other is what they say together
said : (c : Case) (rows : List Row) (earlier : List Entry) → fold (next c) earlier rows ≡ earlier ++ entries_in c rows
said c [] earlier = sym (append-nil earlier)
said c (row ∷ rows) earlier = by (entry_in c row) (said c rows)
  where
    by : (o : Option Entry) → ((more : List Entry) → fold (next c) more rows ≡ more ++ entries_in c rows)
        → fold (next c) (earlier ++ option_to_list o) rows ≡ earlier ++ cons_option o (entries_in c rows)
    by None rest = rw (append-nil earlier) (rest earlier)
    by (Some e) rest = rest (earlier ++ e ∷ []) ∙ append_snoc earlier e (entries_in c rows)

pub outcome_is_said : (c : Case) (rows : List Row) (result : Result Study (RowFault StudyWhy))
    → IsStudyOutcome c rows result
    → IfOk result (λ study. study ≡ study_of c (entries_in c rows))
outcome_is_said c rows (Ok study) is = is.value_is ∙ ap (study_of c) (said c rows [])
outcome_is_said c rows (Err fault) is = tt
