-- The first step that is too fine, in what calls and loops answer, and the penalties that are listed.
use Rattle.penalties.proofs.Words.{too_fine}
use Rattle.penalties.proofs.Words.{All-append, All-cons, All-enumerated, All-head, All-map, All-nil, All-same, All-tail, AreEnded, AreStreams, Audit, Case}
use Rattle.penalties.proofs.Words.{CountsFromItself, Finds, Formed, Gives, HasAccepted, HasNoNegativePenalty, HasShape, IsAtMost, IsNotNegative}
use Rattle.penalties.proofs.Words.{IsReferencePlace, IsReferenceView, IsTrue, IsValidNetwork, IsWholeValuation, Item, Joint, KeepApproaches, KnowsItsNetwork, Line}
use Rattle.penalties.proofs.Words.{ListsPenalties, Network, Penalty, Place, Rational, Step, Stream, TooFine, Valuation, View, all_exchanger_steps}
use Rattle.penalties.proofs.Words.{all_joint_steps, all_mix_steps, branch_steps, enumerate_from, enumerated-more, excess_of, exchanger_row, exchanger_rows}
use Rattle.penalties.proofs.Words.{exchangers_of, filter_map, filter_map-append, first_finding, height_at}
use Rattle.penalties.proofs.Words.{joint_rows, joints_of, line_steps, map-append, minus, mix_loss, mix_row, mix_rows}
use Rattle.penalties.proofs.Words.{one_valuation, penalties_excess, penalties_of, penalties_sign, plus, rational_sum_by, rational_sum_by-append}
use Rattle.penalties.proofs.Words.{rational_sum_by-map, rational_zero, sum_of, value_formed, values_of}
use Rattle.penalties.proofs.Words.{zero-plus}
use Rattle.std.proofs.Common.{All, Err, IsErrAnd, List, None, Ok, Option, Result, Some, [], ap, append_assoc, ap₂, get_or, length, map, refl}
use Rattle.std.proofs.Common.{subst, sym, take, ℕ, ◌++◌, ◌+◌, ◌<◌, ◌↔◌, ◌∙◌, ◌∷◌, ◌≡◌}
use Rattle.penalties.proofs.SurveyLemmas.{rows-joints, steps-joints}
use Rattle.network_audit.proofs.ItemLemmas.{found-behind, found-formed, found-front, found-not_formed, found-nothing}
use Rattle.network_audit.proofs.VerdictLemmas.{faultless_values}
use Rattle.problem_table.specs.declared.reference.Reference.{Reference}
use Rattle.networks.specs.declared.network.Line.TheVariants as line
use Rattle.penalties.specs.declared.list.PenaltyList.TheVariants as list

-- ---- answers

-- what a `?` hands on
pub handed_on : {X : Type 0} (steps : List Item) (P : X → Type 0) (found : TooFine) (answer : Result X TooFine)
    → IsErrAnd answer (λ e. e ≡ found)
    → first_finding steps ≡ Some (too_fine found.place found.step) → Formed steps P answer
handed_on steps P found (Ok x) same is = absurd same
handed_on steps P found (Err e) same is =
    subst (λ (f : TooFine). first_finding steps ≡ Some (too_fine f.place f.step)) (sym same) is

-- the difference of two numbers, behind the steps that form them
module _ (xs ys : List Item) (a b x y : Rational) (at : Place) (k : ℕ) (r : Option Rational) (one : (first_finding xs ≡ None) × (a ≡ x))
    (other : (first_finding ys ≡ None) × (b ≡ y)) (gives : Gives r (minus a b)) where
  difference : Gives r (minus x y)
  difference = subst (Gives r) (ap₂ minus one.1 other.1) gives

  pub difference_formed : (d : Rational) → r ≡ Some d
      → (first_finding (xs ++ (ys ++ Step at k (minus x y) ∷ [])) ≡ None) × (d ≡ minus x y)
  difference_formed d is =
      let last = found-formed at k (minus x y) d r [] is difference ∙ found-nothing in
      (found-behind xs _ one.0 ∙ found-behind ys _ other.0 ∙ last, value_formed (minus x y) d r is difference)

  pub difference_not_formed : r ≡ None → first_finding (xs ++ (ys ++ Step at k (minus x y) ∷ [])) ≡ Some (too_fine at k)
  difference_not_formed is =
      found-behind xs _ one.0 ∙ found-behind ys _ other.0 ∙ found-not_formed at k (minus x y) r [] is difference

-- Rows of penalties, as they are added one by one.

module _ {X Y : Type 0} (xs : List X) (n : ℕ) (d : X) (within : n < length xs) where
  -- one row more
  pub made-more : (f : ℕ × X → Y) (list front : List Y) → list ≡ front ++ map f (enumerate_from 0 (take n xs))
      → list ++ f (n, get_or xs n d) ∷ [] ≡ front ++ map f (enumerate_from 0 (take (n + 1) xs))
  made-more f list front is =
      ap (λ ys. ys ++ f (n, get_or xs n d) ∷ []) is
      ∙ append_assoc front (map f (enumerate_from 0 (take n xs))) (f (n, get_or xs n d) ∷ [])
      ∙ ap (λ ys. front ++ ys) (sym (ap (map f) (enumerated-more xs n d within) ∙ map-append f (enumerate_from 0 (take n xs)) ((n, get_or xs n d) ∷ [])))

  -- one member more, which may have a row
  pub filtered-more : (f : ℕ × X → Option Y) (list front : List Y)
      → list ≡ front ++ filter_map f (enumerate_from 0 (take n xs))
      → list ++ filter_map f ((n, get_or xs n d) ∷ []) ≡ front ++ filter_map f (enumerate_from 0 (take (n + 1) xs))
  filtered-more f list front is =
      ap (λ ys. ys ++ filter_map f ((n, get_or xs n d) ∷ [])) is
      ∙ append_assoc front (filter_map f (enumerate_from 0 (take n xs)))
      (filter_map f ((n, get_or xs n d) ∷ [])) ∙ ap (λ ys. front ++ ys)
      (sym (ap (filter_map f) (enumerated-more xs n d within) ∙ filter_map-append f (enumerate_from 0 (take n xs)) ((n, get_or xs n d) ∷ [])))

-- ---- statements that are no mix

abbrev pub IsNoMix : Line → Type 0
IsNoMix l = (first second to : ℕ) → l ≡ line.Mix first second to → ⊥

pub no_steps : (height : ℕ → Rational) (steps : Place → ℕ → ℕ → List Item) (n : ℕ) (l : Line) → IsNoMix l
    → line_steps height steps (n, l) ≡ []
no_steps height steps n (line.Mix first second to) other = absurd (other first second to refl)
no_steps height steps n l other = refl

pub no_row : (height : ℕ → Rational) (n : ℕ) (l : Line) → IsNoMix l → filter_map (mix_row height) ((n, l) ∷ []) ≡ []
no_row height n (line.Mix first second to) other = absurd (other first second to refl)
no_row height n l other = refl

-- Listed penalties are not negative, and add up to the excess.

-- ---- the rows of mixes

abbrev value_of : Penalty → Rational
value_of p = p.value

module _ (height : ℕ → Rational) where
  sum-mixes : (n : ℕ) (lines : List Line)
      → rational_sum_by value_of (filter_map (mix_row height) (enumerate_from n lines))
      ≡ rational_sum_by (mix_loss height) lines
  sum-mixes n [] = refl
  sum-mixes n (line.Mix first second to ∷ lines) =
      ap (plus (mix_loss height (line.Mix first second to))) (sum-mixes (n + 1) lines)
  sum-mixes n (other ∷ lines) = sum-mixes (n + 1) lines ∙ sym (zero-plus (rational_sum_by (mix_loss height) lines))

  abbrev LosesSome : Line → Type 0
  LosesSome l = IsAtMost rational_zero (mix_loss height l)

  mixes_not_negative : (n : ℕ) (lines : List Line) → All LosesSome lines
      → All IsNotNegative (filter_map (mix_row height) (enumerate_from n lines))
  mixes_not_negative n [] some = All-nil IsNotNegative
  mixes_not_negative n (line.Exchanger name hot cold duty ∷ lines) some =
      mixes_not_negative (n + 1) lines (All-tail LosesSome (line.Exchanger name hot cold duty) lines some)
  mixes_not_negative n (line.Split from first cp second ∷ lines) some =
      mixes_not_negative (n + 1) lines (All-tail LosesSome (line.Split from first cp second) lines some)
  mixes_not_negative n (line.Pass from exchanger to ∷ lines) some =
      mixes_not_negative (n + 1) lines (All-tail LosesSome (line.Pass from exchanger to) lines some)
  mixes_not_negative n (line.Mix first second to ∷ lines) some =
      All-cons IsNotNegative _ _ (All-head LosesSome (line.Mix first second to) lines some)
      (mixes_not_negative (n + 1) lines (All-tail LosesSome (line.Mix first second to) lines some))
  mixes_not_negative n (line.End branch ∷ lines) some =
      mixes_not_negative (n + 1) lines (All-tail LosesSome (line.End branch) lines some)

-- ---- all rows

module _ (case : Case) (network : Network) (streams : AreStreams case.streams) (shape : HasShape case network) (valid : IsValidNetwork case network) where
  -- a network has one valuation, and so the approaches are kept by any
  same_values : (values : Valuation) → IsWholeValuation case network values → valid.values ≡ values
  same_values values is = one_valuation case network (length network.lines) valid.values values shape valid.valuation is

  rows_not_negative : (view : View) (values : Valuation) → IsWholeValuation case network values
      → All IsNotNegative (penalties_of case view network values)
  unfolding exchanger_rows mix_rows
  rows_not_negative view values whole_values =
      let height = height_at case view network values in
      let signs : HasNoNegativePenalty case view network values =
      penalties_sign case network values view shape whole_values (subst (KeepApproaches case network) (same_values values whole_values) valid.approaches) in
      All-append IsNotNegative (exchanger_rows height network) (mix_rows height network.lines)
      (All-map IsNotNegative (exchanger_row height network) (enumerate_from 0 (exchangers_of network.lines))
      (All-enumerated (λ p. IsNotNegative (exchanger_row height network p)) (exchangers_of network.lines) (λ number e at. signs.exchangers number e at)))
      (mixes_not_negative height 0 network.lines signs.mixes)

  sum-rows : (view : View) (values : Valuation) → IsReferenceView case.streams view
      → IsWholeValuation case network values
      → sum_of (penalties_of case view network values) ≡ excess_of case network
  unfolding exchanger_rows mix_rows
  sum-rows view values is_reference whole_values =
      let height = height_at case view network values in
      rational_sum_by-append value_of (exchanger_rows height network) (mix_rows height network.lines)
      ∙ ap₂ plus (rational_sum_by-map value_of (exchanger_row height network) (enumerate_from 0 (exchangers_of network.lines)))
      (sum-mixes height 0 network.lines) ∙ penalties_excess case network values view streams shape whole_values
      (subst (AreEnded case network) (same_values values whole_values) valid.ended) is_reference

  pub listed_not_negative : (listed : List Penalty) → ListsPenalties case network (list.Listed listed)
      → All IsNotNegative listed
  listed_not_negative listed is =
      All-same IsNotNegative listed _ is.lists.1 (rows_not_negative is.view is.values is.valuation)

  pub listed_sum : (listed : List Penalty) → ListsPenalties case network (list.Listed listed)
      → sum_of listed ≡ excess_of case network
  listed_sum listed is = ap sum_of is.lists.1 ∙ sum-rows is.view is.values is.is_reference is.valuation

-- What the two loops answer is what is answered for the network.

-- what a loop found, and what it found not
pub found_some : (steps : List Item) (P : Type 0) (o : Option TooFine) (found : TooFine) → Finds steps P o
    → o ≡ Some found
    → first_finding steps ≡ Some (too_fine found.place found.step)
found_some steps P o found finds is = subst (Finds steps P) is finds

pub found_none : (steps : List Item) (P : Type 0) (o : Option TooFine) → Finds steps P o
    → ((found : TooFine) → o ≡ Some found → ⊥)
    → (first_finding steps ≡ None) × P
found_none steps P None finds none = finds
found_none steps P (Some found) finds none = absurd (none found refl)

-- the view from the reference of a case
pub reference_view : (streams : List Stream) (r : Reference) → IsReferencePlace streams r.place
    → IsTrue r.from_itself ↔ CountsFromItself streams r.place
    → IsReferenceView streams (record { place = r.place; from_itself = r.from_itself })
reference_view streams r place counts = record { place = place; from_itself = counts }

module _
    (case : Case) (network : Network) (audit : Audit) (view : View) (joints : List Joint) (accepted : HasAccepted audit case network)
    (knows : KnowsItsNetwork audit) (is_reference : IsReferenceView case.streams view) (own_table : joints ≡ joints_of audit.network)
  where
    table : joints ≡ joints_of network
    table = own_table ∙ ap (λ (a : Audit). joints_of a.network) accepted.is

    abbrev height : ℕ → Rational
    height = height_at case view network (values_of audit)

    abbrev steps : Place → ℕ → ℕ → List Item
    steps = branch_steps case view network (values_of audit)

    valuation_kept : IsWholeValuation case network (values_of audit)
    valuation_kept =
        subst (IsWholeValuation case network) (sym (ap values_of accepted.is)) (faultless_values audit case network accepted knows).valuation

    exchangers_first : first_finding (all_exchanger_steps height steps network)
        ≡ first_finding (all_joint_steps height steps joints)
    exchangers_first =
        ap first_finding (sym (ap (all_joint_steps height steps) table ∙ steps-joints height network steps))

    pub too_fine_first : (place : Place) (step : ℕ)
        → first_finding (all_joint_steps height steps joints) ≡ Some (too_fine place step)
        → ListsPenalties case network (list.TooFine place step)
    too_fine_first place step found = record {
      view = view;
      values = values_of audit;
      is_reference = is_reference;
      valuation = valuation_kept;
      lists =
          found-front (all_exchanger_steps height steps network) (all_mix_steps height steps network.lines) (too_fine place step) (exchangers_first ∙ found);
    }

    module _ (lines : List Line) (own : lines ≡ network.lines) where
      mixes_later : first_finding (all_mix_steps height steps network.lines)
          ≡ first_finding (all_mix_steps height steps lines)
      mixes_later = ap (λ ls. first_finding (all_mix_steps height steps ls)) (sym own)

      pub too_fine_later : (place : Place) (step : ℕ) → first_finding (all_joint_steps height steps joints) ≡ None
          → first_finding (all_mix_steps height steps lines) ≡ Some (too_fine place step)
          → ListsPenalties case network (list.TooFine place step)
      too_fine_later place step none found = record {
        view = view;
        values = values_of audit;
        is_reference = is_reference;
        valuation = valuation_kept;
        lists =
            found-behind (all_exchanger_steps height steps network) (all_mix_steps height steps network.lines) (exchangers_first ∙ none)
            ∙ mixes_later
            ∙ found;
      }

      -- the list begins empty, gets the rows of the exchangers, and then those of the mixes
      pub all_listed : (start first listed : List Penalty) → first_finding (all_joint_steps height steps joints) ≡ None
          → first_finding (all_mix_steps height steps lines) ≡ None → start ≡ []
          → first ≡ start ++ joint_rows height joints
          → listed ≡ first ++ mix_rows height lines → ListsPenalties case network (list.Listed listed)
      all_listed start first listed none later empty rows more = record {
        view = view;
        values = values_of audit;
        is_reference = is_reference;
        valuation = valuation_kept;
        lists = (
          found-behind (all_exchanger_steps height steps network) (all_mix_steps height steps network.lines) (exchangers_first ∙ none)
              ∙ mixes_later ∙ later,
          more ∙ ap₂ (λ front ls. front ++ mix_rows height ls) (rows ∙ ap (λ xs. xs ++ joint_rows height joints) empty ∙ ap (joint_rows height) table
              ∙ rows-joints height network) own,
        );
      }
