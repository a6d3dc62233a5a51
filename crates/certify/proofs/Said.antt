-- The reports of a certified heat flow and of a cut pass every check.
use Rattle.certify.proofs.Firsts.{flow_first}
use Rattle.certify.proofs.PartSums.{needing-within}
use Rattle.certify.proofs.Table.{named_as, names_itself}
use Rattle.certify.proofs.Words.{All-head, All-map, All-tail, AreCaseParts, AreParts, ArePricesOf, AreUsesOf, Case, Cold, Cut, CutKind, Demand}
use Rattle.certify.proofs.Words.{HoldsOfParts-some, Hot, IsAnswerOver, IsCertified, IsComplete, IsCutOf, IsSourceOf, IsTrue, Part, Priced, Side, Source, Span}
use Rattle.certify.proofs.Words.{StaysValid-IsComplete, Supply, Transfer, Yes, blank, comes_before, comes_before_source, false_from_ne_true, filter_map}
use Rattle.certify.proofs.Words.{index_of, ints, is_span_of, nat_tests, none-some, own_parts, position_or_len_is, price_at, prices_of, reach_between, same_Some}
use Rattle.certify.proofs.Words.{slice_get-get_or, source_name, source_named, source_named-source_name, sources_of_parts, span_of, transfer_of, use_of}
use Rattle.certify.specs.Said.{CertifiedFlowsPass, CutsPass, cut_report, flow_report, made_from, move_of, named_at, priced_by}
use Rattle.std.proofs.Common.{All, Bool, List, None, Option, Some, [], add-zero, ap, ap₂, arith, cond, false, get_or, is_some, length, map, nat_lt, pos}
use Rattle.std.proofs.Common.{position, refl, slice_get, subst, suc, sym, true, zero, zero-add, ℕ, ℤ, ⊎_elim, ◌+◌, ◌<◌, ◌∙◌, ◌∷◌, ◌≡◌}
use Rattle.stream_case.specs.declared.source.Source.TheVariants.{Stream as of_stream, Utility as of_utility}

-- ---- lists that are made of others

pub length-made_from : {X Y : Type 0} (f : ℕ → X → Y) (n : ℕ) (xs : List X) → length (made_from f n xs) ≡ length xs
length-made_from f n [] = refl
length-made_from f n (x ∷ xs) = ap suc (length-made_from f (suc n) xs)

pub made_from-at : {X Y : Type 0} (f : ℕ → X → Y) (n : ℕ) (xs : List X) (i : ℕ) (y : Y) (x : X)
    → slice_get (made_from f n xs) i ≡ Some y → slice_get xs i ≡ Some x → y ≡ f (n + i) x
made_from-at f n [] i y x made at = absurd (none-some x at)
made_from-at f n (z ∷ zs) zero y x made at =
    sym (same_Some (f n z) y made) ∙ ap₂ f (sym (add-zero n)) (same_Some z x at)
made_from-at f n (z ∷ zs) (suc i) y x made at =
    let index : suc n + i ≡ n + suc i = omega arith in
    made_from-at f (suc n) zs i y x made at ∙ ap (λ k. f k x) index

-- what h finds again of what f made
pub found_again : {X Y : Type 0} (h : Y → Option X) (f : X → Y) (xs : List X)
    → All (λ x. h (f x) ≡ Some x) xs → filter_map h (map f xs) ≡ xs
found_again h f [] all = refl
found_again h f (x ∷ xs) all =
    let here = All-head (λ z. h (f z) ≡ Some z) x xs all in
    rw here (ap (λ ys. x ∷ ys) (found_again h f xs (All-tail (λ z. h (f z) ≡ Some z) x xs all)))

all_found : {X Y : Type 0} (h : Y → Option X) (f : X → Y) (xs : List X) → All (λ x. h (f x) ≡ Some x) xs
    → All (λ y. IsTrue (is_some (h y))) (map f xs)
all_found h f xs all = All-map (λ y. IsTrue (is_some (h y))) f xs (λ k d within. ap is_some (all k d within))

-- ---- a part is found by its name and its ends

position-first : {X : Type 0} (p : X → Bool) (xs : List X) (i : ℕ) (d : X) → i < length xs → p (get_or xs i d) ≡ true
    → ((k : ℕ) → k < i → p (get_or xs k d) ≡ false) → position p xs ≡ Some i
position-first p xs i d within here earlier =
    let first = position_or_len_is p xs i d (omega (arith, within)) earlier (λ w. here) in
    let inside : nat_lt i (length xs) ≡ true = grind (arith, nat_tests, within) in
    ap (λ n. cond (nat_lt n (length xs)) (Some n) None) first ∙ rw inside refl

not_before_itself : (s : Source) → comes_before_source s s → ⊥
not_before_itself (of_stream i) before = omega (arith, before)
not_before_itself (of_utility i) before = omega (arith, before)

-- sources of one name are one
one_source : (c : Case) → IsComplete c → (s t : Source) → IsSourceOf c s → IsSourceOf c t
    → source_name c s ≡ source_name c t → s ≡ t
one_source c complete s t is_s is_t same =
    let distinct = (StaysValid-IsComplete c complete).distinct_names in
    same_Some s t (sym (source_named-source_name c distinct s is_s) ∙ ap (source_named c) same ∙ source_named-source_name c distinct t is_t)

-- a part before another has another name, or other ends
other_span : (c : Case) → IsComplete c → (q p : Part) → IsSourceOf c q.source → IsSourceOf c p.source → comes_before q p
    → is_span_of c (span_of c p) q ≡ true → ⊥
other_span c complete q p is_q is_p before same =
    let is = named_as c (span_of c p) q same in
    let high = ap (λ (s : Span). s.high) is in
    let low = ap (λ (s : Span). s.low) is in
    let source = one_source c complete p.source q.source is_p is_q (ap (λ (s : Span). s.name) is) in
    ⊎_elim (λ above. omega (arith, ints, above, high)) (λ further. ⊎_elim (λ lower. omega (arith, ints, low))
    (λ level. not_before_itself p.source (subst (λ s. comes_before_source s p.source) (sym source) level.2)) further) before

module _ (c : Case) (complete : IsComplete c) (grid : List ℤ) (side : Side) (parts : List Part) (are : AreParts c.streams c.utilities grid side parts) where
  own_index : (i : ℕ) → i < length parts → index_of c parts (named_at c parts i) ≡ Some i
  own_index i within =
      let p = get_or parts i blank in
      let sources = sources_of_parts c grid side parts are in
      let others : (k : ℕ) → k < i → is_span_of c (span_of c p) (get_or parts k blank) ≡ false =
      λ k early. false_from_ne_true _ (other_span c complete (get_or parts k blank) p (sources k blank (omega (arith, early, within))) (sources i blank within)
      (are.ordered k i blank early within)) in
      rw (slice_get-get_or parts i blank within) (position-first (is_span_of c (span_of c p)) parts i blank within (names_itself c p) others)

  -- ---- the prices

  own_prices : (prices : List ℤ) → ArePricesOf c parts (made_from (priced_by c prices) 0 parts)
  own_prices prices = record {
    one_each = length-made_from (priced_by c prices) 0 parts;
    named = λ i g p made at. ap (λ (h : Priced). h.part) (made_from-at (priced_by c prices) 0 parts i g p made at);
  }

-- the prices come back
prices_from : (c : Case) (g : ℕ → ℤ) (n : ℕ) (parts : List Part) (prices : List ℤ) → length prices ≡ length parts
    → ((i : ℕ) → i < length prices → g (n + i) ≡ get_or prices i (pos 0))
    → prices_of (made_from (λ i p. record { part = span_of c p; price = g i }) n parts) ≡ prices
prices_from c g n [] [] same each = refl
prices_from c g n [] (y ∷ ys) same each = absurd (omega (arith, same))
prices_from c g n (p ∷ ps) [] same each = absurd (omega (arith, same))
prices_from c g n (p ∷ ps) (y ∷ ys) same each =
    let first = ap g (sym (add-zero n)) ∙ each 0 (omega arith) in
    ap₂ ◌∷◌ first (prices_from c g (suc n) ps ys (omega (arith, same))
    (λ i within. let index : suc n + i ≡ n + suc i = omega arith in ap g index ∙ each (suc i) (omega (arith, within))))

own_amounts : (c : Case) (parts : List Part) (prices : List ℤ) → length prices ≡ length parts
    → prices_of (made_from (priced_by c prices) 0 parts) ≡ prices
own_amounts c parts prices same =
    prices_from c (price_at prices) 0 parts prices same (λ i within. ap (price_at prices) (zero-add i))

-- ---- the report of a heat flow

module _ (c : Case) (complete : IsComplete c) (hot cold : List Part) (are : AreCaseParts c hot cold) where
  own_transfer : (t : Transfer) → t.hot < length hot → t.cold < length cold
      → transfer_of c hot cold (move_of c hot cold t) ≡ Some t
  own_transfer t is_hot is_cold =
      let h = own_index c complete are.grid Hot hot are.hot_parts t.hot is_hot in
      let k = own_index c complete are.grid Cold cold are.cold_parts t.cold is_cold in
      rw (h, k) refl

  flow_passes : (ts : List Transfer) (y z : List ℤ) (cost : ℤ)
      → IsCertified (reach_between c hot cold) hot cold ts y z cost
      → IsAnswerOver c hot cold (flow_report c hot cold ts y z cost) Yes
  flow_passes ts y z cost h =
      let uses = made_from (use_of hot cold ts) 0 c.utilities in
      let gives = made_from (priced_by c y) 0 hot in
      let takes = made_from (priced_by c z) 0 cold in
      let moves = map (move_of c hot cold) ts in
      let found : All (λ t. transfer_of c hot cold (move_of c hot cold t) ≡ Some t) ts =
      λ k d within. own_transfer (get_or ts k d) (h.flow.hot_indexes k d within) (h.flow.cold_indexes k d within) in
      let are_uses : AreUsesOf c hot cold ts uses = record {
        one_each = length-made_from (use_of hot cold ts) 0 c.utilities;
        is =
            λ i used u made at. made_from-at (use_of hot cold ts) 0 c.utilities i used u made at
            ∙ ap (λ n. use_of hot cold ts n u) (zero-add i);
      } in
      flow_first c hot cold cost uses moves gives takes ts y z Yes (sym (found_again (transfer_of c hot cold) (move_of c hot cold) ts found))
      (sym (own_amounts c hot y h.hot_prices.one_each)) (sym (own_amounts c cold z h.cold_prices.one_each))
      (own_prices c complete are.grid Hot hot are.hot_parts y, own_prices c complete are.grid Cold cold are.cold_parts z)
      (all_found (transfer_of c hot cold) (move_of c hot cold) ts found) (h.flow, (h.costs, (are_uses, (h.supporting, (h.value, tt)))))

  -- ---- the report of a cut

  own_side : (kind : CutKind) (i : ℕ) → i < length (own_parts c hot cold kind)
      → index_of c (own_parts c hot cold kind) (named_at c (own_parts c hot cold kind) i) ≡ Some i
  own_side Demand i within = own_index c complete are.grid Cold cold are.cold_parts i within
  own_side Supply i within = own_index c complete are.grid Hot hot are.hot_parts i within

  cut_passes : (cut : Cut) → IsCutOf (reach_between c hot cold) hot cold cut
      → IsAnswerOver c hot cold (cut_report c hot cold cut) Yes
  cut_passes cut h =
      let own = own_parts c hot cold cut.kind in
      let found : All (λ i. index_of c own (named_at c own i) ≡ Some i) cut.parts =
      λ k d within. own_side cut.kind (get_or cut.parts k d) (needing-within own (get_or cut.parts k d) (h.parts.needing k d within)) in
      let again = found_again (index_of c own) (named_at c own) cut.parts found in (
        all_found (index_of c own) (named_at c own) cut.parts found,
        (
          subst (λ (members : List ℕ). IsCutOf (reach_between c hot cold) hot cold
              (record { kind = cut.kind; parts = members; need = cut.need; offer = cut.offer })) (sym again) h,
          tt,
        ),
      )

pub certified-pass : CertifiedFlowsPass
certified-pass c hot cold ts y z cost complete are certified =
    HoldsOfParts-some c (λ h k. IsAnswerOver c h k (flow_report c hot cold ts y z cost) Yes) hot cold are
    (flow_passes c complete hot cold are ts y z cost certified)

pub cuts-pass : CutsPass
cuts-pass c hot cold cut complete are is =
    HoldsOfParts-some c (λ h k. IsAnswerOver c h k (cut_report c hot cold cut) Yes) hot cold are (cut_passes c complete hot cold are cut is)
