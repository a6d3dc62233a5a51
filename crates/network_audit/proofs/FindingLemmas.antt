-- A network has one finding at most, and none beside a whole valuation whose items are passed.
use Rattle.network_audit.proofs.ItemLemmas.{found-front}
use Rattle.network_audit.proofs.WalkLemmas.{items_before-same, used_early}
use Rattle.network_audit.proofs.Words.{Case, Finding, HasNoFinding, HasShape, IsFinding, IsValuation, IsVerdict}
use Rattle.network_audit.proofs.Words.{IsWholeValuation, Item, Network, Valuation, Verdict, agree-take, cases_lt}
use Rattle.network_audit.proofs.Words.{enumerate_from, enumerate_from-append, first_finding, flat_map-append, front}
use Rattle.network_audit.proofs.Words.{items, items_before, items_behind, made_before, one_valuation, statement_items}
use Rattle.network_audit.proofs.Words.{valuation_front, whole}
use Rattle.std.proofs.Common.{List, Some, [], ap, append-nil, arith, drop, flat_map, if◌then◌else◌, inl, inr, length}
use Rattle.std.proofs.Common.{ne_eqb, subst, suc, sym, take, take-append-drop, take-take, zero, ℕ, ◌++◌, ◌+◌, ◌-◌}
use Rattle.std.proofs.Common.{◌<◌, ◌==◌, ◌∙◌, ◌≡◌, ◌≤◌, ◌⊎◌}
use Rattle.network_audit.specs.declared.findings.Finding.TheVariants as finding
use Rattle.network_audit.specs.declared.verdict.Verdict.TheVariants as verdict

module _ (case : Case) (network : Network) where
  -- the items of more lines go on from those of the first ones
  items_before-front : (values : Valuation) (n k : ℕ)
      → (more : List Item) × (items_before case network values (n + k) ≡ items_before case network values n ++ more)
  unfolding items_before
  items_before-front values n k =
      let f = statement_items case network values in
      let some = take (n + k) network.lines in
      let rest = enumerate_from (0 + length (take n some)) (drop n some) in (
        flat_map f rest,
        ap (λ ls. flat_map f (enumerate_from 0 ls)) (sym (take-append-drop n some))
            ∙ ap (flat_map f) (enumerate_from-append 0 (take n some) (drop n some))
            ∙ flat_map-append f (enumerate_from 0 (take n some)) rest
            ∙ ap (λ ls. flat_map f (enumerate_from 0 ls) ++ flat_map f rest) (take-take n (n + k) network.lines (omega arith)),
      )

  -- before the last line only statements have items
  items-inside : (values : Valuation) (n : ℕ) → n < length network.lines
      → items case network values n ≡ items_before case network values (n + 1)
  unfolding items
  items-inside values n inside =
      ap (λ b. items_before case network values (n + 1) ++ (if b then items_behind case network values else []))
      (ne_eqb n (length network.lines) (λ same. omega (arith, same, inside)))
      ∙ append-nil (items_before case network values (n + 1))

  -- what a valuation of the first lines finds, one of more lines finds
  pub found-later : (n k : ℕ) (values other : Valuation) (found : Finding) → HasShape case network
      → IsValuation case network n values → IsValuation case network (n + k) other
      → first_finding (items case network values n) ≡ Some found
      → first_finding (items case network other (n + k)) ≡ Some found
  unfolding items
  found-later n zero values other found shape one two some = let at : n + 0 ≡ n = omega arith in
      let same : values ≡ other
      = one_valuation case network n values other shape one (subst (λ m. IsValuation case network m other) at two) in
      ap (λ m. first_finding (items case network other m)) at
      ∙ ap (λ vs. first_finding (items case network vs n)) (sym same) ∙ some
  found-later n (suc j) values other found shape one two some =
      let first : values ≡ front case network n other
      = one_valuation case network n values (front case network n other) shape one
      (valuation_front case network n (suc j) other shape two) in
      let same : items_before case network other (n + 1) ≡ items_before case network values (n + 1) =
      items_before-same case network other (front case network n other) (n + 1) (made_before case network n) shape
      (used_early case network n shape) (agree-take other (made_before case network n)) ∙ ap (λ vs. items_before case network vs (n + 1)) (sym first) in
      let (more, parts) = items_before-front other (n + 1) (suc j) in
      let next : n + suc j + 1 ≡ n + 1 + suc j = omega arith in
      let here : first_finding (items_before case network other (n + 1)) ≡ Some found =
      ap first_finding (same ∙ sym (items-inside values n (omega arith))) ∙ some in
      let longer : first_finding (items_before case network other (n + suc j + 1)) ≡ Some found =
      ap (λ m. first_finding (items_before case network other m)) next ∙ ap first_finding parts
      ∙ found-front (items_before case network other (n + 1)) more found here in
      found-front (items_before case network other (n + suc j + 1)) (if n + suc j == length network.lines then items_behind case network other else []) found
      longer

  -- the same, by the numbers of lines
  found-at : (n m : ℕ) (values other : Valuation) (found : Finding) → HasShape case network → n ≤ m
      → IsValuation case network n values
      → IsValuation case network m other → first_finding (items case network values n) ≡ Some found
      → first_finding (items case network other m) ≡ Some found
  found-at n m values other found shape early one two some =
      let at : n + (m - n) ≡ m = omega (arith, early) in
      subst (λ k. first_finding (items case network other k) ≡ Some found) at
      (found-later n (m - n) values other found shape one (subst (λ k. IsValuation case network k other) (sym at) two) some)

  -- what is found, a whole valuation finds
  pub found-whole : (values : Valuation) (found : Finding) → HasShape case network → IsFinding case network found
      → IsWholeValuation case network values
      → first_finding (items case network values (length network.lines)) ≡ Some found
  found-whole values found shape is whole =
      found-at is.n (length network.lines) is.values values found shape is.valuation.within is.valuation whole is.first

  pub one_finding : (found other : Finding) → HasShape case network → IsFinding case network found
      → IsFinding case network other → found ≡ other
  one_finding found other shape one two = by (cases_lt one.n two.n)
    where
      by : (one.n < two.n) ⊎ (two.n ≤ one.n) → found ≡ other
      by (inl before) = let later = found-at one.n two.n one.values two.values found shape
          (omega (arith, before)) one.valuation two.valuation one.first in cc (sym later, two.first)
      by (inr behind) =
          cc (sym (found-at two.n one.n two.values one.values other shape behind two.valuation one.valuation two.first), one.first)

  pub finding_or_none : (found : Finding) → HasShape case network → IsFinding case network found
      → HasNoFinding case network → ⊥
  finding_or_none found shape is none =
      let some = found-whole none.values found shape is none.valuation in
      cc (sym some, none.none)

  -- there is one verdict at most
  pub one_verdict : (one two : Verdict) → HasShape case network → IsVerdict case network one
      → IsVerdict case network two → one ≡ two
  one_verdict (verdict.Accepted balance) (verdict.Accepted other) shape one two =
      ap verdict.Accepted (one.1 ∙ sym two.1)
  one_verdict (verdict.Accepted balance) (verdict.Rejected place reason) shape one two =
      absurd (finding_or_none (finding.Failed place reason) shape two one.0)
  one_verdict (verdict.Accepted balance) (verdict.TooFine place step) shape one two =
      absurd (finding_or_none (finding.TooFine place step) shape two one.0)
  one_verdict (verdict.Rejected place reason) (verdict.Accepted other) shape one two =
      absurd (finding_or_none (finding.Failed place reason) shape one two.0)
  one_verdict (verdict.TooFine place step) (verdict.Accepted other) shape one two =
      absurd (finding_or_none (finding.TooFine place step) shape one two.0)
  one_verdict (verdict.Rejected place reason) (verdict.Rejected at because) shape one two =
      let same = one_finding (finding.Failed place reason) (finding.Failed at because) shape one two in
      let p : place ≡ at = cc same in
      let r : reason ≡ because = cc same in λ i. verdict.Rejected (p i) (r i)
  one_verdict (verdict.Rejected place reason) (verdict.TooFine at step) shape one two =
      cc (one_finding (finding.Failed place reason) (finding.TooFine at step) shape one two)
  one_verdict (verdict.TooFine place step) (verdict.Rejected at because) shape one two =
      cc (one_finding (finding.TooFine place step) (finding.Failed at because) shape one two)
  one_verdict (verdict.TooFine place step) (verdict.TooFine at number) shape one two =
      let same = one_finding (finding.TooFine place step) (finding.TooFine at number) shape one two in
      let p : place ≡ at = cc same in
      let s : step ≡ number = cc same in λ i. verdict.TooFine (p i) (s i)
