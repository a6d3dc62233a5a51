-- The items behind one entry more.
use Rattle.std.proofs.Common.{FitsSigned, [], ap, rules, sym, w64, ◌++◌, ◌∙◌, ◌∷◌, ◌≡◌}
use Rattle.std.proofs.lemmas.Int.{to_z-of_z}
use Rattle.std.proofs.lemmas.List.Elements.{All-rest}
use Rattle.study_text.specs.Entries.{IsKnown}
use Rattle.study_text.specs.Given.{items_of, prices_by}
use Rattle.study_text.specs.Study.{case_prices}
use Rattle.study_text.specs.declared.entry.Entry.{Entry}
use Rattle.study_text.proofs.Accepted.{item-more}
use Rattle.study_text.proofs.given.Given.study.Goals as goal
use Rattle.study_text.specs.declared.entry.Entry.TheVariants as entry
use Rattle.study_text.specs.declared.study.StudyItem.TheVariants as item

pub loop-entry-preserved-in_ok-push-in-Scenario : goal.loop-entry-preserved-in_ok-push-in-Scenario
loop-entry-preserved-in_ok-push-in-Scenario c =
    let case = c.args.case.now in
    let behind = c.in-Some.behind.now in
    let e : Entry = entry.Scenario c.in-Scenario.name in
    let left_is : c.loop-entry.left.now ≡ e ∷ behind
    = c.in-Some.ensures.cases.0 ∙ ap (λ x. x ∷ behind) c.in-Scenario.is in
    let asked = item.Scenario c.in-Scenario.name (prices_by (case_prices case) behind) in
    let new_is : c.push.new.self ≡ c.loop-entry.items ++ asked ∷ [] = c.in_ok-push-in-Scenario.ensures.ok
    ∙ ap (λ ps. c.loop-entry.items ++ item.Scenario c.in-Scenario.name ps ∷ []) c.in_ok-prices-in-Scenario.ensures in
    let same = sym (ap (λ l. c.loop-entry.items ++ items_of case l) left_is) ∙ c.loop-entry.invariant.same in
    record {
      same =
          item-more c.loop-entry.items c.push.new.self (items_of case behind) (items_of case c.args.self.now) asked new_is same;
      known = All-rest (IsKnown case) e behind c.loop-entry.left.now left_is c.loop-entry.invariant.known;
    }

pub loop-entry-preserved-in-Price : goal.loop-entry-preserved-in-Price
loop-entry-preserved-in-Price c =
    let case = c.args.case.now in
    let behind = c.in-Some.behind.now in
    let e : Entry = entry.Price c.in-Price.utility c.in-Price.price in
    let left_is : c.loop-entry.left.now ≡ e ∷ behind = c.in-Some.ensures.cases.0 ∙ ap (λ x. x ∷ behind) c.in-Price.is in
    record {
      same = sym (ap (λ l. c.loop-entry.items ++ items_of case l) left_is) ∙ c.loop-entry.invariant.same;
      known = All-rest (IsKnown case) e behind c.loop-entry.left.now left_is c.loop-entry.invariant.known;
    }

pub loop-entry-preserved : goal.loop-entry-preserved
loop-entry-preserved c =
    let case = c.args.case.now in
    let behind = c.in-Some.behind.now in
    let e : Entry = entry.Span c.in-Span.utility c.in-Span.from c.in-Span.to in
    let left_is : c.loop-entry.left.now ≡ e ∷ behind = c.in-Some.ensures.cases.0 ∙ ap (λ x. x ∷ behind) c.in-Span.is in
    let asked = item.Span c.in-Span.utility c.in-Span.from c.in-Span.to in
    let first : FitsSigned w64 c.in-Span.from = search rules in
    let last : FitsSigned w64 c.in-Span.to = search rules in
    let new_is : c.push-in-Span.new.self ≡ c.loop-entry.items ++ asked ∷ [] = c.in_ok-push-in-Span.ensures.ok
    ∙ (λ k. c.loop-entry.items ++ item.Span c.in-Span.utility (to_z-of_z w64 c.in-Span.from first k) (to_z-of_z w64 c.in-Span.to last k) ∷ []) in
    let same = sym (ap (λ l. c.loop-entry.items ++ items_of case l) left_is) ∙ c.loop-entry.invariant.same in
    record {
      same =
          item-more c.loop-entry.items c.push-in-Span.new.self (items_of case behind) (items_of case c.args.self.now) asked new_is same;
      known = All-rest (IsKnown case) e behind c.loop-entry.left.now left_is c.loop-entry.invariant.known;
    }
