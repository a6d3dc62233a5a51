use Rattle.reports.proofs.Words.{SourceNames, StudyAnswer, StudyItem, either_empty_from_Zip, item_lines, iter_rest, zip_first, zip_second}
use Rattle.std.proofs.Common.{List, [], ap, append-nil, inl, inr, refl, string_bytes, sym, ◌++◌, ◌∙◌, ◌∷◌, ◌≡◌, ◌⊎◌}
use Rattle.reports.proofs.prices.item_lines.Goals as goal

-- where items or answers are used up, no line is left
none_left : (names : SourceNames) (items : List StudyItem) (answers : List StudyAnswer)
    → (items ≡ []) ⊎ (answers ≡ []) → item_lines names items answers ≡ []
none_left names [] answers end = refl
none_left names (item ∷ items) [] end = refl
none_left names (item ∷ items) (answer ∷ answers) (inl none) = cc
none_left names (item ∷ items) (answer ∷ answers) (inr none) = cc

pub returns : goal.returns
returns c =
    let text = string_bytes c.loop-item.text in
    let left = none_left c.args.names.now (iter_rest (zip_first c.loop-item.item-iterator)) (iter_rest (zip_second c.loop-item.item-iterator))
    (either_empty_from_Zip c.loop-item.item-iterator c.next.new.self c.next.result c.in-None.is c.next.ensures.steps) in
    sym (append-nil text) ∙ ap (λ rest. text ++ rest) (sym left) ∙ c.loop-item.invariant
