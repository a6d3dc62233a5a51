-- The statements of a text, one line after the other.
use Rattle.statements.proofs.Words.{Statement, fields_of, is_statement, lines, nil_from_length, not-false, not-true, statements_of}
use Rattle.std.proofs.Common.{List, [], ap, cond, eqb-true, false, filter, length, map, not, refl, sym, true, ℕ, ◌==◌, ◌∙◌, ◌∷◌, ◌≡◌}

next-line : (text line rest : List ℕ) → lines text ≡ line ∷ lines rest
    → statements_of text ≡ cond (is_statement (fields_of line)) (fields_of line ∷ statements_of rest) (statements_of rest)
unfolding statements_of
next-line text line rest cut = ap (λ l. filter is_statement (map fields_of l)) cut

-- the next line is passed over
pub passed_over : (text line rest : List ℕ) {s : Statement} → lines text ≡ line ∷ lines rest
    → s ≡ fields_of line → not (is_statement s) ≡ true
    → statements_of text ≡ statements_of rest
passed_over text line rest {s} cut is over =
    let none = not-true (is_statement (fields_of line)) (ap (λ f. not (is_statement f)) (sym is) ∙ over) in
    next-line text line rest cut ∙ rw none refl

-- or a statement
pub statement_next : (text line rest : List ℕ) {s : Statement} → lines text ≡ line ∷ lines rest
    → s ≡ fields_of line → not (is_statement s) ≡ false
    → statements_of text ≡ s ∷ statements_of rest
statement_next text line rest {s} cut is counts =
    let some = not-false (is_statement (fields_of line)) (ap (λ f. not (is_statement f)) (sym is) ∙ counts) in
    next-line text line rest cut ∙ rw some (ap (λ f. f ∷ statements_of rest) (sym is))

-- no line is left
pub nothing_left : (text : List ℕ) → true ≡ (length text == 0) → statements_of text ≡ []
unfolding statements_of
nothing_left text e = rw (nil_from_length text (eqb-true (length text) 0 (sym e))) refl
