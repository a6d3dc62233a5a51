-- Readers of networks pass over the line of the balance above a design.
use Rattle.fractions.specs.Rationals.{IsWithinLimits, Rational, fraction_text}
use Rattle.reports.proofs.Words.{All-cons, All-nil, Balance, Case, HasFractions, IsPlainField, Network, Statement, balance_comment, codes, comment-back}
use Rattle.reports.proofs.Words.{design_text, fields_text, fraction_plain, is_statement, list_all, statement_text, statements_of, text_of, word_plain}
use Rattle.std.proofs.Common.{All, List, [], ap, arith, false, length, nat_lt, refl, true, ℕ, ◌++◌, ◌<◌, ◌∙◌, ◌∷◌, ◌≡◌}

-- the fields behind `#`
abbrev balance_fields : Balance → Statement
balance_fields b =
    codes "hot" ∷ fraction_text b.hot ∷ codes "cold" ∷ fraction_text b.cold ∷ codes "excess" ∷ fraction_text b.excess ∷ codes "cost" ∷ fraction_text b.cost ∷ []

comment-fields : (b : Balance) (rest : List ℕ)
    → balance_comment b ++ rest ≡ statement_text (codes "#" ∷ balance_fields b) ++ rest
unfolding fields_text
comment-fields b rest = refl

-- a number behind its word
numbered : (word : List ℕ) → 0 < length word → list_all (nat_lt 32) word ≡ true → (a : Rational)
    → IsWithinLimits a → (fields : Statement)
    → All IsPlainField fields → All IsPlainField (word ∷ fraction_text a ∷ fields)
numbered word some passes a within fields plain =
    All-cons IsPlainField word (fraction_text a ∷ fields) (word_plain word some passes)
    (All-cons IsPlainField (fraction_text a) fields (fraction_plain a within) plain)

fields_plain : (b : Balance) → HasFractions b → All IsPlainField (codes "#" ∷ balance_fields b)
fields_plain b within =
    let cost : Statement = codes "cost" ∷ fraction_text b.cost ∷ [] in
    let excess : Statement = codes "excess" ∷ fraction_text b.excess ∷ cost in
    let cold : Statement = codes "cold" ∷ fraction_text b.cold ∷ excess in
    All-cons IsPlainField (codes "#") (balance_fields b) (word_plain (codes "#") (omega arith) refl)
    (numbered (codes "hot") (omega arith) refl b.hot within.hot cold
    (numbered (codes "cold") (omega arith) refl b.cold within.cold excess
    (numbered (codes "excess") (omega arith) refl b.excess within.excess cost
    (numbered (codes "cost") (omega arith) refl b.cost within.cost [] (All-nil IsPlainField)))))

comment-counts_not : (b : Balance) → is_statement (codes "#" ∷ balance_fields b) ≡ false
unfolding is_statement
comment-counts_not b = refl

-- the statements of a design are those of its network
pub design-statements : (case : Case) (network : Network) (b : Balance) → HasFractions b
    → statements_of (design_text case network b) ≡ statements_of (text_of case network)
design-statements case network b within =
    ap statements_of (comment-fields b (text_of case network))
    ∙ comment-back (codes "#") (balance_fields b) (text_of case network) (fields_plain b within) (comment-counts_not b)
