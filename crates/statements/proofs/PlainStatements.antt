-- Statements of plain fields, as lines of text, are read as themselves.
use Rattle.statements.proofs.LineCuts.{before_more}
use Rattle.statements.proofs.Words.{All-append, All-cons, All-from_recursion, All-head, All-nil, All-tail, All-weaker, AllByRecursion, AllPass-from_list_all}
use Rattle.statements.proofs.Words.{IsName, IsPlainField, IsPlainStatement, IsVisible, Statement, fields_of, fields_text, is_blank, is_empty, is_name_byte}
use Rattle.statements.proofs.Words.{is_statement, lines, lines_of_parts, list_all, nat_tests, slice_split, statement_text, statements_of, strip_carriage_return}
use Rattle.std.proofs.Common.{All, Bool, List, [], ap, append-nil, append_assoc, arith, false, filter, flat_map, get_or, length, map, nat_lt, not, refl, sym}
use Rattle.std.proofs.Common.{true, ℕ, ◌++◌, ◌-◌, ◌<◌, ◌==◌, ◌∙◌, ◌∷◌, ◌≡◌, ◌≤◌}
use Rattle.std.proofs.lemmas.List.Splits.{length-slice_split, slice_split_at, slice_split_none}

-- a word without blanks and marks
pub word_plain : (word : List ℕ) → 0 < length word → list_all (nat_lt 32) word ≡ true → IsPlainField word
word_plain word some passes = record {
  some = some;
  visible =
      All-weaker (λ b. nat_lt 32 b ≡ true) IsVisible (λ b test. grind (arith, nat_tests, test)) word (AllPass-from_list_all (nat_lt 32) word passes);
}

-- a name
name_byte_visible : (b : ℕ) → is_name_byte b ≡ true → IsVisible b
name_byte_visible b is = grind (arith, nat_tests)

pub name_plain : (name : List ℕ) → IsName name → IsPlainField name
name_plain [] is = absurd is
name_plain (b ∷ bs) is =
    let first : is_name_byte b ≡ true = rw is.0 refl in record {
      some = omega arith;
      visible =
          All-cons IsVisible b bs (name_byte_visible b first) (All-weaker (λ (c : ℕ). is_name_byte c ≡ true) IsVisible name_byte_visible bs is.1);
    }

pub plain_statement : (word : List ℕ) (fields : Statement) → IsPlainField word
    → (get_or word 0 0 == 35) ≡ false → AllByRecursion IsPlainField fields
    → IsPlainStatement (word ∷ fields)
plain_statement word fields first counts further =
    record { some = omega arith; each = All-cons IsPlainField word fields first (All-from_recursion IsPlainField fields further); counts = counts }

-- ---- fields

-- the fields behind the first one, without the line's end
blanks_text : List (List ℕ) → List ℕ
blanks_text [] = []
blanks_text (f ∷ fs) = 32 ∷ (f ++ blanks_text fs)

fields_end : (fs : Statement) (rest : List ℕ) → fields_text fs ++ rest ≡ blanks_text fs ++ 10 ∷ rest
unfolding fields_text blanks_text
fields_end [] rest = refl
fields_end (f ∷ fs) rest = ap (λ t. 32 ∷ t)
    (append_assoc f (fields_text fs) rest ∙ ap (λ t. f ++ t) (fields_end fs rest) ∙ sym (append_assoc f (blanks_text fs) (10 ∷ rest)))

-- a byte that is visible is no blank
not_blank : (b : ℕ) → IsVisible b → is_blank b ≡ false
not_blank b visible = grind (arith, nat_tests)

none_blank : (f : List ℕ) → IsPlainField f → All (λ b. is_blank b ≡ false) f
none_blank f plain = All-weaker IsVisible (λ b. is_blank b ≡ false) not_blank f plain.visible

split_fields : (f : List ℕ) (fs : Statement) → All IsPlainField (f ∷ fs)
    → slice_split is_blank (f ++ blanks_text fs) ≡ f ∷ fs
unfolding blanks_text
split_fields f [] plain =
    let here = none_blank f (All-head IsPlainField f [] plain) in
    ap (slice_split is_blank) (append-nil f) ∙ slice_split_none is_blank f here
split_fields f (g ∷ gs) plain = let here = none_blank f (All-head IsPlainField f (g ∷ gs) plain) in
    slice_split_at is_blank f 32 (g ++ blanks_text gs) here refl
    ∙ ap (λ parts. f ∷ parts) (split_fields g gs (All-tail IsPlainField f (g ∷ gs) plain))

-- a filter that each item passes keeps all
keep_all : {X : Type 0} (p : X → Bool) (xs : List X) → All (λ x. p x ≡ true) xs → filter p xs ≡ xs
keep_all p [] pass = refl
keep_all p (x ∷ xs) pass =
    let here = All-head (λ y. p y ≡ true) x xs pass in
    rw here (ap (λ ys. x ∷ ys) (keep_all p xs (All-tail (λ y. p y ≡ true) x xs pass)))

not_empty : (f : List ℕ) → IsPlainField f → not (is_empty f) ≡ true
not_empty f plain = let some = plain.some in grind (arith, nat_tests)

-- the fields of a line come back from it
fields_back : (f : List ℕ) (fs : Statement) → All IsPlainField (f ∷ fs) → fields_of (f ++ blanks_text fs) ≡ f ∷ fs
unfolding fields_of
fields_back f fs plain = ap (filter (λ part. not (is_empty part))) (split_fields f fs plain)
    ∙ keep_all (λ part. not (is_empty part)) (f ∷ fs) (All-weaker IsPlainField (λ part. not (is_empty part) ≡ true) not_empty (f ∷ fs) plain)

-- ---- lines

-- a byte of a line
abbrev IsOfLine : ℕ → Type 0
IsOfLine b = 32 ≤ b

of_line : (f : List ℕ) → IsPlainField f → All IsOfLine f
of_line f plain = All-weaker IsVisible IsOfLine (λ b visible. omega (arith, visible)) f plain.visible

blanks_line : (fs : Statement) → All IsPlainField fs → All IsOfLine (blanks_text fs)
unfolding blanks_text
blanks_line [] plain = All-nil IsOfLine
blanks_line (f ∷ fs) plain = let here = of_line f (All-head IsPlainField f fs plain) in
    All-cons IsOfLine 32 (f ++ blanks_text fs) (omega arith) (All-append IsOfLine f (blanks_text fs) here (blanks_line fs (All-tail IsPlainField f fs plain)))

no_end : (b : ℕ) → IsOfLine b → (b == 10) ≡ false
no_end b of = grind (arith, nat_tests)

last_byte : (line : List ℕ) → All IsOfLine line → (get_or line (length line - 1) 0 == 13) ≡ false
last_byte [] of = refl
last_byte (b ∷ bs) of =
    let here = of (length (b ∷ bs) - 1) 0 (omega arith) in
    grind (arith, nat_tests)

no_return : (line : List ℕ) → All IsOfLine line → strip_carriage_return line ≡ line
no_return line of = rw (last_byte line of) refl

first_line : (line rest : List ℕ) → All IsOfLine line → lines (line ++ 10 ∷ rest) ≡ line ∷ lines rest
first_line line rest of =
    let parts = slice_split (λ b. b == 10) rest in
    let some : 0 < length parts = omega (arith, length-slice_split (λ b. b == 10) rest) in
    ap lines_of_parts (slice_split_at (λ b. b == 10) line 10 rest (All-weaker IsOfLine (λ b. (b == 10) ≡ false) no_end line of) refl)
    ∙ before_more line parts some ∙ ap (λ l. l ∷ lines_of_parts parts) (no_return line of)

-- ---- statements

counts_statement : (f : List ℕ) (fs : Statement) → IsPlainStatement (f ∷ fs) → is_statement (f ∷ fs) ≡ true
unfolding is_statement
counts_statement f fs plain = let counts = plain.counts in grind (arith, nat_tests)

-- a line comes before those of the rest
one_line : (f : List ℕ) (fs : Statement) (rest : List ℕ) → All IsPlainField (f ∷ fs)
    → map fields_of (lines (statement_text (f ∷ fs) ++ rest)) ≡ (f ∷ fs) ∷ map fields_of (lines rest)
one_line f fs rest plain =
    let text : statement_text (f ∷ fs) ++ rest ≡ (f ++ blanks_text fs) ++ 10 ∷ rest
    = append_assoc f (fields_text fs) rest
    ∙ ap (λ t. f ++ t) (fields_end fs rest) ∙ sym (append_assoc f (blanks_text fs) (10 ∷ rest)) in
    let line = All-append IsOfLine f (blanks_text fs) (of_line f (All-head IsPlainField f fs plain)) (blanks_line fs (All-tail IsPlainField f fs plain)) in
    ap (map fields_of) (ap lines text ∙ first_line (f ++ blanks_text fs) rest line)
    ∙ ap (λ s. s ∷ map fields_of (lines rest)) (fields_back f fs plain)

one_more : (f : List ℕ) (fs : Statement) (rest : List ℕ) → IsPlainStatement (f ∷ fs)
    → statements_of (statement_text (f ∷ fs) ++ rest) ≡ (f ∷ fs) ∷ statements_of rest
unfolding statements_of
one_more f fs rest plain =
    ap (filter is_statement) (one_line f fs rest plain.each) ∙ rw (counts_statement f fs plain) refl

-- a line whose first field begins with `#` is passed over
pub comment-back : (f : List ℕ) (fs : Statement) (rest : List ℕ) → All IsPlainField (f ∷ fs)
    → is_statement (f ∷ fs) ≡ false
    → statements_of (statement_text (f ∷ fs) ++ rest) ≡ statements_of rest
unfolding statements_of
comment-back f fs rest plain comment = ap (filter is_statement) (one_line f fs rest plain) ∙ rw comment refl

-- the text of plain statements is read as those statements
pub statements-back : (ss : List Statement) → All IsPlainStatement ss → statements_of (flat_map statement_text ss) ≡ ss
unfolding statements_of
statements-back [] plain = refl
statements-back ([] ∷ ss) plain =
    let here = All-head IsPlainStatement [] ss plain in
    absurd (omega (arith, here.some))
statements-back ((f ∷ fs) ∷ ss) plain =
    one_more f fs (flat_map statement_text ss) (All-head IsPlainStatement (f ∷ fs) ss plain)
    ∙ ap (λ rest. (f ∷ fs) ∷ rest) (statements-back ss (All-tail IsPlainStatement (f ∷ fs) ss plain))
