-- The text of a network, line by line.
use Rattle.network_text.proofs.Words.{All-head, All-map, All-tail, AllPairs-take, Branch, Case, Exchanger, HasShape, IsAnyName, IsLineOf, IsName}
use Rattle.network_text.proofs.Words.{IsName-source_name, IsPositive, IsSourceOf, LONGEST_LINE, Line, Network, Rational, Source, Statement, StaysValid}
use Rattle.network_text.proofs.Words.{branch_name, cons_option, exchanger_name, exchanger_names, exchanger_of, exchangers_of, fields_text, fraction_text}
use Rattle.network_text.proofs.Words.{get_or-map, get_or_default, ints, length-decimal-le_wide, length-map, line_at, line_of, names_of, no_place_of}
use Rattle.network_text.proofs.Words.{own_exchanger, place_of, signed_decimal, source_name, statement_of, statement_text, sum_by-cons, text_of}
use Rattle.std.proofs.Common.{All, AllPairs, Bool, List, None, Option, Some, [], ap, arith, bytes_eq, codes, decimal, false, filter_map, flat_map, get_or}
use Rattle.std.proofs.Common.{get_or-take, if◌then◌else◌, inl, inr, length, length-append, length-take-le, map, negsuc, option_map, pos, position, refl, subst}
use Rattle.std.proofs.Common.{sum_by, sym, take, take_all, true, unsigned_abs, ℕ, ℤ, ◌*◌, ◌++◌, ◌+◌, ◌<◌, ◌==◌, ◌^◌, ◌∙◌, ◌∷◌, ◌≡◌, ◌≢◌, ◌≤◌}
use Rattle.networks.specs.declared.network.Line.TheVariants as line

-- the text of the first lines
abbrev pub text_before : Case → Network → ℕ → List ℕ
text_before case network index = flat_map statement_text (map (statement_of case network) (take index network.lines))

pub text_all : (case : Case) (network : Network) (i : ℕ) → length network.lines ≤ i
    → text_before case network i ≡ text_of case network
unfolding text_of
text_all case network i past =
    ap (λ ls. flat_map statement_text (map (statement_of case network) ls)) (take_all i network.lines past)

-- What is named is found by its name, among the first of some names that differ.

pub found_in_front : (names : List (List ℕ)) (m i : ℕ) → AllPairs (λ a b. a ≢ b) names → i < m → m ≤ length names
    → position (bytes_eq (get_or names i [])) (take m names) ≡ Some i
found_in_front names m i distinct early within =
    let front = AllPairs-take (λ (a b : List ℕ). a ≢ b) m names distinct in
    let short = length-take-le m names within in
    ap (λ name. position (bytes_eq name) (take m names)) (sym (get_or-take m names i [] early))
    ∙ place_of (take m names) i front (omega (arith, short, early))

pub none_in_front : (names : List (List ℕ)) (m i : ℕ) → AllPairs (λ a b. a ≢ b) names → m ≤ i → i < length names
    → position (bytes_eq (get_or names i [])) (take m names) ≡ None
none_in_front names m i distinct late within =
    no_place_of (take m names) (get_or names i []) (λ k d inside. let short = length-take-le m names (omega (arith, late, within)) in
    let early : k < m = omega (arith, inside, short) in
    λ same. distinct k i [] (omega (arith, early, late)) within
    (get_or_default names k [] d (omega (arith, early, late, within)) ∙ sym (get_or-take m names k d early) ∙ same))

-- ---- the names of branches and of exchangers

pub many_names : (network : Network) → length (names_of network.branches) ≡ length network.branches
unfolding names_of
many_names network = length-map network.branches (λ (b : Branch). b.name)

pub branch_name-at : (network : Network) (number : ℕ) (b : Branch) → number < length network.branches
    → b ≡ get_or network.branches number b
    → b.name ≡ branch_name network number
unfolding branch_name names_of
branch_name-at network number b within here =
    ap (λ (x : Branch). x.name) here ∙ sym (get_or-map (λ (x : Branch). x.name) network.branches number b [] within)

pub many_exchangers : (network : Network) → length (exchanger_names network) ≡ length (exchangers_of network.lines)
unfolding exchanger_names
many_exchangers network = length-map (exchangers_of network.lines) (λ (e : Exchanger). e.name)

-- they are those that the lines declare
declared : (lines : List Line)
    → filter_map (λ l. option_map (λ e. e.name) (exchanger_of l)) lines
    ≡ map (λ e. e.name) (filter_map exchanger_of lines)
declared [] = refl
declared (l ∷ lines) = by (exchanger_of l) (declared lines)
  where
    by : (o : Option Exchanger)
        → filter_map (λ l. option_map (λ e. e.name) (exchanger_of l)) lines
        ≡ map (λ e. e.name) (filter_map exchanger_of lines)
        → cons_option (option_map (λ e. e.name) o) (filter_map (λ l. option_map (λ e. e.name) (exchanger_of l)) lines)
        ≡ map (λ e. e.name)
        (cons_option o (filter_map exchanger_of lines))
    by None rest = rest
    by (Some e) rest = ap (λ names. e.name ∷ names) rest

pub exchanger_names-declared : (network : Network)
    → filter_map (λ l. option_map (λ e. e.name) (exchanger_of l)) network.lines ≡ exchanger_names network
unfolding exchanger_names exchangers_of
exchanger_names-declared network = declared network.lines

-- in a network of the shape they are names
pub branch_named : {case : Case} {network : Network} → HasShape case network → (b : ℕ)
    → b < length network.branches → IsAnyName (branch_name network b)
unfolding branch_name
branch_named {network = network} shape b within = shape.named.names b [] (omega (arith, within, many_names network))

pub exchanger_named : {case : Case} {network : Network} → HasShape case network → (number : ℕ)
    → number < length (exchangers_of network.lines)
    → IsName (exchanger_name network number)
unfolding exchanger_names
exchanger_named {network = network} shape number within =
    let names = All-map IsName (λ (e : Exchanger). e.name) (exchangers_of network.lines) (λ k d inside. (shape.exchangers.each k d inside).name) in
    names number [] (omega (arith, within, many_exchangers network))

-- How long the fields and the lines of a printed network are.

-- ---- fields

name_short : (name : List ℕ) → IsName name → length name ≤ 16
name_short [] is = absurd is
name_short (b ∷ bs) is = omega (arith, is.2)

any_name_short : (name : List ℕ) → IsAnyName name → length name ≤ 17
any_name_short name (inl is) = omega (arith, name_short name is)
any_name_short [] (inr is) = absurd is
any_name_short (b ∷ bs) (inr is) = omega (arith, name_short bs is.1)

number_short : (z : ℤ) → (most : ℕ) → (n : ℕ) → z ≡ pos n → 0 < most → n < 10 ^ most → n < 10 ^ 64
    → length (signed_decimal z) ≤ most
number_short z most n is some small bound =
    subst (λ x. length (signed_decimal x) ≤ most) (sym is) (length-decimal-le_wide most n some small bound)

-- a numerator has at most 23 digits, and a denominator at most 15
fraction_short : (a : Rational) → IsPositive a → length (fraction_text a) ≤ 39
fraction_short a positive = by a.num refl
  where
    by : (z : ℤ) → a.num ≡ z → length (fraction_text a) ≤ 39
    by (negsuc n) e = absurd (omega (arith, ints, positive.above, e))
    by (pos n) e = or (a.den == 1)
      where
        den : length (decimal a.den) ≤ 15
        den =
            length-decimal-le_wide 15 a.den (omega arith) (omega (arith, positive.within.den)) (omega (arith, positive.within.den))

        num : length (signed_decimal a.num) ≤ 23
        num =
            let small : n ≤ 2 ^ 76 = subst (λ x. unsigned_abs x ≤ 2 ^ 76) e positive.within.num in
            number_short a.num 23 n e (omega arith) (omega (arith, small)) (omega (arith, small))

        or : (b : Bool) → length (if b then signed_decimal a.num else (signed_decimal a.num ++ 47 ∷ decimal a.den)) ≤ 39
        or true = omega (arith, num)
        or false = omega (arith, num, den, length-append (signed_decimal a.num) (47 ∷ decimal a.den))

-- ---- lines

-- each field behind the first one has a space before it, and the line has an end
fields_length : (fs : Statement) → length (fields_text fs) ≡ sum_by (λ f. length f + 1) fs + 1
unfolding fields_text
fields_length [] = refl
fields_length (f ∷ fs) =
    omega (arith, length-append f (fields_text fs), fields_length fs, sum_by-cons (λ (g : List ℕ). length g + 1) f fs)

statement_length : (f : List ℕ) (fs : Statement)
    → length (statement_text (f ∷ fs)) ≡ length f + (sum_by (λ g. length g + 1) fs + 1)
statement_length f fs = length-append f (fields_text fs) ∙ ap (λ n. length f + n) (fields_length fs)

-- a text of short lines is short
lines_short : (most : ℕ) (ss : List Statement) → All (λ s. length (statement_text s) ≤ most) ss
    → length (flat_map statement_text ss) ≤ most * length ss
lines_short most [] short = omega arith
lines_short most (s ∷ ss) short =
    let IsShort : Statement → Type 0 = λ t. length (statement_text t) ≤ most in
    omega (arith, length-append (statement_text s) (flat_map statement_text ss), All-head IsShort s ss short, lines_short most ss (All-tail IsShort s ss short))

module _ {case : Case} {network : Network} (valid : StaysValid case) (shape : HasShape case network) where
  branch_short : (b : ℕ) → b < length network.branches → length (branch_name network b) ≤ 17
  branch_short b within = any_name_short (branch_name network b) (branch_named shape b within)

  exchanger_short : (number : ℕ) → number < length (exchangers_of network.lines)
      → length (exchanger_name network number) ≤ 16
  exchanger_short number within = name_short (exchanger_name network number) (exchanger_named shape number within)

  source_short : (s : Source) → IsSourceOf case s → length (source_name case s) ≤ 16
  source_short s is = name_short (source_name case s) (IsName-source_name case valid.names s is)

  line_short : {index : ℕ} (l : Line) → IsLineOf case network index l
      → length (statement_text (statement_of case network l)) ≤ LONGEST_LINE
  line_short {index} (line.Exchanger name hot cold duty) of =
      let e = own_exchanger shape index name hot cold duty of.at.here in omega (
        arith,
        statement_length (codes "exchanger") (name ∷ source_name case hot ∷ source_name case cold ∷ fraction_text duty ∷ []),
        name_short name e.name,
        source_short hot of.known.0,
        source_short cold of.known.1,
        fraction_short duty e.duty,
      )
  line_short (line.Split from first size second) of = omega (
    arith,
    statement_length (codes "split") (branch_name network from ∷ branch_name network first ∷ fraction_text size ∷ branch_name network second ∷ []),
    branch_short from of.known.0,
    branch_short first of.known.1,
    fraction_short size of.size,
    branch_short second of.known.2,
  )
  line_short (line.Pass from exchanger to) of = omega (
    arith,
    statement_length (codes "pass") (branch_name network from ∷ exchanger_name network exchanger ∷ branch_name network to ∷ []),
    branch_short from of.known.0,
    exchanger_short exchanger of.known.1,
    branch_short to of.known.2,
  )
  line_short (line.Mix first second to) of = omega (
    arith,
    statement_length (codes "mix") (branch_name network first ∷ branch_name network second ∷ branch_name network to ∷ []),
    branch_short first of.known.0,
    branch_short second of.known.1,
    branch_short to of.known.2,
  )
  line_short (line.End branch) of =
      omega (arith, statement_length (codes "end") (branch_name network branch ∷ []), branch_short branch of.known)

  pub text-short : length (text_of case network) ≤ LONGEST_LINE * length network.lines
  unfolding text_of
  text-short =
      let each = All-map (λ s. length (statement_text s) ≤ LONGEST_LINE) (statement_of case network) network.lines (λ k d within.
      line_short (get_or network.lines k d) (line_of shape k (get_or network.lines k d) (line_at network.lines k d within).here)) in
      omega (arith, lines_short LONGEST_LINE (map (statement_of case network) network.lines) each, length-map network.lines (statement_of case network))
