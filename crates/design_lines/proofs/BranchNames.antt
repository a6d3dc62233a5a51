-- The names of the branches of a drawn network: those of the streams, and dotted ones that differ by their numbers.
use Rattle.design_lines.proofs.Words.{All-map, AllPairs-map, Branch, Case, Course, IsDottedName, IsName, IsTrue, Stream, all_branches, branch_name}
use Rattle.design_lines.proofs.Words.{course_branches, enumerate_from, is_ascii_alphanumeric, made_branches, map-append, map-enumerate_from_item}
use Rattle.design_lines.proofs.Words.{map-map, numbered, own_branch, own_branches, range_with_len, range_with_len-append}
use Rattle.std.proofs.Common.{All, AllPairs, List, [], ap, arith, get_or, map, refl, subst, sym, ℕ, ◌++◌, ◌+◌, ◌<◌, ◌^◌, ◌∙◌, ◌∷◌, ◌≡◌, ◌≢◌}
use Rattle.std.proofs.lemmas.List.FromFn.{get_or-range_with_len, length-range_with_len}
use Rattle.design_lines.proofs.NameLemmas.{IsDottedName-branch_name, number_of_decimal}

-- ---- the names of the streams

pub own-names : (case : Case)
    → map (λ (b : Branch). b.name) (own_branches case) ≡ map (λ (s : Stream). s.name) case.streams
unfolding own_branches
own-names case =
    map-map (λ (b : Branch). b.name) own_branch (enumerate_from 0 case.streams)
    ∙ sym (map-map (λ (s : Stream). s.name) (λ (p : ℕ × Stream). p.1) (enumerate_from 0 case.streams))
    ∙ ap (map (λ (s : Stream). s.name)) (map-enumerate_from_item 0 case.streams)

-- ---- the names that a design makes

numbered-names : (first stream count : ℕ)
    → map (λ (b : Branch). b.name) (numbered first stream count) ≡ map branch_name (range_with_len first count)
numbered-names first stream count =
    let make : ℕ → Branch = λ k. record { name = branch_name k; stream = stream } in
    map-map (λ (b : Branch). b.name) make (range_with_len first count)

pub made-names : (first stream : ℕ) (courses : List Course)
    → map (λ (b : Branch). b.name) (made_branches first stream courses)
    ≡ map branch_name (range_with_len first (all_branches courses))
made-names first stream [] = refl
made-names first stream (course ∷ courses) =
    let name : Branch → List ℕ = λ b. b.name in
    let k = course_branches course in
    let later = made_branches (first + k) (stream + 1) courses in
    let here = range_with_len first k in
    map-append name (numbered first stream k) later ∙ ap (λ ns. ns ++ map name later) (numbered-names first stream k)
    ∙ ap (λ ns. map branch_name here ++ ns) (made-names (first + k) (stream + 1) courses)
    ∙ sym (map-append branch_name here (range_with_len (first + k) (all_branches courses)))
    ∙ ap (map branch_name) (range_with_len-append first k (all_branches courses))

pub made-distinct : (first count : ℕ) → first + count < 2 ^ 33
    → AllPairs (λ a b. a ≢ b) (map branch_name (range_with_len first count))
made-distinct first count small =
    AllPairs-map (λ a b. a ≢ b) branch_name (range_with_len first count) (λ i j d before within.
    let inside : j < count = omega (arith, within, length-range_with_len first count) in
    let one = get_or-range_with_len first count i d (omega (arith, before, inside)) in
    let other = get_or-range_with_len first count j d inside in
    λ same. let equal =
    number_of_decimal (get_or (range_with_len first count) i d) (get_or (range_with_len first count) j d)
    (omega (arith, one, before, inside, small)) (omega (arith, other, inside, small)) (cc same) in
    absurd (omega (arith, equal, one, other, before)))

pub made-dotted : (first count : ℕ) → first + count < 2 ^ 33
    → All IsDottedName (map branch_name (range_with_len first count))
made-dotted first count small =
    All-map IsDottedName branch_name (range_with_len first count) (λ k d within.
    let inside : k < count = omega (arith, within, length-range_with_len first count) in
    IsDottedName-branch_name (get_or (range_with_len first count) k d)
    (omega (arith, get_or-range_with_len first count k d inside, inside, small)))

-- ---- names and dotted names

dot_no_letter : (b : ℕ) → b ≡ 46 → IsTrue (is_ascii_alphanumeric b) → ⊥
dot_no_letter b dot letter = cc (subst (λ n. IsTrue (is_ascii_alphanumeric n)) dot letter)

pub undotted : (a b : List ℕ) → IsName a → IsDottedName b → a ≢ b
undotted [] b name dotted = absurd name
undotted (x ∷ a) [] name dotted = absurd dotted
undotted (x ∷ a) (y ∷ b) name dotted =
    λ same.
    let first : x ≡ y = cc same in
    dot_no_letter x (first ∙ dotted.0) name.0
