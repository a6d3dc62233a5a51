-- A drawn network declares the exchangers that it is drawn from, before each line that is no declaration.
use Rattle.design_lines.proofs.Walks.{Simple, walk_simply}
use Rattle.design_lines.proofs.Words.{ArePassedWhenDeclared, Branch, Case, Course, Exchanger, Line, PassesDeclared, all_at, append-nil, courses_lines}
use Rattle.design_lines.proofs.Words.{declared_line, drawn, exchanger_of, exchangers_of, filter_map, filter_map-append}
use Rattle.std.proofs.Common.{All, List, Some, [], ap, append_assoc, length, map, refl, slice_get, subst, suc, sym, take, zero, ℕ, ◌++◌, ◌∙◌, ◌∷◌, ◌≡◌}
use Rattle.networks.specs.declared.network.Line.TheVariants as line

-- ---- the lines of courses declare nothing

courses_none : (next stream : ℕ) (courses : List Course)
    → filter_map exchanger_of (courses_lines next stream courses) ≡ []
courses_none next stream courses =
    let none : Simple (λ n lines. filter_map exchanger_of lines ≡ []) (λ shares. Unit {0}) = record {
      split = λ n from cp lines more. more;
      pass = λ n from exchanger lines more. more;
      mix = λ n first second lines more. more;
      end = λ n from lines more. more;
      none = λ is n lines more. more;
    } in
    walk_simply (λ n lines. filter_map exchanger_of lines ≡ []) (λ shares. Unit {0}) none next stream courses
    (λ i d within k e inside. tt) refl

-- ---- the drawn network

declared_all : (exchangers : List Exchanger) → filter_map exchanger_of (map declared_line exchangers) ≡ exchangers
declared_all [] = refl
declared_all (e ∷ exchangers) = ap (λ (es : List Exchanger). e ∷ es) (declared_all exchangers)

pub exchangers_of-drawn : (case : Case) (exchangers : List Exchanger) (courses : List Course)
    → exchangers_of (drawn case exchangers courses).lines ≡ exchangers
unfolding exchangers_of
exchangers_of-drawn case exchangers courses =
    let declared = map declared_line exchangers in
    let no_others = courses_none (length case.streams) 0 courses in
    filter_map-append exchanger_of declared (courses_lines (length case.streams) 0 courses)
    ∙ ap (λ (es : List Exchanger). filter_map exchanger_of declared ++ es) no_others
    ∙ append-nil (filter_map exchanger_of declared) ∙ declared_all exchangers

-- a line behind declarations: what was declared before it is what stood before them, and they
declared_then : (branches : List Branch) (before exchangers : List Exchanger) (lines : List Line)
    → filter_map exchanger_of lines ≡ []
    → All (PassesDeclared branches (before ++ exchangers)) lines → (index : ℕ) (l : Line)
    → slice_get (map declared_line exchangers ++ lines) index ≡ Some l
    → PassesDeclared branches (before ++ filter_map exchanger_of (take index (map declared_line exchangers ++ lines))) l
declared_then branches before [] lines none each index l at =
    let nothing : filter_map exchanger_of (take index lines) ≡ [] = none_before lines index none in
    let passes = all_at (PassesDeclared branches (before ++ [])) lines index l each at in
    subst (λ es. PassesDeclared branches (before ++ es) l) (sym nothing) passes
  where
    none_before : (ls : List Line) (i : ℕ) → filter_map exchanger_of ls ≡ [] → filter_map exchanger_of (take i ls) ≡ []
    none_before ls zero is = refl
    none_before [] (suc i) is = refl
    none_before (line.Exchanger name hot cold duty ∷ ls) (suc i) is = cc is
    none_before (line.Split from first cp second ∷ ls) (suc i) is = none_before ls i is
    none_before (line.Pass from exchanger to ∷ ls) (suc i) is = none_before ls i is
    none_before (line.Mix first second to ∷ ls) (suc i) is = none_before ls i is
    none_before (line.End branch ∷ ls) (suc i) is = none_before ls i is
declared_then branches before (e ∷ exchangers) lines none each zero l at =
    let same : declared_line e ≡ l = cc at in subst (PassesDeclared branches (before ++ [])) same tt
declared_then branches before (e ∷ exchangers) lines none each (suc index) l at =
    let joined = append_assoc before (e ∷ []) exchangers in
    let declared_later = declared_then branches (before ++ e ∷ []) exchangers lines none
    (subst (λ es. All (PassesDeclared branches es) lines) (sym joined) each) index l at in
    subst (λ es. PassesDeclared branches es l)
    (append_assoc before (e ∷ []) (filter_map exchanger_of (take index (map declared_line exchangers ++ lines))))
    declared_later

pub ArePassedWhenDeclared-drawn : (case : Case) (exchangers : List Exchanger) (courses : List Course)
    → All (PassesDeclared (drawn case exchangers courses).branches exchangers)
    (courses_lines (length case.streams) 0 courses)
    → ArePassedWhenDeclared (drawn case exchangers courses)
unfolding exchangers_of
ArePassedWhenDeclared-drawn case exchangers courses each index l at =
    declared_then (drawn case exchangers courses).branches [] exchangers (courses_lines (length case.streams) 0 courses)
    (courses_none (length case.streams) 0 courses) each index l at
