-- The network that led courses draw has the shape of a network: each part of the shape, by a walk over its lines.
use Rattle.design_lines.proofs.Words.{All-append, All-enumerated, All-front, All-map, All-nil, All-weaker, AllPairs-append, AllPairs-front}
use Rattle.design_lines.proofs.Words.{AreMadeBeforeUse, AreMadeInOrder, AreNamed, ArePassedOnce, AreStages, AreUsedOnce, Branch, Case, Course}
use Rattle.design_lines.proofs.Words.{Exchanger, HasPositiveSize, HasShape, IsAnyName, IsComplete, IsDottedName, IsExchanger, IsName, IsOfOneStream}
use Rattle.design_lines.proofs.Words.{IsShareOf, IsSourceOf, IsSourceOf-side, Joins, Line, Network, StaysValid-IsComplete, Stream, Utility, all_at}
use Rattle.design_lines.proofs.Words.{all_branches, branch_name, count-passages, count_by, course_branches, courses_lines, declared_line, drawn}
use Rattle.design_lines.proofs.Words.{enumerate_from, flat_map, flat_map-append, is_pass_of, made_branches, made_by, makes, many_own, map-append}
use Rattle.design_lines.proofs.Words.{names_of, own_branch, own_branches, range_with_len, range_with_len-append, slice_get-get_or, slice_get_within}
use Rattle.design_lines.proofs.Words.{stream_at, sum_by-append, take-append_seam, turns, used_by, uses}
use Rattle.std.proofs.Common.{All, AllPairs, List, Some, [], ap, arith, cond, get_or, inl, inr, is_some, length, length-append, map, refl, slice_get}
use Rattle.std.proofs.Common.{subst, sym, take, ℕ, ◌*◌, ◌++◌, ◌+◌, ◌-◌, ◌<◌, ◌^◌, ◌∙◌, ◌∷◌, ◌≡◌, ◌≢◌, ◌≤◌}
use Rattle.std.proofs.lemmas.List.FromFn.{length-range_with_len}
use Rattle.design_lines.proofs.BranchStreams.{AreOfStreams, are_of_streams, stream_at-own}
use Rattle.design_lines.proofs.Declared.{ArePassedWhenDeclared-drawn, exchangers_of-drawn}
use Rattle.design_lines.proofs.Walks.{walk_courses}
use Rattle.design_lines.specs.Led.{AreLed}
use Rattle.design_lines.proofs.MadeBranches.{made-courses, made-declared, length-made_branches, AreKnown, known_at, known_keep, early_follow}
use Rattle.design_lines.proofs.MadeBranches.{known-declared}
use Rattle.design_lines.proofs.UsedOnce.{times, times-append, times-flat_map, once-range, differ, used-courses, used-declared}
use Rattle.design_lines.proofs.BranchNames.{own-names, made-names, made-distinct, made-dotted, undotted}
use Rattle.design_lines.proofs.LinesOfCourses.{IsRightLine, AreRight, right_keep, counts, IsCounted, counted_keep, counted-declared, turns-there}

own-within : (case : Case) → All (λ b. b.stream < length case.streams) (own_branches case)
unfolding own_branches
own-within case =
    let own_within = All-enumerated (λ (p : ℕ × Stream). (own_branch p).stream < length case.streams) case.streams
    (λ i s at. slice_get_within case.streams i s at) in
    All-map (λ (b : Branch). b.stream < length case.streams) own_branch (enumerate_from 0 case.streams) own_within

made-within : (n first stream : ℕ) (courses : List Course) → stream + length courses ≤ n
    → All (λ b. b.stream < n) (made_branches first stream courses)
made-within n first stream [] few = All-nil (λ (b : Branch). b.stream < n)
made-within n first stream (course ∷ courses) few =
    let k = course_branches course in
    let make : ℕ → Branch = λ j. record { name = branch_name j; stream = stream } in
    let less : stream < n = omega (arith, few) in
    let this_within = All-map (λ (b : Branch). b.stream < n) make (range_with_len first k) (λ j d within. less) in
    let others_within = made-within n (first + k) (stream + 1) courses (omega (arith, few)) in
    All-append (λ (b : Branch). b.stream < n) _ _ this_within others_within

-- ---- a line makes two branches at most

two_at_most : (l : Line) → length (makes l) ≤ 2
two_at_most l = grind arith

few_made : (lines : List Line) → length (flat_map makes lines) ≤ 2 * length lines
few_made [] = omega arith
few_made (l ∷ lines) = omega (arith, length-append (makes l) (flat_map makes lines), two_at_most l, few_made lines)

-- ---- the sides of exchangers

side-within : (case : Case) (e : Exchanger) (stream : ℕ) → IsExchanger case e → Joins e stream
    → stream < length case.streams
side-within case e stream is (inl hot) = subst (IsSourceOf case) hot (IsSourceOf-side case e.hot (ap is_some is.hot))
side-within case e stream is (inr cold) =
    subst (IsSourceOf case) cold (IsSourceOf-side case e.cold (ap is_some is.cold))

-- ---- the drawn network

module _ (case : Case) (exchangers : List Exchanger) (courses : List Course) (complete : IsComplete case)
    (led : AreLed case exchangers courses) where
  abbrev network : Network
  network = drawn case exchangers courses

  -- the lines of the courses
  abbrev later : List Line
  later = courses_lines (length case.streams) 0 courses

  used : All AreStages courses
  used k d within = (led.each k (get_or courses k d) (slice_get-get_or courses k d within)).stages

  all_made : made_by network.lines ≡ range_with_len (length case.streams) (all_branches courses)
  unfolding made_by
  all_made =
      flat_map-append makes (map declared_line exchangers) later
      ∙ ap (λ ns. ns ++ flat_map makes later) (made-declared exchangers)
      ∙ made-courses (length case.streams) 0 courses used

  few_branches : all_branches courses < 2 ^ 33
  unfolding made_by
  few_branches =
      omega (
        arith,
        ap length all_made,
        length-range_with_len (length case.streams) (all_branches courses),
        few_made network.lines,
        led.few,
      )

  made_once : AreMadeInOrder case network
  made_once =
      let many : all_branches courses ≡ length network.branches - length case.streams =
      omega (
        arith,
        length-append (own_branches case) (made_branches 0 0 courses),
        many_own case,
        length-made_branches 0 0 courses,
      ) in
      record {
        own =
            ap (λ n. take n network.branches) (sym (many_own case))
            ∙ take-append_seam (own_branches case) (made_branches 0 0 courses);
        made = all_made ∙ ap (range_with_len (length case.streams)) many;
      }

  made_first : AreMadeBeforeUse case network
  unfolding made_by
  made_first index l at =
      let n = length case.streams in
      let follow = early_follow n 0 courses (omega (arith, led.all)) in
      let known = walk_courses (λ n w lines. AreKnown n lines) (λ stream n b. b < n) (λ stream s. Unit {0}) (λ b. 0)
      (λ stream s. 0) (λ shares. 0 < length shares) known_keep n 0 courses used
      (λ i course at k d within j e inside. tt) follow tt in
      known_at n (map declared_line exchangers ++ later) index l (known-declared n exchangers later known) at

  used_once : AreUsedOnce network
  unfolding used_by
  used_once =
      let n = length case.streams in
      let m = all_branches courses in
      differ (flat_map uses (map declared_line exchangers ++ later)) (λ b.
      let none_before : 0 + n ≡ n = omega arith in
      omega (
        arith,
        times-flat_map b uses (map declared_line exchangers) later,
        ap (times b) (used-declared exchangers),
        used-courses b n 0 courses used,
        ap (λ k. times b (range_with_len 0 k)) led.all,
        ap (times b) (made-courses n 0 courses used),
        ap (times b) (range_with_len-append 0 n m),
        ap (λ k. times b (range_with_len k m)) none_before,
        times-append b (range_with_len 0 n) (range_with_len (0 + n) m),
        once-range b 0 (n + m),
      ))

  named : AreNamed network
  unfolding names_of
  named =
      let valid = StaysValid-IsComplete case complete in
      let own = map (λ (s : Stream). s.name) case.streams in
      let utilities = map (λ (u : Utility). u.name) case.utilities in
      let made = map branch_name (range_with_len 0 (all_branches courses)) in
      let all : map (λ (b : Branch). b.name) network.branches ≡ own ++ made =
      map-append (λ (b : Branch). b.name) (own_branches case) (made_branches 0 0 courses)
      ∙ ap (λ ns. ns ++ map (λ (b : Branch). b.name) (made_branches 0 0 courses)) (own-names case)
      ∙ ap (λ ns. own ++ ns) (made-names 0 0 courses) in
      let own_are = All-front IsName own utilities valid.names in
      let made_are = made-dotted 0 (all_branches courses) (omega (arith, few_branches)) in
      let apart : All (λ a. All (λ b. a ≢ b) made) own
      = λ i d within j e inside. undotted (get_or own i d) (get_or made j e) (own_are i d within)
      (made_are j e inside) in
      record {
        names =
            let own_any = All-weaker IsName IsAnyName (λ n is. inl is) own own_are in
            let made_any = All-weaker IsDottedName IsAnyName (λ n is. inr is) made made_are in
            subst (All IsAnyName) (sym all) (All-append IsAnyName _ _ own_any made_any);
        distinct = subst (AllPairs (λ a b. a ≢ b)) (sym all)
            (AllPairs-append (λ a b. a ≢ b) own made (AllPairs-front (λ a b. a ≢ b) own utilities valid.distinct_names)
            (made-distinct 0 (all_branches courses) (omega (arith, few_branches))) apart);
      }

  of_streams : AreOfStreams network.branches (length case.streams) 0 courses
  of_streams =
      are_of_streams network.branches (own_branches case) (length case.streams) 0 0 courses refl (many_own case)
      (λ i within.
      let own = stream_at-own case (made_branches 0 0 courses) i (omega (arith, within, led.all)) in
      subst (λ n. stream_at network.branches n ≡ n) (omega arith) own)

  right : All (IsRightLine network.branches exchangers) later
  right =
      walk_courses (AreRight network.branches exchangers) (λ stream n b. stream_at network.branches b ≡ stream)
      (IsShareOf exchangers) (λ b. 0) (λ stream s. 0) (λ shares. 0 < length shares)
      (right_keep network.branches exchangers) (length case.streams) 0 courses used
      (λ i course at.
      subst (λ n. All (λ shares. All (IsShareOf exchangers n) shares) course) (omega arith)
      (led.each i course at).shares)
      of_streams (All-nil _)

  counted_lines : (number stream : ℕ) (course : Course) → slice_get courses stream ≡ Some course
      → count_by (is_pass_of network.branches number stream) network.lines ≡ turns number course
  counted_lines number stream course at =
      let branches = network.branches in
      let walked = walk_courses (IsCounted branches number stream) (λ k n b. stream_at branches b ≡ k) (λ k s. Unit {0})
      (λ b. 0) (counts branches number stream) (λ shares. 0 < length shares) (counted_keep branches number stream)
      (length case.streams) 0 courses used (λ i c here k d within j e inside. tt) of_streams refl in
      let both =
      sum_by-append (λ l. cond (is_pass_of branches number stream l) 1 0) (map declared_line exchangers) later in
      let there = turns-there branches number stream 0 stream courses course (omega arith) at in
      omega (arith, both, counted-declared branches number stream exchangers, walked, there)

  passed_once : ArePassedOnce network
  passed_once number stream e at joins =
      let here : slice_get exchangers number ≡ Some e
      = ap (λ es. slice_get es number) (sym (exchangers_of-drawn case exchangers courses)) ∙ at in
      let side = side-within case e stream (all_at (IsExchanger case) exchangers number e led.declared here) joins in
      let course = get_or courses stream [] in
      let of_stream = slice_get-get_or courses stream [] (omega (arith, side, led.all)) in
      count-passages network.branches number stream network.lines ∙ counted_lines number stream course of_stream
      ∙ led.once number stream e course here joins of_stream

  pub HasShape-drawn : HasShape case network
  HasShape-drawn =
      let known = sym (exchangers_of-drawn case exchangers courses) in
      record {
        few = led.few;
        made_once = made_once;
        made_first = made_first;
        used_once = used_once;
        named = named;
        streams = All-append (λ (b : Branch). b.stream < length case.streams) _ _ (own-within case)
            (made-within (length case.streams) 0 0 courses (omega (arith, led.all)));
        one_stream =
            let declared_of_one =
            All-map (IsOfOneStream network.branches) declared_line exchangers (λ k d within. tt) in
            All-append (IsOfOneStream network.branches) _ _ declared_of_one
            (λ k d within. (right k d within).one_stream);
        sizes = All-append HasPositiveSize _ _ (All-map HasPositiveSize declared_line exchangers (λ k d within. tt))
            (λ k d within. (right k d within).size);
        exchangers = record {
          each = subst (All (IsExchanger case)) known led.declared;
          distinct = subst (AllPairs (λ a b. a.name ≢ b.name)) known led.distinct;
        };
        declared_first =
            ArePassedWhenDeclared-drawn case exchangers courses (λ k d within. (right k d within).declared);
        passed_once = passed_once;
      }
