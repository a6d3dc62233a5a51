-- What the shape says of a network, for crates above: its lines, the numbers and streams of its branches, and its passes.
use Rattle.networks.proofs.Words.{Branch, Case, IsSourceOf-side, Line, Network, Passage, Rational, Source, Stream, and_parts, cons_option, count_by-cons}
use Rattle.networks.proofs.Words.{drop-cons, enumerate_from, filter_map-append, flat_map-append, get_or_append_left, get_or_at, get_or_default}
use Rattle.networks.proofs.Words.{get_or_from_slice_get, length-map, nat_tests, slice_get-get_or, slice_get_read, slice_get_within, take-suc}
use Rattle.networks.proofs.Counts.{IsOnly, found_once}
use Rattle.networks.proofs.Lists.{All-flat_map, all_at, slice_get-take}
use Rattle.networks.specs.Lines.{Exchanger, exchanger_of, exchangers_of, is_pass_of, made_by, makes, own_branch, own_branches, pass_of, passage_of, passages_of}
use Rattle.networks.specs.Lines.{same_passage, stream_at, used_by, uses}
use Rattle.networks.specs.Shape.{AreMadeBeforeUse, AreMadeInOrder, HasPositiveSize, HasShape, IsExchanger, IsOfOneStream, Joins, NamesKnown, PassesDeclared}
use Rattle.networks.specs.Shape.{made_before}
use Rattle.std.proofs.Common.{All, List, Some, [], ap, arith, cond, count_by, drop, filter_map, flat_map, get_or, get_or-append-add, is_some, length}
use Rattle.std.proofs.Common.{length-append, length-take, map, option_map, refl, slice_get, suc, sym, take, take-append-drop, take-take, true, unwrap_or, zero}
use Rattle.std.proofs.Common.{ℕ, ◌++◌, ◌+◌, ◌-◌, ◌<◌, ◌==◌, ◌∙◌, ◌∷◌, ◌≡◌, ◌≤◌}
use Rattle.std.proofs.lemmas.List.FromFn.{get_or-range_with_len, length-enumerate_from, length-range_with_len}
use Rattle.networks.specs.declared.network.Line.TheVariants as line

-- ---- a line, the lines before it and those behind it

pub record StandsAt (lines : List Line) (index : ℕ) (l : Line) : Type 0 where
  pub here : slice_get lines index ≡ Some l
  pub within : index < length lines
  pub all : lines ≡ take index lines ++ l ∷ drop (suc index) lines
  pub more : take (suc index) lines ≡ take index lines ++ l ∷ []

pub stands_at : (lines : List Line) (index : ℕ) (l : Line) → slice_get lines index ≡ Some l → StandsAt lines index l
stands_at lines index l at =
    let within = slice_get_within lines index l at in
    let here = get_or_from_slice_get lines index l l at in
    record {
      here = at;
      within = within;
      all =
          sym (take-append-drop index lines)
          ∙ ap (λ ls. take index lines ++ ls) (drop-cons lines index l within ∙ ap (λ x. x ∷ drop (suc index) lines) here);
      more = take-suc lines index l within ∙ ap (λ x. take index lines ++ x ∷ []) here;
    }

-- the line at an index that is within
pub line_at : (lines : List Line) (index : ℕ) (d : Line) → index < length lines
    → StandsAt lines index (get_or lines index d)
line_at lines index d within = stands_at lines index (get_or lines index d) (slice_get-get_or lines index d within)

-- what lines make, use, declare and pass: those before a line, the line, and those behind it
pub made_parts : {lines : List Line} {index : ℕ} {l : Line} → StandsAt lines index l
    → made_by lines ≡ made_by (take index lines) ++ (makes l ++ made_by (drop (suc index) lines))
unfolding made_by
made_parts {lines} {index} {l} at =
    ap (flat_map makes) at.all ∙ flat_map-append makes (take index lines) (l ∷ drop (suc index) lines)

pub used_parts : {lines : List Line} {index : ℕ} {l : Line} → StandsAt lines index l
    → used_by lines ≡ used_by (take index lines) ++ (uses l ++ used_by (drop (suc index) lines))
unfolding used_by
used_parts {lines} {index} {l} at =
    ap (flat_map uses) at.all ∙ flat_map-append uses (take index lines) (l ∷ drop (suc index) lines)

pub declared_parts : {lines : List Line} {index : ℕ} {l : Line} → StandsAt lines index l
    → exchangers_of lines ≡ exchangers_of (take index lines) ++ exchangers_of (l ∷ drop (suc index) lines)
unfolding exchangers_of
declared_parts {lines} {index} {l} at =
    ap (filter_map exchanger_of) at.all ∙ filter_map-append exchanger_of (take index lines) (l ∷ drop (suc index) lines)

pub passed_parts : (branches : List Branch) {lines : List Line} {index : ℕ} {l : Line} → StandsAt lines index l
    → passages_of branches lines
    ≡ passages_of branches (take index lines) ++ passages_of branches (l ∷ drop (suc index) lines)
unfolding passages_of
passed_parts branches {lines} {index} {l} at = ap (filter_map (passage_of branches)) at.all
    ∙ filter_map-append (passage_of branches) (take index lines) (l ∷ drop (suc index) lines)

-- the exchanger that a line declares has the number of those before it
pub exchanger_at : (lines : List Line) (index : ℕ) (name : List ℕ) (hot cold : Source) (duty : Rational)
    → slice_get lines index ≡ Some (line.Exchanger name hot cold duty)
    → slice_get (exchangers_of lines) (length (exchangers_of (take index lines)))
    ≡ Some (record { name = name; hot = hot; cold = cold; duty = duty })
unfolding exchangers_of
exchanger_at lines index name hot cold duty here =
    let l = line.Exchanger name hot cold duty in
    let e : Exchanger = record { name = name; hot = hot; cold = cold; duty = duty } in
    let before = exchangers_of (take index lines) in
    let later = exchangers_of (drop (suc index) lines) in
    let parts : exchangers_of lines ≡ before ++ e ∷ later = declared_parts (stands_at lines index l here) in
    let within : length before < length (exchangers_of lines)
    = omega (arith, ap length parts, length-append before (e ∷ later)) in
    let own : get_or (exchangers_of lines) (length before) e ≡ e = ap (λ es. get_or es (length before) e) parts
    ∙ get_or_at before e later e (length before) refl in
    slice_get-get_or (exchangers_of lines) (length before) e within ∙ ap Some own

-- ---- the numbers of branches

pub many_own : (case : Case) → length (own_branches case) ≡ length case.streams
unfolding own_branches
many_own case = length-map (enumerate_from 0 case.streams) own_branch ∙ length-enumerate_from 0 case.streams

pub streams_first : {case : Case} {network : Network} → AreMadeInOrder case network
    → length case.streams ≤ length network.branches
streams_first {case} {network} made =
    omega (arith, ap length made.own, many_own case, length-take (length case.streams) network.branches)

-- there are the streams' branches and those that lines make
pub all_made : {case : Case} {network : Network} → AreMadeInOrder case network
    → length case.streams + length (made_by network.lines) ≡ length network.branches
all_made {case} {network} made =
    let long = ap length made.made
    ∙ length-range_with_len (length case.streams) (length network.branches - length case.streams) in
    omega (arith, long, streams_first made)

-- a line makes the next branches
pub made_next : (case : Case) (network : Network) {index : ℕ} {l : Line} → StandsAt network.lines index l
    → made_before case network (suc index) ≡ made_before case network index + length (makes l)
unfolding made_by
made_next case network {index} {l} at = let before = flat_map makes (take index network.lines) in
    let all = ap (flat_map makes) at.more ∙ flat_map-append makes (take index network.lines) (l ∷ []) in
    let long = ap length all ∙ length-append before (flat_map makes (l ∷ [])) in
    let one = length-append (makes l) [] in
    omega (arith, long, one)

-- they are there
pub made_within : {case : Case} {network : Network} {index : ℕ} {l : Line} → AreMadeInOrder case network
    → StandsAt network.lines index l
    → made_before case network index + length (makes l) ≤ length network.branches
made_within {case} {network} {index} {l} made at =
    let before = made_by (take index network.lines) in
    let later = made_by (drop (suc index) network.lines) in
    let parts = ap length (made_parts at) ∙ length-append before (makes l ++ later) in
    omega (arith, parts, length-append (makes l) later, all_made made)

-- and have the next numbers
pub made_at : {case : Case} {network : Network} {index : ℕ} {l : Line} → AreMadeInOrder case network
    → StandsAt network.lines index l → (j : ℕ)
    → j < length (makes l) → get_or (makes l) j 0 ≡ made_before case network index + j
made_at {case} {network} {index} {l} made at j within =
    let before = made_by (take index network.lines) in
    let later = made_by (drop (suc index) network.lines) in
    let n = length before in
    let here = ap (λ ns. get_or ns (n + j) 0) (made_parts at) ∙ get_or-append-add before (makes l ++ later) j 0
    ∙ get_or_append_left (makes l) later 0 j within in
    let all = ap length (made_parts at) ∙ length-append before (makes l ++ later) in
    let range = ap length made.made
    ∙ length-range_with_len (length case.streams) (length network.branches - length case.streams) in
    let inside : n + j < length network.branches - length case.streams
    = omega (arith, all, range, length-append (makes l) later, within) in
    let number = ap (λ ns. get_or ns (n + j) 0) made.made
    ∙ get_or-range_with_len (length case.streams) (length network.branches - length case.streams) (n + j) 0 inside in
    omega (arith, here, number)

-- earlier lines make no more branches
pub made_fewer : (case : Case) (network : Network) (k index : ℕ) → k ≤ index
    → made_before case network k ≤ made_before case network index
unfolding made_by
made_fewer case network k index early =
    let front = take index network.lines in
    let first = take-take k index network.lines early in
    let parts = ap (flat_map makes) (sym (take-append-drop k front))
    ∙ flat_map-append makes (take k front) (drop k front) in
    let long = ap length parts ∙ length-append (flat_map makes (take k front)) (flat_map makes (drop k front)) in
    let same = ap (λ ls. length (flat_map makes ls)) first in omega (arith, long, same)

pub made_no_more : {case : Case} {network : Network} → AreMadeInOrder case network → (index : ℕ)
    → made_before case network index ≤ length network.branches
unfolding made_by
made_no_more {case} {network} made index =
    let parts = ap (flat_map makes) (sym (take-append-drop index network.lines))
    ∙ flat_map-append makes (take index network.lines) (drop index network.lines) in
    let long = ap length parts
    ∙ length-append (flat_map makes (take index network.lines)) (flat_map makes (drop index network.lines)) in
    omega (arith, long, all_made made)

-- the numbers that a line uses and makes
pub record HasNumbers (case : Case) (network : Network) (index : ℕ) (l : Line) : Type 0 where
  pub used : All (λ b. b < made_before case network index) (uses l)
  pub made : (j : ℕ) → j < length (makes l) → get_or (makes l) j 0 ≡ made_before case network index + j
  pub next : made_before case network (suc index) ≡ made_before case network index + length (makes l)
  pub within : made_before case network (suc index) ≤ length network.branches

pub numbers_at : {case : Case} {network : Network} {index : ℕ} {l : Line} → HasShape case network
    → StandsAt network.lines index l
    → HasNumbers case network index l
numbers_at {case} {network} {index} {l} shape at = record {
  used = shape.made_first index l at.here;
  made = made_at shape.made_once at;
  next = made_next case network at;
  within = made_no_more shape.made_once (suc index);
}

-- ---- the branches that lines use and make are there

pub used_there : {case : Case} {network : Network} → AreMadeInOrder case network → AreMadeBeforeUse case network
    → All (λ l. All (λ b. b < length network.branches) (uses l)) network.lines
used_there {case} {network} made first k d within j e inside =
    let early = first k (get_or network.lines k d) (slice_get-get_or network.lines k d within) j e inside in
    omega (arith, early, made_no_more made k)

pub made_there : {case : Case} {network : Network} → AreMadeInOrder case network
    → All (λ l. All (λ b. b < length network.branches) (makes l)) network.lines
made_there {case} {network} made k d within j e inside =
    let l = get_or network.lines k d in
    let at = line_at network.lines k d within in
    let number = get_or_default (makes l) j e 0 inside ∙ made_at made at j inside in
    omega (arith, number, made_within made at, inside)

pub used_within : {case : Case} {network : Network} → AreMadeInOrder case network → AreMadeBeforeUse case network
    → All (λ b. b < length network.branches) (used_by network.lines)
unfolding used_by
used_within {case} {network} made first =
    All-flat_map (λ b. b < length network.branches) uses network.lines (used_there made first)

-- the branches that the lines before an index use were made before it
pub used_before : (case : Case) (network : Network) → AreMadeBeforeUse case network → (index : ℕ)
    → All (λ b. b < made_before case network index) (used_by (take index network.lines))
unfolding used_by
used_before case network first index =
    All-flat_map (λ b. b < made_before case network index) uses (take index network.lines) (λ k d inside.
    let early : k < index = omega (arith, inside, length-take index network.lines) in
    let at = sym (slice_get-take index network.lines k early)
    ∙ slice_get-get_or (take index network.lines) k d inside in
    let fewer = made_fewer case network k index (omega (arith, early)) in
    λ j e used. let before = first k (get_or (take index network.lines) k d) at j e used in
    omega (arith, before, fewer))

-- ---- the streams of branches

pub stream_at-take : (branches : List Branch) (m i : ℕ) → i < m → stream_at (take m branches) i ≡ stream_at branches i
unfolding stream_at
stream_at-take branches m i early =
    ap (λ o. unwrap_or (option_map (λ b. b.stream) o) 0) (slice_get-take m branches i early)

pub stream_at-get_or : (branches : List Branch) (i : ℕ) (d : Branch) → i < length branches
    → stream_at branches i ≡ (get_or branches i d).stream
unfolding stream_at
stream_at-get_or branches i d within =
    ap (λ o. unwrap_or (option_map (λ b. b.stream) o) 0) (slice_get-get_or branches i d within)

own_streams : (n : ℕ) (streams : List Stream) (i : ℕ) → i < length streams
    → stream_at (map own_branch (enumerate_from n streams)) i ≡ n + i
unfolding stream_at
own_streams n [] i within = absurd (omega (arith, within))
own_streams n (s ∷ streams) zero within = omega arith
own_streams n (s ∷ streams) (suc i) within = own_streams (n + 1) streams i (omega (arith, within)) ∙ omega arith

-- the branch of stream i itself, branch i, is of stream i
pub own_stream : {case : Case} {network : Network} → AreMadeInOrder case network → (i : ℕ)
    → i < length case.streams → stream_at network.branches i ≡ i
unfolding own_branches
own_stream {case} {network} made i within =
    sym (stream_at-take network.branches (length case.streams) i within) ∙ ap (λ bs. stream_at bs i) made.own
    ∙ own_streams 0 case.streams i within
    ∙ omega arith

pub stream_within : {case : Case} {network : Network} → HasShape case network → (b : ℕ) → b < length network.branches
    → stream_at network.branches b < length case.streams
stream_within {case} {network} shape b within =
    let d : Branch = record { name = []; stream = 0 } in
    omega (arith, shape.streams b d within, stream_at-get_or network.branches b d within)

-- ---- what a line names is there

-- the exchanger that a line declares
pub own_exchanger : {case : Case} {network : Network} → HasShape case network
    → (index : ℕ) (name : List ℕ) (hot cold : Source) (duty : Rational)
    → slice_get network.lines index ≡ Some (line.Exchanger name hot cold duty)
    → IsExchanger case (record { name = name; hot = hot; cold = cold; duty = duty })
own_exchanger {case} {network} shape index name hot cold duty here =
    all_at (IsExchanger case) (exchangers_of network.lines) (length (exchangers_of (take index network.lines)))
    (record { name = name; hot = hot; cold = cold; duty = duty }) shape.exchangers.each (exchanger_at network.lines index name hot cold duty here)

used_known : {case : Case} {network : Network} {index : ℕ} {l : Line} → HasShape case network
    → StandsAt network.lines index l → (j : ℕ) → j < length (uses l)
    → get_or (uses l) j 0 < length network.branches
used_known {case} {network} {index} {l} shape at j within =
    omega (arith, shape.made_first index l at.here j 0 within, made_no_more shape.made_once index)

made_known : {case : Case} {network : Network} {index : ℕ} {l : Line} → HasShape case network
    → StandsAt network.lines index l → (j : ℕ)
    → j < length (makes l) → get_or (makes l) j 0 < length network.branches
made_known shape at j within =
    omega (arith, made_at shape.made_once at j within, made_within shape.made_once at, within)

exchanger_known : {case : Case} {network : Network} {index from exchanger to : ℕ} → HasShape case network
    → StandsAt network.lines index (line.Pass from exchanger to) → exchanger < length (exchangers_of network.lines)
exchanger_known {case} {network} {index} {from} {exchanger} {to} shape at =
    let l = line.Pass from exchanger to in
    let before = exchangers_of (take index network.lines) in
    let (e, declared, joins) = shape.declared_first index l at.here in
    omega (
      arith,
      slice_get_within before exchanger e declared,
      ap length (declared_parts at),
      length-append before (exchangers_of (l ∷ drop (suc index) network.lines)),
    )

pub names-known : (case : Case) (network : Network) → HasShape case network → (index : ℕ) (l : Line)
    → slice_get network.lines index ≡ Some l
    → NamesKnown case network l
names-known case network shape index (line.Exchanger name hot cold duty) here =
    let e = own_exchanger shape index name hot cold duty here in
    (IsSourceOf-side case hot (ap is_some e.hot), IsSourceOf-side case cold (ap is_some e.cold))
names-known case network shape index (line.Split from first size second) here =
    let at = stands_at network.lines index (line.Split from first size second) here in
    (used_known shape at 0 (omega arith), made_known shape at 0 (omega arith), made_known shape at 1 (omega arith))
names-known case network shape index (line.Pass from exchanger to) here =
    let at = stands_at network.lines index (line.Pass from exchanger to) here in
    (used_known shape at 0 (omega arith), exchanger_known shape at, made_known shape at 0 (omega arith))
names-known case network shape index (line.Mix first second to) here =
    let at = stands_at network.lines index (line.Mix first second to) here in
    (used_known shape at 0 (omega arith), used_known shape at 1 (omega arith), made_known shape at 0 (omega arith))
names-known case network shape index (line.End branch) here =
    used_known shape (stands_at network.lines index (line.End branch) here) 0 (omega arith)

-- ---- all that the shape says of a line

pub record IsLineOf (case : Case) (network : Network) (index : ℕ) (l : Line) : Type 0 where
  pub at : StandsAt network.lines index l
  pub numbers : HasNumbers case network index l
  pub known : NamesKnown case network l
  pub one_stream : IsOfOneStream network.branches l
  pub size : HasPositiveSize l
  pub declared : PassesDeclared network.branches (exchangers_of (take index network.lines)) l

pub line_of : {case : Case} {network : Network} → HasShape case network → (index : ℕ) (l : Line)
    → slice_get network.lines index ≡ Some l
    → IsLineOf case network index l
line_of {case} {network} shape index l here =
    let at = stands_at network.lines index l here in
    record {
      at = at;
      numbers = numbers_at shape at;
      known = names-known case network shape index l here;
      one_stream = all_at (IsOfOneStream network.branches) network.lines index l shape.one_stream here;
      size = all_at HasPositiveSize network.lines index l shape.sizes here;
      declared = shape.declared_first index l here;
    }

-- the line that code reads at an index
pub line_read : {case : Case} {network : Network} → HasShape case network → (index : ℕ) (l : Line)
    → index < length network.lines
    → l ≡ get_or network.lines index l → IsLineOf case network index l
line_read {case} {network} shape index l within read =
    line_of shape index l (slice_get_read network.lines (length network.lines) index l refl within read)

-- ---- the pass of a side

-- a line is a pass of a side exactly where its passage is that one
passage-counts : (branches : List Branch) (exchanger stream : ℕ) (l : Line) (rest : List Passage)
    → count_by (same_passage (record { exchanger = exchanger; stream = stream })) (cons_option (passage_of branches l) rest)
    ≡ cond (is_pass_of branches exchanger stream l) 1 0 + count_by (same_passage (record { exchanger = exchanger; stream = stream })) rest
passage-counts branches exchanger stream (line.Pass from through to) rest = count_by-cons _ _ rest
passage-counts branches exchanger stream other rest = omega arith

pub count-passages : (branches : List Branch) (exchanger stream : ℕ) (lines : List Line)
    → count_by (same_passage (record { exchanger = exchanger; stream = stream })) (passages_of branches lines)
    ≡ count_by (is_pass_of branches exchanger stream) lines
unfolding passages_of
count-passages branches exchanger stream [] = refl
count-passages branches exchanger stream (l ∷ lines) =
    passage-counts branches exchanger stream l (filter_map (passage_of branches) lines)
    ∙ ap (λ n. cond (is_pass_of branches exchanger stream l) 1 0 + n) (count-passages branches exchanger stream lines)
    ∙ sym (count_by-cons (is_pass_of branches exchanger stream) l lines)

-- the one line that leads a branch of the stream, `from`, through the exchanger
pub record IsPassOf (network : Network) (exchanger stream from to index : ℕ) : Type 0 where
  pub here : slice_get network.lines index ≡ Some (line.Pass from exchanger to)
  pub of_stream : stream_at network.branches from ≡ stream
  pub found : pass_of network exchanger stream ≡ Some (line.Pass from exchanger to)
  pub only : (other : ℕ) (l : Line) → slice_get network.lines other ≡ Some l
      → is_pass_of network.branches exchanger stream l ≡ true → other ≡ index

the_pass : (network : Network) (exchanger stream index : ℕ) (l : Line)
    → IsOnly (is_pass_of network.branches exchanger stream) network.lines index l
    → (from : ℕ) × (to : ℕ) × IsPassOf network exchanger stream from to index
unfolding pass_of
the_pass network exchanger stream index (line.Pass from through to) it =
    let parts = and_parts (exchanger == through) (stream == stream_at network.branches from) it.passes in
    let same : through ≡ exchanger = grind (arith, nat_tests, parts.0) in
    let of_stream : stream_at network.branches from ≡ stream = grind (arith, nat_tests, parts.1) in (
      from,
      to,
      record {
        here = it.here ∙ ap (λ n. Some (line.Pass from n to)) same;
        of_stream = of_stream;
        found = it.found ∙ ap (λ n. Some (line.Pass from n to)) same;
        only = it.only;
      },
    )
the_pass network exchanger stream index other it = cc it.passes

pub the_pass_of : {case : Case} {network : Network} → HasShape case network → (number stream : ℕ) (e : Exchanger)
    → slice_get (exchangers_of network.lines) number ≡ Some e → Joins e stream → (from : ℕ) × (to : ℕ) × (index : ℕ)
    × IsPassOf network number stream from to index
the_pass_of {case} {network} shape number stream e at joins =
    let once = sym (count-passages network.branches number stream network.lines)
    ∙ shape.passed_once number stream e at joins in
    let (index, l, it) = found_once (is_pass_of network.branches number stream) network.lines once in
    let (from, to, is) = the_pass network number stream index l it in (from, to, index, is)
