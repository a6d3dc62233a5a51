-- An exchange has one share in the course of each of its streams, so the shares of all courses are few, and the network of pieces has the shape of a network.
use Rattle.pieces.proofs.Words.{All-head, All-map, All-tail, AreLedPieces, AreStages, Case, Course, Exchange, Exchanger, HasShape, HasShape-drawn, IsComplete}
use Rattle.pieces.proofs.Words.{HasSize, IsCourseOf, IsExchanger, IsName-exchanger_name, IsPositive, IsShareOf, Joins, JoinsPieces, MOST_LINES, Piece, Rational, Share, Side}
use Rattle.pieces.proofs.Words.{Source, Stream, all_at, all_branches, cond-false, cond-true, cons_option, course_branches, course_of, courses_lines, courses_of}
use Rattle.pieces.proofs.Words.{declared_line, enumerate_from, eq-eqb, exchanger_of, exchangers_for, exchangers_of, exchangers_of-drawn, few-courses}
use Rattle.pieces.proofs.Words.{filter_map, is_stage, led_course, length-enumerate_from, length-map, lt-ltb, nat_lt, ne_eqb, network_of, numbered_names-differ}
use Rattle.pieces.proofs.Words.{on_side, on_the_way, option_map, option_map_or, piece_on, same_Some, same_source, same_source-same, share_for, share_of}
use Rattle.pieces.proofs.Words.{shares_of, side_of, size_on, slice_get-numbered, slice_get_within, source_on, sources_of, stage_of, stream_course, sum_by}
use Rattle.pieces.proofs.Words.{sum_by-cons, sum_by-le, sum_by-le-sum_by, sum_by-reverse, turns}
use Rattle.std.proofs.Common.{All, Bool, List, None, Option, Some, [], ap, arith, cond, false, get_or, if◌then◌else◌, inl, inr, length, length-append, map}
use Rattle.std.proofs.Common.{refl, slice_get, subst, suc, sym, true, zero, ℕ, ◌&&◌, ◌*◌, ◌+◌, ◌<◌, ◌==◌, ◌∙◌, ◌∷◌, ◌≡◌, ◌≤◌}
use Rattle.pieces.proofs.PieceStages.{All-numbered, each-share, each-stage, numbered-each, on_side-ap, shares_along-course, source_at-piece, source_there}
use Rattle.stream_case.specs.declared.source.Side.TheVariants as side
use Rattle.stream_case.specs.declared.source.Source.TheVariants as source

-- ---- sums

module _ {X : Type 0} where
  sum-zero : (xs : List X) → sum_by (λ x. 0) xs ≡ 0
  sum-zero [] = refl
  sum-zero (x ∷ xs) = omega (arith, sum_by-cons (λ (y : X). 0) x xs, sum-zero xs)

  sum-add : (f g : X → ℕ) (xs : List X) → sum_by (λ x. f x + g x) xs ≡ sum_by f xs + sum_by g xs
  sum-add f g [] = omega arith
  sum-add f g (x ∷ xs) =
      omega (arith, sum-add f g xs, sum_by-cons f x xs, sum_by-cons g x xs, sum_by-cons (λ (y : X). f y + g y) x xs)

  sum-same : (f g : X → ℕ) (xs : List X) → ((x : X) → f x ≡ g x) → sum_by f xs ≡ sum_by g xs
  sum-same f g xs same = λ i. sum_by (λ x. same x i) xs

  sum-way : (f : X → ℕ) (of : Side) (xs : List X) → sum_by f (on_the_way of xs) ≡ sum_by f xs
  sum-way f side.Hot xs = refl
  sum-way f side.Cold xs = sum_by-reverse f xs

  -- a sum that is taken where a test holds
  sum-test : (b : Bool) (f : X → ℕ) (xs : List X) → cond b (sum_by f xs) 0 ≡ sum_by (λ x. cond b (f x) 0) xs
  sum-test true f xs = refl
  sum-test false f xs = sym (sum-zero xs)

  -- of numbered items, the one with a number
  none_at : (weight : X → ℕ) (j n : ℕ) (xs : List X) → j < n
      → sum_by (λ e. cond (j == e.0) (weight e.1) 0) (enumerate_from n xs) ≡ 0
  none_at weight j n [] less = refl
  none_at weight j n (x ∷ xs) less =
      let none = cond-false (j == n) (weight x) 0 (ne_eqb j n (λ same. absurd (omega (arith, less, same)))) in
      let all = sum_by-cons (λ (e : ℕ × X). cond (j == e.0) (weight e.1) 0) (n, x) (enumerate_from (n + 1) xs) in
      omega (arith, none, all, none_at weight j (n + 1) xs (omega (arith, less)))

  one_at : (weight : X → ℕ) (j n i : ℕ) (xs : List X) → n + i ≡ j
      → sum_by (λ e. cond (j == e.0) (weight e.1) 0) (enumerate_from n xs) ≡ option_map_or weight (slice_get xs i) 0
  one_at weight j n i [] is = refl
  one_at weight j n zero (x ∷ xs) is =
      let all = sum_by-cons (λ (e : ℕ × X). cond (j == e.0) (weight e.1) 0) (n, x) (enumerate_from (n + 1) xs) in
      omega (
        arith,
        cond-true (j == n) (weight x) 0 (eq-eqb j n (omega (arith, is))),
        all,
        none_at weight j (n + 1) xs (omega (arith, is)),
      )
  one_at weight j n (suc i) (x ∷ xs) is =
      let none = cond-false (j == n) (weight x) 0 (ne_eqb j n (λ same. absurd (omega (arith, is, same)))) in
      let all = sum_by-cons (λ (e : ℕ × X). cond (j == e.0) (weight e.1) 0) (n, x) (enumerate_from (n + 1) xs) in
      omega (arith, none, all, one_at weight j (n + 1) i xs (omega (arith, is)))

module _ {X Y : Type 0} where
  sum_by-map : (f : Y → ℕ) (g : X → Y) (xs : List X) → sum_by f (map g xs) ≡ sum_by (λ x. f (g x)) xs
  sum_by-map f g [] = refl
  sum_by-map f g (x ∷ xs) =
      omega (arith, sum_by-map f g xs, sum_by-cons f (g x) (map g xs), sum_by-cons (λ (y : X). f (g y)) x xs)

  sum_by-swap : (f : X → Y → ℕ) (xs : List X) (ys : List Y)
      → sum_by (λ x. sum_by (f x) ys) xs ≡ sum_by (λ y. sum_by (λ x. f x y) xs) ys
  sum_by-swap f [] ys = sym (sum-zero ys)
  sum_by-swap f (x ∷ xs) ys =
      let all = λ (y : Y). sum_by (λ z. f z y) (x ∷ xs) in
      let rest = λ (y : Y). sum_by (λ z. f z y) xs in
      let each = sum-same all (λ y. f x y + rest y) ys (λ y. sum_by-cons (λ z. f z y) x xs) in
      omega (arith, sum_by-cons (λ z. sum_by (f z) ys) x xs, sum_by-swap f xs ys, each, sum-add (f x) rest ys)

  -- a sum over what a test keeps
  sum-kept : (f : Y → ℕ) (test : X → Bool) (item : X → Y) (h : X → Option Y)
      → ((x : X) → h x ≡ (if test x then Some (item x) else None))
      → (xs : List X) → sum_by f (filter_map h xs) ≡ sum_by (λ x. cond (test x) (f (item x)) 0) xs
  sum-kept f test item h is [] = refl
  sum-kept f test item h is (x ∷ xs) =
      let one = ap (λ (o : Option Y). sum_by f (cons_option o (filter_map h xs))) (is x) in
      omega (
        arith,
        one,
        by (test x) (item x) (filter_map h xs),
        sum_by-cons (λ (z : X). cond (test z) (f (item z)) 0) x xs,
        sum-kept f test item h is xs,
      )
    where
      by : (b : Bool) (y : Y) (rest : List Y)
          → sum_by f (cons_option (if b then Some y else None) rest) ≡ cond b (f y) 0 + sum_by f rest
      by true y rest = sum_by-cons f y rest
      by false y rest = omega arith

swap_tests : (b c : Bool) (n : ℕ) → cond b (cond c n 0) 0 ≡ cond c (cond b n 0) 0
swap_tests true c n = refl
swap_tests false true n = refl
swap_tests false false n = refl

-- ---- the shares of a course

-- a number where a source is the stream
is_own : ℕ → ℕ → Source → ℕ
is_own stream n a = cond (same_source a (source.Stream stream)) n 0

-- a sum over all shares of a course is one over the exchanges whose pieces are the stream's
module _ (f : Share → ℕ) (of : Side) (exchanges : List Exchange) (stream : ℕ) where
  used : (own : Bool) (shares : List Share)
      → cond (own && nat_lt 0 (length shares)) (sum_by f shares) 0 ≡ cond own (sum_by f shares) 0
  used false shares = refl
  used true [] = refl
  used true (s ∷ shares) =
      let some = lt-ltb 0 (length (s ∷ shares)) (omega arith) in
      cond-true (nat_lt 0 (length (s ∷ shares))) (sum_by f (s ∷ shares)) 0 some

  shares-sum : (sources : List Source)
      → sum_by (sum_by f) (course_of of sources exchanges stream)
      ≡ sum_by (λ x. option_map_or (is_own stream (f (share_for of x))) (slice_get sources (piece_on of x.1)) 0)
      (enumerate_from 0 exchanges)
  unfolding shares_of is_own
  shares-sum sources =
      let es = enumerate_from 0 sources in
      let xs = enumerate_from 0 exchanges in
      let own = λ (e : ℕ × Source). same_source e.1 (source.Stream stream) in
      let at = λ (x : ℕ × Exchange). piece_on of x.1 in
      let weight = λ (x : ℕ × Exchange). f (share_for of x) in
      let shares = λ (e : ℕ × Source). shares_of of e.0 exchanges in
      let here = λ (e : ℕ × Source) (x : ℕ × Exchange). cond (own e) (cond (at x == e.0) (weight x) 0) 0 in
      sum-kept (sum_by f) (λ e. is_stage of exchanges stream e.0 e.1) shares (stage_of of exchanges stream) (λ e. refl)
      (on_the_way of es)
      ∙ sum-way (λ e. cond (is_stage of exchanges stream e.0 e.1) (sum_by f (shares e)) 0) of es
      ∙ sum-same (λ e. cond (is_stage of exchanges stream e.0 e.1) (sum_by f (shares e)) 0) (λ e. sum_by (here e) xs) es
      (λ e.
      let kept = sum-kept f (λ x. at x == e.0) (share_for of) (share_of of e.0) (λ x. refl) xs in
      used (own e) (shares e) ∙ ap (λ n. cond (own e) n 0) kept
      ∙ sum-test (own e) (λ x. cond (at x == e.0) (weight x) 0) xs)
      ∙ sum_by-swap here es xs
      ∙ sum-same (λ x. sum_by (λ e. here e x) es)
      (λ x. option_map_or (is_own stream (weight x)) (slice_get sources (at x)) 0) xs
      (λ x.
      sum-same (λ e. here e x) (λ e. cond (at x == e.0) (is_own stream (weight x) e.1) 0) es
      (λ e. swap_tests (own e) (at x == e.0) (weight x))
      ∙ one_at (is_own stream (weight x)) (at x) 0 (at x) sources (omega arith))

-- an exchange has one share in the course of its stream
pub turns-course : (of : Side) (sources : List Source) (exchanges : List Exchange) (number : ℕ) (e : Exchange)
    (stream : ℕ) (a : Source)
    → slice_get exchanges number ≡ Some e → slice_get sources (piece_on of e) ≡ Some a
    → same_source a (source.Stream stream) ≡ true → turns number (course_of of sources exchanges stream) ≡ 1
unfolding is_own
turns-course of sources exchanges number e stream a at there own =
    let own_at = λ (n : ℕ) (x : Exchange). option_map_or (is_own stream n) (slice_get sources (piece_on of x)) 0 in
    shares-sum (λ s. cond (number == s.exchanger) 1 0) of exchanges stream sources
    ∙ sum-same (λ x. own_at (cond (number == x.0) 1 0) x.1) (λ x. cond (number == x.0) (own_at 1 x.1) 0)
    (enumerate_from 0 exchanges) (λ x. by (slice_get sources (piece_on of x.1)) (number == x.0))
    ∙ one_at (own_at 1) number 0 number exchanges (omega arith) ∙ ap (λ o. option_map_or (own_at 1) o 0) at
    ∙ ap (λ o. option_map_or (is_own stream 1) o 0) there ∙ ap {B = ℕ} (λ b. cond b 1 0) own
  where
    by : (found : Option Source) (b : Bool)
        → option_map_or (is_own stream (cond b 1 0)) found 0 ≡ cond b (option_map_or (is_own stream 1) found 0) 0
    by None true = refl
    by None false = refl
    by (Some c) b = swap_tests (same_source c (source.Stream stream)) b 1

-- ---- few shares

-- a source is one stream at most
one_stream : (found : Option Source) (streams : List Stream)
    → sum_by (λ e. option_map_or (is_own e.0 1) found 0) (enumerate_from 0 streams) ≤ 1
unfolding is_own
one_stream None streams = omega (arith, sum-zero (enumerate_from 0 streams))
one_stream (Some (source.Utility k)) streams = omega (arith, sum-zero (enumerate_from 0 streams))
one_stream (Some (source.Stream k)) streams =
    by (slice_get streams k) (one_at (λ (s : Stream). 1) k 0 k streams (omega arith))
  where
    by : (o : Option Stream) {n : ℕ} → n ≡ option_map_or (λ s. 1) o 0 → n ≤ 1
    by None is = omega (arith, is)
    by (Some s) is = omega (arith, is)

sizes : Course → ℕ
sizes course = sum_by (sum_by (λ s. 1)) course

sizes-side : (of : Side) (sources : List Source) (exchanges : List Exchange) (streams : List Stream)
    → sum_by (λ e. sizes (course_of of sources exchanges e.0)) (enumerate_from 0 streams) ≤ length exchanges
unfolding sizes
sizes-side of sources exchanges streams =
    let es = enumerate_from 0 streams in
    let xs = enumerate_from 0 exchanges in
    let own =
    λ (e : ℕ × Stream) (x : ℕ × Exchange). option_map_or (is_own e.0 1) (slice_get sources (piece_on of x.1)) 0 in
    let all = sum-same (λ e. sizes (course_of of sources exchanges e.0)) (λ e. sum_by (own e) xs) es (λ e.
    shares-sum (λ s. 1) of exchanges e.0 sources) in
    let most = sum_by-le (λ x. sum_by (λ e. own e x) es) 1 xs (λ k x within.
    one_stream (slice_get sources (piece_on of (get_or xs k x).1)) streams) in
    omega (arith, all, sum_by-swap own es xs, most, length-enumerate_from 0 exchanges)

-- each exchange has a share on each side at most
few-sizes : (case : Case) (hot cold : List Source) (exchanges : List Exchange)
    → sum_by sizes (courses_of case hot cold exchanges) ≤ 2 * length exchanges
few-sizes case hot cold exchanges =
    let es = enumerate_from 0 case.streams in
    let at = λ (of : Side) (e : ℕ × Stream). sizes (course_of of (on_side of hot cold) exchanges e.0) in
    let each = sum_by-le-sum_by (λ e. sizes (stream_course hot cold exchanges e)) (λ e. at side.Hot e + at side.Cold e)
    es (λ e. by e.1.side e.0) in
    let all = sum_by-map sizes (stream_course hot cold exchanges) es in
    let both = sum-add (at side.Hot) (at side.Cold) es in
    let hots = sizes-side side.Hot hot exchanges case.streams in
    let colds = sizes-side side.Cold cold exchanges case.streams in
    omega (arith, all, each, both, hots, colds)
  where
    by : (of : Side) (number : ℕ) → sizes (course_of of (on_side of hot cold) exchanges number)
        ≤ sizes (course_of side.Hot hot exchanges number) + sizes (course_of side.Cold cold exchanges number)
    by side.Hot number = omega arith
    by side.Cold number = omega arith

size-length : (shares : List Share) → sum_by (λ s. 1) shares ≡ length shares
size-length [] = refl
size-length (s ∷ shares) = omega (arith, sum_by-cons (λ (a : Share). 1) s shares, size-length shares)

pub few-shares : (case : Case) (hot cold : List Source) (exchanges : List Exchange)
    → sum_by (λ course. sum_by (λ ss. length ss) course) (courses_of case hot cold exchanges) ≤ 2 * length exchanges
unfolding sizes
few-shares case hot cold exchanges =
    let courses = courses_of case hot cold exchanges in
    let same : sum_by sizes courses ≡ sum_by (λ course. sum_by (λ ss. length ss) course) courses
    = λ i. sum_by (sum_by (λ ss. size-length ss i)) courses in
    omega (arith, few-sizes case hot cold exchanges, same)

-- ---- few branches

branches-course : (course : Course) → AreStages course → course_branches course ≤ 4 * sizes course
unfolding sizes
branches-course [] some = omega arith
branches-course (shares ∷ stages) some =
    let IsUsed : List Share → Type 0 = λ ss. 0 < length ss in
    let rest = branches-course stages (All-tail IsUsed shares stages some) in
    omega (
      arith,
      All-head IsUsed shares stages some,
      rest,
      size-length shares,
      sum_by-cons (sum_by (λ (s : Share). 1)) shares stages,
    )

branches-courses : (courses : List Course) → All AreStages courses → all_branches courses ≤ 4 * sum_by sizes courses
branches-courses [] some = omega arith
branches-courses (course ∷ courses) some =
    let rest = branches-courses courses (All-tail AreStages course courses some) in
    let some_here = All-head AreStages course courses some in
    omega (arith, branches-course course some_here, rest, sum_by-cons sizes course courses)

pub few-branches : (case : Case) (hot cold : List Source) (exchanges : List Exchange)
    → All AreStages (courses_of case hot cold exchanges)
    → all_branches (courses_of case hot cold exchanges) ≤ 8 * length exchanges
few-branches case hot cold exchanges some =
    omega (arith, few-sizes case hot cold exchanges, branches-courses (courses_of case hot cold exchanges) some)

pub length-courses_of : (case : Case) (hot cold : List Source) (exchanges : List Exchange)
    → length (courses_of case hot cold exchanges) ≡ length case.streams
length-courses_of case hot cold exchanges =
    length-map (enumerate_from 0 case.streams) (stream_course hot cold exchanges) ∙ length-enumerate_from 0 case.streams

-- ---- any exchanges

pub exchangers_of-network_of : (case : Case) (hot cold : List Source) (exchanges : List Exchange)
    → exchangers_of (network_of case hot cold exchanges).lines ≡ exchangers_for hot cold exchanges
unfolding network_of
exchangers_of-network_of case hot cold exchanges =
    exchangers_of-drawn case (exchangers_for hot cold exchanges) (courses_of case hot cold exchanges)

-- an exchange has a line that declares its exchanger, and three more for each of its two shares; each stream has an end
pub length-network_of : (case : Case) (hot cold : List Source) (exchanges : List Exchange)
    → length (network_of case hot cold exchanges).lines ≤ 7 * length exchanges + length case.streams
unfolding network_of
length-network_of case hot cold exchanges =
    let declared = exchangers_for hot cold exchanges in
    let courses = courses_of case hot cold exchanges in
    let lines = length-append (map declared_line declared) (courses_lines (length case.streams) 0 courses) in
    let declarations = length-map declared declared_line in
    let names = length-map (enumerate_from 0 exchanges) (exchanger_of hot cold) in
    let few = few-courses (length case.streams) 0 courses in
    let shares = few-shares case hot cold exchanges in
    omega (
      arith,
      lines,
      declarations,
      names,
      length-enumerate_from 0 exchanges,
      few,
      shares,
      length-courses_of case hot cold exchanges,
    )

-- ---- exchanges of pieces

-- pieces that are led, of few exchanges
pub record CanBeLed (case : Case) (hot cold : List Piece) (exchanges : List Exchange) : Type 0 where
  pub complete : IsComplete case
  pub few : 7 * length exchanges + length case.streams ≤ MOST_LINES
  pub led : AreLedPieces case hot cold exchanges

-- the piece of an exchange on a side
pub record HasPiece (case : Case) (of : Side) (pieces : List Piece) (e : Exchange) : Type 0 where
  pub piece : Piece
  pub there : slice_get pieces (piece_on of e) ≡ Some piece
  pub on : side_of case piece.source ≡ Some of
  pub size : HasSize piece.source (size_on of e)

stream_size : (size : Rational) (stream : ℕ) (a : Source) → a ≡ source.Stream stream → HasSize a size → IsPositive size
stream_size size stream a own has = subst (λ b. HasSize b size) own has

pub has_size : (size : Rational) (a : Source) → IsPositive size → HasSize a size
has_size size (source.Stream stream) is = is
has_size size (source.Utility number) is = tt

joins-on : (of : Side) (x : Exchanger) (stream : ℕ) → source_on of x ≡ source.Stream stream → Joins x stream
joins-on side.Hot x stream is = inl is
joins-on side.Cold x stream is = inr is

side-joined : (x : Exchanger) (stream : ℕ) → Joins x stream → (of : Side) × (source_on of x ≡ source.Stream stream)
side-joined x stream (inl from) = (side.Hot, from)
side-joined x stream (inr from) = (side.Cold, from)

module _ {case : Case} {hot cold : List Piece} {exchanges : List Exchange}
    (can : CanBeLed case hot cold exchanges) where
  abbrev pub exchanger_for : ℕ × Exchange → Exchanger
  exchanger_for = exchanger_of (sources_of hot) (sources_of cold)

  abbrev pub declared_here : List Exchanger
  declared_here = exchangers_for (sources_of hot) (sources_of cold) exchanges

  abbrev course_for : ℕ × Stream → Course
  course_for = stream_course (sources_of hot) (sources_of cold) exchanges

  pub joined-at : (number : ℕ) (e : Exchange) → slice_get exchanges number ≡ Some e → JoinsPieces case hot cold e
  joined-at number e at = all_at (JoinsPieces case hot cold) exchanges number e can.led.each at

  pub piece-for : (of : Side) (number : ℕ) (e : Exchange) → slice_get exchanges number ≡ Some e
      → HasPiece case of (on_side of hot cold) e
  piece-for side.Hot number e at =
      let j = joined-at number e at in
      record { piece = j.hot_piece; there = j.hot_there; on = j.hot_side; size = j.hot_size }
  piece-for side.Cold number e at =
      let j = joined-at number e at in
      record { piece = j.cold_piece; there = j.cold_there; on = j.cold_side; size = j.cold_size }

  -- the branch of a stream's piece has a size above 0
  pub size-for : (of : Side) (number : ℕ) (e : Exchange) (p : Piece) (stream : ℕ) → slice_get exchanges number ≡ Some e
      → slice_get (on_side of hot cold) (piece_on of e) ≡ Some p → p.source ≡ source.Stream stream
      → IsPositive (size_on of e)
  size-for of number e p stream at there own =
      let has = piece-for of number e at in
      let same : has.piece ≡ p = same_Some has.piece p (sym has.there ∙ there) in
      stream_size (size_on of e) stream has.piece.source (ap (λ (q : Piece). q.source) same ∙ own) has.size

  -- the exchanger of an exchange has the source of its piece
  exchanger-source : (of : Side) (number : ℕ) (e : Exchange) (p : Piece)
      → slice_get (on_side of hot cold) (piece_on of e) ≡ Some p
      → source_on of (exchanger_for (number, e)) ≡ p.source
  exchanger-source side.Hot number e p there = source_at-piece hot e.hot p there
  exchanger-source side.Cold number e p there = source_at-piece cold e.cold p there

  pub exchanger-joins : (of : Side) (number : ℕ) (e : Exchange) (p : Piece) (stream : ℕ)
      → slice_get (on_side of hot cold) (piece_on of e) ≡ Some p → p.source ≡ source.Stream stream
      → Joins (exchanger_for (number, e)) stream
  exchanger-joins of number e p stream there own =
      joins-on of (exchanger_for (number, e)) stream (exchanger-source of number e p there ∙ own)

  pub exchanger-at : (number : ℕ) (e : Exchange) → slice_get exchanges number ≡ Some e
      → slice_get declared_here number ≡ Some (exchanger_for (number, e))
  exchanger-at number e at =
      let first : 0 + number ≡ number = omega arith in
      slice_get-numbered exchanger_for 0 exchanges number e at ∙ ap (λ (k : ℕ). Some (exchanger_for (k, e))) first

  all-exchangers : All (IsExchanger case) declared_here
  all-exchangers = All-numbered exchanger_for exchanges (IsExchanger case) (λ number e at.
      let j = joined-at number e at in record {
        name = IsName-exchanger_name number (omega (arith, slice_get_within exchanges number e at, can.few));
        hot = ap (side_of case) (source_at-piece hot e.hot j.hot_piece j.hot_there) ∙ j.hot_side;
        cold = ap (side_of case) (source_at-piece cold e.cold j.cold_piece j.cold_there) ∙ j.cold_side;
        duty = j.heat;
      })

  -- ---- courses

  course-is : (stream : ℕ) (s : Stream) → IsCourseOf declared_here stream (course_for (stream, s))
  course-is stream s =
      let pieces = on_side s.side hot cold in
      let led = led_course hot cold exchanges (stream, s) in
      let IsUsed : List Share → Type 0 = λ ss. 0 < length ss in
      let IsOwn : List Share → Type 0 = λ ss. All (IsShareOf declared_here stream) ss in
      let used =
      each-stage exchanges (λ stage. IsUsed stage.shares) s.side pieces stream (λ index p there own some. some) in
      let owned = each-stage exchanges (λ stage. IsOwn stage.shares) s.side pieces stream (λ index p there own some.
      each-share exchanges (IsShareOf declared_here stream) s.side index (λ number e at on. record {
        size = size-for s.side number e p stream at (ap (slice_get pieces) on ∙ there) own;
        joined =
            let there_is = ap (slice_get pieces) on ∙ there in (
              exchanger_for (number, e),
              exchanger-at number e at,
              exchanger-joins s.side number e p stream there_is own,
            );
      })) in
      let along = shares_along-course exchanges hot cold stream s in
      subst (IsCourseOf declared_here stream) along (record {
        stages = All-map IsUsed (λ stage. stage.shares) led used;
        shares = All-map IsOwn (λ stage. stage.shares) led owned;
      })

  -- the exchanger of an exchange stands in one share of the course of each of its streams
  once : (number stream : ℕ) (e : Exchange) (s : Stream) → slice_get exchanges number ≡ Some e
      → slice_get case.streams stream ≡ Some s
      → Joins (exchanger_for (number, e)) stream → turns number (course_for (stream, s)) ≡ 1
  once number stream e s at here joins =
      let sources = λ (of : Side). on_side of (sources_of hot) (sources_of cold) in
      let (of, from) = side-joined (exchanger_for (number, e)) stream joins in
      let has = piece-for of number e at in
      let p = has.piece in
      let source_is : p.source ≡ source.Stream stream = sym (exchanger-source of number e p has.there) ∙ from in
      let here_on : side_of case p.source ≡ Some s.side
      = ap (side_of case) source_is ∙ ap (option_map (λ (r : Stream). r.side)) here in
      let side_is : s.side ≡ of = same_Some s.side of (sym here_on ∙ has.on) in
      let own = ap (λ a. same_source a (source.Stream stream)) source_is ∙ same_source-same (source.Stream stream) in
      let there = source_there (on_side of hot cold) (piece_on of e) p has.there in
      (λ i. turns number (course_of (side_is i) (sources (side_is i)) exchanges stream))
      ∙ turns-course of (sources of) exchanges number e stream p.source at
      (ap (λ ss. slice_get ss (piece_on of e)) (on_side-ap of sources_of hot cold) ∙ there) own

  pub HasShape-pieces : HasShape case (network_of case (sources_of hot) (sources_of cold) exchanges)
  unfolding network_of
  HasShape-pieces =
      HasShape-drawn case declared_here (courses_of case (sources_of hot) (sources_of cold) exchanges) can.complete
      (record {
        declared = all-exchangers;
        distinct = numbered_names-differ exchanger_for exchanges (λ k e. refl) (omega (arith, can.few));
        all = length-courses_of case (sources_of hot) (sources_of cold) exchanges;
        each = numbered-each course_for case.streams (IsCourseOf declared_here) (λ stream s here. course-is stream s);
        once = λ number stream x course declared joins led.
            numbered-each exchanger_for exchanges (λ k y. Joins y stream → turns k course ≡ 1) (λ k e at others.
            numbered-each course_for case.streams (λ j c. Joins (exchanger_for (k, e)) j → turns k c ≡ 1)
            (λ j s here each. once k j e s at here each) stream course led others) number x declared joins;
        few = omega (arith, length-network_of case (sources_of hot) (sources_of cold) exchanges, can.few);
      })
