-- The stages of streams: pieces that exchange heat, with a share for each of their exchanges.
use Rattle.pieces.proofs.Words.{All-cons, All-enumerated, All-head, All-map, All-nil, All-reverse, All-tail, AreStages, Case, Exchange, LedStage, Piece, Share}
use Rattle.pieces.proofs.Words.{Side, Source, Stream, and_parts, append-nil, cond_some, cons_option, course_of, courses_along, courses_of, enumerate_from}
use Rattle.pieces.proofs.Words.{eqb-true, false≢true, filter_map, filter_map-append, filter_map-enumerate_more, filter_map-push, is_of_stream}
use Rattle.pieces.proofs.Words.{is_stage, kept_hold, led_course, led_piece, led_stage, ltb-true, map-map, nat_lt, ne_eqb}
use Rattle.pieces.proofs.Words.{numbered-item, on_side, on_the_way, option_map, option_to_list, own_share, own_shares, piece_on, reverse, reverse-append}
use Rattle.pieces.proofs.Words.{same_Some, same_source, same_source-true, share_at, share_for, share_of, shares_along, shares_of, size_on, slice_get-map}
use Rattle.pieces.proofs.Words.{source_at, sources_of, stage_of, stream_course, take_more, unwrap_or}
use Rattle.std.proofs.Common.{All, Bool, List, None, Option, Some, [], ap, arith, false, get_or, if◌then◌else◌, length, map, refl, slice_get, subst, suc, sym}
use Rattle.std.proofs.Common.{take, true, zero, ℕ, ◌++◌, ◌+◌, ◌<◌, ◌==◌, ◌∙◌, ◌∷◌, ◌≡◌, ◌≢◌}
use Rattle.stream_case.specs.declared.source.Side.TheVariants as side
use Rattle.stream_case.specs.declared.source.Source.TheVariants as source

-- ---- items that are kept, one by one

module _ {X Y : Type 0} (h : X → Option Y) (xs : List X) (i : ℕ) (x : X) (within : i < length xs)
    (here : x ≡ get_or xs i x) where
  pub one_more : filter_map h (take (i + 1) xs) ≡ filter_map h (take i xs) ++ option_to_list (h x)
  one_more =
      ap (filter_map h) (take_more xs i x within ∙ ap (λ (y : X). take i xs ++ y ∷ []) (sym here))
      ∙ filter_map-push h (take i xs) x

-- what is kept of the shares of a stream at one of its pieces are the shares of the piece
module _ (of : Side) (sources : List Source) (stream index : ℕ) (own : is_of_stream sources stream index ≡ true) where
  own_kept : (es : List (ℕ × Exchange))
      → filter_map (share_at index) (filter_map (own_share of sources stream) es) ≡ filter_map (share_of of index) es
  own_kept [] = refl
  own_kept ((number, e) ∷ es) =
      by (is_of_stream sources stream (piece_on of e)) (piece_on of e) refl
      ∙ ap (cons_option (share_of of index (number, e))) (own_kept es)
    where
      by : (b : Bool) (piece : ℕ) → is_of_stream sources stream piece ≡ b
          → filter_map (share_at index)
          (cons_option (if b then Some (piece, share_for of (number, e)) else None)
          (filter_map (own_share of sources stream) es))
          ≡ cons_option (share_at index (piece, share_for of (number, e)))
          (filter_map (share_at index) (filter_map (own_share of sources stream) es))
      by true piece is = refl
      by false piece is =
          let kept = filter_map (share_at index) (filter_map (own_share of sources stream) es) in
          let other = ne_eqb piece index (λ same. false≢true (sym is ∙ ap (is_of_stream sources stream) same ∙ own)) in
          ap (λ b. cons_option (if b then Some (share_for of (number, e)) else None) kept) (sym other)

  pub own-shares : (exchanges : List Exchange)
      → filter_map (share_at index) (own_shares of sources exchanges stream) ≡ shares_of of index exchanges
  unfolding own_shares shares_of
  own-shares exchanges = own_kept (enumerate_from 0 exchanges)

-- ---- numbered items

module _ {X Y : Type 0} (h : ℕ × X → Option Y) (xs : List X) (i : ℕ) (x : X) (within : i < length xs)
    (here : x ≡ get_or xs i x) where
  pub kept-skip : h (i, x) ≡ None
      → filter_map h (enumerate_from 0 (take (i + 1) xs)) ≡ filter_map h (enumerate_from 0 (take i xs))
  kept-skip none =
      let before = filter_map h (enumerate_from 0 (take i xs)) in
      filter_map-enumerate_more h xs i x within here ∙ ap (λ o. before ++ option_to_list o) none ∙ append-nil before

  pub kept-more : (y : Y) → h (i, x) ≡ Some y
      → filter_map h (enumerate_from 0 (take (i + 1) xs)) ≡ filter_map h (enumerate_from 0 (take i xs)) ++ y ∷ []
  kept-more y some =
      filter_map-enumerate_more h xs i x within here
      ∙ ap (λ o. filter_map h (enumerate_from 0 (take i xs)) ++ option_to_list o) some

-- what is kept of turned items is what is kept of them, turned
pub filter_map-reverse : {X Y : Type 0} (h : X → Option Y) (xs : List X)
    → filter_map h (reverse xs) ≡ reverse (filter_map h xs)
filter_map-reverse h [] = refl
filter_map-reverse {X} {Y} h (x ∷ xs) =
    ap (filter_map h) (reverse-append (x ∷ []) xs) ∙ filter_map-append h (reverse xs) (x ∷ [])
    ∙ ap (λ ys. ys ++ filter_map h (x ∷ [])) (filter_map-reverse h xs) ∙ by (h x)
  where
    by : (o : Option Y) → reverse (filter_map h xs) ++ cons_option o [] ≡ reverse (cons_option o (filter_map h xs))
    by None = append-nil (reverse (filter_map h xs))
    by (Some y) = sym (reverse-append (y ∷ []) (filter_map h xs))

pub filter_map-way : {X Y : Type 0} (h : X → Option Y) (of : Side) (xs : List X)
    → filter_map h (on_the_way of xs) ≡ on_the_way of (filter_map h xs)
filter_map-way h side.Hot xs = refl
filter_map-way h side.Cold xs = filter_map-reverse h xs

-- what holds of each item that is kept holds of all of them, along the way too
pub All-way : {X : Type 0} (P : X → Type 0) (of : Side) (xs : List X) → All P xs → All P (on_the_way of xs)
All-way P side.Hot xs all = all
All-way P side.Cold xs all = All-reverse P xs all

-- nothing is kept where no item is
pub no_items : {X Y : Type 0} (h : ℕ × X → Option Y) (b : ℕ) (xs : List X)
    → ((j : ℕ) (z : X) → slice_get xs j ≡ Some z → h (b + j, z) ≡ None)
    → filter_map h (enumerate_from b xs) ≡ []
no_items h b [] none = refl
no_items h b (z ∷ xs) none =
    let first : b ≡ b + 0 = omega arith in
    let nothing_here = ap (λ i. h (i, z)) first ∙ none 0 z refl in
    ap (λ o. cons_option o (filter_map h (enumerate_from (b + 1) xs))) nothing_here
    ∙ no_items h (b + 1) xs
    (λ j w at. let next : b + 1 + j ≡ b + suc j = omega arith in ap (λ i. h (i, w)) next ∙ none (suc j) w at)

-- what is kept of a list of which one item alone is kept
pub only_item : {X Y : Type 0} (h : ℕ × X → Option Y) (b : ℕ) (xs : List X) (k : ℕ) (x : X) (y : Y)
    → slice_get xs k ≡ Some x → h (b + k, x) ≡ Some y
    → ((j : ℕ) (z : X) → slice_get xs j ≡ Some z → j ≢ k → h (b + j, z) ≡ None)
    → filter_map h (enumerate_from b xs) ≡ y ∷ []
only_item h b [] k x y there kept others = cc there
only_item {X} {Y} h b (z ∷ xs) zero x y there kept others =
    let no_others = no_items h (b + 1) xs (λ j w at.
    let next : b + 1 + j ≡ b + suc j = omega arith in
    ap (λ i. h (i, w)) next ∙ others (suc j) w at (λ same. cc same)) in
    ap (λ o. cons_option o (filter_map h (enumerate_from (b + 1) xs))) (own ∙ kept)
    ∙ ap (λ (ys : List Y). y ∷ ys) no_others
  where
    own : h (b, z) ≡ h (b + 0, x)
    own =
        let none : b ≡ b + 0 = omega arith in
        let same : z ≡ x = cc there in
        λ i. h (none i, same i)
only_item h b (z ∷ xs) (suc k) x y there kept others =
    let none : b ≡ b + 0 = omega arith in
    let next : b + suc k ≡ b + 1 + k = omega arith in
    let not_here = ap (λ i. h (i, z)) none ∙ others 0 z refl (λ same. cc same) in
    let is_kept = ap (λ i. h (i, x)) (sym next) ∙ kept in
    ap (λ o. cons_option o (filter_map h (enumerate_from (b + 1) xs))) not_here
    ∙ only_item h (b + 1) xs k x y there is_kept (λ j w at other.
    let later : b + 1 + j ≡ b + suc j = omega arith in
    ap (λ i. h (i, w)) later ∙ others (suc j) w at (λ same. other (omega (arith, same))))

module _ {X Y : Type 0} (P : Y → Type 0) (h : ℕ × X → Option Y) where
  one-kept : (o : Option Y) (rest : List Y) → ((y : Y) → o ≡ Some y → P y) → All P rest → All P (cons_option o rest)
  one-kept None rest here all = all
  one-kept (Some y) rest here all = All-cons P y rest (here y refl) all

  abbrev Gives : ℕ × X → Type 0
  Gives e = (y : Y) → h e ≡ Some y → P y

  kept-each : (es : List (ℕ × X)) → All Gives es → All P (filter_map h es)
  kept-each [] each = All-nil P
  kept-each (e ∷ es) each =
      one-kept (h e) (filter_map h es) (All-head Gives e es each) (kept-each es (All-tail Gives e es each))

  pub kept-all : (of : Side) (xs : List X)
      → ((i : ℕ) (x : X) (y : Y) → slice_get xs i ≡ Some x → h (i, x) ≡ Some y → P y)
      → All P (filter_map h (on_the_way of (enumerate_from 0 xs)))
  kept-all of xs each =
      let each_gives = All-enumerated Gives xs (λ i x at. λ y is. each i x y at is) in
      let all_give = All-way Gives of (enumerate_from 0 xs) each_gives in
      kept-each (on_the_way of (enumerate_from 0 xs)) all_give

-- what each item makes with its number
module _ {X Y : Type 0} (f : ℕ × X → Y) (xs : List X) where
  pub numbered-each : (P : ℕ → Y → Type 0) → ((i : ℕ) (x : X) → slice_get xs i ≡ Some x → P i (f (i, x)))
      → (i : ℕ) (y : Y) → slice_get (map f (enumerate_from 0 xs)) i ≡ Some y → P i y
  numbered-each P each i y at =
      let (x, here, is) = numbered-item f 0 xs i y at in
      let first : i ≡ 0 + i = omega arith in
      subst (P i) (ap (λ (k : ℕ). f (k, x)) first ∙ is) (each i x here)

  pub All-numbered : (P : Y → Type 0) → ((i : ℕ) (x : X) → slice_get xs i ≡ Some x → P (f (i, x)))
      → All P (map f (enumerate_from 0 xs))
  All-numbered P each = All-map P f (enumerate_from 0 xs) (All-enumerated (λ e. P (f e)) xs each)

-- an item of what each makes comes from the one there
pub mapped_item : {X Y : Type 0} (f : X → Y) (xs : List X) (i : ℕ) (y : Y) → slice_get (map f xs) i ≡ Some y
    → (x : X) × (slice_get xs i ≡ Some x) × (f x ≡ y)
mapped_item f [] i y at = cc at
mapped_item f (x ∷ xs) zero y at = (x, refl, same_Some (f x) y at)
mapped_item f (x ∷ xs) (suc i) y at = mapped_item f xs i y at

-- ---- the source of a piece

pub on_side-ap : {X Y : Type 0} (of : Side) (f : X → Y) (hot cold : X)
    → on_side of (f hot) (f cold) ≡ f (on_side of hot cold)
on_side-ap side.Hot f hot cold = refl
on_side-ap side.Cold f hot cold = refl

module _ (pieces : List Piece) (index : ℕ) (p : Piece) (there : slice_get pieces index ≡ Some p) where
  pub source_there : slice_get (sources_of pieces) index ≡ Some p.source
  source_there = slice_get-map (λ (q : Piece). q.source) pieces index ∙ ap (option_map (λ (q : Piece). q.source)) there

  pub source_at-piece : source_at (sources_of pieces) index ≡ p.source
  source_at-piece = ap (λ o. unwrap_or o (source.Stream 0)) source_there

-- ---- what holds of each share and of each stage

module _ (exchanges : List Exchange) where
  pub each-share : (P : Share → Type 0) (of : Side) (index : ℕ)
      → ((number : ℕ) (e : Exchange) → slice_get exchanges number ≡ Some e → piece_on of e ≡ index
      → P (record { exchanger = number; cp = size_on of e }))
      → All P (shares_of of index exchanges)
  unfolding shares_of
  each-share P of index each =
      let share : ℕ → Exchange → Share = λ k e. record { exchanger = k; cp = size_on of e } in
      kept_hold (λ (e : Exchange). piece_on of e == index) (share_of of index) share (λ k e. refl) P 0 exchanges
      (λ i e at own.
      let number : i ≡ 0 + i = omega arith in
      subst (λ k. P (share k e)) number (each i e at (eqb-true (piece_on of e) index own)))

  stages-used : (of : Side) (sources : List Source) (stream : ℕ) → AreStages (course_of of sources exchanges stream)
  stages-used of sources stream =
      let IsUsed : List Share → Type 0 = λ ss. 0 < length ss in
      kept-all IsUsed (stage_of of exchanges stream) of sources (λ i a kept at is.
      let shares = shares_of of i exchanges in
      let (holds, same) = cond_some (is_stage of exchanges stream i a) shares kept is in
      let used = (and_parts (same_source a (source.Stream stream)) (nat_lt 0 (length shares)) holds).1 in
      subst IsUsed same (ltb-true 0 (length shares) used))

  pub courses-used : (case : Case) (hot cold : List Source) → All AreStages (courses_of case hot cold exchanges)
  courses-used case hot cold =
      All-numbered (stream_course hot cold exchanges) case.streams AreStages (λ k s here.
      stages-used s.side (on_side s.side hot cold) k)

  pub each-stage : (P : LedStage → Type 0) (of : Side) (pieces : List Piece) (stream : ℕ)
      → ((index : ℕ) (p : Piece) → slice_get pieces index ≡ Some p → p.source ≡ source.Stream stream
      → 0 < length (shares_of of index exchanges) → P (led_piece of exchanges (index, p)))
      → All P (filter_map (led_stage of exchanges stream) (on_the_way of (enumerate_from 0 pieces)))
  each-stage P of pieces stream each =
      kept-all P (led_stage of exchanges stream) of pieces (λ i p stage at is.
      let shares = shares_of of i exchanges in
      let (holds, same) =
      cond_some (is_stage of exchanges stream i p.source) (led_piece of exchanges (i, p)) stage is in
      let (own, some) = and_parts (same_source p.source (source.Stream stream)) (nat_lt 0 (length shares)) holds in
      let own_source = same_source-true p.source (source.Stream stream) own in
      let holds_here = each i p at own_source (ltb-true 0 (length shares) some) in
      subst P same holds_here)

  -- ---- the courses that are led are those that are drawn

  led_shares : (of : Side) (stream : ℕ) (es : List (ℕ × Piece))
      → shares_along (filter_map (led_stage of exchanges stream) es)
      ≡ filter_map (λ e. stage_of of exchanges stream (e.0, e.1.source)) es
  led_shares of stream [] = refl
  led_shares of stream ((i, p) ∷ es) =
      by (is_stage of exchanges stream i p.source) (led_piece of exchanges (i, p))
      (filter_map (led_stage of exchanges stream) es)
      ∙ ap (cons_option (stage_of of exchanges stream (i, p.source))) (led_shares of stream es)
    where
      by : (b : Bool) (stage : LedStage) (rest : List LedStage)
          → shares_along (cons_option (if b then Some stage else None) rest)
          ≡ cons_option (if b then Some stage.shares else None) (shares_along rest)
      by true stage rest = refl
      by false stage rest = refl

  source_stages : (of : Side) (stream n : ℕ) (pieces : List Piece)
      → filter_map (λ e. stage_of of exchanges stream (e.0, e.1.source)) (enumerate_from n pieces)
      ≡ filter_map (stage_of of exchanges stream) (enumerate_from n (sources_of pieces))
  source_stages of stream n [] = refl
  source_stages of stream n (p ∷ pieces) =
      ap (cons_option (stage_of of exchanges stream (n, p.source))) (source_stages of stream (n + 1) pieces)

  shares_along-led : (of : Side) (pieces : List Piece) (stream : ℕ)
      → shares_along (filter_map (led_stage of exchanges stream) (on_the_way of (enumerate_from 0 pieces)))
      ≡ course_of of (sources_of pieces) exchanges stream
  shares_along-led of pieces stream =
      let h = λ (e : ℕ × Piece). stage_of of exchanges stream (e.0, e.1.source) in
      led_shares of stream (on_the_way of (enumerate_from 0 pieces)) ∙ filter_map-way h of (enumerate_from 0 pieces)
      ∙ ap (on_the_way of) (source_stages of stream 0 pieces)
      ∙ sym (filter_map-way (stage_of of exchanges stream) of (enumerate_from 0 (sources_of pieces)))

  module _ (hot cold : List Piece) where
    pub shares_along-course : (stream : ℕ) (s : Stream)
        → shares_along (led_course hot cold exchanges (stream, s))
        ≡ stream_course (sources_of hot) (sources_of cold) exchanges (stream, s)
    shares_along-course stream s =
        shares_along-led s.side (on_side s.side hot cold) stream
        ∙ ap (λ ss. course_of s.side ss exchanges stream) (sym (on_side-ap s.side sources_of hot cold))

    abbrev pub led_courses : Case → List (List LedStage)
    led_courses case = map (led_course hot cold exchanges) (enumerate_from 0 case.streams)

    pub courses_along-led : (case : Case)
        → courses_along (led_courses case) ≡ courses_of case (sources_of hot) (sources_of cold) exchanges
    courses_along-led case =
        let es = enumerate_from 0 case.streams in
        map-map shares_along (led_course hot cold exchanges) es ∙ (λ i. map (λ e. shares_along-course e.0 e.1 i) es)
