-- The network of pieces carries the states of its pieces, each stream from its first state to its last.
use Rattle.pieces.proofs.Words.{All-append, All-map, AreLedFrom, AreValues, Case, Contains, Course, EachRuns, Exchange, Exchanger, HasShape}
use Rattle.pieces.proofs.Words.{IsLedStage, IsLedStream, IsStreamPiece, LedStage, Make, Network, Piece, RunsAs, StageRuns, Stream, courses_along}
use Rattle.pieces.proofs.Words.{courses_lines, courses_made, courses_of, courses_run, courses_values, declared_line, declared_make, each_ended}
use Rattle.pieces.proofs.Words.{enumerate_from, led_course, led_piece, length-enumerate_from, length-map, made_branches, make_append, many_own}
use Rattle.pieces.proofs.Words.{network_of, no_end-declared, on_side, own_branches, own_start, piece_on, positive-is, shares_of, size_on, sources_of}
use Rattle.pieces.proofs.Words.{values_made}
use Rattle.std.proofs.Common.{All, List, Some, [], ap, append-nil, arith, length, map, refl, slice_get, subst, sym, ℕ, ◌++◌, ◌+◌, ◌<◌, ◌∙◌, ◌≡◌}
use Rattle.pieces.proofs.PieceShape.{CanBeLed, declared_here, exchanger-at, exchangers_of-network_of, size-for}
use Rattle.pieces.proofs.PieceStages.{courses_along-led, led_courses, each-share, each-stage, numbered-each}
use Rattle.design_lines.proofs.BranchStreams.{IsEachLed, are_led, stream_at-own}
use Rattle.fractions.specs.Rationals.{IsBelow, Rational, rational_zero, times}
use Rattle.network_values.specs.Values.{Valuation, change, duty_at, duty_of, ended_streams, first_value, full_size}
use Rattle.stream_case.specs.declared.source.Source.TheVariants as source

module _ {case : Case} {hot cold : List Piece} {exchanges : List Exchange}
    (can : CanBeLed case hot cold exchanges) where
  abbrev pub network_here : Network
  network_here = network_of case (sources_of hot) (sources_of cold) exchanges

  abbrev pub courses_here : List (List LedStage)
  courses_here = led_courses exchanges hot cold case

  abbrev pub values_here : Valuation
  values_here = map first_value case.streams ++ courses_values courses_here

  -- the lines declare the exchangers and then lead the streams
  lines-are : network_here.lines
      ≡ map declared_line (declared_here can) ++ courses_lines (length case.streams) 0 (courses_along courses_here)
  unfolding network_of
  lines-are =
      let same_courses = courses_along-led exchanges hot cold case in
      ap (λ cs. map declared_line (declared_here can) ++ courses_lines (length case.streams) 0 cs) (sym same_courses)

  -- ---- streams that are led

  duty-is : (number : ℕ) (e : Exchange) → slice_get exchanges number ≡ Some e → duty_at network_here number ≡ e.heat
  unfolding duty_at
  duty-is number e at =
      let same_exchangers = exchangers_of-network_of case (sources_of hot) (sources_of cold) exchanges in
      ap (λ (xs : List Exchanger). duty_of (slice_get xs number)) same_exchangers
      ∙ ap duty_of (exchanger-at can number e at)

  -- a piece of a stream that exchanges heat
  pub record IsOwnPiece (stream : ℕ) (s : Stream) (index : ℕ) (p : Piece) : Type 0 where
    pub there : slice_get (on_side s.side hot cold) index ≡ Some p
    pub own : p.source ≡ source.Stream stream
    pub some : 0 < length (shares_of s.side index exchanges)
    pub is : IsStreamPiece s.side exchanges index p s

  pub stage-led : (stream : ℕ) (s : Stream) (index : ℕ) (p : Piece) → IsOwnPiece stream s index p
      → IsLedStage network_here s.side (full_size s) (led_piece s.side exchanges (index, p))
  stage-led stream s index p piece = record {
    some = piece.some;
    positive = each-share exchanges (λ a. IsBelow rational_zero a.cp) s.side index (λ number e at on.
        let there = ap (slice_get (on_side s.side hot cold)) on ∙ piece.there in
        positive-is (size_on s.side e) (size-for can s.side number e p stream at there piece.own).above);
    sizes = piece.is.sizes;
    duties =
        each-share exchanges (λ a. times a.cp (change s.side p.before p.after) ≡ duty_at network_here a.exchanger)
        s.side index (λ number e at on. piece.is.heats number e at on ∙ sym (duty-is number e at));
  }

  -- what holds of each piece of a stream that exchanges heat holds of each stage of its course
  pub each-piece : (P : LedStage → Type 0) (stream : ℕ) (s : Stream) → slice_get case.streams stream ≡ Some s
      → ((index : ℕ) (p : Piece) → IsOwnPiece stream s index p → P (led_piece s.side exchanges (index, p)))
      → All P (led_course hot cold exchanges (stream, s))
  each-piece P stream s here each =
      each-stage exchanges P s.side (on_side s.side hot cold) stream (λ index p there own some. each index p (record {
        there = there;
        own = own;
        some = some;
        is = can.led.pieces stream s index p here there own some;
      }))

  each-led : IsEachLed case network_here 0 courses_here
  each-led =
      let IsLed = λ (k : ℕ) (course : List LedStage). (s : Stream) × (slice_get case.streams (0 + k) ≡ Some s)
      × IsLedStream network_here s course in
      numbered-each (led_course hot cold exchanges) case.streams IsLed (λ k s here.
      let number : k ≡ 0 + k = omega arith in
      let joined = can.led.joined k s here in (
        s,
        ap (slice_get case.streams) (sym number) ∙ here,
        record {
          led =
              each-piece (IsLedStage network_here s.side (full_size s)) k s here
              (λ index p piece. stage-led k s index p piece);
          joined = joined.meet;
          ends = joined.ends;
        },
      ))

  all-led : AreLedFrom case network_here (length case.streams) 0 courses_here
  unfolding network_of
  all-led =
      let same_courses = courses_along-led exchanges hot cold case in
      let own_streams =
      stream_at-own case (made_branches 0 0 (courses_of case (sources_of hot) (sources_of cold) exchanges)) in
      are_led case network_here courses_here (own_branches case) 0 (length case.streams) 0
      (ap (λ (cs : List Course). own_branches case ++ made_branches 0 0 cs) (sym same_courses)) (many_own case)
      own_streams each-led

  -- ---- values

  -- the lines of the network make the values of the courses
  network-makes : Make case network_here (map first_value case.streams) network_here.lines (courses_values courses_here)
  network-makes =
      let start = map first_value case.streams in
      let made = courses_values courses_here in
      let led = courses_lines (length case.streams) 0 (courses_along courses_here) in
      let many = sym (length-map case.streams first_value) in
      let drawn =
      courses_made case network_here courses_here start (length case.streams) 0 many (own_start case) all-led in
      let declared = declared_make case network_here start (declared_here can) in
      let both = make_append case network_here start (map declared_line (declared_here can)) led [] made declared
      (subst (λ (vs : Valuation). Make case network_here vs led made) (sym (append-nil start)) drawn) in
      subst (λ ls. Make case network_here start ls made) (sym lines-are) both

  -- they are its valuation, and each end has its whole stream in its last state
  pub network-valued : (shape : HasShape case network_here)
      → AreValues case network_here shape (courses_values courses_here)
  network-valued shape = values_made case network_here shape (courses_values courses_here) can.complete network-makes

  pub streams-ended : (stream : ℕ) → stream < length case.streams → Contains (ended_streams network_here) stream
  streams-ended stream within =
      let many = length-map (enumerate_from 0 case.streams) (led_course hot cold exchanges) in
      let no_end = no_end-declared (declared_here can) in
      each_ended case network_here (map declared_line (declared_here can)) courses_here (length case.streams) no_end
      lines-are all-led stream (omega (arith, within, many, length-enumerate_from 0 case.streams))

  -- ---- passes

  -- a stream passes an exchanger from the one state of the piece of its exchange to the other
  pub record IsRun (stream exchanger : ℕ) (before after : Rational) : Type 0 where
    pub s : Stream
    pub here : slice_get case.streams stream ≡ Some s
    pub e : Exchange
    pub at : slice_get exchanges exchanger ≡ Some e
    pub p : Piece
    pub there : slice_get (on_side s.side hot cold) (piece_on s.side e) ≡ Some p
    pub is : IsStreamPiece s.side exchanges (piece_on s.side e) p s
    pub before_is : before ≡ p.before
    pub after_is : after ≡ p.after

  each-runs : EachRuns case network_here IsRun 0 courses_here
  each-runs =
      let Runs = λ (k : ℕ). StageRuns case network_here IsRun (0 + k) in
      numbered-each (led_course hot cold exchanges) case.streams (λ k. All (Runs k)) (λ k s here.
      let number : k ≡ 0 + k = omega arith in
      each-piece (Runs k) k s here (λ index p piece.
      each-share exchanges (λ a. IsRun (0 + k) a.exchanger p.before p.after) s.side index (λ i e at on. record {
        s = s;
        here = ap (slice_get case.streams) (sym number) ∙ here;
        e = e;
        at = at;
        p = p;
        there = ap (slice_get (on_side s.side hot cold)) on ∙ piece.there;
        is = subst (λ j. IsStreamPiece s.side exchanges j p s) (sym on) piece.is;
        before_is = refl;
        after_is = refl;
      })))

  pub passes-run : All (RunsAs case network_here IsRun values_here) network_here.lines
  passes-run =
      let Runs = RunsAs case network_here IsRun values_here in
      let start = map first_value case.streams in
      let made = courses_values courses_here in
      let n = length case.streams in
      let many = sym (length-map case.streams first_value) in
      let all : values_here ≡ start ++ (made ++ []) = ap (λ vs. start ++ vs) (sym (append-nil made)) in
      let runs = courses_run case network_here IsRun courses_here start [] values_here n 0 many (own_start case) all-led
      each-runs all in
      let declared_run = All-map Runs declared_line (declared_here can) (λ k x within. tt) in
      let both_run = All-append Runs (map declared_line (declared_here can))
      (courses_lines n 0 (courses_along courses_here)) declared_run runs in
      subst (All Runs) (sym lines-are) both_run
