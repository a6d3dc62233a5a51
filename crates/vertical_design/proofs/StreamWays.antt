-- The pieces of a stream, and its way through them.
use Rattle.vertical_design.proofs.Words.{All-contains, AreEnds-IsValidStream, AreJoined, Contains, Contains-slice_get, Exchange, IsAtMost, IsFine}
use Rattle.vertical_design.proofs.Words.{Band, IsSensibleStream, IsSized, IsStreamPiece, LedStage, Piece, Rational, Share, Side, Stream, all_at}
use Rattle.vertical_design.proofs.Words.{at_most-whole, cases_eq, change, clamps, contribution_of, curve_heat, enumerate_from, eq-eqb, eqb-true}
use Rattle.vertical_design.proofs.Words.{false_from_ne_true, false≢true, filter_map, filter_map-way, first_end, flat_map, flow_in, full_size-sensible}
use Rattle.vertical_design.proofs.Words.{heat_at, high_end, int_le-from, intervals_of, ints, is_latent-sensible, is_stage, kept_hold, last_end}
use Rattle.vertical_design.proofs.Words.{led_course, led_piece, led_stage, length-map, low_end, ltb-true, minus, minus-minus_same, minus-plus_plus}
use Rattle.vertical_design.proofs.Words.{nat_lt, nat_tests, ne_eqb, no_items, on_side, only_item, option_map, option_map_or, order-sensible, own_side}
use Rattle.vertical_design.proofs.Words.{piece_on, range_with_len, ratio, same_Some, same_side, share_of, shares_of, size_of, size_on, slice_get-map}
use Rattle.vertical_design.proofs.Words.{bands_of, slice_get_within, times, unsigned_abs, whole, whole-nonzero, ◌&&◌}
use Rattle.std.proofs.Common.{Bool, List, None, Some, [], ap, ap₂, arith, false, if◌then◌else◌, length, pos, refl, slice_get, subst, subst₂, suc, sym}
use Rattle.std.proofs.Common.{true, zero, ℕ, ℤ, ⊎_elim, ◌*◌, ◌++◌, ◌+◌, ◌-◌, ◌<ℤ◌, ◌<◌, ◌==◌, ◌∙◌, ◌∷◌, ◌≡◌, ◌≤ℤ◌, ◌≤◌}
use Rattle.vertical_design.proofs.StraightCurves.{HasNoEnd, heat_rises}
use Rattle.vertical_design.proofs.FacingCurves.{bounded, one_place}
use Rattle.vertical_design.proofs.PieceShares.{exchange_there}
use Rattle.vertical_design.proofs.Exchanges.{IsMatch, RunsBand, are_matches, exchanges, heat_match, over_at, own_band, own_number}
use Rattle.vertical_design.proofs.Exchanges.{pair_runs, piece_index, piece_of, size_match, size_piece, stream_runs}
use Rattle.vertical_design.proofs.FacingPieces.{found}
use Rattle.vertical_design.proofs.SideScales.{curve_heat-whole}
use Rattle.vertical_design.proofs.Intervals.{RunsIn, actual-first, actual-last, actual_at, entered_at, left_at, piece_in}
use Rattle.vertical_design.proofs.Intervals.{pieces, pieces_at, scale_at, scale_is, state_at}
use Rattle.vertical_design.proofs.FlowLimits.{side-within}
use Rattle.vertical_design.proofs.SharedFlows.{index_on, other}
use Rattle.vertical_design.proofs.RowLists.{filter_map-rows, numbered-rows}
use Rattle.vertical_design.proofs.BandSources.{IsSourceBand, band_of, band_sources, own_place, sources_differ, stream_place}
use Rattle.vertical_design.proofs.CutNeighbours.{cut_from_last, cut_upto_first}
use Rattle.vertical_design.proofs.CaseAxis.{Axis, bands_are, cut_below, ends_are_cuts, flow_above, flow_at, high_at, low_at, no_end_between}
use Rattle.vertical_design.proofs.CaseAxis.{streams_are}
use Rattle.design_lines.specs.Ways.{on_the_way}
use Rattle.vertical_design.proofs.PieceNumbers.{most_flow, most_cp, highest, small, stream_sized}
use Rattle.vertical_design.proofs.CourseLeads.{upper, lower, FallTo, Leads, way_leads}
use Rattle.stream_case.specs.declared.source.Side.TheVariants as side
use Rattle.stream_case.specs.declared.source.Source.TheVariants as source

some_share : (shares : List Share) (n : ℤ) → pos 0 <ℤ n → size_of shares ≡ whole n → 0 < length shares
some_share [] n above is = absurd (whole-nonzero n (λ none. absurd (omega (arith, ints, above, none))) (sym is))
some_share (s ∷ shares) n above is = omega arith

module _ (axis : Axis) where
  abbrev many : Side → ℕ
  many of = length (bands_of of axis.case)

  pub flow_few : (of : Side) (number : ℕ) → unsigned_abs (flow_at axis of number) ≤ most_flow
  flow_few of number =
      let is = side-within (low_at axis number) (high_at axis number) (bands_of of axis.case) (bands_are axis of) in
      omega (arith, ints, is.from, is.upto)

  -- the temperature changes by the heat between the cuts over the flow
  change_between : (of : Side) (number : ℕ) (scale : ℤ → Rational) (c : ℤ)
      → change of (actual_at of (scale (entered_at axis of number)) c) (actual_at of (scale (left_at axis of number)) c)
      ≡ minus (scale (high_at axis number)) (scale (low_at axis number))
  change_between side.Hot number scale c =
      minus-plus_plus (scale (high_at axis number)) (scale (low_at axis number)) (whole c)
  change_between side.Cold number scale c =
      minus-minus_same (scale (high_at axis number)) (scale (low_at axis number)) (whole c)

  either_cut : (P : ℤ → Type 0) (of : Side) (number : ℕ) → P (low_at axis number) → P (high_at axis number)
      → P (entered_at axis of number) × P (left_at axis of number)
  either_cut P side.Hot number lower upper = (upper, lower)
  either_cut P side.Cold number lower upper = (lower, upper)

  pub on_pieces : (of : Side) → pieces axis of ≡ on_side of (pieces axis side.Hot) (pieces axis side.Cold)
  on_pieces side.Hot = refl
  on_pieces side.Cold = refl

  module _ (stream : ℕ) (s : Stream) (here : slice_get axis.case.streams stream ≡ Some s) where
    valid : IsSensibleStream s
    valid = all_at IsSensibleStream axis.case.streams stream s (streams_are axis).each here

    module _ (number k : ℕ) (within : number < length axis.cuts - 1) (is : RunsBand axis s.side number k)
        (own : is.band.source ≡ source.Stream stream) where
      abbrev index : ℕ
      index = number * many s.side + k

      abbrev low : ℤ
      low = low_at axis number

      abbrev high : ℤ
      high = high_at axis number

      abbrev pub stream_piece : Piece
      stream_piece = piece_in axis s.side number is.band

      inside : k < many s.side
      inside = slice_get_within (bands_of s.side axis.case) k is.band is.there

      runs : RunsIn axis s.side number s
      runs = stream_runs axis s.side number k stream s is own here

      flow_is : flow_in low high is.band ≡ s.cp
      flow_is =
          let from_low = int_le-from (heat_at s.side axis.case.streams (low_end s)) low runs.from in
          let upto_high = int_le-from high (heat_at s.side axis.case.streams (high_end s)) runs.upto in
          ap (flow_in low high) (own_band axis s.side is.band stream s is.kind own here).0
          ∙ ap₂ (λ p q. if p && q then s.cp else pos 0) from_low upto_high

      pub sizes_are : size_of (shares_of s.side index (exchanges axis)) ≡ whole s.cp
      sizes_are = size_piece axis s.side number k is.band within is.there ∙ ap whole flow_is

      change_is : change s.side stream_piece.before stream_piece.after ≡ over_at axis s.side number
      change_is =
          change_between s.side number (scale_at axis s.side number) (contribution_of axis.case is.band.source)
          ∙ (scale_is axis s.side number within s runs).change low high

      -- an exchange of the piece
      own_heat : (i : ℕ) (e : Exchange) → slice_get (exchanges axis) i ≡ Some e → piece_on s.side e ≡ index
          → times (size_on s.side e) (change s.side stream_piece.before stream_piece.after) ≡ e.heat
      own_heat i e at on =
          let m = all_at (IsMatch axis) (exchanges axis) i e (are_matches axis) at in
          let same = own_number axis s.side number m.number k m.pair m.met inside (ap (piece_on s.side) m.is ∙ on) in
          let same_change = change_is ∙ ap (over_at axis s.side) (sym same.0) in
          let heat_is = heat_match axis s.side m.number m.pair m.met in
          ap (times (size_on s.side e)) same_change
          ∙ subst (λ (x : Exchange). times (size_on s.side x) (over_at axis s.side m.number) ≡ x.heat) m.is heat_is

      -- over the flow of the other side
      own_over : (i : ℕ) (e : Exchange) → slice_get (exchanges axis) i ≡ Some e → (piece_on s.side e == index) ≡ true
          → (num : ℤ) × (size_on s.side e ≡ ratio num (unsigned_abs (flow_at axis (other s.side) number)))
      own_over i e at test =
          let m = all_at (IsMatch axis) (exchanges axis) i e (are_matches axis) at in
          let on_piece = eqb-true (piece_on s.side e) index test in
          let same =
          own_number axis s.side number m.number k m.pair m.met inside (ap (piece_on s.side) m.is ∙ on_piece) in (
            m.pair.amount,
            ap (size_on s.side) (sym m.is) ∙ size_match axis s.side m.number m.pair
                ∙ ap (λ n. ratio m.pair.amount (unsigned_abs (flow_at axis (other s.side) n))) same.0,
          )

      state_sized : (q : ℤ) → low ≤ℤ q → q ≤ℤ high
          → IsSized (unsigned_abs (flow_at axis s.side number)) highest (state_at axis s.side number q is.band)
      state_sized q from upto =
          let scale = scale_is axis s.side number within s runs in
          let over = scale.over q in
          let range = scale.range q from upto s runs in
          let contribution : contribution_of axis.case is.band.source ≡ s.contribution
          = ap (contribution_of axis.case) own
          ∙ ap (λ o. option_map_or (λ (r : Stream). r.contribution) o (pos 0)) here in
          let ends = AreEnds-IsValidStream s valid.valid in
          let sized = stream_sized s.side (unsigned_abs (flow_at axis s.side number)) (scale_at axis s.side number q)
          s.contribution over.num (low_end s) (high_end s) (omega (arith, ints, flow_above axis number within s.side))
          over.is ends range.0 range.1 valid.valid.contribution in
          subst (λ c.
          IsSized (unsigned_abs (flow_at axis s.side number)) highest
          (actual_at s.side (scale_at axis s.side number q) c))
          (sym contribution) sized

      fine : IsFine s.side (exchanges axis) index stream_piece s
      unfolding shares_of
      fine =
          let gap = cut_below axis number within in
          let above = flow_above axis number within (other s.side) in
          let some = flow_above axis number within s.side in
          let at_low = state_sized low (omega (arith, ints)) (omega (arith, ints, gap)) in
          let at_high = state_sized high (omega (arith, ints, gap)) (omega (arith, ints)) in
          let states =
          either_cut (λ q.
          IsSized (unsigned_abs (flow_at axis s.side number)) highest (state_at axis s.side number q is.band)) s.side
          number at_low at_high in
          let across = unsigned_abs (flow_at axis (other s.side) number) in
          record {
            size_den = across;
            most_size = most_cp;
            state_den = unsigned_abs (flow_at axis s.side number);
            most_state = highest;
            small =
                small across (unsigned_abs (flow_at axis s.side number)) (omega (arith, ints, above))
                (flow_few (other s.side) number) (omega (arith, ints, some)) (flow_few s.side number);
            sizes =
                kept_hold (λ (e : Exchange). piece_on s.side e == index) (share_of s.side index)
                (λ n e. record { exchanger = n; cp = size_on s.side e }) (λ n e. refl)
                (λ (share : Share). (num : ℤ) × (share.cp ≡ ratio num across)) 0 (exchanges axis)
                (λ i e at test. own_over i e at test);
            most = subst (λ x. IsAtMost x (whole (pos most_cp))) (sym (full_size-sensible s valid.sensible))
                (at_most-whole s.cp (pos most_cp) valid.sensible.cp.upto);
            before = states.0;
            after = states.1;
          }

      pub piece_led : IsStreamPiece s.side (exchanges axis) index stream_piece s
      piece_led = record {
        sizes = sizes_are ∙ sym (full_size-sensible s valid.sensible);
        heats = own_heat;
        load = λ latent. absurd (false≢true (sym (is_latent-sensible s valid.sensible) ∙ latent));
        fine = fine;
      }

    -- ---- the piece at an index

    pub stream_pieces : (index : ℕ) (p : Piece)
        → slice_get (on_side s.side (pieces axis side.Hot) (pieces axis side.Cold)) index ≡ Some p
        → p.source ≡ source.Stream stream → 0 < length (shares_of s.side index (exchanges axis))
        → IsStreamPiece s.side (exchanges axis) index p s
    stream_pieces index p there own some =
        let (i, e, at, on) = exchange_there s.side index (exchanges axis) some in
        let m = all_at (IsMatch axis) (exchanges axis) i e (are_matches axis) at in
        let runs = pair_runs axis m.number s.side m.pair m.met in
        let found = sym (piece_of axis s.side e m) ∙ ap (slice_get (pieces axis s.side)) on
        ∙ ap (λ ps. slice_get ps index) (on_pieces s.side) ∙ there in
        let same = same_Some (piece_in axis s.side m.number runs.band) p found in
        let index_is = sym (piece_index axis s.side m.number m.pair) ∙ ap (piece_on s.side) m.is ∙ on in
        let own_source = ap (λ (q : Piece). q.source) same ∙ own in
        let led = piece_led m.number (index_on s.side m.pair) m.within runs own_source in
        subst₂ (λ i q. IsStreamPiece s.side (exchanges axis) i q s) index_is same led

    -- a piece with shares is of an interval in which the stream runs
    pub shares_run : (number k : ℕ)
        → slice_get (bands_of s.side axis.case) k ≡ Some (band_of s.side axis.case.streams stream s)
        → 0 < length (shares_of s.side (number * many s.side + k) (exchanges axis)) → RunsIn axis s.side number s
    shares_run number k there some =
        let (i, e, at, on) = exchange_there s.side (number * many s.side + k) (exchanges axis) some in
        let m = all_at (IsMatch axis) (exchanges axis) i e (are_matches axis) at in
        let runs = pair_runs axis m.number s.side m.pair m.met in
        let inside = slice_get_within (bands_of s.side axis.case) k (band_of s.side axis.case.streams stream s) there in
        let same = own_number axis s.side number m.number k m.pair m.met inside (ap (piece_on s.side) m.is ∙ on) in
        let found = sym runs.there ∙ ap (slice_get (bands_of s.side axis.case)) same.1 ∙ there in
        let band = same_Some runs.band (band_of s.side axis.case.streams stream s) found in
        let source_is = ap (λ (a : Band). a.source) band in
        let runs_there = stream_runs axis s.side m.number (index_on s.side m.pair) stream s runs source_is here in
        subst (λ n. RunsIn axis s.side n s) same.0 runs_there

    -- ---- its way

    member : Contains axis.case.streams s
    member = Contains-slice_get axis.case.streams stream s here

    abbrev own : Band
    own = band_of s.side axis.case.streams stream s

    -- ---- its pieces

    place : (k : ℕ) × (slice_get (bands_of s.side axis.case) k ≡ Some own)
    place = stream_place axis.case s.side stream s here refl

    abbrev stages_at : ℕ → List LedStage
    stages_at n =
        filter_map (led_stage s.side (exchanges axis) stream)
        (enumerate_from (n * many s.side) (pieces_at axis s.side n))

    abbrev stages_of : List ℕ → List LedStage
    stages_of numbers = flat_map stages_at numbers

    all_stages : led_course (pieces axis side.Hot) (pieces axis side.Cold) (exchanges axis) (stream, s)
        ≡ on_the_way s.side (stages_of (intervals_of axis.cuts))
    unfolding pieces
    all_stages =
        let h = led_stage s.side (exchanges axis) stream in
        let rows = pieces_at axis s.side in
        let none : 0 ≡ 0 * many s.side = omega arith in
        let numbered = ap (λ b. enumerate_from b (flat_map rows (intervals_of axis.cuts))) none
        ∙ numbered-rows rows (many s.side) (λ n. length-map (bands_of s.side axis.case) (piece_in axis s.side n)) 0
        (length axis.cuts - 1) in
        let by_rows = ap (filter_map h) numbered
        ∙ filter_map-rows h (λ n. enumerate_from (n * many s.side) (rows n)) (intervals_of axis.cuts) in
        ap (λ (ps : List Piece). filter_map h (on_the_way s.side (enumerate_from 0 ps))) (sym (on_pieces s.side))
        ∙ filter_map-way h s.side (enumerate_from 0 (flat_map rows (intervals_of axis.cuts)))
        ∙ ap (on_the_way s.side) by_rows

    abbrev own_index : ℕ → ℕ
    own_index n = n * many s.side + place.0

    abbrev stage : ℕ → LedStage
    stage n = led_piece s.side (exchanges axis) (own_index n, piece_in axis s.side n own)

    abbrev has_shares : ℕ → Bool
    has_shares i = nat_lt 0 (length (shares_of s.side i (exchanges axis)))

    -- its own piece alone can be a stage
    stage_test : (n j : ℕ) (p : Piece) → slice_get (pieces_at axis s.side n) j ≡ Some p
        → is_stage s.side (exchanges axis) stream (n * many s.side + j) p.source
        ≡ ((j == place.0) && has_shares (n * many s.side + j))
    stage_test n j p at =
        let (b, there, is) = found (piece_in axis s.side n) p (slice_get (bands_of s.side axis.case) j)
        (sym (slice_get-map (piece_in axis s.side n) (bands_of s.side axis.case) j) ∙ at) in
        ap (λ (q : Piece). is_stage s.side (exchanges axis) stream (n * many s.side + j) q.source) (sym is)
        ∙ ap (λ t. t && has_shares (n * many s.side + j))
        (own_place (bands_of s.side axis.case) (sources_differ axis.case s.side) place.0 own place.1 j b there)

    no_stage : (n j : ℕ) (p : Piece) → slice_get (pieces_at axis s.side n) j ≡ Some p
        → ((j == place.0) && has_shares (n * many s.side + j)) ≡ false
        → led_stage s.side (exchanges axis) stream (n * many s.side + j, p) ≡ None
    no_stage n j p at is =
        let stage = led_piece s.side (exchanges axis) (n * many s.side + j, p) in
        ap (λ b. if b then Some stage else None) (stage_test n j p at ∙ is)

    -- an interval in which it runs is a stage
    runs_stage : (n : ℕ) → n < length axis.cuts - 1 → RunsIn axis s.side n s → stages_at n ≡ stage n ∷ []
    runs_stage n within runs =
        let p = piece_in axis s.side n own in
        let there = slice_get-map (piece_in axis s.side n) (bands_of s.side axis.case) place.0
        ∙ ap (option_map (piece_in axis s.side n)) place.1 in
        let is : RunsBand axis s.side n place.0 = record {
          band = own;
          there = place.1;
          kind =
              all_at (IsSourceBand axis.case s.side) (bands_of s.side axis.case) place.0 own
              (band_sources axis.case s.side) place.1;
          from = runs.from;
          upto = runs.upto;
        } in
        let sized = sizes_are n place.0 within is refl in
        let some = some_share (shares_of s.side (own_index n) (exchanges axis)) s.cp
        (omega (arith, ints, valid.sensible.cp.from)) sized in
        let kept : has_shares (own_index n) ≡ true = grind (arith, nat_tests, some) in
        let test = stage_test n place.0 p there
        ∙ ap (λ b. b && has_shares (own_index n)) (eq-eqb place.0 place.0 refl) ∙ kept in
        let is_stage = ap (λ b. if b then Some (stage n) else None) test in
        only_item (led_stage s.side (exchanges axis) stream) (n * many s.side) (pieces_at axis s.side n) place.0 p
        (stage n) there is_stage
        (λ j q at other. no_stage n j q at (ap (λ b. b && has_shares (n * many s.side + j)) (ne_eqb j place.0 other)))

    -- and one in which it does not is none
    rests_stage : (n : ℕ) → (RunsIn axis s.side n s → ⊥) → stages_at n ≡ []
    rests_stage n rests =
        no_items (led_stage s.side (exchanges axis) stream) (n * many s.side) (pieces_at axis s.side n) (λ j p at.
        no_stage n j p at
        (⊎_elim (λ same.
        ap (λ b. b && has_shares (n * many s.side + j)) (eq-eqb j place.0 same)
        ∙ ap (λ i. has_shares (n * many s.side + i)) same
        ∙ false_from_ne_true (has_shares (own_index n)) (λ holds.
        rests
        (shares_run n place.0 place.1 (ltb-true 0 (length (shares_of s.side (own_index n) (exchanges axis))) holds))))
        (λ other. ap (λ b. b && has_shares (n * many s.side + j)) (ne_eqb j place.0 other)) (cases_eq j place.0)))

    -- ---- the heats of its ends

    abbrev bottom : ℤ
    bottom = heat_at s.side axis.case.streams (low_end s)

    abbrev top : ℤ
    top = heat_at s.side axis.case.streams (high_end s)

    ends_rise : low_end s <ℤ high_end s
    ends_rise = order-sensible s valid.sensible

    heats_rise : bottom ≤ℤ top
    heats_rise =
        heat_rises s.side axis.case.streams (low_end s) (high_end s) (streams_are axis).each
        (omega (arith, ints, ends_rise))

    ends_cut : Contains axis.cuts bottom × Contains axis.cuts top
    ends_cut =
        let P : Stream → Type 0
        = λ r.
        same_side r.side s.side ≡ true
        → Contains axis.cuts (heat_at s.side axis.case.streams (low_end r))
        × Contains axis.cuts (heat_at s.side axis.case.streams (high_end r)) in
        All-contains P axis.case.streams s (ends_are_cuts axis s.side) member (own_side s.side)

    -- the temperature of the stream where its curve has a heat
    record IsPlaceOf (t : Rational) (heat : ℤ) : Type 0 where
      from : IsAtMost (whole (low_end s)) t
      upto : IsAtMost t (whole (high_end s))
      heat_is : curve_heat s.side axis.case.streams t ≡ whole heat

    one_temperature : (t u : Rational) (heat : ℤ) → IsPlaceOf t heat → IsPlaceOf u heat → t ≡ u
    one_temperature t u heat one other =
        one_place axis.case.streams (streams_are axis) s member t u one.from one.upto other.from other.upto
        (one.heat_is ∙ sym other.heat_is)

    place_at : (x : ℤ) → low_end s ≤ℤ x → x ≤ℤ high_end s → IsPlaceOf (whole x) (heat_at s.side axis.case.streams x)
    place_at x from upto = record {
      from = at_most-whole (low_end s) x from;
      upto = at_most-whole x (high_end s) upto;
      heat_is = curve_heat-whole s.side axis.case.streams x (streams_are axis);
    }

    -- ---- its stages, from a cut down

    abbrev actual : Rational → Rational
    actual t = actual_at s.side t (contribution_of axis.case own.source)

    -- the heat of the stream that is nearest to x
    abbrev IsNearest : ℤ → ℤ → Type 0
    IsNearest x heat = heat ≡ bounded bottom top x

    -- a stage at its two cuts
    cut_states : (of : Side) (n : ℕ) (f : ℤ → Rational) (shares : List Share)
        → (upper of (record {
          before = f (entered_at axis of n);
          after = f (left_at axis of n);
          shares = shares;
        }) ≡ f (high_at axis n))
        × (lower of (record {
          before = f (entered_at axis of n);
          after = f (left_at axis of n);
          shares = shares;
        }) ≡ f (low_at axis n))
    cut_states side.Hot n f shares = (refl, refl)
    cut_states side.Cold n f shares = (refl, refl)

    outside : (n : ℕ) → n < length axis.cuts - 1
        → HasNoEnd s.side axis.case.streams (streams_are axis) (low_at axis n) (high_at axis n) s
    outside n within =
        let no_end = no_end_between axis n within s.side in
        All-contains (λ r.
        same_side r.side s.side ≡ true
        → HasNoEnd s.side axis.case.streams (streams_are axis) (low_at axis n) (high_at axis n) r)
        axis.case.streams s no_end member (own_side s.side)

    -- the rest of the way, from the lower cut of an interval
    abbrev Falls : Rational → List LedStage → Type 0
    Falls t stages = FallTo s.side (actual t) stages (actual (whole (low_end s)))

    abbrev GoesOn : ℕ → List LedStage → Type 0
    GoesOn n rest = (t : Rational) (heat : ℤ) → IsNearest (low_at axis n) heat → IsPlaceOf t heat → Falls t rest

    passes_by : (n : ℕ) (t : Rational) (rest : List LedStage) → (RunsIn axis s.side n s → ⊥) → Falls t rest
        → Falls t (stages_at n ++ rest)
    passes_by n t rest rests fall = subst (λ xs. Falls t (xs ++ rest)) (sym (rests_stage n rests)) fall

    goes_through : (n : ℕ) → n < length axis.cuts - 1 → (t : Rational) (rest : List LedStage)
        → RunsIn axis s.side n s → IsPlaceOf t (high_at axis n)
        → GoesOn n rest → Falls t (stages_at n ++ rest)
    goes_through n within t rest runs place on =
        let low = low_at axis n in
        let high = high_at axis n in
        let gap = cut_below axis n within in
        let scale = scale_at axis s.side n in
        let is = scale_is axis s.side n within s runs in
        let least : low ≤ℤ low = omega (arith, ints) in
        let most : high ≤ℤ high = omega (arith, ints) in
        let order : low ≤ℤ high = omega (arith, ints, gap) in
        let high_range = is.range high order most s runs in
        let low_range = is.range low least order s runs in
        let above = one_temperature (scale high) t high (record {
          from = high_range.0;
          upto = high_range.1;
          heat_is = is.heat high order most;
        }) place in
        let near : IsNearest low low = omega (arith, ints, clamps, gap, runs.from, runs.upto) in
        let fall = on (scale low) low near (record {
          from = low_range.0;
          upto = low_range.1;
          heat_is = is.heat low least order;
        }) in
        let cut = cut_states s.side n (λ q. state_at axis s.side n q own) (stage n).shares in
        subst (λ xs. Falls t (xs ++ rest)) (sym (runs_stage n within runs))
        (cut.0 ∙ ap actual above, subst (λ x. FallTo s.side x rest (actual (whole (low_end s)))) (sym cut.1) fall)

    next_interval : (n : ℕ) → n < length axis.cuts - 1 → (t : Rational) (heat : ℤ) (rest : List LedStage)
        → IsNearest (high_at axis n) heat → IsPlaceOf t heat
        → GoesOn n rest → Falls t (stages_at n ++ rest)
    next_interval n within t heat rest near place on =
        let gap = cut_below axis n within in
        let order = heats_rise in
        ⊎_elim (λ begun. ⊎_elim
        (λ ended. passes_by n t rest (λ runs. absurd (omega (arith, ints, runs.upto, ended, gap)))
        (on t heat (omega (arith, ints, clamps, near, ended, gap, order)) place)) (λ goes_on.
        let same : heat ≡ high_at axis n = omega (arith, ints, clamps, near, begun, goes_on, gap) in
        goes_through n within t rest (record {
          member = member;
          side_is = own_side s.side;
          from = begun;
          upto = goes_on;
        }) (subst (IsPlaceOf t) same place) on) (outside n within).high_outside) (λ early.
        passes_by n t rest (λ runs. absurd (omega (arith, ints, runs.from, early, gap)))
        (on t heat (omega (arith, ints, clamps, near, early, gap, order)) place))
        (outside n within).low_outside

    fall_from : (m n : ℕ) (t : Rational) (heat : ℤ) → n + m ≡ length axis.cuts - 1
        → IsNearest (high_at axis n) heat → IsPlaceOf t heat
        → Falls t (stages_of (range_with_len n m))
    fall_from zero n t heat left near place =
        let last : length axis.cuts - 1 ≡ n = omega (arith, left) in
        let least = cut_from_last axis.cuts axis.are_cuts.ordered bottom ends_cut.0 in
        let same : heat ≡ bottom = omega (arith, ints, clamps, near, heats_rise, ap (high_at axis) last, least) in
        ap actual (one_temperature t (whole (low_end s)) bottom (subst (IsPlaceOf t) same place)
        (place_at (low_end s) (omega (arith, ints)) (omega (arith, ints, ends_rise))))
    fall_from (suc m) n t heat left near place =
        next_interval n (omega (arith, left)) t heat (stages_of (range_with_len (n + 1) m)) near place
        (λ u h next there. fall_from m (n + 1) u h (omega (arith, left)) next there)

    whole_way : Falls (whole (high_end s)) (stages_of (intervals_of axis.cuts))
    whole_way =
        fall_from (length axis.cuts - 1) 0 (whole (high_end s)) top (omega arith)
        (omega (arith, ints, clamps, heats_rise, cut_upto_first axis.cuts axis.are_cuts.ordered top ends_cut.1))
        (place_at (high_end s) (omega (arith, ints, ends_rise)) (omega (arith, ints)))

    -- it is led from its supply to its target
    pub stream_joined : AreJoined s
        (led_course (pieces axis side.Hot) (pieces axis side.Cold) (exchanges axis) (stream, s))
    stream_joined =
        let stages = stages_of (intervals_of axis.cuts) in
        let c = ap (λ o. option_map_or (λ (r : Stream). r.contribution) o (pos 0)) here in
        let start = ap (actual_at s.side (whole (first_end s.side s))) c ∙ actual-first s valid.sensible in
        let end = ap (actual_at s.side (whole (last_end s.side s))) c ∙ actual-last s valid.sensible in
        let leads = way_leads s.side stages actual s whole_way in
        let way = subst₂ (λ x y. Leads x (on_the_way s.side stages) y) start end leads in
        subst (AreJoined s) (sym all_stages) (record { meet = way.0; ends = way.1 })
