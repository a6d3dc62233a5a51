-- The pieces and exchanges of the intervals are led, and what is asked before they are led holds.
use Rattle.vertical_design.proofs.Words.{AreLedPieces, Exchange, HasValidStreams-IsComplete, JoinsPieces, MOST_BANDS, MOST_CUTS, Piece, Side, Source}
use Rattle.vertical_design.proofs.Words.{Band, exchanges_at, has_size, is_forbidden, length-AreStreams, length-map, mul-le-mul_right}
use Rattle.vertical_design.proofs.Words.{bands_of, slice_get_within, sources_between, sources_in}
use Rattle.std.proofs.Common.{All, List, ap, arith, get_or, length, subst, sym, ◌*◌, ◌+◌, ◌-◌, ◌<◌, ◌^◌, ◌∙◌, ◌≡◌, ◌≤◌}
use Rattle.vertical_design.proofs.MatchSizes.{IsPositiveExchange, positive-match}
use Rattle.vertical_design.proofs.Exchanges.{IsMatch, are_matches, exchanges, match_faces, pair_runs, piece_of}
use Rattle.vertical_design.proofs.Exchanges.{share_in, side_on}
use Rattle.vertical_design.proofs.FacingPieces.{faced_apart}
use Rattle.vertical_design.proofs.Intervals.{gap_in, piece_in, pieces, sources_are}
use Rattle.vertical_design.proofs.FlowLimits.{few_cuts, few_matches}
use Rattle.vertical_design.proofs.SharedFlows.{other}
use Rattle.vertical_design.proofs.RowLists.{few-rows}
use Rattle.vertical_design.proofs.CaseAxis.{Axis, bands_are, high_at, low_at, streams_are}
use Rattle.vertical_design.proofs.StreamWays.{stream_joined, stream_pieces}
use Rattle.design_lines.specs.declared.limits.TheConstants.{MOST_DRAWN_LINES}
use Rattle.vertical_design.proofs.UtilityHeats.{utility_heat}
use Rattle.stream_case.specs.declared.source.Side.TheVariants as side

module _ (axis : Axis) where
  abbrev pub sources : Side → List Source
  sources of = sources_between (bands_of of axis.case) axis.cuts

  -- ---- the pieces are led

  -- the piece of an exchange on a side
  abbrev pub own_piece : Side → (e : Exchange) → IsMatch axis e → Piece
  own_piece of e m = piece_in axis of m.number (pair_runs axis m.number of m.pair m.met).band

  match_joins : (e : Exchange) → IsMatch axis e → JoinsPieces axis.case (pieces axis side.Hot) (pieces axis side.Cold) e
  match_joins e m =
      let one = pair_runs axis m.number side.Hot m.pair m.met in
      let other = pair_runs axis m.number side.Cold m.pair m.met in
      let gap = gap_in axis m.number m.within in
      let hot_side = side_on axis side.Hot one.band one.kind in
      let cold_side = side_on axis side.Cold other.band other.kind in
      let share = share_in axis m.number m.pair m.met in
      let match_is = positive-match m.number (low_at axis m.number) (high_at axis m.number)
      (bands_of side.Hot axis.case) (bands_of side.Cold axis.case) m.pair gap share in
      let positive = subst IsPositiveExchange m.is match_is in
      record {
        hot_piece = own_piece side.Hot e m;
        cold_piece = own_piece side.Cold e m;
        hot_there = piece_of axis side.Hot e m;
        cold_there = piece_of axis side.Cold e m;
        hot_side = hot_side;
        cold_side = cold_side;
        heat = positive.heat;
        hot_size = has_size e.hot_size one.band.source positive.hot_size;
        cold_size = has_size e.cold_size other.band.source positive.cold_size;
        permitted = ap (λ fs. is_forbidden fs one.band.source other.band.source) axis.standard.free;
        apart =
            let valid_streams = HasValidStreams-IsComplete axis.case axis.complete.complete in
            faced_apart axis.case valid_streams axis.complete.sensible axis.standard (own_piece side.Hot e m)
            (own_piece side.Cold e m) hot_side cold_side (match_faces axis e m);
      }

  pub are_led : AreLedPieces axis.case (pieces axis side.Hot) (pieces axis side.Cold) (exchanges axis)
  are_led = record {
    each = λ k d inside. match_joins (get_or (exchanges axis) k d) (are_matches axis k d inside);
    pieces = λ stream s index p here there own some. stream_pieces axis stream s here index p there own some;
    joined = λ stream s here. stream_joined axis stream s here;
    utilities = λ index u here. utility_heat axis index u here;
  }

  -- ---- what is asked before they are led

  pub record CanBeLed (hots colds : List Source) (es : List Exchange) : Type 0 where
    pub hot_there : All (λ e. e.hot < length hots) es
    pub cold_there : All (λ e. e.cold < length colds) es
    pub few_hot : length hots < 2 ^ 32
    pub few_cold : length colds < 2 ^ 32
    pub few : 7 * length es + length axis.case.streams ≤ MOST_DRAWN_LINES

  long : (of : Side) → length (sources of) ≡ length (pieces axis of)
  long of = ap length (sym (sources_are axis of)) ∙ length-map (pieces axis of) (λ (p : Piece). p.source)

  few_intervals : length axis.cuts - 1 ≤ MOST_CUTS
  few_intervals =
      omega (
        arith,
        few_cuts (bands_of side.Hot axis.case) (bands_of side.Cold axis.case) axis.cuts (bands_are axis side.Hot)
            (bands_are axis side.Cold) axis.are_cuts,
      )

  few_sources : (of : Side) → length (sources of) < 2 ^ 32
  few_sources of =
      let each = few-rows (λ n. sources_in (bands_of of axis.case)) MOST_BANDS (λ n.
      omega (arith, length-map (bands_of of axis.case) (λ (a : Band). a.source), (bands_are axis of).few)) 0
      (length axis.cuts - 1) in
      omega (arith, each, mul-le-mul_right MOST_BANDS few_intervals)

  pub can_be_led : CanBeLed (sources side.Hot) (sources side.Cold) (exchanges axis)
  can_be_led =
      let each = few-rows (exchanges_at (bands_of side.Hot axis.case) (bands_of side.Cold axis.case) axis.cuts)
      (2 * MOST_BANDS)
      (λ n.
      few_matches n (low_at axis n) (high_at axis n) (bands_of side.Hot axis.case) (bands_of side.Cold axis.case)
      (bands_are axis side.Hot) (bands_are axis side.Cold))
      0 (length axis.cuts - 1) in
      record {
        hot_there = λ k d inside.
            let e = get_or (exchanges axis) k d in
            let there = (match_joins e (are_matches axis k d inside)).hot_there in
            omega (arith, slice_get_within (pieces axis side.Hot) e.hot _ there, long side.Hot);
        cold_there = λ k d inside.
            let e = get_or (exchanges axis) k d in
            let there = (match_joins e (are_matches axis k d inside)).cold_there in
            omega (arith, slice_get_within (pieces axis side.Cold) e.cold _ there, long side.Cold);
        few_hot = few_sources side.Hot;
        few_cold = few_sources side.Cold;
        few =
            omega (
              arith,
              each,
              mul-le-mul_right (2 * MOST_BANDS) few_intervals,
              length-AreStreams axis.case.streams (streams_are axis).are,
            );
      }
