-- The pieces of an exchange face each other: in its interval both sides have the same heats.
use Rattle.vertical_design.proofs.Words.{*ℤ_comm, All-flat_map, All-map, All-range, AreFacing, Contains-slice_get, Exchange, IsAtUtility, IsMet}
use Rattle.vertical_design.proofs.Words.{Band, IsSensibleStream, Pair, Rational, Side, Source, Stream, Utility, all_at, amounts_in, contribution_of}
use Rattle.vertical_design.proofs.Words.{curve_heat, exchanges_at, exchanges_between, filter, filter_map, fixed_level, fixed_level-sensible, flow_in}
use Rattle.vertical_design.proofs.Words.{int_sum_by, intervals_of, ints, level_in, match_of, matches_in, ne_eqb, on_scale, own_side, pairs_of}
use Rattle.vertical_design.proofs.Words.{piece_on, ratio, rational_sum, same_Some, same_side, shares_of, side_of, size_of, size_on, slice_get-get_or}
use Rattle.vertical_design.proofs.Words.{bands_of, slice_get_within, times, unsigned_abs, utility_from, utility_to, whole, ◌*ℤ◌, ◌-ℤ◌}
use Rattle.std.proofs.Common.{All, List, None, Some, [], ap, ap₂, arith, get_or, if◌then◌else◌, inl, inr, length, option_map, pos, refl, slice_get}
use Rattle.std.proofs.Common.{subst, subst₂, sym, ℕ, ℤ, ◌*◌, ◌+◌, ◌-◌, ◌<ℤ◌, ◌<◌, ◌==◌, ◌∙◌, ◌≡◌, ◌≢◌, ◌≤ℤ◌}
use Rattle.vertical_design.proofs.FacingPieces.{Faces, IsWithinRange, found, shifted_state}
use Rattle.vertical_design.proofs.Intervals.{RunsIn, on_scale-actual, piece_in, piece_there, pieces, scale_at, scale_at_utility, scale_is}
use Rattle.vertical_design.proofs.Intervals.{scale_within, scales_face, state_at}
use Rattle.vertical_design.proofs.OverlapLists.{ListsOverlaps-pairs_of}
use Rattle.vertical_design.proofs.FlowLimits.{IsShare, share-within}
use Rattle.vertical_design.proofs.SharedFlows.{index_on, other, own_amounts, own_share}
use Rattle.vertical_design.proofs.RowLists.{filter_map-map, filter_map-rows, none_kept, only_row, same_place}
use Rattle.vertical_design.proofs.AxisLemmas.{is_axis}
use Rattle.vertical_design.proofs.BandSources.{IsSourceBand, band_of, band_sources}
use Rattle.vertical_design.proofs.CaseAxis.{Axis, bands_are, cut_below, flow_above, flow_at, high_at, low_at, streams_are}
use Rattle.vertical_design.proofs.MatchSizes.{share_heat, running}
use Rattle.vertical_design.proofs.PieceShares.{parts_sum, own_size, size_shares, same_test, whole_flow}
use Rattle.stream_case.specs.declared.source.Side.TheVariants as side
use Rattle.stream_case.specs.declared.source.Source.TheVariants as source

module _ (axis : Axis) where
  abbrev hot : List Band
  hot = bands_of side.Hot axis.case

  abbrev cold : List Band
  cold = bands_of side.Cold axis.case

  abbrev pub exchanges : List Exchange
  exchanges = exchanges_between hot cold axis.cuts

  abbrev pub match_in : ℕ → Pair → Exchange
  match_in number p = match_of number (low_at axis number) (high_at axis number) hot cold p

  abbrev pub IsMetIn : ℕ → Pair → Type 0
  IsMetIn number p = IsMet (low_at axis number) (high_at axis number) hot cold p

  pub share_in : (number : ℕ) (p : Pair) → IsMetIn number p
      → IsShare (low_at axis number) (high_at axis number) hot cold p
  share_in number p met =
      share-within (low_at axis number) (high_at axis number) hot cold p (bands_are axis side.Hot)
      (bands_are axis side.Cold) met

  -- its branch on a side has the share over the flow of the other side, and gives or takes its heat over the interval
  pub size_match : (of : Side) (number : ℕ) (p : Pair)
      → size_on of (match_in number p) ≡ ratio p.amount (unsigned_abs (flow_at axis (other of) number))
  size_match side.Hot number p = refl
  size_match side.Cold number p = refl

  abbrev pub over_at : Side → ℕ → Rational
  over_at of number = ratio (high_at axis number -ℤ low_at axis number) (unsigned_abs (flow_at axis of number))

  pub heat_match : (of : Side) (number : ℕ) (p : Pair) → IsMetIn number p
      → times (size_on of (match_in number p)) (over_at of number)
      ≡ (match_in number p).heat
  heat_match side.Hot number p met =
      share_heat p.amount (high_at axis number -ℤ low_at axis number) (flow_at axis side.Hot number)
      (flow_at axis side.Cold number) (omega (arith, ints, (share_in number p met).hot_flow.from))
      (omega (arith, ints, (share_in number p met).cold_flow.from))
  heat_match side.Cold number p met =
      share_heat p.amount (high_at axis number -ℤ low_at axis number) (flow_at axis side.Cold number)
      (flow_at axis side.Hot number) (omega (arith, ints, (share_in number p met).cold_flow.from))
      (omega (arith, ints, (share_in number p met).hot_flow.from))
      ∙ ap (λ z. ratio ((high_at axis number -ℤ low_at axis number) *ℤ p.amount) (unsigned_abs z))
      (*ℤ_comm (flow_at axis side.Cold number) (flow_at axis side.Hot number))

  -- an exchange of an interval
  pub record IsMatch (e : Exchange) : Type 0 where
    pub number : ℕ
    pub within : number < length axis.cuts - 1
    pub pair : Pair
    pub met : IsMetIn number pair
    pub is : match_in number pair ≡ e

  matches_at : (number : ℕ) → number < length axis.cuts - 1 → All IsMatch (exchanges_at hot cold axis.cuts number)
  unfolding matches_in
  matches_at number within =
      let us = amounts_in (low_at axis number) (high_at axis number) hot cold in
      let vs = amounts_in (low_at axis number) (high_at axis number) cold hot in
      All-map IsMatch (match_in number) (pairs_of us vs) (λ k p inside. record {
        number = number;
        within = within;
        pair = get_or (pairs_of us vs) k p;
        met = (ListsOverlaps-pairs_of us vs).each k p inside;
        is = refl;
      })

  pub are_matches : All IsMatch exchanges
  are_matches = All-flat_map IsMatch (exchanges_at hot cold axis.cuts) (intervals_of axis.cuts)
      (All-range (λ n. All IsMatch (exchanges_at hot cold axis.cuts n)) (length axis.cuts - 1) matches_at)

  -- ---- the source of an exchange on a side

  -- a band of a side that runs from the one cut of an interval to the other
  pub record RunsBand (of : Side) (number index : ℕ) : Type 0 where
    pub band : Band
    pub there : slice_get (bands_of of axis.case) index ≡ Some band
    pub kind : IsSourceBand axis.case of band
    pub from : band.from ≤ℤ low_at axis number
    pub upto : high_at axis number ≤ℤ band.to

  pub index_within : (of : Side) (number : ℕ) (p : Pair) → IsMetIn number p
      → index_on of p < length (bands_of of axis.case)
  index_within side.Hot number p met = (share_in number p met).first
  index_within side.Cold number p met = (share_in number p met).second

  -- its share is no more than what its source offers or asks for
  pub share_upto : (of : Side) (number k : ℕ) (a : Band) → slice_get (bands_of of axis.case) k ≡ Some a
      → (p : Pair) → IsMetIn number p → index_on of p ≡ k
      → p.amount ≤ℤ (flow_in (low_at axis number) (high_at axis number) a *ℤ flow_at axis (other of) number)
  share_upto of number k a there p met own =
      own_share (low_at axis number) (high_at axis number) (λ d. bands_of d axis.case) of k a there p met own

  pub pair_runs : (number : ℕ) (of : Side) (p : Pair) → IsMetIn number p → RunsBand of number (index_on of p)
  pair_runs number of p met =
      let k = index_on of p in
      let none : Band = record { source = source.Stream 0; from = pos 0; to = pos 0; cp = pos 0 } in
      let a = get_or (bands_of of axis.case) k none in
      let found = slice_get-get_or (bands_of of axis.case) k none (index_within of number p met) in
      let upto = share_upto of number k a found p met refl in
      let runs = running (low_at axis number) (high_at axis number) a (flow_at axis (other of) number)
      (omega (arith, ints, met.positive, upto)) in
      record {
        band = a;
        there = found;
        kind = all_at (IsSourceBand axis.case of) (bands_of of axis.case) k a (band_sources axis.case of) found;
        from = runs.0;
        upto = runs.1;
      }

  pub side_on : (of : Side) (a : Band) → IsSourceBand axis.case of a → side_of axis.case a.source ≡ Some of
  side_on of a (inl (n, s, own)) =
      ap (λ (b : Band). side_of axis.case b.source) own.is ∙ ap (option_map (λ (t : Stream). t.side)) own.here
      ∙ ap Some own.side_is
  side_on of a (inr (n, u, own)) =
      ap (λ (b : Band). side_of axis.case b.source) own.is ∙ ap (option_map (λ (t : Utility). t.side)) own.here
      ∙ ap Some own.side_is

  -- the band of a stream of a side
  pub own_band : (of : Side) (a : Band) (stream : ℕ) (s : Stream) → IsSourceBand axis.case of a
      → a.source ≡ source.Stream stream
      → slice_get axis.case.streams stream ≡ Some s → (a ≡ band_of of axis.case.streams stream s) × (s.side ≡ of)
  own_band of a stream s (inl (n, r, made)) own here =
      let both : source.Stream n ≡ source.Stream stream = sym (ap (λ (x : Band). x.source) made.is) ∙ own in
      let same : n ≡ stream = cc both in
      let stream_is : r ≡ s = same_Some r s (sym made.here ∙ ap (slice_get axis.case.streams) same ∙ here) in (
        made.is ∙ (λ i. band_of of axis.case.streams (same i) (stream_is i)),
        ap (λ (x : Stream). x.side) (sym stream_is) ∙ made.side_is,
      )
  own_band of a stream s (inr (n, u, made)) own here =
      let both : source.Utility n ≡ source.Stream stream = sym (ap (λ (x : Band). x.source) made.is) ∙ own in
      absurd (cc both)

  pub stream_runs : (of : Side) (number index stream : ℕ) (s : Stream) (is : RunsBand of number index)
      → is.band.source ≡ source.Stream stream
      → slice_get axis.case.streams stream ≡ Some s → RunsIn axis of number s
  stream_runs of number index stream s is own here =
      let (band_is, side_is) = own_band of is.band stream s is.kind own here in
      record {
        member = Contains-slice_get axis.case.streams stream s here;
        side_is = ap (λ d. same_side d of) side_is ∙ own_side of;
        from = subst (λ (x : Band). x.from ≤ℤ low_at axis number) band_is is.from;
        upto = subst (λ (x : Band). high_at axis number ≤ℤ x.to) band_is is.upto;
      }

  pub utility_runs : (of : Side) (number index utility : ℕ) (is : RunsBand of number index)
      → is.band.source ≡ source.Utility utility
      → (utility_from of axis.case.streams ≤ℤ low_at axis number)
      × (high_at axis number ≤ℤ utility_to of axis.case.streams)
  utility_runs of number index utility is own = by is.kind
    where
      by : IsSourceBand axis.case of is.band
          → (utility_from of axis.case.streams ≤ℤ low_at axis number)
          × (high_at axis number ≤ℤ utility_to of axis.case.streams)
      by (inl (n, r, made)) =
          let both : source.Stream n ≡ source.Utility utility = sym (ap (λ (x : Band). x.source) made.is) ∙ own in
          absurd (cc both)
      by (inr (n, u, made)) = (
        subst (λ (x : Band). x.from ≤ℤ low_at axis number) made.is is.from,
        subst (λ (x : Band). high_at axis number ≤ℤ x.to) made.is is.upto,
      )

  -- ---- the piece of an exchange on a side

  pub piece_index : (of : Side) (number : ℕ) (p : Pair)
      → piece_on of (match_in number p) ≡ number * length (bands_of of axis.case) + index_on of p
  piece_index side.Hot number p = refl
  piece_index side.Cold number p = refl

  pub piece_of : (of : Side) (e : Exchange) (is : IsMatch e)
      → slice_get (pieces axis of) (piece_on of e)
      ≡ Some (piece_in axis of is.number (pair_runs is.number of is.pair is.met).band)
  piece_of of e is =
      let runs = pair_runs is.number of is.pair is.met in
      ap (slice_get (pieces axis of)) (ap (piece_on of) (sym is.is) ∙ piece_index of is.number is.pair)
      ∙ piece_there axis of is.number (index_on of is.pair) runs.band is.within runs.there

  abbrev many : Side → ℕ
  many of = length (bands_of of axis.case)

  abbrev pub pairs_at : ℕ → List Pair
  pairs_at number =
      pairs_of (amounts_in (low_at axis number) (high_at axis number) hot cold)
      (amounts_in (low_at axis number) (high_at axis number) cold hot)

  pub pairs_meet : (number : ℕ) → All (IsMetIn number) (pairs_at number)
  pairs_meet number = (ListsOverlaps-pairs_of (amounts_in (low_at axis number) (high_at axis number) hot cold)
      (amounts_in (low_at axis number) (high_at axis number) cold hot)).each

  -- whether a pair of an interval has a piece
  pub own_test : (of : Side) (number k : ℕ) (p : Pair)
      → (piece_on of (match_in number p) == number * many of + k) ≡ (index_on of p == k)
  own_test of number k p =
      ap (λ i. i == number * many of + k) (piece_index of number p) ∙ same_test (number * many of) (index_on of p) k

  -- an exchange of a piece is one of its interval
  pub own_number : (of : Side) (number m k : ℕ) (p : Pair) → IsMetIn m p → k < many of
      → piece_on of (match_in m p) ≡ number * many of + k → (m ≡ number) × (index_on of p ≡ k)
  own_number of number m k p met within own =
      same_place (many of) m number (index_on of p) k (index_within of m p met) within (sym (piece_index of m p) ∙ own)

  -- what a source offers or asks for in an interval is shared out by its pairs
  pub shared_out : (of : Side) (number k : ℕ) (a : Band) → slice_get (bands_of of axis.case) k ≡ Some a
      → int_sum_by (λ p. p.amount) (filter (λ p. index_on of p == k) (pairs_at number))
      ≡ flow_in (low_at axis number) (high_at axis number) a *ℤ flow_at axis (other of) number
  shared_out of number k a there =
      own_amounts (low_at axis number) (high_at axis number) (λ d. bands_of d axis.case) of k a there (bands_are axis)

  others_none : (of : Side) (number m k : ℕ) → k < many of → m ≢ number
      → filter_map (own_size of (number * many of + k)) (exchanges_at hot cold axis.cuts m) ≡ []
  unfolding matches_in
  others_none of number m k within other =
      let index = number * many of + k in
      filter_map-map (own_size of index) (match_in m) (pairs_at m)
      ∙ none_kept (λ (p : Pair). own_size of index (match_in m p)) (pairs_at m) (λ j d inside.
      let p = get_or (pairs_at m) j d in
      let e = match_in m p in
      ap (λ b. if b then Some (size_on of e) else None)
      (ne_eqb (piece_on of e) index (λ own. other (own_number of number m k p (pairs_meet m j d inside) within own).0)))

  -- the shares of a piece are the flow that its source has in the interval
  pub size_piece : (of : Side) (number k : ℕ) (a : Band) → number < length axis.cuts - 1
      → slice_get (bands_of of axis.case) k ≡ Some a
      → size_of (shares_of of (number * many of + k) exchanges)
      ≡ whole (flow_in (low_at axis number) (high_at axis number) a)
  unfolding shares_of matches_in
  size_piece of number k a within there =
      let index = number * many of + k in
      let flow = flow_at axis (other of) number in
      size_shares of index 0 exchanges
      ∙ ap rational_sum
      (filter_map-rows (own_size of index) (exchanges_at hot cold axis.cuts) (intervals_of axis.cuts)
      ∙ only_row (λ n. filter_map (own_size of index) (exchanges_at hot cold axis.cuts n)) 0 (length axis.cuts - 1)
      number (omega arith) (omega (arith, within))
      (λ m other. others_none of number m k (slice_get_within (bands_of of axis.case) k a there) other)
      ∙ filter_map-map (own_size of index) (match_in number) (pairs_at number))
      ∙ parts_sum (λ p. own_size of index (match_in number p)) (λ p. index_on of p == k) (λ p. p.amount)
      (unsigned_abs flow) (pairs_at number) (λ j p there.
      let q = get_or (pairs_at number) j p in
      ap₂ (λ b x. if b then Some x else None) (own_test of number k q) (size_match of number q))
      ∙ ap (λ z. ratio z (unsigned_abs flow)) (shared_out of number k a there)
      ∙ whole_flow (flow_in (low_at axis number) (high_at axis number) a) flow
      (flow_above axis number within (other of))

  -- the shifted temperature of a band's source at a heat of an interval
  abbrev shifted_at : Side → ℕ → ℤ → Band → Rational
  shifted_at of number q a = shifted_state axis.case of a.source (state_at axis of number q a)

  -- that of a stream is the one of its side
  shifted_stream : (of : Side) (number stream : ℕ) (s : Stream) (a : Band) → a.source ≡ source.Stream stream
      → slice_get axis.case.streams stream ≡ Some s
      → (q : ℤ) → shifted_at of number q a ≡ scale_at axis of number q
  shifted_stream of number stream s a own here q =
      let free = fixed_level-sensible axis.case stream s here
      (all_at IsSensibleStream axis.case.streams stream s (streams_are axis).each here).sensible in
      let contribution = contribution_of axis.case a.source in
      ap (λ b.
      on_scale of (level_in (state_at axis of number q a) (fixed_level axis.case b))
      (contribution_of axis.case a.source))
      own
      ∙ ap (λ o. on_scale of (level_in (state_at axis of number q a) o) (contribution_of axis.case a.source)) free
      ∙ on_scale-actual of (scale_at axis of number q) contribution

  module _ (number : ℕ) (within : number < length axis.cuts - 1) where
    abbrev low : ℤ
    low = low_at axis number

    abbrev high : ℤ
    high = high_at axis number

    falls : low <ℤ high
    falls = cut_below axis number within

    -- a stream stays within its range from the one cut to the other
    in_range : (of : Side) (k : ℕ) (is : RunsBand of number k) (i : ℕ) (s : Stream)
        → is.band.source ≡ source.Stream i → slice_get axis.case.streams i ≡ Some s
        → IsWithinRange s (shifted_at of number low is.band) (shifted_at of number high is.band)
    in_range of k is i s own here =
        let runs = stream_runs of number k i s is own here in
        let low_is = shifted_stream of number i s is.band own here low in
        let high_is = shifted_stream of number i s is.band own here high in
        let scale_here = scale_is axis of number within s runs in
        subst₂ (IsWithinRange s) (sym low_is) (sym high_is)
        (scale_within axis.case.streams (streams_are axis) low high of _ (scale_at axis of number) s scale_here falls
        runs)

    abbrev FaceAt : Band → Band → ℤ → Source → Source → Type 0
    FaceAt a b q x y =
        AreFacing axis.case.streams x y (shifted_at side.Hot number q a) (shifted_at side.Cold number q b)

    -- both sources face each other at each heat of the interval
    face_at : (j k : ℕ) (hot : RunsBand side.Hot number j) (cold : RunsBand side.Cold number k) (q : ℤ)
        → low ≤ℤ q → q ≤ℤ high
        → FaceAt hot.band cold.band q hot.band.source cold.band.source
    face_at j k hot cold q from upto = by hot.kind cold.kind
      where
        -- a stream of a side where the utility of the other one lies
        beside : (of other : Side) (m n : ℕ) (is : RunsBand of number m) (lies : RunsBand other number n) (i u : ℕ)
            (s : Stream)
            → is.band.source ≡ source.Stream i → slice_get axis.case.streams i ≡ Some s
            → lies.band.source ≡ source.Utility u
            → IsAtUtility other axis.case.streams (curve_heat of axis.case.streams (shifted_at of number q is.band))
        beside of other m n is lies i u s own here at =
            let ends = utility_runs other number n u lies at in
            let shifted_is = shifted_stream of number i s is.band own here q in
            let runs = stream_runs of number m i s is own here in
            let scale_here = scale_is axis of number within s runs in
            subst (λ t. IsAtUtility other axis.case.streams (curve_heat of axis.case.streams t)) (sym shifted_is)
            (scale_at_utility axis.case.streams (streams_are axis) low high of other _ (scale_at axis of number)
            scale_here ends.0 ends.1 q from upto)

        by : IsSourceBand axis.case side.Hot hot.band → IsSourceBand axis.case side.Cold cold.band
            → FaceAt hot.band cold.band q hot.band.source cold.band.source
        by (inl (i, s, one)) (inl (n, r, other)) =
            let a = ap (λ (x : Band). x.source) one.is in
            let b = ap (λ (x : Band). x.source) other.is in
            let hot_runs = stream_runs side.Hot number j i s hot a one.here in
            let cold_runs = stream_runs side.Cold number k n r cold b other.here in
            let hot_scale = scale_is axis side.Hot number within s hot_runs in
            let cold_scale = scale_is axis side.Cold number within r cold_runs in
            let face = scales_face axis.case.streams (streams_are axis) low high _ _ (scale_at axis side.Hot number)
            (scale_at axis side.Cold number) hot_scale cold_scale q from upto in
            let hot_shifted = shifted_stream side.Hot number i s hot.band a one.here q in
            let cold_shifted = shifted_stream side.Cold number n r cold.band b other.here q in
            subst₂ (FaceAt hot.band cold.band q) (sym a) (sym b)
            (ap (curve_heat side.Hot axis.case.streams) hot_shifted ∙ face
            ∙ sym (ap (curve_heat side.Cold axis.case.streams) cold_shifted))
        by (inl (i, s, one)) (inr (n, u, other)) =
            let a = ap (λ (x : Band). x.source) one.is in
            let b = ap (λ (x : Band). x.source) other.is in
            let faced = beside side.Hot side.Cold j k hot cold i n s a one.here b in
            subst₂ (FaceAt hot.band cold.band q) (sym a) (sym b) faced
        by (inr (i, u, one)) (inl (n, r, other)) =
            let a = ap (λ (x : Band). x.source) one.is in
            let b = ap (λ (x : Band). x.source) other.is in
            let faced = beside side.Cold side.Hot k j cold hot n i r b other.here a in
            subst₂ (FaceAt hot.band cold.band q) (sym a) (sym b) faced
        by (inr (i, u, one)) (inr (n, v, other)) =
            -- the hot utility lies above the cold one
            let a = utility_runs side.Hot number j i hot (ap (λ (x : Band). x.source) one.is) in
            let b = utility_runs side.Cold number k n cold (ap (λ (x : Band). x.source) other.is) in
            absurd (omega (arith, ints, a.0, b.1, (is_axis axis.case.streams (streams_are axis)).apart, falls))

  pub match_faces : (e : Exchange) (m : IsMatch e)
      → Faces axis.case (piece_in axis side.Hot m.number (pair_runs m.number side.Hot m.pair m.met).band)
      (piece_in axis side.Cold m.number (pair_runs m.number side.Cold m.pair m.met).band)
  match_faces e m =
      let hot = pair_runs m.number side.Hot m.pair m.met in
      let cold = pair_runs m.number side.Cold m.pair m.met in
      let gap = falls m.number m.within in
      record {
        hot_range = in_range m.number m.within side.Hot m.pair.first hot;
        cold_range = in_range m.number m.within side.Cold m.pair.second cold;
        hot_end =
            face_at m.number m.within m.pair.first m.pair.second hot cold (high_at axis m.number)
            (omega (arith, ints, gap)) (omega (arith, ints));
        cold_end =
            face_at m.number m.within m.pair.first m.pair.second hot cold (low_at axis m.number) (omega (arith, ints))
            (omega (arith, ints, gap));
      }
