-- The heats of the exchanges with a utility add up to its target.
use Rattle.vertical_design.proofs.Words.{*ℤ-+ℤ, *ℤ-zero, *ℤ_comm, ALL_SENSIBLE_HEAT, All-cons, All-head, All-map, All-nil, All-range, All-tail}
use Rattle.vertical_design.proofs.Words.{Exchange, HasUtilityHeat, IsSized, IsWholeGroup, MOST_BANDS, MOST_HEAT, Option, Pair, Rational, Side, Source}
use Rattle.vertical_design.proofs.Words.{Band, Utility, clamps, cons_option, count_of, duty_with, enumerate_from, eqb-true, exchanger_of}
use Rattle.vertical_design.proofs.Words.{exchanges_at, false_from_ne_true, filter, filter_map, flat_map, flat_map-map, heats_with, int_le, int_sum_by}
use Rattle.vertical_design.proofs.Words.{intervals_of, ints, length-numbers, matches_in, mul-le-mul, none-some, one_times, or-false, plus}
use Rattle.vertical_design.proofs.Words.{range_with_len, ratio, ratio-multiple, ratio-zero, rational_sum, rational_sum_by-append, same_Some}
use Rattle.vertical_design.proofs.Words.{bands_of, same_source, same_source-true, side_flow, side_of, source_at, source_at-piece, sources_of}
use Rattle.vertical_design.proofs.Words.{standard_utility, unsigned_abs, unsigned_abs-mul, utility_from, utility_to, whole, whole-plus, zero_times}
use Rattle.vertical_design.proofs.Words.{◌&&◌}
use Rattle.std.proofs.Common.{All, Bool, List, None, Some, [], ap, ap₂, arith, false, get_or, if◌then◌else◌, length, map, option_map, pos, refl}
use Rattle.std.proofs.Common.{slice_get, subst, suc, sym, true, zero, ℕ, ℤ, ◌*ℤ◌, ◌*◌, ◌+ℤ◌, ◌+◌, ◌-ℤ◌, ◌-◌, ◌<ℤ◌, ◌<◌, ◌==◌, ◌||◌, ◌∙◌, ◌∷◌, ◌≡◌}
use Rattle.std.proofs.Common.{◌≢◌, ◌≤ℤ◌, ◌≤◌}
use Rattle.stream_case.proofs.StandardUtilities.{own_utility}
use Rattle.vertical_design.proofs.FacingCurves.{across-bounded, bounded, heat_across}
use Rattle.vertical_design.proofs.PieceShares.{parts_sum}
use Rattle.vertical_design.proofs.Exchanges.{IsMetIn, exchanges, match_in, pair_runs, pairs_at, pairs_meet, share_upto, shared_out}
use Rattle.vertical_design.proofs.Exchanges.{side_on}
use Rattle.vertical_design.proofs.SideScales.{size_is}
use Rattle.vertical_design.proofs.Intervals.{gap_in, piece_in, piece_there, pieces}
use Rattle.vertical_design.proofs.FlowLimits.{few_cuts, few_matches}
use Rattle.vertical_design.proofs.SharedFlows.{index_on, other}
use Rattle.vertical_design.proofs.RowLists.{filter_map-map, filter_map-rows}
use Rattle.vertical_design.proofs.AxisLemmas.{is_axis}
use Rattle.vertical_design.proofs.CutNeighbours.{cut_from_last, cut_upto_first}
use Rattle.vertical_design.proofs.CaseAxis.{Axis, cut_below, flow_above, flow_at, high_at, low_at}
use Rattle.vertical_design.proofs.BandSources.{own_place, sources_differ}
use Rattle.vertical_design.proofs.BandLimits.{target-within}
use Rattle.vertical_design.proofs.CutNeighbours.{reaches}
use Rattle.vertical_design.proofs.CaseAxis.{bands_are, streams_are, utility_alone, utility_cuts}
use Rattle.vertical_design.proofs.AxisLemmas.{utility_order}
use Rattle.vertical_design.proofs.BandSources.{utility_band_of, utility_place}
use Rattle.vertical_design.proofs.CaseAxis.{utility_outside}
use Rattle.vertical_design.proofs.PieceNumbers.{most_flow}
use Rattle.vertical_design.proofs.StreamWays.{flow_few}
use Rattle.stream_case.specs.declared.source.Side.TheVariants as side
use Rattle.stream_case.specs.declared.source.Source.TheVariants as source

-- ---- the heats with a utility

-- whether an exchange has the utility, and its heat then
abbrev pub joins_utility : List Source → List Source → ℕ → Exchange → Bool
joins_utility hot cold index e =
    same_source (source_at hot e.hot) (source.Utility index)
    || same_source (source_at cold e.cold) (source.Utility index)

abbrev pub heat_for : List Source → List Source → ℕ → Exchange → Option Rational
heat_for hot cold index e = if joins_utility hot cold index e then Some e.heat else None

by_exchanges : (hot cold : List Source) (index n : ℕ) (es : List Exchange)
    → filter_map (duty_with index) (map (exchanger_of hot cold) (enumerate_from n es))
    ≡ filter_map (heat_for hot cold index) es
by_exchanges hot cold index n [] = refl
by_exchanges hot cold index n (e ∷ es) =
    ap (cons_option (heat_for hot cold index e)) (by_exchanges hot cold index (n + 1) es)

-- what is kept of a list, where whether it is kept is known of each item
kept_all : {X : Type 0} (Q : Rational → Type 0) (h : X → Option Rational) (own : X → Bool) (f : X → Rational)
    (xs : List X)
    → All (λ x. h x ≡ (if own x then Some (f x) else None)) xs → All (λ x. own x ≡ true → Q (f x)) xs
    → All Q (filter_map h xs)
kept_all Q h own f [] are each = All-nil Q
kept_all {X} Q h own f (x ∷ xs) are each =
    let R : X → Type 0 = λ y. h y ≡ (if own y then Some (f y) else None) in
    let S : X → Type 0 = λ y. own y ≡ true → Q (f y) in
    let others = kept_all Q h own f xs (All-tail R x xs are) (All-tail S x xs each) in
    by (h x) (own x) (All-head R x xs are) (All-head S x xs each) others
  where
    by : (o : Option Rational) (b : Bool) → o ≡ (if b then Some (f x) else None) → (b ≡ true → Q (f x))
        → All Q (filter_map h xs)
        → All Q (cons_option o (filter_map h xs))
    by None b is here rest = rest
    by (Some y) true is here rest =
        let all = All-cons Q (f x) (filter_map h xs) (here refl) rest in
        subst (λ z. All Q (z ∷ filter_map h xs)) (same_Some (f x) y (sym is)) all
    by (Some y) false is here rest = absurd (none-some y (sym is))

-- ---- an interval

-- a flow of 1 on the own side leaves the whole heat between the cuts, and one of 0 leaves none
whole_width : (width other : ℤ) (n : ℕ) → pos 0 <ℤ other → n ≡ unsigned_abs other
    → ratio (width *ℤ (pos 1 *ℤ other)) n ≡ whole width
whole_width width other n above is =
    let some : 0 < unsigned_abs other = omega (arith, ints, above) in
    ap₂ (λ z d. ratio (width *ℤ z) d) (one_times (pos 1) other refl ∙ (size_is other above)) is
    ∙ ratio-multiple width (unsigned_abs other) some

no_width : (width other : ℤ) (n : ℕ) → ratio (width *ℤ (pos 0 *ℤ other)) n ≡ whole (pos 0)
no_width width other n =
    ap (λ z. ratio (width *ℤ z) n) (zero_times (pos 0) other refl) ∙ ap (λ z. ratio z n) (*ℤ-zero width) ∙ ratio-zero n

-- the most heat of an exchange
abbrev pub most_width : ℕ
most_width = unsigned_abs ALL_SENSIBLE_HEAT

part_sized : (width share other : ℤ) (n : ℕ) → pos 0 ≤ℤ width → width ≤ℤ ALL_SENSIBLE_HEAT → pos 0 <ℤ share
    → share ≤ℤ other → n ≡ unsigned_abs other
    → IsSized (unsigned_abs other) most_width (ratio (width *ℤ share) n)
part_sized width share other n from upto some most is =
    let product : unsigned_abs width * unsigned_abs share ≤ most_width * unsigned_abs other =
    mul-le-mul (omega (arith, ints, from, upto)) (omega (arith, ints, some, most)) in
    record {
      num = width *ℤ share;
      is = ap (ratio (width *ℤ share)) is;
      small = omega (arith, product, unsigned_abs-mul width share);
    }

scaled_sum : (width : ℤ) (ps : List Pair)
    → int_sum_by (λ p. width *ℤ p.amount) ps ≡ width *ℤ int_sum_by (λ p. p.amount) ps
scaled_sum width [] = sym (*ℤ-zero width)
scaled_sum width (p ∷ ps) =
    ap (λ z. width *ℤ p.amount +ℤ z) (scaled_sum width ps)
    ∙ sym (*ℤ-+ℤ width p.amount (int_sum_by (λ (q : Pair). q.amount) ps))

module _ (axis : Axis) where
  abbrev hot : List Band
  hot = bands_of side.Hot axis.case

  abbrev cold : List Band
  cold = bands_of side.Cold axis.case

  abbrev hot_sources : List Source
  hot_sources = sources_of (pieces axis side.Hot)

  abbrev cold_sources : List Source
  cold_sources = sources_of (pieces axis side.Cold)

  module _ (index : ℕ) (u : Utility) (here : slice_get axis.case.utilities index ≡ Some u) where
    abbrev heat_of : Exchange → Option Rational
    heat_of e = heat_for hot_sources cold_sources index e

    abbrev from_of : ℤ
    from_of = utility_from u.side axis.case.streams

    abbrev to_of : ℤ
    to_of = utility_to u.side axis.case.streams

    place : (k : ℕ) × (slice_get (bands_of u.side axis.case) k ≡ Some (utility_band_of u.side axis.case.streams index))
    place = utility_place axis.case u.side index u here refl

    module _ (number : ℕ) (within : number < length axis.cuts - 1) where
      module _ (p : Pair) (met : IsMetIn axis number p) where
        -- whether the source of a pair on a side is the utility
        abbrev is_its : Side → Bool
        is_its of =
            same_source
            (source_at (sources_of (pieces axis of)) (number * length (bands_of of axis.case) + index_on of p))
            (source.Utility index)

        source_is : (of : Side) → is_its of
            ≡ same_source (pair_runs axis number of p met).band.source (source.Utility index)
        source_is of =
            let runs = pair_runs axis number of p met in
            let there = piece_there axis of number (index_on of p) runs.band within runs.there in
            let source_is = source_at-piece (pieces axis of) (number * length (bands_of of axis.case) + index_on of p)
            (piece_in axis of number runs.band) there in
            ap (λ a. same_source a (source.Utility index)) source_is

        its_own : (of : Side) (k : ℕ)
            → slice_get (bands_of of axis.case) k ≡ Some (utility_band_of of axis.case.streams index)
            → is_its of ≡ (index_on of p == k)
        its_own of k there =
            let runs = pair_runs axis number of p met in
            source_is of ∙ own_place (bands_of of axis.case) (sources_differ axis.case of) k
            (utility_band_of of axis.case.streams index) there (index_on of p) runs.band runs.there

        not_its : (of : Side) → u.side ≢ of → is_its of ≡ false
        not_its of other =
            let runs = pair_runs axis number of p met in
            source_is of ∙ false_from_ne_true (same_source runs.band.source (source.Utility index)) (λ holds.
            let own = ap (side_of axis.case) (same_source-true runs.band.source (source.Utility index) holds)
            ∙ ap (option_map (λ (v : Utility). v.side)) here in
            other (same_Some u.side of (sym own ∙ side_on axis of runs.band runs.kind)))

        joins_own : (of : Side) → u.side ≡ of → (k : ℕ)
            → slice_get (bands_of of axis.case) k ≡ Some (utility_band_of of axis.case.streams index)
            → joins_utility hot_sources cold_sources index (match_in axis number p) ≡ (index_on of p == k)
        joins_own side.Hot side_is k there =
            let not_cold = not_its side.Cold (λ is. let clash : side.Hot ≡ side.Cold = sym side_is ∙ is in cc clash) in
            ap₂ ◌||◌ (its_own side.Hot k there) not_cold ∙ or-false (p.first == k)
        joins_own side.Cold side_is k there =
            let not_hot = not_its side.Hot (λ is. let clash : side.Cold ≡ side.Hot = sym side_is ∙ is in cc clash) in
            ap₂ ◌||◌ not_hot (its_own side.Cold k there)

      abbrev low : ℤ
      low = low_at axis number

      abbrev high : ℤ
      high = high_at axis number

      abbrev width : ℤ
      width = high -ℤ low

      abbrev flows : ℕ
      flows = unsigned_abs (side_flow low high hot *ℤ side_flow low high cold)

      abbrev across : ℤ
      across = flow_at axis (other u.side) number

      abbrev is_own : Pair → Bool
      is_own p = index_on u.side p == place.0

      abbrev heat_of_pair : Pair → Option Rational
      heat_of_pair p = heat_of (match_in axis number p)

      are_own : All (λ p. heat_of_pair p ≡ (if is_own p then Some (ratio (width *ℤ p.amount) flows) else None))
          (pairs_at axis number)
      are_own k d inside =
          let p = get_or (pairs_at axis number) k d in
          ap (λ b. if b then Some (ratio (width *ℤ p.amount) flows) else None)
          (joins_own p (pairs_meet axis number k d inside) u.side refl place.0 place.1)

      -- whether it lies there
      abbrev lies : Bool
      lies = int_le from_of low && int_le high to_of

      abbrev amount_by : Bool → ℤ
      amount_by b = (if b then pos 1 else pos 0) *ℤ across

      heats_sum : rational_sum (filter_map heat_of_pair (pairs_at axis number)) ≡ ratio (width *ℤ amount_by lies) flows
      heats_sum =
          let shared = shared_out axis u.side number place.0 (utility_band_of u.side axis.case.streams index) place.1 in
          let in_all = scaled_sum width (filter is_own (pairs_at axis number)) ∙ ap (λ z. width *ℤ z) shared in
          parts_sum heat_of_pair is_own (λ p. width *ℤ p.amount) flows (pairs_at axis number) are_own
          ∙ ap (λ z. ratio z flows) in_all

      -- where its flow is 1 the product of both is the other one
      product_is : (of : Side) → flow_at axis of number ≡ pos 1 → flows ≡ unsigned_abs (flow_at axis (other of) number)
      product_is side.Hot one =
          ap unsigned_abs (one_times (flow_at axis side.Hot number) (flow_at axis side.Cold number) one)
      product_is side.Cold one =
          ap unsigned_abs (*ℤ_comm (flow_at axis side.Hot number) (flow_at axis side.Cold number)
          ∙ one_times (flow_at axis side.Cold number) (flow_at axis side.Hot number) one)

      lies_alone : lies ≡ true → flows ≡ unsigned_abs across
      lies_alone test =
          let ends = reaches from_of to_of low high test in
          product_is u.side (utility_alone axis number within u.side ends.0 ends.1)

      -- its heats are those between the cuts where it lies
      sum_by : (b : Bool) → lies ≡ b
          → rational_sum (filter_map heat_of_pair (pairs_at axis number)) ≡ whole (if b then width else pos 0)
      sum_by true test =
          heats_sum ∙ ap (λ b. ratio (width *ℤ amount_by b) flows) test
          ∙ whole_width width across flows (flow_above axis number within (other u.side))
          (lies_alone test)
      sum_by false test = heats_sum ∙ ap (λ b. ratio (width *ℤ amount_by b) flows) test ∙ no_width width across flows

      -- and each is a part of them
      own_sized : (b : Bool) → lies ≡ b → (p : Pair) → IsMetIn axis number p → index_on u.side p ≡ place.0
          → IsSized (unsigned_abs across) most_width (ratio (width *ℤ p.amount) flows)
      own_sized b test p met own =
          by b test (subst (λ c. p.amount ≤ℤ amount_by c) test
          (share_upto axis u.side number place.0 (utility_band_of u.side axis.case.streams index) place.1 p met own))
        where
          by : (c : Bool) → lies ≡ c → p.amount ≤ℤ amount_by c
              → IsSized (unsigned_abs across) most_width (ratio (width *ℤ p.amount) flows)
          by true alone upto =
              let is = gap_in axis number within in
              part_sized width p.amount across flows (omega (arith, ints, is.falls))
              (omega (arith, ints, is.low_place.from, is.high_place.upto)) met.positive
              (omega (arith, ints, upto, one_times (pos 1) across refl)) (lies_alone alone)
          by false rests upto =
              let some = met.positive in
              let none = zero_times (pos 0) across refl in
              absurd (omega (arith, ints, some, upto, none))

      group_of : IsWholeGroup most_flow most_width (filter_map heat_of_pair (pairs_at axis number))
      group_of =
          record {
            over = unsigned_abs across;
            some = omega (arith, ints, flow_above axis number within (other u.side));
            upto = flow_few axis (other u.side) number;
            each =
                kept_all (IsSized (unsigned_abs across) most_width) heat_of_pair is_own
                (λ p. ratio (width *ℤ p.amount) flows) (pairs_at axis number) are_own
                (λ j d inside own.
                own_sized lies refl (get_or (pairs_at axis number) j d) (pairs_meet axis number j d inside)
                (eqb-true (index_on u.side (get_or (pairs_at axis number) j d)) place.0 own));
            sum = if lies then width else pos 0;
            is = sum_by lies refl;
          }

      pairs_are : filter_map heat_of (exchanges_at hot cold axis.cuts number)
          ≡ filter_map heat_of_pair (pairs_at axis number)
      unfolding matches_in
      pairs_are = filter_map-map heat_of (match_in axis number) (pairs_at axis number)

    -- ---- all intervals

    abbrev heats_at : ℕ → List Rational
    heats_at number = filter_map heat_of (exchanges_at hot cold axis.cuts number)

    few_heats : (n m : ℕ) → count_of (map heats_at (range_with_len n m)) ≤ m * (2 * MOST_BANDS)
    few_heats n zero = omega arith
    few_heats n (suc m) =
        let here =
        few_matches n (low_at axis n) (high_at axis n) hot cold (bands_are axis side.Hot) (bands_are axis side.Cold) in
        omega (arith, few_heats (n + 1) m, length-numbers heat_of (exchanges_at hot cold axis.cuts n), here)

    -- the place of the utility next to a cut
    abbrev place_at : ℕ → ℤ
    place_at n = bounded from_of to_of (high_at axis n)

    order : from_of ≤ℤ to_of
    order = utility_order u.side axis.case.streams (is_axis axis.case.streams (streams_are axis))

    sum_from : (m n : ℕ) → n + m ≡ length axis.cuts - 1 → rational_sum (flat_map heats_at (range_with_len n m))
        ≡ whole (place_at n -ℤ place_at (length axis.cuts - 1))
    sum_from zero n left = let same : n ≡ length axis.cuts - 1 = omega (arith, left) in
        ap whole (none (place_at n) (place_at (length axis.cuts - 1)) (ap place_at same))
      where
        none : (x y : ℤ) → x ≡ y → pos 0 ≡ x -ℤ y
        none x y is = omega (arith, ints, is)
    sum_from (suc m) n left =
        let within : n < length axis.cuts - 1 = omega (arith, left) in
        let outside = utility_outside axis n within u.side in
        let this_heat = ap rational_sum (pairs_are n within) ∙ sum_by n within (lies n within) refl in
        let other_heats = sum_from m (n + 1) (omega (arith, left)) in
        let bounded_place = across-bounded from_of to_of (low_at axis n) (high_at axis n) order
        (cut_below axis n within) outside.0 outside.1 in
        rational_sum_by-append (λ (a : Rational). a) (heats_at n) (flat_map heats_at (range_with_len (n + 1) m))
        ∙ ap₂ plus this_heat other_heats
        ∙ whole-plus (heat_across from_of to_of (low_at axis n) (high_at axis n))
        (place_at (n + 1) -ℤ place_at (length axis.cuts - 1))
        ∙ ap whole (joined _ (place_at n) (place_at (n + 1)) (place_at (length axis.cuts - 1)) bounded_place)
      where
        joined : (h x y z : ℤ) → h ≡ x -ℤ y → h +ℤ (y -ℤ z) ≡ x -ℤ z
        joined h x y z is = omega (arith, ints, is)

    heats_are : heats_with hot_sources cold_sources (exchanges axis) index ≡ flat_map heats_at (intervals_of axis.cuts)
    heats_are = by_exchanges hot_sources cold_sources index 0 (exchanges axis)
        ∙ filter_map-rows heat_of (exchanges_at hot cold axis.cuts) (intervals_of axis.cuts)

    pub heat_total : rational_sum (heats_with hot_sources cold_sources (exchanges axis) index)
        ≡ whole (to_of -ℤ from_of)
    heat_total = ap rational_sum heats_are ∙ sum_from (length axis.cuts - 1) 0 (omega arith)
        ∙ ap whole (ends (high_at axis 0) (high_at axis (length axis.cuts - 1))
        (cut_upto_first axis.cuts axis.are_cuts.ordered to_of (utility_cuts axis u.side).1)
        (cut_from_last axis.cuts axis.are_cuts.ordered from_of (utility_cuts axis u.side).0))
      where
        ends : (x y : ℤ) → to_of ≤ℤ x → y ≤ℤ from_of
            → bounded from_of to_of x -ℤ bounded from_of to_of y ≡ to_of -ℤ from_of
        ends x y first last = omega (arith, ints, clamps, order)

    pub utility_heat : HasUtilityHeat hot_sources cold_sources (exchanges axis) index u
    utility_heat =
        let is = target-within u.side axis.case.streams (streams_are axis) in
        let standard_is = own_utility axis.case axis.standard index u here in
        let range : (u.least ≡ pos 0) × (u.most ≡ MOST_HEAT) =
        subst (λ (v : Utility). (v.least ≡ pos 0) × (v.most ≡ MOST_HEAT)) (sym standard_is) (standard_range u.side) in
        let few = few_heats 0 (length axis.cuts - 1) in
        record {
          den = most_flow;
          most = most_width;
          groups = map heats_at (intervals_of axis.cuts);
          are = heats_are ∙ sym (flat_map-map (λ (group : List Rational). group) heats_at (intervals_of axis.cuts));
          each = All-map (IsWholeGroup most_flow most_width) heats_at (intervals_of axis.cuts)
              (All-range (λ n. IsWholeGroup most_flow most_width (heats_at n)) (length axis.cuts - 1)
              (λ n within. subst (IsWholeGroup most_flow most_width) (sym (pairs_are n within)) (group_of n within)));
          small = omega arith;
          few =
              omega (
                arith,
                few,
                few_cuts hot cold axis.cuts (bands_are axis side.Hot) (bands_are axis side.Cold) axis.are_cuts,
              );
          heat = to_of -ℤ from_of;
          total = heat_total;
          from = omega (arith, ints, range.0, is.from);
          upto = omega (arith, ints, range.1, is.upto);
        }
      where
        standard_range : (of : Side)
            → ((standard_utility of axis.case).least ≡ pos 0) × ((standard_utility of axis.case).most ≡ MOST_HEAT)
        standard_range side.Hot = (refl, refl)
        standard_range side.Cold = (refl, refl)
