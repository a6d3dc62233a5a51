-- The two parts of a transfer may meet, and so the parts of a heat flow are the pieces of a network of pieces, and its transfers the exchanges.
use Rattle.interval_design.proofs.Words.{All-map, All-slice_get, AreApart, AreLedPieces, AreStreams-IsComplete, Case, Decides-int_eq, Exchange, HasUtilityHeat}
use Rattle.interval_design.proofs.Words.{HaveParts, IsAtMost, IsComplete, IsHeat, IsPartOf, IsPositive, IsStreamPart, IsStreamPiece, IsTrue, IsValidStream}
use Rattle.interval_design.proofs.Words.{JoinsPieces, Part, Piece, Rational, Side, Source, Stream, Transfer, Utility, and_parts, at_most-whole, both_reach}
use Rattle.interval_design.proofs.Words.{contribution_of, entered_at, entered_state, exchange_of, fixed_level-latent, fixed_level-sensible, has_size}
use Rattle.interval_design.proofs.Words.{int_eq, int_le}
use Rattle.interval_design.proofs.Words.{int_le-true, ints, is_forbidden, left_at, left_state, length-map, level_in, map-map, mapped_item, not, on_side}
use Rattle.interval_design.proofs.Words.{on_side-ap, option_map, option_map_or, or_cases, part_index, part_reaches, part_sources, passes_heat, piece_of}
use Rattle.interval_design.proofs.Words.{piece_on, plus, positive-ratio, positive_num, ratio, reach_between, shifted, side_of_part, slice_get-map, sources_of}
use Rattle.interval_design.proofs.Words.{temperature, unshifted, whole, whole-plus, width_at, width_of, within-ratio, within-whole, ◌&&◌}
use Rattle.std.proofs.Common.{All, AllPairs, Bool, List, Some, ap, arith, false, get_or, inl, inr, length, map, pos, refl, slice_get, subst, subst₂, sym, true}
use Rattle.std.proofs.Common.{ℕ, ℤ, ⊎_elim, ◌+ℤ◌, ◌-ℤ◌, ◌<ℤ◌, ◌<◌, ◌^◌, ◌∙◌, ◌≡◌, ◌≤ℤ◌, ◌≤◌, ◌⊎◌}
use Rattle.interval_design.proofs.CaseFlow.{IsCaseFlow, most_transfers, part_on, part_there, places, places_fall, valid_stream}
use Rattle.interval_design.proofs.PartStates.{LiesAtLevel, LiesOnInterval, entered-sensible, high_end-latent, left-sensible, lies}
use Rattle.interval_design.proofs.PartShares.{fits}
use Rattle.interval_design.proofs.StreamCourses.{joined}
use Rattle.interval_design.proofs.PartShares.{piece_falls, state_is}
use Rattle.interval_design.proofs.StreamPieces.{stream_piece}
use Rattle.interval_design.proofs.StreamCourses.{own_heat}
use Rattle.interval_design.proofs.Balances.{utility_has_heat}
use Rattle.stream_case.specs.declared.source.Side.TheVariants as side
use Rattle.stream_case.specs.declared.source.Source.TheVariants as source

-- ---- temperatures

-- the temperature of a source at a place of the shifted scale
abbrev place_temperature : Case → Side → Source → ℤ → Rational
place_temperature case of a place = whole (unshifted of place (contribution_of case a))

record IsWarm (case : Case) (of : Side) (p : Part) : Type 0 where
  entered : temperature case p.source (piece_of case p).before ≡ place_temperature case of p.source (entered_at of p)
  left : temperature case p.source (piece_of case p).after ≡ place_temperature case of p.source (left_at of p)

-- a level is the temperature of its place
at_level : (case : Case) (of : Side) (p : Part) (level contribution : ℤ) (state : Rational)
    → contribution_of case p.source ≡ contribution
    → temperature case p.source state ≡ whole level → (place : ℤ) → place ≡ shifted of level contribution
    → temperature case p.source state ≡ place_temperature case of p.source place
at_level case of p level contribution state contribution_is fixed place is =
    let as_shifted = ap (λ c. whole (unshifted of place c)) contribution_is
    ∙ ap (λ x. whole (unshifted of x contribution)) is ∙ ap whole (back of) in
    fixed ∙ sym as_shifted
  where
    back : (on : Side) → unshifted on (shifted on level contribution) contribution ≡ level
    back side.Hot = omega (arith, ints)
    back side.Cold = omega (arith, ints)

-- a part at one level
level_warm : (case : Case) (of : Side) (p : Part) (level contribution : ℤ)
    → contribution_of case p.source ≡ contribution
    → ((state : Rational) → temperature case p.source state ≡ whole level)
    → p.high ≡ shifted of level contribution → p.low ≡ shifted of level contribution
    → IsWarm case of p
level_warm case of p level contribution contribution_is fixed high low = record {
  entered =
      at_level case of p level contribution (piece_of case p).before contribution_is (fixed (piece_of case p).before)
      (entered_at of p) (ends of).0;
  left =
      at_level case of p level contribution (piece_of case p).after contribution_is (fixed (piece_of case p).after)
      (left_at of p) (ends of).1;
}
  where
    ends : (on : Side)
        → (entered_at on p ≡ shifted of level contribution) × (left_at on p ≡ shifted of level contribution)
    ends side.Hot = (high, low)
    ends side.Cold = (low, high)

module _ (case : Case) (grid : List ℤ) (of : Side) (p : Part) (falls : AllPairs (λ a b. b <ℤ a) grid) where
  stream_warm : (number : ℕ) (s : Stream) → IsValidStream s → IsStreamPart case.streams grid of number s p
      → IsWarm case of p
  stream_warm number s valid is = by (lies grid s p valid falls is)
    where
      own : p.source ≡ source.Stream number
      own = ap (λ (q : Part). q.source) is.is

      contribution : contribution_of case p.source ≡ s.contribution
      contribution =
          ap (contribution_of case) own ∙ ap (λ o. option_map_or (λ (r : Stream). r.contribution) o (pos 0)) is.stream

      by : LiesOnInterval grid s p ⊎ LiesAtLevel s p → IsWarm case of p
      by (inl on) =
          let free : (state : Rational) → temperature case p.source state ≡ state = λ state.
          ap (λ a. temperature case a state) own
          ∙ ap (level_in state) (fixed_level-sensible case number s is.stream on.sensible) in
          let given = sym contribution in
          record {
            entered =
                free (piece_of case p).before
                ∙ state_is (entered_state p) case p.source number s is.stream own ∙ entered-sensible s p on.sensible
                ∙ (λ i. whole (unshifted (is.side_is i) (entered_at (is.side_is i) p) (given i)));
            left =
                free (piece_of case p).after ∙ state_is (left_state p) case p.source number s is.stream own
                ∙ left-sensible s p on.sensible
                ∙ (λ i. whole (unshifted (is.side_is i) (left_at (is.side_is i) p) (given i)));
          }
      by (inr at) =
          let place = high_end-latent s at.latent ∙ ap (λ d. shifted d s.supply s.contribution) is.side_is in
          level_warm case of p s.supply s.contribution contribution (λ state.
          ap (λ a. temperature case a state) own
          ∙ ap (level_in state) (fixed_level-latent case number s is.stream at.latent))
          (at.high ∙ place) (at.low ∙ place)

  part_warm : IsComplete case → IsPartOf case.streams case.utilities grid of p → IsWarm case of p
  part_warm complete (inl (number, s, is)) =
      let valid =
      All-slice_get IsValidStream case.streams number s (AreStreams-IsComplete case complete).each is.stream in
      stream_warm number s valid is
  part_warm complete (inr (index, u, is)) =
      let own = ap (λ (q : Part). q.source) is.is in
      let contribution = ap (contribution_of case) own
      ∙ ap (λ o. option_map_or (λ (v : Utility). v.contribution) o (pos 0)) is.utility in
      let high_is = ap (λ (q : Part). q.high) is.is ∙ ap (λ d. shifted d u.level u.contribution) is.side_is in
      let low_is = ap (λ (q : Part). q.low) is.is ∙ ap (λ d. shifted d u.level u.contribution) is.side_is in
      level_warm case of p u.level u.contribution contribution (λ state.
      ap (λ a. temperature case a state) own
      ∙ ap (λ o. whole (option_map_or (λ (v : Utility). v.level) o (pos 0))) is.utility)
      high_is low_is

  part_order : IsPartOf case.streams case.utilities grid of p → p.low ≤ℤ p.high
  part_order (inl (i, s, is)) = piece_falls s p falls is.piece
  part_order (inr (i, u, is)) = omega (arith, ints, ap (λ (q : Part). q.high) is.is, ap (λ (q : Part). q.low) is.is)

  part_narrow : IsComplete case → IsPartOf case.streams case.utilities grid of p → width_of p < 2 ^ 32
  part_narrow complete (inl (number, s, is)) =
      let each = (AreStreams-IsComplete case complete).each in
      let valid = All-slice_get IsValidStream case.streams number s each is.stream in
      let narrow = (fits grid s p valid falls is).narrow in omega arith
  part_narrow complete (inr (i, u, is)) =
      omega (arith, ints, ap (λ (q : Part). q.high) is.is, ap (λ (q : Part). q.low) is.is)

-- ---- approaches

-- at neither end does the hot part lie below a cold part that it passes heat to
passes-order : (p q : Part) → p.low ≤ℤ p.high → q.low ≤ℤ q.high → passes_heat p q ≡ true
    → (q.high ≤ℤ p.high) × (q.low ≤ℤ p.low)
passes-order p q hot_order cold_order passes =
    ⊎_elim
    (λ above. let from = int_le-true q.high p.low above in (omega (arith, ints), omega (arith, ints)))
    (λ same.
    let tests = and_parts (int_eq p.high q.high) (int_eq p.low q.low) same in
    let high = (Decides-int_eq p.high q.high).0 tests.0 in
    let low = (Decides-int_eq p.low q.low).0 tests.1 in
    (omega (arith, ints), omega (arith, ints)))
    (or_cases (int_le q.high p.low) (int_eq p.high q.high && int_eq p.low q.low) passes)

-- a cold temperature and the approach are at most the hot temperature, where the cold place is at most the hot one
apart : (taken given : Rational) (low high hot_contribution cold_contribution : ℤ)
    → taken ≡ whole (low -ℤ cold_contribution)
    → given ≡ whole (high +ℤ hot_contribution) → low ≤ℤ high
    → IsAtMost (plus taken (whole (hot_contribution +ℤ cold_contribution))) given
apart taken given low high hot_contribution cold_contribution taken_is given_is order =
    let approach = hot_contribution +ℤ cold_contribution in
    let sum : plus taken (whole approach) ≡ whole ((low -ℤ cold_contribution) +ℤ approach) =
    ap (λ x. plus x (whole approach)) taken_is ∙ whole-plus (low -ℤ cold_contribution) approach in
    let apart =
    at_most-whole ((low -ℤ cold_contribution) +ℤ approach) (high +ℤ hot_contribution) (omega (arith, ints)) in
    subst (λ x. IsAtMost x given) (sym sum)
    (subst (IsAtMost (whole ((low -ℤ cold_contribution) +ℤ approach))) (sym given_is) apart)

-- ---- transfers

-- the two parts of a transfer, of which the hot one reaches the cold one
record JoinsParts (case : Case) (hot cold : List Part) (t : Transfer) (p q : Part) : Type 0 where
  hot_part : slice_get hot t.hot ≡ Some p
  cold_part : slice_get cold t.cold ≡ Some q
  passes : passes_heat p q ≡ true
  permitted : is_forbidden case.forbids p.source q.source ≡ false

joined_parts : (case : Case) (hot cold : List Part) (t : Transfer) → t.hot < length hot → t.cold < length cold
    → IsTrue (reach_between case hot cold t.hot t.cold) → (p : Part) × (q : Part) × JoinsParts case hot cold t p q
joined_parts case hot cold t hot_within cold_within reach =
    let (p, hot_part) = part_there hot t.hot hot_within in
    let (q, cold_part) = part_there cold t.cold cold_within in
    let reached : reach_between case hot cold t.hot t.cold ≡ part_reaches case p q
    = λ i. both_reach case (hot_part i) (cold_part i) in
    let forbidden = is_forbidden case.forbids p.source q.source in
    let both = and_parts (passes_heat p q) (not forbidden) (sym reached ∙ reach) in (
      p,
      q,
      record {
        hot_part = hot_part;
        cold_part = cold_part;
        passes = both.0;
        permitted = refused forbidden both.1;
      },
    )
  where
    refused : (b : Bool) → not b ≡ true → b ≡ false
    refused true holds = cc holds
    refused false holds = cc

-- the heat of a transfer over the width of a part
size-positive : (heat : ℤ) (parts : List Part) (index : ℕ) (p : Part) → slice_get parts index ≡ Some p
    → width_of p < 2 ^ 32
    → pos 0 <ℤ heat → IsHeat heat → IsPositive (ratio heat (width_at parts index))
size-positive heat parts index p at narrow above is =
    let width : width_at parts index ≡ width_of p = ap (λ o. option_map_or width_of o 1) at in
    subst (λ w. IsPositive (ratio heat w)) (sym width) (record {
      above = positive_num (ratio heat (width_of p)) (positive-ratio heat (width_of p) (omega arith) above);
      within = within-ratio heat (width_of p) (omega arith) (omega (arith, ints, is.from, is.upto)) (omega arith);
    })

module _ (case : Case) (hot cold : List Part) (ts : List Transfer) (given : IsCaseFlow case hot cold ts) where
  abbrev grid : List ℤ
  grid = places case hot cold ts given

  -- the two pieces of a transfer may meet
  pieces_apart : (p q : Part) → IsPartOf case.streams case.utilities grid side.Hot p
      → IsPartOf case.streams case.utilities grid side.Cold q
      → passes_heat p q ≡ true → AreApart case (piece_of case p) (piece_of case q)
  pieces_apart p q hot_part cold_part passes =
      let falls = places_fall case hot cold ts given in
      let giving = part_warm case grid side.Hot p falls given.complete hot_part in
      let taking = part_warm case grid side.Cold q falls given.complete cold_part in
      let hot_order = part_order case grid side.Hot p falls hot_part in
      let cold_order = part_order case grid side.Cold q falls cold_part in
      let order = passes-order p q hot_order cold_order passes in
      let keeps = λ (taken gives : Rational) (low high : ℤ). apart taken gives low high (contribution_of case p.source)
      (contribution_of case q.source) in
      let warm = λ (r : Part) (state : Rational). temperature case r.source state in
      record {
        hot_end =
            keeps (warm q (piece_of case q).after) (warm p (piece_of case p).before) q.high p.high taking.left
            giving.entered order.0;
        cold_end =
            keeps (warm q (piece_of case q).before) (warm p (piece_of case p).after) q.low p.low taking.entered
            giving.left order.1;
      }

  -- each exchange joins a hot and a cold piece that may meet
  pub exchanges_join : All (JoinsPieces case (map (piece_of case) hot) (map (piece_of case) cold))
      (map (exchange_of hot cold) ts)
  exchanges_join =
      All-map (JoinsPieces case (map (piece_of case) hot) (map (piece_of case) cold)) (exchange_of hot cold) ts
      (λ k d within.
      let t = get_or ts k d in
      let positive = given.flow.positive k d within in
      let heat = given.heats k d within in
      let flow = given.flow in
      let (p, q, joined) = joined_parts case hot cold t (flow.hot_indexes k d within) (flow.cold_indexes k d within)
      (flow.joined k d within) in
      let hot_part = part_on case hot cold ts given side.Hot t.hot p joined.hot_part in
      let cold_part = part_on case hot cold ts given side.Cold t.cold q joined.cold_part in
      let falls = places_fall case hot cold ts given in
      let piece = piece_of case in
      record {
        hot_piece = piece p;
        cold_piece = piece q;
        hot_there = slice_get-map piece hot t.hot ∙ ap (option_map piece) joined.hot_part;
        cold_there = slice_get-map piece cold t.cold ∙ ap (option_map piece) joined.cold_part;
        hot_side = side_of_part case grid side.Hot p hot_part;
        cold_side = side_of_part case grid side.Cold q cold_part;
        heat = record { above = positive; within = within-whole t.heat (omega (arith, ints, heat.from, heat.upto)) };
        hot_size =
            let narrow = part_narrow case grid side.Hot p falls given.complete hot_part in
            let size = size-positive t.heat hot t.hot p joined.hot_part narrow positive heat in
            has_size (ratio t.heat (width_at hot t.hot)) p.source size;
        cold_size =
            let narrow = part_narrow case grid side.Cold q falls given.complete cold_part in
            let size = size-positive t.heat cold t.cold q joined.cold_part narrow positive heat in
            has_size (ratio t.heat (width_at cold t.cold)) q.source size;
        permitted = joined.permitted;
        apart = pieces_apart p q hot_part cold_part joined.passes;
      })

-- ---- the parts are pieces that are led

-- the sources of pieces are those of their parts
pub sources-are : (case : Case) (parts : List Part) → sources_of (map (piece_of case) parts) ≡ part_sources parts
sources-are case parts = map-map (λ p. p.source) (piece_of case) parts

piece_on-exchange : (of : Side) (hot cold : List Part) (t : Transfer)
    → piece_on of (exchange_of hot cold t) ≡ part_index of t
piece_on-exchange side.Hot hot cold t = refl
piece_on-exchange side.Cold hot cold t = refl

-- the pieces of exchanges stand among the sources
pub pieces_within : (of : Side) (hot cold : List Part) (ts : List Transfer) (sources : List Source)
    (exchanges : List Exchange)
    → sources ≡ part_sources (on_side of hot cold) → exchanges ≡ map (exchange_of hot cold) ts
    → HaveParts of (on_side of hot cold) ts → All (λ e. piece_on of e < length sources) exchanges
pieces_within of hot cold ts sources exchanges sources_are exchanges_are have =
    subst₂ (λ (ss : List Source) (es : List Exchange). All (λ e. piece_on of e < length ss) es) (sym sources_are)
    (sym exchanges_are)
    (All-map (λ e. piece_on of e < length (part_sources (on_side of hot cold))) (exchange_of hot cold) ts (λ k d within.
    let long = length-map (on_side of hot cold) (λ (p : Part). p.source) in
    let index = have k d within in
    let same = piece_on-exchange of hot cold (get_or ts k d) in
    omega arith))

module _ (case : Case) (hot cold : List Part) (ts : List Transfer) (given : IsCaseFlow case hot cold ts)
    (few : length ts ≤ most_transfers) where
  abbrev hots : List Piece
  hots = map (piece_of case) hot

  abbrev colds : List Piece
  colds = map (piece_of case) cold

  abbrev exchanges : List Exchange
  exchanges = map (exchange_of hot cold) ts

  stream_led : (stream : ℕ) (s : Stream) (index : ℕ) (p : Piece) → slice_get case.streams stream ≡ Some s
      → slice_get (on_side s.side hots colds) index ≡ Some p → p.source ≡ source.Stream stream
      → IsStreamPiece s.side exchanges index p s
  stream_led stream s index p here there own =
      let (part, at, is) = mapped_item (piece_of case) (on_side s.side hot cold) index p
      (ap (λ ps. slice_get ps index) (sym (on_side-ap s.side (map (piece_of case)) hot cold)) ∙ there) in
      let source_is = ap (λ (q : Piece). q.source) is ∙ own in
      let valid = valid_stream case hot cold ts given stream s here in
      let heat = own_heat case hot cold ts given stream s here index part at source_is in
      let piece = stream_piece case hot cold ts stream s here valid index part at source_is heat in
      subst (λ q. IsStreamPiece s.side exchanges index q s) is piece

  pub flow_led : AreLedPieces case hots colds exchanges
  flow_led = record {
    each = exchanges_join case hot cold ts given;
    pieces = λ stream s index p here there own used. stream_led stream s index p here there own;
    joined = λ stream s here. joined case hot cold ts given stream s here;
    utilities =
        λ index u here.
        let has_heat = utility_has_heat case hot cold ts given index u here few in
        subst₂ (λ hs cs. HasUtilityHeat hs cs exchanges index u) (sym (sources-are case hot))
        (sym (sources-are case cold)) has_heat;
  }
