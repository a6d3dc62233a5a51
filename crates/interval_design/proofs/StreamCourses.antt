-- A heat flow leads each stream through its parts, from its first state to its last.
use Rattle.interval_design.proofs.Words.{All-enumerated, All-head, All-slice_get, All-tail, AreEnds-IsValidStream, AreJoined, AreParts, Case}
use Rattle.interval_design.proofs.Words.{Contains, Exchange, HoldsPlaces-IsGrid, IsLatent, IsSensible, IsStreamPart, IsValidStream, LedStage, Part}
use Rattle.interval_design.proofs.Words.{Rational, Side, Stream, Transfer, cons_option, entered_state, enumerate_from, exchange_of, filter_map}
use Rattle.interval_design.proofs.Words.{filter_map-way, first_state, heat_at, high_end, holds_ends, ints, last_state, led_course, led_piece}
use Rattle.interval_design.proofs.Words.{led_stage, left_state, low_end, lt-ltb, nat_lt, on_side, on_side-ap, on_the_way, piece_of, same_source}
use Rattle.interval_design.proofs.Words.{same_source-true, shares_of, width_of}
use Rattle.std.proofs.Common.{All, AllPairs, Bool, List, None, Some, [], ap, arith, false, if◌then◌else◌, inl, inr, length, map, pos, refl, slice_get}
use Rattle.std.proofs.Common.{subst, subst₂, sym, true, ℕ, ℤ, ◌&&◌, ◌*ℤ◌, ◌+ℤ◌, ◌+◌, ◌<ℤ◌, ◌<◌, ◌∙◌, ◌∷◌, ◌≡◌, ◌≤ℤ◌, ◌⊎◌}
use Rattle.interval_design.proofs.CaseFlow.{IsCaseFlow, part_of_stream, part_on, places, places_fall, side_parts, side_ranges, valid_stream}
use Rattle.network_values.proofs.StreamStates.{first_end, first_state-unshifted, last_end, last_state-unshifted}
use Rattle.interval_design.proofs.PartStates.{own_temperature, entered-sensible, left-sensible, entered-latent, left-latent}
use Rattle.interval_design.proofs.PartShares.{fits, state_is, piece_falls}
use Rattle.interval_design.proofs.StreamPieces.{IsOwnPart, has_share}
use Rattle.interval_design.proofs.MeetingParts.{Lead, own_items, one_part, parts_fall}
use Rattle.stream_case.specs.declared.source.Side.TheVariants as side
use Rattle.stream_case.specs.declared.source.Source.TheVariants as source

-- ---- a heat flow leads each stream from its first state to its last

-- a stream begins at the one end of its range, and ends at the other
first-end : (of : Side) (f : ℤ → Rational) (s : Stream)
    → on_side of (f (high_end s)) (f (low_end s)) ≡ f (first_end of s)
first-end side.Hot f s = refl
first-end side.Cold f s = refl

last-end : (of : Side) (f : ℤ → Rational) (s : Stream) → on_side of (f (low_end s)) (f (high_end s)) ≡ f (last_end of s)
last-end side.Hot f s = refl
last-end side.Cold f s = refl

-- the first of two is where a hot stream comes in, and a cold one leaves
first-of : {X Y : Type 0} (of : Side) (f : X → Y) (a b : X) → on_side of (f (on_side of a b)) (f (on_side of b a)) ≡ f a
first-of side.Hot f a b = refl
first-of side.Cold f a b = refl

one_on_the_way : (of : Side) (stage : LedStage) → on_the_way of (stage ∷ []) ≡ stage ∷ []
one_on_the_way side.Hot stage = refl
one_on_the_way side.Cold stage = refl

-- ---- the stages of a course

module _ (case : Case) (of : Side) (exchanges : List Exchange) (number : ℕ) where
  abbrev pub stage : ℕ × Part → LedStage
  stage e = led_piece of exchanges (e.0, piece_of case e.1)

  -- each own part has a share
  abbrev pub IsUsed : ℕ × Part → Type 0
  IsUsed e = same_source e.1.source (source.Stream number) ≡ true → 0 < length (shares_of of e.0 exchanges)

  stages-are : (n : ℕ) (ps : List Part) → All IsUsed (enumerate_from n ps)
      → filter_map (led_stage of exchanges number) (enumerate_from n (map (piece_of case) ps))
      ≡ map stage (own_items number n ps)
  stages-are n [] used = refl
  stages-are n (p ∷ ps) used =
      let others_used = All-tail IsUsed (n, p) (enumerate_from (n + 1) ps) used in
      let others_are = stages-are (n + 1) ps others_used in
      one (same_source p.source (source.Stream number)) (nat_lt 0 (length (shares_of of n exchanges))) (λ own.
      let used_here = All-head IsUsed (n, p) (enumerate_from (n + 1) ps) used own in
      lt-ltb 0 (length (shares_of of n exchanges)) used_here)
      (filter_map (led_stage of exchanges number) (enumerate_from (n + 1) (map (piece_of case) ps)))
      (own_items number (n + 1) ps) others_are
    where
      one : (b used : Bool) → (b ≡ true → used ≡ true) → (stages : List LedStage) (items : List (ℕ × Part))
          → stages ≡ map stage items
          → cons_option (if b && used then Some (stage (n, p)) else None) stages
          ≡ map stage (cons_option (if b then Some (n, p) else None) items)
      one true true some stages items same = ap (λ (ss : List LedStage). stage (n, p) ∷ ss) same
      one true false some stages items same = let clash = some refl in cc clash
      one false used some stages items same = same

-- ---- the streams of a flow

module _ (case : Case) (hot cold : List Part) (ts : List Transfer) (given : IsCaseFlow case hot cold ts)
    (number : ℕ) (s : Stream) (here : slice_get case.streams number ≡ Some s) where
  abbrev grid : List ℤ
  grid = places case hot cold ts given

  abbrev ps : List Part
  ps = on_side s.side hot cold

  abbrev falls : AllPairs (λ a b. b <ℤ a) grid
  falls = places_fall case hot cold ts given

  abbrev own_parts : AreParts case.streams case.utilities grid s.side ps
  own_parts = side_parts case hot cold ts given s.side

  abbrev valid : IsValidStream s
  valid = valid_stream case hot cold ts given number s here

  ends_held : Contains grid (high_end s) × Contains grid (low_end s)
  ends_held =
      All-slice_get (λ r. Contains grid (high_end r) × Contains grid (low_end r)) case.streams number s
      (holds_ends case.streams case.utilities grid (HoldsPlaces-IsGrid case grid given.parts.is_grid)) here

  pub own_heat : (index : ℕ) (p : Part) → slice_get ps index ≡ Some p → p.source ≡ source.Stream number
      → IsOwnPart s ts index p
  own_heat index p at own =
      let is_part = part_on case hot cold ts given s.side index p at in
      let is = part_of_stream {utilities = case.utilities} grid s.side number s p here is_part own in
      let fit = fits grid s p valid falls is in
      let range = side_ranges case hot cold ts given s.side index p at in
      record {
        fits = fit;
        heat =
            between (heat_at s.side ts index) p.least p.most ((s.cp +ℤ s.load) *ℤ pos (width_of p)) fit.least fit.most
            range.from range.upto;
        order = piece_falls s p falls is.piece;
        from = is.from;
        upto = is.upto;
      }
    where
      between : (h least most x : ℤ) → least ≡ x → most ≡ x → least ≤ℤ h → h ≤ℤ most → h ≡ x
      between h least most x one two from upto = omega (arith, ints)

  abbrev exchanges : List Exchange
  exchanges = map (exchange_of hot cold) ts

  abbrev state : ℤ → Rational
  state = own_temperature s

  abbrev led : ℕ × Part → LedStage
  led = stage case s.side exchanges number

  abbrev items : List (ℕ × Part)
  items = own_items number 0 ps

  course-is : led_course (map (piece_of case) hot) (map (piece_of case) cold) exchanges (number, s)
      ≡ on_the_way s.side (map led items)
  course-is =
      filter_map-way (led_stage s.side exchanges number) s.side
      (enumerate_from 0 (on_side s.side (map (piece_of case) hot) (map (piece_of case) cold)))
      ∙ ap (λ qs. on_the_way s.side (filter_map (led_stage s.side exchanges number) (enumerate_from 0 qs)))
      (on_side-ap s.side (map (piece_of case)) hot cold)
      ∙ ap (on_the_way s.side)
      (stages-are case s.side exchanges number 0 ps
      (All-enumerated (IsUsed case s.side exchanges number) ps (λ index p at own.
      let source_is = same_source-true p.source (source.Stream number) own in
      has_share case hot cold ts number s here valid index p at source_is (own_heat index p at source_is))))

  -- through temperatures
  sensible_lead : IsSensible s → Lead (first_state s) (on_the_way s.side (map led items)) (last_state s)
  sensible_lead sensible =
      let entered = λ (p : Part) (own : IsStreamPart case.streams grid s.side number s p).
      state_is (entered_state p) case p.source number s here (ap (λ (q : Part). q.source) own.is)
      ∙ entered-sensible s p sensible in
      let left = λ (p : Part) (own : IsStreamPart case.streams grid s.side number s p).
      state_is (left_state p) case p.source number s here (ap (λ (q : Part). q.source) own.is)
      ∙ left-sensible s p sensible in
      let fall = parts_fall case.streams case.utilities grid s.side number s here refl falls sensible ends_held.1 led
      state (λ n p own. (λ i. on_side s.side (entered p own i) (left p own i)) ∙ first-of s.side state p.high p.low)
      (λ n p own. (λ i. on_side s.side (left p own i) (entered p own i)) ∙ first-of s.side state p.low p.high) 0
      (high_end s) ps (record {
        ordered = own_parts.ordered;
        each = own_parts.each;
        below = λ k d within. λ own. own.upto;
        every = λ p own upto. own_parts.every p (inl (number, s, own));
        place = ends_held.0;
        from = (AreEnds-IsValidStream s valid).order;
        upto = omega (arith, ints);
      }) in
      let begins = first-end s.side state s ∙ first_state-unshifted s.side s sensible refl in
      let ends = last-end s.side state s ∙ last_state-unshifted s.side s sensible refl in
      subst₂ (λ from to. Lead from (on_the_way s.side (map led items)) to) begins ends fall

  -- through the one part
  latent_lead : IsLatent s → Lead (first_state s) (on_the_way s.side (map led items)) (last_state s)
  latent_lead latent =
      let (index, p, at, own, only) =
      one_part case.streams case.utilities grid s.side number s here refl falls latent ps own_parts in
      let source_is = ap (λ (q : Part). q.source) own.is in
      let entered = state_is (entered_state p) case p.source number s here source_is ∙ entered-latent s p latent in
      let left = state_is (left_state p) case p.source number s here source_is ∙ left-latent s p latent in
      let one_stage = ap (λ es. on_the_way s.side (map led es)) only ∙ one_on_the_way s.side (led (index, p)) in
      subst (λ stages. Lead (first_state s) stages (last_state s)) (sym one_stage) ((entered, tt), left)

  pub joined : AreJoined s (led_course (map (piece_of case) hot) (map (piece_of case) cold) exchanges (number, s))
  joined = subst (AreJoined s) (sym course-is) (by valid.heat)
    where
      by : IsSensible s ⊎ IsLatent s → AreJoined s (on_the_way s.side (map led items))
      by (inl sensible) =
          let lead = sensible_lead sensible in
          record { meet = lead.0; ends = lead.1 }
      by (inr latent) = let lead = latent_lead latent in record { meet = lead.0; ends = lead.1 }
