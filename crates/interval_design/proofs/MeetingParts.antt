-- The parts of a stream meet, from the hottest down; of a latent stream there is one.
use Rattle.interval_design.proofs.Words.{All-head, All-slice_get, All-tail, AreParts, Contains, IsInterval, IsLatent, IsPartOf, IsSensible}
use Rattle.interval_design.proofs.Words.{IsStreamPart, LedStage, Meet, Part, Rational, Side, Stream, Utility, by_lt_z, cases_order, comes_before}
use Rattle.interval_design.proofs.Words.{comes_before_source, cons_option, enumerate_from, false_from_ne_true, false≢true, filter_map, high_end}
use Rattle.interval_design.proofs.Words.{interval_below, interval_ends, interval_falls, ints, level-latent, low_end, on_side, on_the_way, only_item}
use Rattle.interval_design.proofs.Words.{reverse, reverse-append, same_Some, same_source, same_source-same, same_source-true, slice_get-get_or}
use Rattle.interval_design.proofs.Words.{state_behind, stream_part}
use Rattle.std.proofs.Common.{All, AllPairs, Bool, List, None, Option, Some, [], ap, arith, false, get_or, if◌then◌else◌, inl, inr, map, pos, refl}
use Rattle.std.proofs.Common.{slice_get, subst, subst₂, sym, true, ℕ, ℤ, ⊎_elim, ◌++◌, ◌+◌, ◌<ℤ◌, ◌<◌, ◌∙◌, ◌∷◌, ◌≡◌, ◌≤ℤ◌}
use Rattle.interval_design.proofs.CaseFlow.{one_place, pairs_at, part_of_stream}
use Rattle.sums.proofs.OrderLemmas.{AllPairs-head, AllPairs-tail, Contains-cons}
use Rattle.interval_design.proofs.PartStates.{sensible_interval, latent_level}
use Rattle.stream_case.specs.declared.source.Side.TheVariants as side
use Rattle.stream_case.specs.declared.source.Source.TheVariants as source

-- ---- stages that meet: the parts of a stream from the hottest down, of which a latent stream has one

-- from one state to another
abbrev pub Lead : Rational → List LedStage → Rational → Type 0
Lead from stages to = Meet from stages × (state_behind from stages ≡ to)

lead_push : (from : Rational) (stages : List LedStage) (stage : LedStage) → Lead from stages stage.before
    → Lead from (stages ++ stage ∷ []) stage.after
lead_push from [] stage lead = ((sym lead.1, tt), refl)
lead_push from (first ∷ stages) stage lead =
    let rest = lead_push first.after stages stage (lead.0.1, lead.1) in
    ((lead.0.0, rest.0), rest.1)

-- the hot end of a stage, and its cold end
abbrev pub hot_state : Side → LedStage → Rational
hot_state of stage = on_side of stage.before stage.after

abbrev pub cold_state : Side → LedStage → Rational
cold_state of stage = on_side of stage.after stage.before

-- stages from the hottest down, through which a stream of a side is led between two states
abbrev pub Fall : Side → Rational → List LedStage → Rational → Type 0
Fall of high stages low = Lead (on_side of high low) (on_the_way of stages) (on_side of low high)

fall_none : (of : Side) (high low : Rational) → high ≡ low → Fall of high [] low
fall_none side.Hot high low same = (tt, same)
fall_none side.Cold high low same = (tt, sym same)

fall_more : (of : Side) (high low : Rational) (stage : LedStage) (stages : List LedStage) → hot_state of stage ≡ high
    → Fall of (cold_state of stage) stages low → Fall of high (stage ∷ stages) low
fall_more side.Hot high low stage stages top fall = ((top, fall.0), fall.1)
fall_more side.Cold high low stage stages top fall =
    let turned_is = reverse-append (stage ∷ []) stages in
    let pushed = lead_push low (reverse stages) stage fall in
    subst₂ (λ (turned : List LedStage) to. Lead low turned to) (sym turned_is) top pushed

-- ---- the next place below one, which is not below another place

next_place : (grid : List ℤ) (x least : ℤ) → AllPairs (λ a b. b <ℤ a) grid → Contains grid x
    → Contains grid least → least <ℤ x
    → (low : ℤ) × IsInterval grid x low × (least ≤ℤ low)
next_place grid x least falls (k, within, is) (j, inside, is_least) less =
    let at : slice_get grid k ≡ Some x = slice_get-get_or grid k x within ∙ ap (λ (a : ℤ). Some a) is in
    let at_least : slice_get grid j ≡ Some least
    = slice_get-get_or grid j least inside ∙ ap (λ (a : ℤ). Some a) is_least in
    let later : k < j
    = ⊎_elim (λ same.
    let equal = same_Some x least (sym at ∙ ap (slice_get grid) same ∙ at_least) in
    absurd (omega (arith, ints)))
    (⊎_elim (λ late. late) (λ early.
    let fall = pairs_at (λ a b. b <ℤ a) grid j k least x falls at_least at early in
    absurd (omega (arith, ints))))
    (cases_order k j) in
    let low = get_or grid (k + 1) (pos 0) in
    let interval : IsInterval grid x low
    = record { index = k; from = at; to = slice_get-get_or grid (k + 1) (pos 0) (omega arith) } in
    (low, interval, interval_below grid x low least falls interval (j, inside, is_least) less)

-- ---- the parts of a stream

-- the parts of the stream with a number, with their indexes
abbrev pub own_item : ℕ → ℕ × Part → Option (ℕ × Part)
own_item number e = if same_source e.1.source (source.Stream number) then Some e else None

abbrev pub own_items : ℕ → ℕ → List Part → List (ℕ × Part)
own_items number n ps = filter_map (own_item number) (enumerate_from n ps)

module _ (streams : List Stream) (utilities : List Utility) (grid : List ℤ) (of : Side) (number : ℕ) (s : Stream)
    (here : slice_get streams number ≡ Some s) (side_is : s.side ≡ of) (falls : AllPairs (λ a b. b <ℤ a) grid) where
  abbrev pub IsOwn : Part → Type 0
  IsOwn p = IsStreamPart streams grid of number s p

  pub own_part : (p : Part) → IsPartOf streams utilities grid of p
      → same_source p.source (source.Stream number) ≡ true → IsOwn p
  own_part p is own =
      let own_source = same_source-true p.source (source.Stream number) own in
      part_of_stream {utilities = utilities} grid of number s p here is own_source

  own_is : (p : Part) → IsOwn p → same_source p.source (source.Stream number) ≡ true
  own_is p is =
      ap (λ (q : Part). same_source q.source (source.Stream number)) is.is ∙ same_source-same (source.Stream number)

  -- ---- the one part of a latent stream

  module _ (latent : IsLatent s) where
    level_part : Part
    level_part = stream_part (high_end s) (high_end s) number s

    level_own : IsOwn level_part
    unfolding level_part
    level_own =
        let level = level-latent s latent in
        record {
          stream = here;
          side_is = side_is;
          piece = inr (latent, refl);
          from = omega (arith, ints);
          upto = omega (arith, ints);
          is = refl;
        }

    own_level : (p : Part) → IsOwn p → p ≡ level_part
    unfolding level_part
    own_level p is =
        let at = latent_level grid s p latent falls is.piece is.from is.upto in
        is.is ∙ (λ i. stream_part (at.high i) (at.low i) number s)

    pub one_part : (ps : List Part) → AreParts streams utilities grid of ps
        → (i : ℕ) × (p : Part) × (slice_get ps i ≡ Some p) × IsOwn p × (own_items number 0 ps ≡ (i, p) ∷ [])
    one_part ps are =
        let p = level_part in
        let (i, within, found) = are.every p (inl (number, s, level_own)) in
        let at : slice_get ps i ≡ Some p = slice_get-get_or ps i p within ∙ ap (λ (q : Part). Some q) found in
        let first : 0 + i ≡ i = omega arith in
        let kept =
        ap (λ b. if b then Some (0 + i, p) else None) (own_is p level_own) ∙ ap (λ (k : ℕ). Some (k, p)) first in (
          i,
          p,
          at,
          level_own,
          only_item (own_item number) 0 ps i p (i, p) at kept (λ j q there other.
              ap (λ b. if b then Some (0 + j, q) else None)
              (false_from_ne_true (same_source q.source (source.Stream number)) (λ holds.
              let two = own_part q (All-slice_get (IsPartOf streams utilities grid of) ps j q are.each there) holds in
              let level_is = there ∙ ap (λ (r : Part). Some r) (own_level q two) in
              let same_place = one_place {utilities = utilities} grid of ps j i p are level_is at in
              other same_place))),
        )

  -- ---- the parts of a sensible stream

  module _ (sensible : IsSensible s) where
    own_interval : (p : Part) → IsOwn p → IsInterval grid p.high p.low
    own_interval p own = sensible_interval grid s p.high p.low sensible own.piece

    own_falls : (p : Part) → IsOwn p → p.low <ℤ p.high
    own_falls p own = interval_falls grid p.high p.low falls (own_interval p own)

    -- the part below a place of the range
    part_below : (x : ℤ) → Contains grid x → Contains grid (low_end s) → x ≤ℤ high_end s → low_end s <ℤ x
        → (p : Part) × (p.high ≡ x) × IsOwn p
    part_below x place least upto above =
        let (low, interval, from) = next_place grid x (low_end s) falls place least above in
        let own : IsOwn (stream_part x low number s) =
        record { stream = here; side_is = side_is; piece = inl interval; from = from; upto = upto; is = refl } in
        (stream_part x low number s, refl, own)

    -- of two parts of the stream, the one that comes later lies below
    lies_below : (p q : Part) → IsOwn p → IsOwn q → comes_before p q → q.high ≤ℤ p.low
    lies_below p q one two (inl less) =
        let below = (interval_ends grid q.high q.low (own_interval q two)).0 in
        interval_below grid p.high p.low q.high falls (own_interval p one) below less
    lies_below p q one two (inr (inl same)) =
        let top = same.0 in
        let less = same.1 in
        let down = own_falls p one in
        let within = (interval_ends grid p.high p.low (own_interval p one)).1 in
        let below = interval_below grid q.high q.low p.low falls (own_interval q two) within (omega (arith, ints)) in
        absurd (omega (arith, ints))
    lies_below p q one two (inr (inr same)) =
        let itself : number < number =
        subst₂ comes_before_source (ap (λ (r : Part). r.source) one.is) (ap (λ (r : Part). r.source) two.is) same.2 in
        absurd (omega arith)

    not_higher : (p q : Part) → comes_before p q → q.high ≤ℤ p.high
    not_higher p q (inl less) = omega (arith, ints)
    not_higher p q (inr (inl same)) = let top = same.0 in omega (arith, ints)
    not_higher p q (inr (inr same)) = let top = same.0 in omega (arith, ints)

    -- the parts from here on: those of the stream lie at a place or below it, and all such ones are among them
    pub record LieBelow (x : ℤ) (ps : List Part) : Type 0 where
      pub ordered : AllPairs comes_before ps
      pub each : All (IsPartOf streams utilities grid of) ps
      pub below : All (λ p. IsOwn p → p.high ≤ℤ x) ps
      pub every : (p : Part) → IsOwn p → p.high ≤ℤ x → Contains ps p
      pub place : Contains grid x
      pub from : low_end s ≤ℤ x
      pub upto : x ≤ℤ high_end s

    -- each own part is a stage between the states at its ends
    module _ (least : Contains grid (low_end s)) (stage : ℕ × Part → LedStage) (state : ℤ → Rational)
        (hot : (n : ℕ) (p : Part) → IsOwn p → hot_state of (stage (n, p)) ≡ state p.high)
        (cold : (n : ℕ) (p : Part) → IsOwn p → cold_state of (stage (n, p)) ≡ state p.low) where
      abbrev pub Below : ℤ → List (ℕ × Part) → Type 0
      Below x items = Fall of (state x) (map stage items) (state (low_end s))

      -- another part is passed over
      past_other : (x : ℤ) (p : Part) (ps : List Part) → LieBelow x (p ∷ ps)
          → same_source p.source (source.Stream number) ≡ false → LieBelow x ps
      past_other x p ps lie other = record {
        ordered = AllPairs-tail comes_before p ps lie.ordered;
        each = All-tail (IsPartOf streams utilities grid of) p ps lie.each;
        below = All-tail (λ (q : Part). IsOwn q → q.high ≤ℤ x) p ps lie.below;
        every =
            λ q own upto.
            let first_or_later = Contains-cons p ps q (lie.every q own upto) in
            ⊎_elim (λ same.
            let clash =
            sym other ∙ ap (λ (r : Part). same_source r.source (source.Stream number)) same ∙ own_is q own in
            absurd (false≢true clash)) (λ there. there) first_or_later;
        place = lie.place;
        from = lie.from;
        upto = lie.upto;
      }

      -- behind an own part, which is the highest one, the others lie at its low or below it
      past_own : (x : ℤ) (p : Part) (ps : List Part) → LieBelow x (p ∷ ps) → IsOwn p → (p.high ≡ x) × LieBelow p.low ps
      past_own x p ps lie own =
          let most = All-head (λ (q : Part). IsOwn q → q.high ≤ℤ x) p ps lie.below own in
          let behind = AllPairs-head comes_before p ps lie.ordered in
          let down = own_falls p own in
          let from = own.from in
          let upto = own.upto in
          let gap : p.high <ℤ x → ⊥ = λ less.
          let (q, top, two) = part_below x lie.place least lie.upto (omega (arith, ints)) in
          ⊎_elim (λ same. let high = ap (λ (r : Part). r.high) same in absurd (omega (arith, ints)))
          (λ (k, inside, is). let under = not_higher p (get_or ps k q) (behind k q inside) in
          let high = ap (λ (r : Part). r.high) is in absurd (omega (arith, ints)))
          (Contains-cons p ps q (lie.every q two (omega (arith, ints)))) in (
            by_lt_z p.high x (λ less. absurd (gap less)) (λ same. omega (arith, ints)),
            record {
              ordered = AllPairs-tail comes_before p ps lie.ordered;
              each = All-tail (IsPartOf streams utilities grid of) p ps lie.each;
              below = λ k d within. λ two. lies_below p (get_or ps k d) own two (behind k d within);
              every =
                  λ q two under.
                  let first_or_later = Contains-cons p ps q (lie.every q two (omega (arith, ints))) in
                  ⊎_elim (λ same. let high = ap (λ (r : Part). r.high) same in absurd (omega (arith, ints)))
                  (λ there. there) first_or_later;
              place = (interval_ends grid p.high p.low (own_interval p own)).1;
              from = from;
              upto = omega (arith, ints);
            },
          )

      pub parts_fall : (n : ℕ) (x : ℤ) (ps : List Part) → LieBelow x ps → Below x (own_items number n ps)
      parts_fall n x [] lie =
          let lowest : x ≡ low_end s
          = by_lt_z (low_end s) x (λ more. absurd (none more)) (λ most. let from = lie.from in omega (arith, ints)) in
          fall_none of (state x) (state (low_end s)) (ap state lowest)
        where
          none : low_end s <ℤ x → ⊥
          none more =
              let (p, top, own) = part_below x lie.place least lie.upto more in
              let (k, inside, is) = lie.every p own (omega (arith, ints)) in
              omega (arith, inside)
      parts_fall n x (p ∷ ps) lie =
          by (λ y lower. parts_fall (n + 1) y ps lower) (same_source p.source (source.Stream number)) refl
        where
          by : ((y : ℤ) → LieBelow y ps → Below y (own_items number (n + 1) ps)) → (b : Bool)
              → same_source p.source (source.Stream number) ≡ b
              → Below x (cons_option (if b then Some (n, p) else None) (own_items number (n + 1) ps))
          by lower false other = lower x (past_other x p ps lie other)
          by lower true is =
              let own = own_part p (All-head (IsPartOf streams utilities grid of) p ps lie.each) is in
              let (top, rest) = past_own x p ps lie own in
              let items = map stage (own_items number (n + 1) ps) in
              fall_more of (state x) (state (low_end s)) (stage (n, p)) items (hot n p own ∙ ap state top)
              (subst (λ from. Fall of from items (state (low_end s))) (sym (cold n p own)) (lower p.low rest))
