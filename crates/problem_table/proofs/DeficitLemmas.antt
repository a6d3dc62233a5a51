-- The heat of a stream over a shifted temperature, against its whole heat; deficits and targets; pinches; and the place of the reference.
use Rattle.problem_table.proofs.Words.{*ℤ-zero, *ℤ-≤ℤ_left, All-contains, All-push, All-weaker, AreEnds-IsValidStream, AreSensible, AreStreams, Cold}
use Rattle.problem_table.proofs.Words.{Contains-append_left, Contains-append_right, Contains-get_or, CountsFromItself, Decides, Decides-not, FindsHighestTight}
use Rattle.problem_table.proofs.Words.{HasTightDeficit, HasValidStreams, Hot, IsBetween, IsLatent, IsPinch, IsReferencePlace, IsSensible, IsStreamsHeat}
use Rattle.problem_table.proofs.Words.{IsTight, IsTightOver, IsValidStream, LOWEST_SHIFTED, Lists-same, ListsFalling, Stream, by_lt_z, clamps, cold_target}
use Rattle.problem_table.proofs.Words.{counts_above, cp-between, deficit_above, deficit_from, deficit_over, each_end, end_deficits, fold-append}
use Rattle.problem_table.proofs.Words.{fold-int_max_bounds, fold-int_max_reached, get_or-map, heat_between, heat_of, heat_of-between, heat_over}
use Rattle.problem_table.proofs.Words.{heat_over-between, heat_over-sensible, high_end, hot_target, if_between, int_le-from, int_lt-from, int_max, ints}
use Rattle.problem_table.proofs.Words.{length-AreStreams, length-map, length-stream_ends, length_above, load_over, low_end, map-append, outermost}
use Rattle.problem_table.proofs.Words.{sensible_above, stream_ends, stream_ends-more, sum_side, take_more}
use Rattle.std.proofs.Common.{All, Bool, Contains, IsSome, List, None, Option, Some, [], ap, ap₂, arith, cond, false, fold, get_or, if◌then◌else◌, inl, inr}
use Rattle.std.proofs.Common.{int_lt, length, map, not, pos, refl, subst, sym, take, true, ℕ, ℤ, ⊎_elim, ◌*ℤ◌, ◌++◌, ◌+ℤ◌, ◌+◌, ◌-ℤ◌, ◌<ℤ◌, ◌<◌, ◌∙◌, ◌∷◌, ◌≡◌}
use Rattle.std.proofs.Common.{◌≤ℤ◌, ◌⊎◌}
use Rattle.problem_table.proofs.EndLemmas.{IsOutermost-outermost}
use Rattle.problem_table.proofs.SideLemmas.{sum_side-heat, sum_side-le, sum_side-same, sum_side-zero}

load-not_negative : (s : Stream) → IsSensible s ⊎ IsLatent s → pos 0 ≤ℤ s.load
load-not_negative s (inl sensible) = let none = sensible.load in omega (arith, ints)
load-not_negative s (inr latent) = let load = latent.load in omega (arith, ints)

pub heat_over-le : (from_itself : Bool) (t : ℤ) (s : Stream) → IsValidStream s → heat_over from_itself t s ≤ℤ heat_of s
heat_over-le from_itself t s h =
    let cp = cp-between s h in
    let ends = AreEnds-IsValidStream s h in
    let sensible : sensible_above t s ≤ℤ heat_between (high_end s) (low_end s) s =
    *ℤ-≤ℤ_left s.cp (length_above (low_end s) (high_end s) t) (high_end s -ℤ low_end s) (omega (arith, ints)) (omega (arith, ints, clamps)) in
    let load : load_over from_itself t s ≤ℤ s.load
    = (if_between (counts_above from_itself t (high_end s)) s.load (load-not_negative s h.heat)).1 in
    omega (arith, ints, sensible, load)

-- over a temperature that no level counts as above there is none, and over one that the low end counts as above there is all
level_below : (from_itself : Bool) (t level : ℤ) → counts_above from_itself t level ≡ false → level ≤ℤ t
level_below false t level e = omega (arith, ints)
level_below true t level e = omega (arith, ints)

level_above : (from_itself : Bool) (t level : ℤ) → counts_above from_itself t level ≡ true → t ≤ℤ level
level_above false t level e = omega (arith, ints)
level_above true t level e = omega (arith, ints)

higher_level : (from_itself : Bool) (t low high : ℤ) → counts_above from_itself t low ≡ true → low ≤ℤ high
    → counts_above from_itself t high ≡ true
higher_level false t low high e order = int_lt-from t high (omega (arith, ints))
higher_level true t low high e order = int_le-from t high (omega (arith, ints))

pub heat_over-none : (from_itself : Bool) (t : ℤ) (s : Stream) → IsValidStream s
    → counts_above from_itself t (high_end s) ≡ false → heat_over from_itself t s ≡ pos 0
heat_over-none from_itself t s h below =
    let ends = AreEnds-IsValidStream s h in
    let level = level_below from_itself t (high_end s) below in
    let sensible = ap (λ l. s.cp *ℤ l) {x = length_above (low_end s) (high_end s) t} {y = pos 0} (omega (arith, ints, clamps))
    ∙ *ℤ-zero s.cp in
    let load = ap (λ b. if b then s.load else pos 0) below in ap₂ ◌+ℤ◌ sensible load

pub heat_over-all : (from_itself : Bool) (t : ℤ) (s : Stream) → IsValidStream s
    → counts_above from_itself t (low_end s) ≡ true → heat_over from_itself t s ≡ heat_of s
heat_over-all from_itself t s h above =
    let ends = AreEnds-IsValidStream s h in
    let level = level_above from_itself t (low_end s) above in
    let sensible = ap (λ l. s.cp *ℤ l) {x = length_above (low_end s) (high_end s) t} {y = high_end s -ℤ low_end s} (omega (arith, ints, clamps)) in
    let load = ap (λ b. if b then s.load else pos 0)
    (higher_level from_itself t (low_end s) (high_end s) above ends.order) in
    ap₂ ◌+ℤ◌ sensible load

-- Deficits, and the targets, of lists of valid streams.

-- ---- the deficits

-- no deficit exceeds all cold heat
deficit_over-le : (from_itself : Bool) (t : ℤ) (streams : List Stream) → AreStreams streams
    → deficit_over from_itself streams t ≤ℤ sum_side Cold heat_of streams
deficit_over-le from_itself t streams h =
    let cold = sum_side-le Cold (heat_over from_itself t) heat_of streams
    (All-weaker IsValidStream (λ s. heat_over from_itself t s ≤ℤ heat_of s)
    (heat_over-le from_itself t) streams h.each) in
    let hot = sum_side-heat Hot (heat_over from_itself t) (heat_over-between from_itself t) streams h.each
    (length-AreStreams streams h) in
    omega (arith, ints, hot)

-- above all ends there is no heat, and over a place that all ends count as above there is all
not_above : (t level : ℤ) → level ≤ℤ t → counts_above false t level ≡ false
not_above t level h = grind (arith, ints)

deficit_above-highest : (t : ℤ) (streams : List Stream) → All IsValidStream streams
    → All (λ s. high_end s ≤ℤ t) streams → deficit_above streams t ≡ pos 0
deficit_above-highest t streams valid above =
    let none = λ (k : ℕ) (d : Stream) (within : k < length streams). heat_over-none false t (get_or streams k d) (valid k d within)
    (not_above t (high_end (get_or streams k d)) (above k d within)) in
    let cold = sum_side-zero Cold (heat_over false t) streams none in
    let hot = sum_side-zero Hot (heat_over false t) streams none in
    omega (arith, ints)

deficit_over-lowest : (from_itself : Bool) (t : ℤ) (streams : List Stream) → All IsValidStream streams
    → All (λ s. counts_above from_itself t (low_end s) ≡ true) streams
    → deficit_over from_itself streams t ≡ sum_side Cold heat_of streams -ℤ sum_side Hot heat_of streams
deficit_over-lowest from_itself t streams valid below =
    let all = λ (k : ℕ) (d : Stream) (within : k < length streams). heat_over-all from_itself t (get_or streams k d)
    (valid k d within) (below k d within) in
    ap₂ ◌-ℤ◌ (sum_side-same Cold (heat_over from_itself t) heat_of streams all)
    (sum_side-same Hot (heat_over from_itself t) heat_of streams all)

pub deficit_above-lowest : (t : ℤ) (streams : List Stream) → All IsValidStream streams
    → All (λ s. t <ℤ low_end s) streams
    → deficit_above streams t ≡ sum_side Cold heat_of streams -ℤ sum_side Hot heat_of streams
deficit_above-lowest t streams valid below = deficit_over-lowest false t streams valid
    (All-weaker (λ s. t <ℤ low_end s) (λ s. counts_above false t (low_end s) ≡ true) (λ s less. int_lt-from t (low_end s) less) streams below)

pub deficit_from-lowest : (t : ℤ) (streams : List Stream) → All IsValidStream streams
    → All (λ s. t ≤ℤ low_end s) streams
    → deficit_from streams t ≡ sum_side Cold heat_of streams -ℤ sum_side Hot heat_of streams
deficit_from-lowest t streams valid below = deficit_over-lowest true t streams valid
    (All-weaker (λ s. t ≤ℤ low_end s) (λ s. counts_above true t (low_end s) ≡ true) (λ s most. int_le-from t (low_end s) most) streams below)

-- ---- the targets

-- the greatest of some numbers and of one that is at least 0
fold-from : (least : ℤ) (xs : List ℤ) → pos 0 ≤ℤ least → fold int_max least xs ≡ int_max least (fold int_max (pos 0) xs)
fold-from least [] h = omega (arith, ints, clamps)
fold-from least (x ∷ xs) h =
    let here = fold-from (int_max least x) xs (omega (arith, ints, clamps)) in
    let other = fold-from (int_max (pos 0) x) xs (omega (arith, ints, clamps)) in
    here ∙ three least x (fold int_max (pos 0) xs) h ∙ ap (int_max least) (sym other)
  where
    three : (a b r : ℤ) → pos 0 ≤ℤ a → int_max (int_max a b) r ≡ int_max a (int_max (int_max (pos 0) b) r)
    three a b r h = omega (arith, ints, clamps)

-- the greatest of 0 and a function's values
module _ (f : ℤ → ℤ) where
  greatest_value-bound : (xs : List ℤ) (x : ℤ) → Contains xs x → f x ≤ℤ fold int_max (pos 0) (map f xs)
  greatest_value-bound xs x (k, within, is) =
      let r = fold int_max (pos 0) (map f xs) in
      let bounds = fold-int_max_bounds (pos 0) (map f xs) r refl in
      subst (λ y. y ≤ℤ r) (get_or-map f xs k x (f x) within ∙ ap f is) (bounds.1 k (f x) (rw length-map within))

  greatest_value-reached : (xs : List ℤ)
      → (fold int_max (pos 0) (map f xs) ≡ pos 0) ⊎ ((x : ℤ) × Contains xs x × (f x ≡ fold int_max (pos 0) (map f xs)))
  greatest_value-reached xs =
      let r = fold int_max (pos 0) (map f xs) in
      ⊎_elim inl (λ (k, within, is).
      let inside : k < length xs = rw length-map at within in
      inr (get_or xs k (pos 0), Contains-get_or xs k (pos 0) inside, sym (get_or-map f xs k (pos 0) r inside) ∙ is))
      (fold-int_max_reached (pos 0) (map f xs) r refl)

-- the greatest of one of the deficits over the ends
abbrev greatest_deficit : Bool → List Stream → ℤ
greatest_deficit from_itself streams =
    fold int_max (pos 0) (map (deficit_over from_itself streams) (stream_ends streams))

-- a loop's step
pub greatest_deficit-more : (from_itself : Bool) (streams : List Stream) (i : ℕ) (s : Stream) → i < length streams
    → s ≡ get_or streams i s
    → fold int_max (pos 0) (map (deficit_over from_itself streams) (stream_ends (take (i + 1) streams)))
    ≡ int_max (int_max (fold int_max (pos 0) (map (deficit_over from_itself streams) (stream_ends (take i streams))))
    (deficit_over from_itself streams (high_end s)))
    (deficit_over from_itself streams (low_end s))
greatest_deficit-more from_itself streams i s within is =
    let f = deficit_over from_itself streams in
    let ends = stream_ends (take i streams) in
    ap (λ xs. fold int_max (pos 0) (map f xs)) (stream_ends-more streams i s within is)
    ∙ ap (fold int_max (pos 0)) (map-append f ends (high_end s ∷ low_end s ∷ []))
    ∙ fold-append int_max (pos 0) (map f ends) (f (high_end s) ∷ f (low_end s) ∷ [])

-- the greater of both is the hot target
pub hot_target-is : (streams : List Stream)
    → int_max (greatest_deficit false streams) (greatest_deficit true streams) ≡ hot_target streams
hot_target-is streams =
    let aboves = map (deficit_above streams) (stream_ends streams) in
    let froms = map (deficit_from streams) (stream_ends streams) in
    sym (fold-append int_max (pos 0) aboves froms
    ∙ fold-from (fold int_max (pos 0) aboves) froms (fold-int_max_bounds (pos 0) aboves (fold int_max (pos 0) aboves) refl).0)

greatest_deficit-le : (from_itself : Bool) (streams : List Stream)
    → greatest_deficit from_itself streams ≤ℤ hot_target streams
greatest_deficit-le false streams =
    subst (λ r. greatest_deficit false streams ≤ℤ r) (hot_target-is streams) (omega (arith, ints, clamps))
greatest_deficit-le true streams =
    subst (λ r. greatest_deficit true streams ≤ℤ r) (hot_target-is streams) (omega (arith, ints, clamps))

-- no deficit at an end exceeds it
pub deficit_over-bound : (from_itself : Bool) (streams : List Stream) (t : ℤ) → Contains (stream_ends streams) t
    → deficit_over from_itself streams t ≤ℤ hot_target streams
deficit_over-bound from_itself streams t at =
    let here = greatest_value-bound (deficit_over from_itself streams) (stream_ends streams) t at in
    let most = greatest_deficit-le from_itself streams in
    omega (arith, ints)

pub hot_target-bound : (streams : List Stream) (t : ℤ) → Contains (stream_ends streams) t
    → deficit_above streams t ≤ℤ hot_target streams
hot_target-bound = deficit_over-bound false

-- and it is 0 or the deficit at some end
record IsReached (streams : List Stream) : Type 0 where
  from_itself : Bool
  end : ℤ
  member : Contains (stream_ends streams) end
  tight : IsTightOver from_itself streams end

hot_target-reached : (streams : List Stream) → (hot_target streams ≡ pos 0) ⊎ IsReached streams
hot_target-reached streams =
    ⊎_elim (λ e. reached false (sym e ∙ is)) (λ e. reached true (sym e ∙ is)) (greater (greatest_deficit false streams) (greatest_deficit true streams))
  where
    is : int_max (greatest_deficit false streams) (greatest_deficit true streams) ≡ hot_target streams
    is = hot_target-is streams

    greater : (x y : ℤ) → (int_max x y ≡ x) ⊎ (int_max x y ≡ y)
    greater x y = by_lt_z x y (λ less. inr (omega (arith, ints, clamps))) (λ most. inl (omega (arith, ints, clamps)))

    reached : (from_itself : Bool) → greatest_deficit from_itself streams ≡ hot_target streams
        → (hot_target streams ≡ pos 0) ⊎ IsReached streams
    reached from_itself e =
        ⊎_elim (λ none. inl (sym e ∙ none))
        (λ at. inr (record { from_itself = from_itself; end = at.0; member = at.1; tight = at.2 ∙ e }))
        (greatest_value-reached (deficit_over from_itself streams) (stream_ends streams))

pub tight_over : (from_itself : Bool) (streams : List Stream) (t : ℤ) → IsTightOver from_itself streams t
    → HasTightDeficit streams t
tight_over false streams t e = inl e
tight_over true streams t e = inr e

-- the deficit above the highest end is 0, so the hot target is a deficit at some end
pub some_tight : (streams : List Stream) → HasValidStreams streams → (t : ℤ) × IsTight streams t
some_tight streams h =
    let ends = stream_ends streams in
    let t = outermost Hot ends in
    let top = IsOutermost-outermost Hot ends (omega (arith, h.some, length-stream_ends streams)) in
    let below = All-weaker (λ s. (high_end s ≤ℤ t) × (low_end s ≤ℤ t)) (λ s. high_end s ≤ℤ t) (λ s e. e.0) streams (each_end (λ e. e ≤ℤ t) streams top.bound) in
    let none = deficit_above-highest t streams h.are_streams.each below in
    ⊎_elim (λ e. (t, record { end = top.member; tight = inl (none ∙ sym e) }))
    (λ at. (at.end, record { end = at.member; tight = tight_over at.from_itself streams at.end at.tight }))
    (hot_target-reached streams)

-- all heat of a side
all_heat : (streams : List Stream) → AreStreams streams
    → IsStreamsHeat (sum_side Hot heat_of streams) × IsStreamsHeat (sum_side Cold heat_of streams)
all_heat streams h = let few = length-AreStreams streams h in
    (sum_side-heat Hot heat_of heat_of-between streams h.each few, sum_side-heat Cold heat_of heat_of-between streams h.each few)

-- the hot target is at most all cold heat, and the cold target at most all hot heat
pub hot_target-within : (streams : List Stream) → AreStreams streams
    → IsBetween (pos 0) (sum_side Cold heat_of streams) (hot_target streams)
hot_target-within streams h =
    let cold = (all_heat streams h).1 in
    let bounds = fold-int_max_bounds (pos 0) (end_deficits streams) (hot_target streams) refl in
    record {
      from = bounds.0;
      upto =
          ⊎_elim (λ none. omega (arith, ints, cold))
          (λ at. let le = deficit_over-le at.from_itself at.end streams h in
          let tight = at.tight in omega (arith, ints))
          (hot_target-reached streams);
    }

pub cold_target-within : (streams : List Stream) → AreStreams streams
    → IsBetween (pos 0) (sum_side Hot heat_of streams) (cold_target streams)
cold_target-within [] h = omega (arith, ints)
cold_target-within (s ∷ ss) h =
    let streams = s ∷ ss in
    let ends = stream_ends streams in
    let t = outermost Cold ends in
    let bottom = IsOutermost-outermost Cold ends (omega arith) in
    let above =
    All-weaker (λ x. (t ≤ℤ high_end x) × (t ≤ℤ low_end x)) (λ x. t ≤ℤ low_end x) (λ x e. e.1) streams (each_end (λ e. t ≤ℤ e) streams bottom.bound) in
    let lowest = deficit_from-lowest t streams h.each above in
    let bound = deficit_over-bound true streams t bottom.member in
    let hot = hot_target-within streams h in
    omega (arith, ints, hot)

pub hot_target-between : (streams : List Stream) → AreStreams streams → IsStreamsHeat (hot_target streams)
hot_target-between streams h =
    let target = hot_target-within streams h in
    let all = (all_heat streams h).1 in
    record { from = target.from; upto = omega (arith, ints, target, all) }

pub cold_target-between : (streams : List Stream) → AreStreams streams → IsStreamsHeat (cold_target streams)
cold_target-between streams h =
    let target = cold_target-within streams h in
    let all = (all_heat streams h).0 in
    record { from = target.from; upto = omega (arith, ints, target, all) }

-- the cold target is the hot target less the deficit above a place that is below all ends
pub cold_target-lowest : (t : ℤ) (streams : List Stream) → AreStreams streams → t <ℤ LOWEST_SHIFTED
    → cold_target streams ≡ hot_target streams -ℤ deficit_above streams t
cold_target-lowest t streams h below =
    let lowest = deficit_above-lowest t streams h.each
    (All-weaker IsValidStream (λ s. t <ℤ low_end s) (λ s valid. let ends = AreEnds-IsValidStream s valid in omega (arith, ints, ends)) streams h.each) in
    omega (arith, ints)

-- ---- sensible streams

-- nothing stands at a place itself
pub deficit_over-sensible : (from_itself : Bool) (t : ℤ) (streams : List Stream) → AreSensible streams
    → deficit_over from_itself streams t ≡ deficit_above streams t
deficit_over-sensible from_itself t streams h =
    let same = λ (k : ℕ) (d : Stream) (within : k < length streams). let s = get_or streams k d in
    let is = h k d within in
    heat_over-sensible from_itself t s is ∙ sym (heat_over-sensible false t s is) in
    ap₂ ◌-ℤ◌ (sum_side-same Cold (heat_over from_itself t) (heat_over false t) streams same)
    (sum_side-same Hot (heat_over from_itself t) (heat_over false t) streams same)

pub deficit_from-sensible : (t : ℤ) (streams : List Stream) → AreSensible streams
    → deficit_from streams t ≡ deficit_above streams t
deficit_from-sensible = deficit_over-sensible true

-- so a tight place is tight above
pub tight-sensible : (streams : List Stream) (p : ℤ) → AreSensible streams → IsTight streams p
    → deficit_above streams p ≡ hot_target streams
tight-sensible streams p h tight = ⊎_elim (λ e. e) (λ e. sym (deficit_from-sensible p streams h) ∙ e) tight.tight

-- The pinches among some stream ends.

-- each found place is a pinch, and each pinch among these ends was found
pub record Finds (streams : List Stream) (some_ends found : List ℤ) : Type 0 where
  pub each : All (IsPinch streams) found
  pub every : All (λ t. IsPinch streams t → Contains found t) some_ends

module _ (streams : List Stream) (ends : List ℤ) (i : ℕ) (end d : ℤ) (within : i < length ends) (is : get_or ends i d ≡ end) (found : List ℤ) where
  one_more : (now : List ℤ) → All (λ t. IsPinch streams t → Contains now t) (take i ends)
      → (IsPinch streams end → Contains now end)
      → All (λ t. IsPinch streams t → Contains now t) (take (i + 1) ends)
  one_more now before here = let P = λ (t : ℤ). IsPinch streams t → Contains now t in
      subst (All P) (sym (take_more ends i d within)) (All-push P (take i ends) (get_or ends i d) before (subst P (sym is) here))

  pub Finds-other : (IsPinch streams end → ⊥) → Finds streams (take i ends) found
      → Finds streams (take (i + 1) ends) found
  Finds-other other h = record { each = h.each; every = one_more found h.every (λ pinch. absurd (other pinch)) }

  pub Finds-pinch : IsPinch streams end → Finds streams (take i ends) found
      → Finds streams (take (i + 1) ends) (found ++ end ∷ [])
  Finds-pinch pinch h =
      let now = found ++ end ∷ [] in record {
        each = All-push (IsPinch streams) found end h.each pinch;
        every =
            one_more now (All-weaker (λ t. IsPinch streams t → Contains found t) (λ t. IsPinch streams t → Contains now t)
            (λ t before p. Contains-append_left found (end ∷ []) t (before p)) (take i ends) h.every)
            (λ p. Contains-append_right found (end ∷ []) end (Contains-get_or (end ∷ []) 0 end (omega arith)));
      }

-- the found places in falling order are the pinches
pub ListsFalling-pinches : (streams : List Stream) (ends found falling : List ℤ) → ends ≡ stream_ends streams
    → Finds streams ends found
    → ListsFalling (Contains found) falling → ListsFalling (IsPinch streams) falling
ListsFalling-pinches streams ends found falling is finds lists =
    Lists-same _ (Contains found) (IsPinch streams) falling (λ t at. All-contains (IsPinch streams) found t finds.each at)
    (λ t pinch. All-contains (λ x. IsPinch streams x → Contains found x) ends t finds.every (subst (λ xs. Contains xs t) (sym is) pinch.at.end) pinch)
    lists

-- The highest stream end where one of the two deficits is the hot target.

chosen : (b : Bool) (z x y : ℤ) → z ≡ cond b x y → (z ≡ x) ⊎ (z ≡ y)
chosen true z x y e = inl e
chosen false z x y e = inr e

module _ (streams : List Stream) (ends : List ℤ) (end : ℤ) where
  -- an end that is not tight changes nothing
  pub FindsHighestTight-skip : (place : Option ℤ) → (HasTightDeficit streams end → ⊥)
      → FindsHighestTight streams ends place
      → FindsHighestTight streams (ends ++ end ∷ []) place
  FindsHighestTight-skip None loose found = All-push (λ t. HasTightDeficit streams t → ⊥) ends end found loose
  FindsHighestTight-skip (Some p) loose found = record {
    member = Contains-append_left ends (end ∷ []) p found.member;
    tight = found.tight;
    highest = All-push (λ t. HasTightDeficit streams t → t ≤ℤ p) ends end found.highest (λ e. absurd (loose e));
  }

  -- a tight end takes the place where there is none, and otherwise where it is higher
  pub FindsHighestTight-first : HasTightDeficit streams end → FindsHighestTight streams ends None
      → FindsHighestTight streams (ends ++ end ∷ []) (Some end)
  FindsHighestTight-first tight found = record {
    member = Contains-append_right ends (end ∷ []) end (0, omega arith, refl);
    tight = tight;
    highest = All-push (λ t. HasTightDeficit streams t → t ≤ℤ end) ends end
        (All-weaker (λ t. HasTightDeficit streams t → ⊥) (λ t. HasTightDeficit streams t → t ≤ℤ end) (λ t loose e. absurd (loose e)) ends found)
        (λ e. omega (arith, ints));
  }

  pub FindsHighestTight-higher : (p q : ℤ) → q ≡ int_max p end → HasTightDeficit streams end
      → FindsHighestTight streams ends (Some p)
      → FindsHighestTight streams (ends ++ end ∷ []) (Some q)
  FindsHighestTight-higher p q is tight found = ⊎_elim (λ e. record {
    member = subst (Contains (ends ++ end ∷ [])) (sym e) (Contains-append_left ends (end ∷ []) p found.member);
    tight = subst (HasTightDeficit streams) (sym e) found.tight;
    highest = at_most;
  }) (λ e. record {
    member =
        subst (Contains (ends ++ end ∷ [])) (sym e) (Contains-append_right ends (end ∷ []) end (0, omega arith, refl));
    tight = subst (HasTightDeficit streams) (sym e) tight;
    highest = at_most;
  })
      one_of
    where
      one_of : (q ≡ p) ⊎ (q ≡ end)
      one_of = chosen (int_lt end p) q p end is

      at_most : All (λ t. HasTightDeficit streams t → t ≤ℤ q) (ends ++ end ∷ [])
      at_most = All-push (λ t. HasTightDeficit streams t → t ≤ℤ q) ends end
          (All-weaker (λ t. HasTightDeficit streams t → t ≤ℤ p) (λ t. HasTightDeficit streams t → t ≤ℤ q)
          (λ t le e. let below = le e in omega (arith, ints, clamps)) ends found.highest) (λ e. omega (arith, ints, clamps))

-- among all ends one is found
pub IsSome-highest : (streams : List Stream) → HasValidStreams streams → (place : Option ℤ)
    → FindsHighestTight streams (stream_ends streams) place
    → IsSome place
IsSome-highest streams h None found =
    let at = some_tight streams h in
    absurd (All-contains (λ t. HasTightDeficit streams t → ⊥) (stream_ends streams) at.0 found at.1.end at.1.tight)
IsSome-highest streams h (Some p) found = refl

-- there is one reference place
pub one_reference : (streams : List Stream) (p q : ℤ) → IsReferencePlace streams p → IsReferencePlace streams q → p ≡ q
one_reference streams p q h k =
    let up = k.highest p h.at in
    let down = h.highest q k.at in
    omega (arith, ints)

pub IsReferencePlace-found : (streams : List Stream) (p : ℤ)
    → FindsHighestTight streams (stream_ends streams) (Some p) → IsReferencePlace streams p
IsReferencePlace-found streams p h = record {
  at = record { end = h.member; tight = h.tight };
  highest =
      λ t tight. All-contains (λ x. HasTightDeficit streams x → x ≤ℤ p) (stream_ends streams) t h.highest tight.end tight.tight;
}

-- and a test of its deficit says whether it counts from itself
pub Decides-from_itself : (streams : List Stream) (p : ℤ) (b : Bool) → IsReferencePlace streams p
    → Decides b (IsTightOver false streams p) → (place : ℤ)
    → IsReferencePlace streams place → Decides (not b) (CountsFromItself streams place)
Decides-from_itself streams p b reference tight place h =
    subst (λ x. Decides (not b) (CountsFromItself streams x)) (one_reference streams p place reference h) (Decides-not b tight)
