-- The heat of streams below an actual temperature, the ends of a side's streams, and curves, temperature after temperature.
use Rattle.curves.proofs.Words.{Cold, HasLength-sensible, Hot, IsLatent, IsLength, IsSensible, IsSensibleHeat, IsStreamHeat, IsValidStream, Point, Side, Stream}
use Rattle.curves.proofs.Words.{clamps, counts_above, filter-append, flat_map-append, heat-between, heat_under, higher_temperature, if_between, if_zero, ints}
use Rattle.curves.proofs.Words.{is_hot, length_below, load_under, lower_temperature, same_side, sensible_below, take_more, temperatures_of}
use Rattle.std.proofs.Common.{Bool, List, [], ap, append-nil, append_assoc, ap₂, arith, false, filter, flat_map, get_or, if◌then◌else◌, inl, inr, length, pos}
use Rattle.std.proofs.Common.{refl, sym, take, true, ℕ, ℤ, ◌++◌, ◌+◌, ◌-ℤ◌, ◌<◌, ◌∙◌, ◌∷◌, ◌≡◌, ◌⊎◌}

-- the length of the actual range: a latent stream has one temperature
pub actual-length : (s : Stream) → IsValidStream s → IsLength (higher_temperature s -ℤ lower_temperature s)
actual-length s h = by_heat h.heat
  where
    none : (side : Side) (supply target : ℤ) → supply ≡ target
        → IsLength ((if is_hot side then supply else target) -ℤ (if is_hot side then target else supply))
    none Hot supply target level = record { from = omega (arith, ints); upto = omega (arith, ints) }
    none Cold supply target level = record { from = omega (arith, ints); upto = omega (arith, ints) }

    by_heat : IsSensible s ⊎ IsLatent s → IsLength (higher_temperature s -ℤ lower_temperature s)
    by_heat (inl sensible) =
        let range = HasLength-sensible s h sensible in
        record { from = omega (arith, ints); upto = omega (arith, ints) }
    by_heat (inr latent) = none s.side s.supply s.target latent.level

pub sensible_below-between : (t : ℤ) (s : Stream) → IsValidStream s → IsSensibleHeat (sensible_below t s)
sensible_below-between t s h =
    let range = actual-length s h in
    let below = length_below (lower_temperature s) (higher_temperature s) t in
    heat-between s below h (record { from = omega (arith, ints, clamps); upto = omega (arith, ints, clamps) })

pub load_under-between : (upto_itself : Bool) (t : ℤ) (s : Stream) → IsValidStream s
    → IsStreamHeat (load_under upto_itself t s)
load_under-between upto_itself t s h = by_heat h.heat
  where
    by_heat : IsSensible s ⊎ IsLatent s → IsStreamHeat (load_under upto_itself t s)
    by_heat (inl sensible) =
        let none = if_zero (counts_above upto_itself s.supply t) s.load sensible.load in
        record { from = omega (arith, ints); upto = omega (arith, ints) }
    by_heat (inr latent) =
        let load = latent.load in
        let some = if_between (counts_above upto_itself s.supply t) s.load (omega (arith, ints)) in
        record { from = some.0; upto = omega (arith, ints, some.1) }

-- one of the two summands is 0
pub heat_under-between : (upto_itself : Bool) (t : ℤ) (s : Stream) → IsValidStream s
    → IsStreamHeat (heat_under upto_itself t s)
heat_under-between upto_itself t s h = by_heat h.heat
  where
    by_heat : IsSensible s ⊎ IsLatent s → IsStreamHeat (heat_under upto_itself t s)
    by_heat (inl sensible) =
        let product = sensible_below-between t s h in
        let none = if_zero (counts_above upto_itself s.supply t) s.load sensible.load in
        record { from = omega (arith, ints); upto = omega (arith, ints) }
    by_heat (inr latent) =
        let some = load_under-between upto_itself t s h in
        let none : sensible_below t s ≡ pos 0 = rw latent.cp (omega (arith, ints)) in
        record { from = omega (arith, ints); upto = omega (arith, ints) }

ends_of : Stream → List ℤ
ends_of s = s.supply ∷ s.target ∷ []

picked : (b : Bool) (s : Stream)
    → flat_map ends_of (if b then s ∷ [] else []) ≡ (if b then s.supply ∷ s.target ∷ [] else [])
unfolding ends_of
picked true s = refl
picked false s = refl

pub temperatures_of-more : (side : Side) (streams : List Stream) (i : ℕ) (s : Stream) → i < length streams
    → s ≡ get_or streams i s
    → temperatures_of side (take (i + 1) streams)
    ≡ temperatures_of side (take i streams) ++ (if same_side s.side side then s.supply ∷ s.target ∷ [] else [])
unfolding ends_of
temperatures_of-more side streams i s within is =
    let on_side = λ (x : Stream). same_side x.side side in
    let front = take i streams in
    ap (λ ss. flat_map ends_of (filter on_side ss)) (take_more streams i s within ∙ ap (λ x. front ++ x ∷ []) (sym is))
    ∙ ap (flat_map ends_of) (filter-append on_side front (s ∷ []))
    ∙ flat_map-append ends_of (filter on_side front) (filter on_side (s ∷ []))
    ∙ ap (λ es. flat_map ends_of (filter on_side front) ++ es) (picked (on_side s) s)

-- Curves, temperature after temperature.

-- a loop's step: the points at the next temperature, as the code makes them
pub points-more : (points_at : ℤ → List Point) (ts : List ℤ) (i : ℕ) (d : ℤ) (before now : List Point) → i < length ts
    → before ≡ flat_map points_at (take i ts) → (here : List Point) → now ≡ before ++ here
    → here ≡ points_at (get_or ts i d)
    → now ≡ flat_map points_at (take (i + 1) ts)
points-more points_at ts i d before now within so_far here pushed made =
    pushed
    ∙ ap₂ (λ (ps qs : List Point). ps ++ qs) so_far (made ∙ sym (append-nil (points_at (get_or ts i d))))
    ∙ sym (ap (flat_map points_at) (take_more ts i d within) ∙ flat_map-append points_at (take i ts) (get_or ts i d ∷ []))

pub pushed-two : (before middle now : List Point) (p q : Point) → middle ≡ before ++ p ∷ []
    → now ≡ middle ++ q ∷ [] → now ≡ before ++ p ∷ q ∷ []
pushed-two before middle now p q first second =
    second ∙ ap (λ ps. ps ++ q ∷ []) first ∙ append_assoc before (p ∷ []) (q ∷ [])
