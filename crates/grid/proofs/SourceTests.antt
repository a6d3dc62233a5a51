-- What the tests say of a source for which parts are made: a latent stream at its place, a utility at its level, and a
-- stream over an interval.
use Rattle.grid.proofs.Words.{Decides-int_eq, IsLatent, MOST_LOAD, Side, Stream, Utility, and_from, and_parts, covers, false_from_ne_true, high_end}
use Rattle.grid.proofs.Words.{int_eq, int_le, int_le-from, int_le-true, ints, is_here, has_latent_heat, level-latent, low_end, own_side, pos}
use Rattle.grid.proofs.Words.{same_side, same_side-true, shifted_level, stands_at, ℤ, ◌<ℤ◌, ◌≤ℤ◌}
use Rattle.std.proofs.Common.{ap, arith, false, sym, true, ◌&&◌, ◌∙◌, ◌≡◌}

pub has_latent_heat-true : (s : Stream) → has_latent_heat s ≡ true → IsLatent s
has_latent_heat-true s h =
    let in_range = int_le (pos 1) s.load && int_le s.load MOST_LOAD in
    let level = and_parts (int_eq s.supply s.target) (int_eq s.cp (pos 0) && in_range) h in
    let cp = and_parts (int_eq s.cp (pos 0)) (int_le (pos 1) s.load && int_le s.load MOST_LOAD) level.1 in
    let load = and_parts (int_le (pos 1) s.load) (int_le s.load MOST_LOAD) cp.1 in
    record {
      level = (Decides-int_eq s.supply s.target).0 level.0;
      cp = (Decides-int_eq s.cp (pos 0)).0 cp.0;
      load = record { from = int_le-true (pos 1) s.load load.0; upto = int_le-true s.load MOST_LOAD load.1 };
    }

pub has_latent_heat-from : (s : Stream) → IsLatent s → has_latent_heat s ≡ true
has_latent_heat-from s h =
    let in_range = int_le (pos 1) s.load && int_le s.load MOST_LOAD in
    let load = and_from (int_le (pos 1) s.load) (int_le s.load MOST_LOAD) (int_le-from (pos 1) s.load h.load.from)
    (int_le-from s.load MOST_LOAD h.load.upto) in
    let flat = and_from (int_eq s.cp (pos 0)) in_range ((Decides-int_eq s.cp (pos 0)).1 h.cp) load in
    and_from (int_eq s.supply s.target) (int_eq s.cp (pos 0) && in_range)
    ((Decides-int_eq s.supply s.target).1 h.level) flat

pub record StandsAt (side : Side) (place : ℤ) (s : Stream) : Type 0 where
  pub side_is : s.side ≡ side
  pub latent : IsLatent s
  pub high : high_end s ≡ place
  pub low : low_end s ≡ place

pub stands_at-true : (side : Side) (place : ℤ) (s : Stream) → stands_at side place s ≡ true → StandsAt side place s
stands_at-true side place s h =
    let parts = and_parts (same_side s.side side) (has_latent_heat s && int_eq (high_end s) place) h in
    let level = and_parts (has_latent_heat s) (int_eq (high_end s) place) parts.1 in
    let latent = has_latent_heat-true s level.0 in
    let high = (Decides-int_eq (high_end s) place).0 level.1 in
    record {
      side_is = same_side-true s.side side parts.0;
      latent = latent;
      high = high;
      low = sym (level-latent s latent) ∙ high;
    }

pub record IsHere (side : Side) (place : ℤ) (u : Utility) : Type 0 where
  pub side_is : u.side ≡ side
  pub level : shifted_level u ≡ place

pub is_here-true : (side : Side) (place : ℤ) (u : Utility) → is_here side place u ≡ true → IsHere side place u
is_here-true side place u h =
    let parts = and_parts (same_side u.side side) (int_eq (shifted_level u) place) h in
    record { side_is = same_side-true u.side side parts.0; level = (Decides-int_eq (shifted_level u) place).0 parts.1 }

pub same_side-from : (a b : Side) → a ≡ b → same_side a b ≡ true
same_side-from a b e = ap (λ s. same_side s b) e ∙ own_side b

pub stands_at-from : (side : Side) (place : ℤ) (s : Stream) → s.side ≡ side → IsLatent s → high_end s ≡ place
    → stands_at side place s ≡ true
stands_at-from side place s h latent level =
    let stands = and_from (has_latent_heat s) (int_eq (high_end s) place) (has_latent_heat-from s latent)
    ((Decides-int_eq (high_end s) place).1 level) in
    and_from (same_side s.side side) (has_latent_heat s && int_eq (high_end s) place)
    (same_side-from s.side side h) stands

pub is_here-from : (side : Side) (place : ℤ) (u : Utility) → u.side ≡ side → shifted_level u ≡ place
    → is_here side place u ≡ true
is_here-from side place u h k =
    let at_level = (Decides-int_eq (shifted_level u) place).1 k in
    and_from (same_side u.side side) (int_eq (shifted_level u) place) (same_side-from u.side side h) at_level

pub record Covers (side : Side) (high low : ℤ) (s : Stream) : Type 0 where
  pub side_is : s.side ≡ side
  pub from : low_end s ≤ℤ low
  pub upto : high ≤ℤ high_end s

pub covers-true : (side : Side) (high low : ℤ) (s : Stream) → covers side high low s ≡ true → Covers side high low s
covers-true side high low s h =
    let parts = and_parts (same_side s.side side) (int_le (low_end s) low && int_le high (high_end s)) h in
    let ends = and_parts (int_le (low_end s) low) (int_le high (high_end s)) parts.1 in
    record {
      side_is = same_side-true s.side side parts.0;
      from = int_le-true (low_end s) low ends.0;
      upto = int_le-true high (high_end s) ends.1;
    }

pub covers-from : (side : Side) (high low : ℤ) (s : Stream) → s.side ≡ side → low_end s ≤ℤ low
    → high ≤ℤ high_end s → covers side high low s ≡ true
covers-from side high low s h from upto =
    let within = and_from (int_le (low_end s) low) (int_le high (high_end s)) (int_le-from (low_end s) low from)
    (int_le-from high (high_end s) upto) in
    and_from (same_side s.side side) (int_le (low_end s) low && int_le high (high_end s))
    (same_side-from s.side side h) within

-- no interval lies inside the range of a latent stream
pub covers-latent : (side : Side) (high low : ℤ) (s : Stream) → IsLatent s → low <ℤ high
    → covers side high low s ≡ false
covers-latent side high low s latent falls =
    false_from_ne_true (covers side high low s) (λ e.
    let covered = covers-true side high low s e in
    let level = level-latent s latent in
    omega (arith, ints))
