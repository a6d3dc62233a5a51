-- Chords: lines through the least costs over a span, of which its segments are made.
use Rattle.std.specs.Prelude.{ℕ, ◌^◌, ℤ, pos, ◌+ℤ◌, ◌-ℤ◌, ◌*ℤ◌, ◌<ℤ◌}
use Rattle.heat_flow.specs.Ranges.{IsWithin}
use Rattle.stream_case.specs.Limits.{IsBetween, IsPrice}
use Rattle.stream_case.specs.declared.case.Case.{Case}
use Rattle.study.specs.CostRange.{IsCost, most_cost}
use Rattle.study.specs.Segments.{CostsWith}
use Rattle.study.specs.declared.chords.Chord.{Chord}

-- what a chord costs at a price
abbrev pub chord_at : Chord → ℤ → ℤ
chord_at chord p = chord.cost +ℤ (p -ℤ chord.from) *ℤ chord.slope

-- how much a chord can rise for each 1 of the price
abbrev pub IsSlope : ℤ → Type 0
IsSlope slope = IsWithin (pos 2 *ℤ most_cost) slope

-- how far a chord can be above a least cost, or below it
abbrev pub IsGap : ℤ → Type 0
IsGap gap = IsWithin (pos (2 ^ 100)) gap

-- numbers of a chord that are within the limits
pub record IsSmallChord (chord : Chord) : Type 0 where
  pub from : IsPrice chord.from
  pub cost : IsCost chord.cost
  pub slope : IsSlope chord.slope

-- the chord through the least costs at a price and at the next one
pub record IsChord (c : Case) (i : ℕ) (chord : Chord) : Type 0 where
  pub small : IsSmallChord chord
  pub first : CostsWith c i chord.from chord.cost
  pub next : CostsWith c i (chord.from +ℤ pos 1) (chord.cost +ℤ chord.slope)

-- the least cost is on the chord at the price `end`, but not just behind it, unless `to` is the last price
pub record IsChordEnd (c : Case) (i : ℕ) (chord : Chord) (to end : ℤ) : Type 0 where
  pub range : IsBetween (chord.from +ℤ pos 1) to end
  pub on : CostsWith c i end (chord_at chord end)
  pub off : end <ℤ to → CostsWith c i (end +ℤ pos 1) (chord_at chord (end +ℤ pos 1)) → ⊥
