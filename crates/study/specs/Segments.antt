-- The least cost over a span of prices of one utility, in segments.
use Rattle.std.specs.Prelude.{◌≡◌, ℕ, ℤ, pos, ◌+ℤ◌, ◌*ℤ◌, ◌<ℤ◌, List, [], ◌∷◌}
use Rattle.stream_case.specs.Limits.{IsBetween}
use Rattle.stream_case.specs.declared.case.Case.{Case}
use Rattle.study.specs.Priced.{IsLeastCostAt, prices_with}
use Rattle.study.specs.declared.study_answer.Segment.{Segment}

-- the least cost of the case with the price p of utility number i
abbrev pub CostsWith : Case → ℕ → ℤ → ℤ → Type 0
CostsWith c i p cost = IsLeastCostAt c (prices_with c i p) cost

-- what the line of a segment costs at a price
abbrev pub on_line : Segment → ℤ → ℤ
on_line s p = s.base +ℤ p *ℤ s.slope

-- a segment of the least cost over the prices of utility number i, of which `to` is the last
pub record IsSegment (c : Case) (i : ℕ) (to : ℤ) (s : Segment) : Type 0 where
  pub end : IsBetween s.from to s.to
  -- the slope is the next rise of the least cost, and 0 at the last price
  pub slope : s.from <ℤ to → CostsWith c i (s.from +ℤ pos 1) (on_line s (s.from +ℤ pos 1))
  pub flat : s.from ≡ to → s.slope ≡ pos 0
  -- the least cost is on the line as far as the segment goes, and no further
  pub line : (p : ℤ) → IsBetween s.from s.to p → CostsWith c i p (on_line s p)
  pub greatest : s.to <ℤ to → CostsWith c i (s.to +ℤ pos 1) (on_line s (s.to +ℤ pos 1)) → ⊥

-- segments from a price as far as just before the price `next`: each begins just behind the one before
abbrev pub AreSegments : Case → ℕ → ℤ → ℤ → ℤ → List Segment → Type 0
AreSegments c i to from next [] = from ≡ next
AreSegments c i to from next (s ∷ segments) =
    (s.from ≡ from) × IsSegment c i to s × AreSegments c i to (s.to +ℤ pos 1) next segments
