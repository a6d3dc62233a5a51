-- Stages with the states between which a stream is led through them.
use Rattle.std.specs.Prelude.{◌≡◌, List, [], ◌∷◌}
use Rattle.fractions.specs.Rationals.{Rational, rational_sum_by}
use Rattle.design_lines.specs.declared.stage.Share.{Share}

-- the size of shares together
abbrev pub size_of : List Share → Rational
size_of shares = rational_sum_by (λ s. s.cp) shares

-- the shares of a stage, and the states before it and after it
pub record LedStage : Type 0 where
  pub before : Rational
  pub after : Rational
  pub shares : List Share

-- the first stage begins in this state, and each other one in that in which the one before it ends
abbrev pub Meet : Rational → List LedStage → Type 0
Meet t [] = Unit {0}
Meet t (stage ∷ stages) = (stage.before ≡ t) × Meet stage.after stages

-- the state behind the last stage
abbrev pub state_behind : Rational → List LedStage → Rational
state_behind t [] = t
state_behind t (stage ∷ stages) = state_behind stage.after stages
