-- The parts of a side in the order in which they are made: place by place downward, at each place the latent streams
-- and then the utilities at that level, then the streams on the interval below it.
use Rattle.std.specs.Prelude.{ℕ, suc, ℤ, pos, int_le, Bool, ◌&&◌, List, [], ◌∷◌, ◌++◌}
use Rattle.std.specs.Ordering.{int_eq}
use Rattle.stream_case.specs.declared.limits.TheConstants.{MOST_LOAD}
use Rattle.stream_case.specs.declared.source.Side.{Side}
use Rattle.stream_case.specs.declared.stream.Stream.{Stream}
use Rattle.stream_case.specs.declared.utility.Utility.{Utility}
use Rattle.stream_case.specs.Source.{same_side}
use Rattle.stream_case.specs.Stream.{high_end, low_end}
use Rattle.stream_case.specs.Utility.{shifted_level}
use Rattle.sums.specs.Pairing.{cons_if}
use Rattle.grid.specs.declared.part.Part.{Part}
use Rattle.grid.specs.Part.{stream_part, utility_part}

-- the parts of the sources that pass a test, where the first source has the number n
abbrev pub picked : {X : Type 0} → (X → Bool) → (ℕ → X → Part) → ℕ → List X → List Part
picked test make n [] = []
picked test make n (x ∷ xs) = cons_if (test x) (make n x) (picked test make (suc n) xs)

-- it gives or takes latent heat: at one temperature, by a load within its limits
abbrev pub has_latent_heat : Stream → Bool
has_latent_heat s =
    int_eq s.supply s.target && (int_eq s.cp (pos 0) && (int_le (pos 1) s.load && int_le s.load MOST_LOAD))

-- one of this side at this place
abbrev pub stands_at : Side → ℤ → Stream → Bool
stands_at side place s = same_side s.side side && (has_latent_heat s && int_eq (high_end s) place)

-- a utility of this side at this place
abbrev pub is_here : Side → ℤ → Utility → Bool
is_here side place u = same_side u.side side && int_eq (shifted_level u) place

-- a stream of this side whose range holds the interval
abbrev pub covers : Side → ℤ → ℤ → Stream → Bool
covers side high low s = same_side s.side side && (int_le (low_end s) low && int_le high (high_end s))

module _ (streams : List Stream) (utilities : List Utility) (side : Side) where
  -- the parts at a place
  abbrev pub level_parts : ℤ → List Part
  level_parts place =
      picked (stands_at side place) (stream_part place place) 0 streams
      ++ picked (is_here side place) utility_part 0 utilities

  -- those on the interval from a place down to the next one
  abbrev pub interval_parts : ℤ → List ℤ → List Part
  interval_parts high [] = []
  interval_parts high (low ∷ places) = picked (covers side high low) (stream_part high low) 0 streams

  abbrev pub made_parts : List ℤ → List Part
  made_parts [] = []
  made_parts (place ∷ places) = level_parts place ++ (interval_parts place places ++ made_parts places)
