-- The step prices that prices of cold parts make.
use Rattle.std.specs.Prelude.{Bool, List, [], if◌then◌else◌, not, ℕ, ℤ, ◌&&◌, ◌∷◌}
use Rattle.std.specs.Int.{int_max}
use Rattle.std.specs.List.{enumerate_from}
use Rattle.stream_case.specs.Case.{is_forbidden}
use Rattle.stream_case.specs.Source.{same_source}
use Rattle.stream_case.specs.declared.case.Case.{Case}
use Rattle.stream_case.specs.declared.source.Side.{Side}
use Rattle.stream_case.specs.declared.source.Side.TheVariants as side
use Rattle.stream_case.specs.declared.source.Source.{Source}
use Rattle.grid.specs.declared.part.Part.{Part}
use Rattle.grid.specs.Part.{stands_above}
use Rattle.heat_flow.specs.Prices.{price_at}
use Rattle.price_floor.specs.Steps.{StepPrices, Tariff}
use Rattle.price_floor.proofs.PlaceViews.{views_of}

-- the greatest price of the parts that count, and no less than the least price
abbrev pub greatest_price : ℤ → (Part → Bool) → List ℤ → List (ℕ × Part) → ℤ
greatest_price least counts prices [] = least
greatest_price least counts prices ((b, p) ∷ parts) =
    int_max (if counts p then price_at prices b else least) (greatest_price least counts prices parts)

-- the cold parts that count for a source: for a hot one those that it may heat, for a cold one its own
abbrev pub counts_for : Case → Side → Source → Part → Bool
counts_for case side.Hot s p = not (is_forbidden case.forbids s p.source)
counts_for case side.Cold s p = same_source p.source s

-- what a watt of a source is worth: the greatest price of the cold parts that count for it, and below a view of those
-- that do not stand above it
abbrev pub price_steps : Case → ℤ → List ℤ → List Part → Side → Source → StepPrices
price_steps case least prices cold on s =
    record {
      top = greatest_price least (counts_for case on s) prices (enumerate_from 0 cold);
      below =
          λ v. greatest_price least (λ p. counts_for case on s p && not (stands_above v.from_itself v.place p)) prices (enumerate_from 0 cold);
    }

-- on the views of a grid
abbrev pub tariff_of : Case → ℤ → List ℤ → List Part → List ℤ → Tariff
tariff_of case least prices cold grid =
    record { least = least; views = views_of grid; prices = price_steps case least prices cold }
