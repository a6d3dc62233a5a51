-- Step prices: what a watt is worth from the top of the shifted scale down, and what heat is worth at them.
use Rattle.std.specs.Prelude.{◌≡◌, ℤ, ◌≤ℤ◌, ◌-ℤ◌, false, List, [], ◌∷◌}
use Rattle.stream_case.specs.Case.{is_forbidden}
use Rattle.stream_case.specs.declared.case.Case.{Case}
use Rattle.stream_case.specs.declared.source.Side.{Side}
use Rattle.stream_case.specs.declared.source.Side.TheVariants as side
use Rattle.stream_case.specs.declared.source.Source.{Source}
use Rattle.fractions.specs.Rationals.{Rational, plus, rational_zero, times, whole}
use Rattle.network_values.specs.Heights.{View}

-- the price of what lies above all views, and the price of what lies below each
pub record StepPrices : Type 0 where
  pub top : ℤ
  pub below : View → ℤ

-- along views no price is above the one before
abbrev pub AreFalling : ℤ → (View → ℤ) → List View → Type 0
AreFalling above below [] = Unit {0}
AreFalling above below (v ∷ views) = (below v ≤ℤ above) × AreFalling (below v) below views

abbrev pub last_price : ℤ → (View → ℤ) → List View → ℤ
last_price above below [] = above
last_price above below (v ∷ views) = last_price (below v) below views

-- they fall to the least price
pub record FallTo (least : ℤ) (views : List View) (p : StepPrices) : Type 0 where
  pub falling : AreFalling p.top p.below views
  pub last : last_price p.top p.below views ≡ least

-- nowhere above
pub record AreAtMost (p q : StepPrices) : Type 0 where
  pub top : p.top ≤ℤ q.top
  pub below : (v : View) → p.below v ≤ℤ q.below v

-- step prices for each source, as it gives heat or takes it, along the same views and down to the same least price
pub record Tariff : Type 0 where
  pub least : ℤ
  pub views : List View
  pub prices : Side → Source → StepPrices

-- they fall to the least price; where a match is not forbidden the cold source's are nowhere above the hot source's
pub record IsOrderedTariff (case : Case) (tariff : Tariff) : Type 0 where
  pub falls : (on : Side) (s : Source) → FallTo tariff.least tariff.views (tariff.prices on s)
  pub ordered : (hot cold : Source) → is_forbidden case.forbids hot cold ≡ false
      → AreAtMost (tariff.prices side.Cold cold) (tariff.prices side.Hot hot)

-- ---- what heat is worth

-- each rise of the price times the heat that lies above its view
abbrev pub rise_worth : ℤ → (View → ℤ) → (View → Rational) → List View → Rational
rise_worth above below heat [] = rational_zero
rise_worth above below heat (v ∷ views) =
    plus (times (whole (above -ℤ below v)) (heat v)) (rise_worth (below v) below heat views)

-- all of some heat at the least price, and the rises for what of it lies above their views
abbrev pub step_worth : ℤ → List View → StepPrices → Rational → (View → Rational) → Rational
step_worth least views p all above = plus (times (whole least) all) (rise_worth p.top p.below above views)
