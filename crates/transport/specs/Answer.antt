-- What the search for a heat flow of least cost answers.
use Rattle.std.specs.Prelude.{Bool, ℕ, ℤ, List}
use Rattle.grid.specs.declared.part.Part.{Part}
use Rattle.heat_flow.specs.declared.cut.Cut.{Cut}
use Rattle.heat_flow.specs.declared.flow.Flow.{Flow}
use Rattle.heat_flow.specs.declared.prices.Prices.{Prices}
use Rattle.heat_flow.specs.Certificate.{IsCertified, IsCutOf}
use Rattle.heat_flow.specs.Cuts.{HasNoFlow}
use Rattle.heat_flow.specs.Flow.{IsLeastCost}
use Rattle.transport.specs.declared.answer.Answer.{Answer}
use Rattle.transport.specs.declared.answer.Answer.TheVariants.{Least, Stuck}

-- p of the heat flow, its prices and its cost where there is a heat flow, and p of the cut where there is none
abbrev pub IfLeast : Answer → (Flow → Prices → ℤ → Type 0) → Type 0
IfLeast (Least flow prices cost) p = p flow prices cost
IfLeast (Stuck cut) p = Unit {0}

abbrev pub IfStuck : Answer → (Cut → Type 0) → Type 0
IfStuck (Least flow prices cost) p = Unit {0}
IfStuck (Stuck cut) p = p cut

-- where `reach a b` tells whether hot part a reaches cold part b: a heat flow of least cost with prices that certify
-- it, or a cut, and that only where there is no heat flow
pub record IsAnswer (reach : ℕ → ℕ → Bool) (hot cold : List Part) (answer : Answer) : Type 0 where
  pub certified : IfLeast answer (λ flow prices cost. IsCertified reach hot cold flow.transfers prices.hot prices.cold cost)
  pub least : IfLeast answer (λ flow prices cost. IsLeastCost reach hot cold cost)
  pub cut : IfStuck answer (λ cut. IsCutOf reach hot cold cut)
  pub stuck_only : IfStuck answer (λ cut. HasNoFlow reach hot cold)
