-- The answer with a heat flow, its prices from the potentials of the net.
use Rattle.std.specs.Prelude.{ℕ, ℤ, List, length}
use Rattle.grid.specs.declared.part.Part.{Part}
use Rattle.heat_flow.specs.declared.flow.Flow.{Flow}
use Rattle.heat_flow.specs.Flow.{cost_of}
use Rattle.transport.specs.declared.answer.Answer.{Answer}
use Rattle.transport.specs.declared.answer.Answer.TheVariants.{Least}
use Rattle.transport.specs.Around.{ends_behind, prices_of}

-- the answer with this heat flow: the prices are how far the potentials fall from the nodes of the parts, of a net
-- around an inner net of so many nodes
abbrev pub priced : List Part → List Part → ℕ → List ℤ → Flow → Answer
priced hot cold nodes potentials flow =
    Least flow
    (record {
      hot = prices_of potentials 0 (length hot) (ends_behind nodes).spill;
      cold = prices_of potentials (length hot) (length cold) (ends_behind nodes).filler;
    })
    (cost_of hot cold flow.transfers)
