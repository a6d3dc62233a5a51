-- How much an arc can carry, what is left after it has carried some, and what it costs.
use Rattle.std.specs.Prelude.{◌≡◌, ◌≢◌, ◌↔◌, ℕ, ◌+◌, ◌*◌, ◌<◌, ◌≤◌, ℤ, pos, ◌+ℤ◌, ◌-ℤ◌, ◌≤ℤ◌, ◌<ℤ◌, neg_ℤ, Bool, false, IsTrue, List, [], ◌∷◌, length, fold, slice_index_or, slice_set, All, if◌then◌else◌}
use Rattle.std.specs.Int.RustNames.{unsigned_abs}
use Rattle.flow_net.specs.declared.limits.TheConstants.{MOST_NODES, MOST_COST, MOST_INITIAL_POTENTIAL}
use Rattle.flow_net.specs.declared.net.Link.{Link}
use Rattle.flow_net.specs.declared.arc.Arc.{Arc}
use Rattle.flow_net.specs.declared.residual.Residual.{Residual}
use Rattle.flow_net.specs.Net.{link_at, flow_on, potential_at, IsCost}
use Rattle.flow_net.specs.Arc.{IsArc, carry}
use Rattle.flow_net.specs.Threads.{arc_numbered}

-- how much more a link that carries x can carry forward, or back
abbrev pub left_on : Link → ℤ → Bool → ℤ
left_on link x forward = if forward then link.room -ℤ x else x

-- how much more an arc can carry
abbrev pub residual_of : List Link → List ℤ → Arc → ℤ
residual_of links flow a = left_on (link_at links a.link) (flow_on flow a.link) a.forward

-- the residual arc along a link that carries x, forward or back
pub record IsResidual (link : Link) (x : ℤ) (forward : Bool) (w : Residual) : Type 0 where
  pub head : w.head ≡ (if forward then link.to else link.from)
  pub is_open : IsTrue w.is_open ↔ (pos 0 <ℤ left_on link x forward)
  pub cost : w.cost ≡ (if forward then link.cost else neg_ℤ link.cost)

-- the residual arc at an index
abbrev pub residual_at : List Residual → ℕ → Residual
residual_at residuals j = slice_index_or residuals j (record { head = 0; is_open = false; cost = pos 0 })

-- the residual arc of an arc
pub record IsResidualOf (links : List Link) (flow : List ℤ) (a : Arc) (w : Residual) : Type 0 where
  pub head : w.head ≡ a.head
  pub is_open : IsTrue w.is_open ↔ (pos 0 <ℤ residual_of links flow a)
  pub cost : w.cost ≡ a.cost

-- the residual arcs of arcs, in their order
pub record AreResiduals (links : List Link) (flow : List ℤ) (arcs : List Arc) (residuals : List Residual) : Type 0 where
  pub one_each : length residuals ≡ length arcs
  pub each : (j : ℕ) → j < length arcs → IsResidualOf links flow (arc_numbered arcs j) (residual_at residuals j)

-- the flow after an arc has carried an amount more
abbrev pub sent_along : List ℤ → Arc → ℤ → List ℤ
sent_along flow a amount = slice_set flow a.link (carry a (flow_on flow a.link) amount)

-- the flow after each arc of a path has carried an amount more
abbrev pub sent_along_path : List ℤ → List Arc → ℤ → List ℤ
sent_along_path flow path amount = fold (λ f a. sent_along f a amount) flow path

-- the reduced cost of an arc, and of one given by its ends and its cost
abbrev pub reduced_between : List ℤ → ℕ → ℕ → ℤ → ℤ
reduced_between potentials tail head cost = (cost +ℤ potential_at potentials tail) -ℤ potential_at potentials head

abbrev pub reduced_cost_of : List ℤ → Arc → ℤ
reduced_cost_of potentials a = reduced_between potentials a.tail a.head a.cost

-- the arcs lead from node u to node v
abbrev pub IsWalk : List Arc → ℕ → ℕ → Type 0
IsWalk [] u v = u ≡ v
IsWalk (a ∷ path) u v = (a.tail ≡ u) × IsWalk path a.head v

-- no two of the arcs are ways along one link
abbrev pub AreApart : List Arc → Type 0
AreApart [] = Unit {0}
AreApart (a ∷ path) = All (λ b. b.link ≢ a.link) path × AreApart path

-- arcs of these links, no two along one link, each of which can carry an amount
pub record CanCarry (links : List Link) (flow : List ℤ) (path : List Arc) (amount : ℤ) : Type 0 where
  pub arcs : All (IsArc links) path
  pub apart : AreApart path
  pub residual : All (λ a. amount ≤ℤ residual_of links flow a) path

-- how much a path costs at most, without its sign: it passes no node twice
abbrev pub most_path_cost : ℕ
most_path_cost = MOST_NODES * MOST_COST

-- how large a potential gets, without its sign
abbrev pub most_potential : ℕ
most_potential = 3 * MOST_INITIAL_POTENTIAL + most_path_cost

-- how large a distance gets at most
abbrev pub most_distance : ℕ
most_distance = 2 * most_potential + most_path_cost

-- a potential within that
abbrev pub IsPotential : ℤ → Type 0
IsPotential z = unsigned_abs z ≤ most_potential

-- an arc, given by its ends and its cost, with that cost and the potentials at its ends within the limits
pub record IsPricedBetween (potentials : List ℤ) (tail head : ℕ) (unit_cost : ℤ) : Type 0 where
  pub tail_in : tail < length potentials
  pub head_in : head < length potentials
  pub cost : IsCost unit_cost
  pub at_tail : IsPotential (potential_at potentials tail)
  pub at_head : IsPotential (potential_at potentials head)

abbrev pub IsPriced : List ℤ → Arc → Type 0
IsPriced potentials a = IsPricedBetween potentials a.tail a.head a.cost
