use Rattle.flow_net.proofs.ArcLemmas.{arc-nodes}
use Rattle.flow_net.proofs.SentFlow.{no_arc}
use Rattle.flow_net.proofs.StandingLemmas.{IsPriced-arc, IsPriced-between}
use Rattle.flow_net.proofs.LabelLemmas.{IsRelaxed-entered, IsRelaxed-low, IsRelaxed-settled, IsRelaxed-same, IsSmall-tail, above-level}
use Rattle.flow_net.proofs.Sizes.{sizes}
use Rattle.flow_net.specs.Search.{IsEntered}
use Rattle.flow_net.proofs.search.Search.relax.Goals.{After-cost_along, After-residual_at-residual, Else-not-is_lower, then-not-residual-via-then-not-residual}
use Rattle.flow_net.proofs.search.Search.relax.Goals.{then-not-residual-via-else-not-residual+then-index}
use Rattle.flow_net.proofs.Words.{Arc, IsArc, IsPricedBetween, arc_by_index, IsResidualArc, Label, Search, false≢true, get_or_read, is_in, is_labelled}
use Rattle.flow_net.proofs.Words.{distance_at, distance_of_label, on_ok_weaker, reduced_between, reduced_cost_of}
use Rattle.std.proofs.Common.{Bool, FitsSigned, ap, arith, false, get_or, length, of_z, pos, refl, subst, sym, to_z, true, w64, ◌+ℤ◌, ◌<ℤ◌, ◌<◌, ◌∙◌}
use Rattle.std.proofs.Common.{◌≡◌, ◌≤ℤ◌, ℕ, ℤ}
use Rattle.flow_net.proofs.search.Search.relax.Goals as goal

-- the arc is one of the net, and leads to a node; its residual arc has its reduced cost
record IsGiven (c : After-residual_at-residual) : Type 0 where
  is : IsArc c.args.problem.now.net.now.links (arc_by_index c.args.problem.now c.args.index)
  head_in : (arc_by_index c.args.problem.now c.args.index).head < c.args.problem.now.net.now.nodes
  priced : IsPricedBetween c.args.routing.now.potentials.items c.args.node c.residual_at-residual.result.head
      c.residual_at-residual.result.cost
  reduced : reduced_between c.args.routing.now.potentials.items c.args.node c.residual_at-residual.result.head
      c.residual_at-residual.result.cost
      ≡ reduced_cost_of c.args.routing.now.potentials.items (arc_by_index c.args.problem.now c.args.index)

given : (c : After-residual_at-residual) → IsGiven c
given c =
    let p = c.args.problem.now in
    let r = c.args.routing.now in
    let problem = c.requires.standing.problem in
    let a = arc_by_index p c.args.index in
    let is = problem.adjacency.arcs.arcs_of c.args.index no_arc c.requires.index in
    let found = c.residual_at-residual.ensures in
    record {
      is = is;
      head_in = (arc-nodes p.net.now problem.net a is).1;
      priced =
          IsPriced-between p r c.requires.standing a is c.args.node c.residual_at-residual.result.head
          c.residual_at-residual.result.cost
          c.requires.tail found.head found.cost;
      reduced = rw (sym c.requires.tail, found.head, found.cost) refl;
    }

-- whether the head of an arc is settled, as the code reads it by its residual arc
mark_of : (s : Search) (n : ℕ) (a : Arc) (head : ℕ) (mark : Bool) → a.head < n → head ≡ a.head
    → length s.settled.items ≡ n
    → mark ≡ get_or s.settled.items head mark → mark ≡ is_in s.settled.items a.head
mark_of s n a head mark within same each read =
    get_or_read s.settled.items head mark (omega (arith, within, same, each)) read false
    ∙ ap (is_in s.settled.items) same

pub returns-then-not-residual : goal.returns-then-not-residual
returns-then-not-residual c =
    let p = c.args.problem.now in
    let r = c.args.routing.now in
    let s = c.args.self.now in
    let a = arc_by_index p c.args.index in
    elim c.then-not-residual.branch [
      | then-not-residual-via-then-not-residual w ↦
          IsRelaxed-same p r c.requires.standing s c.requires.search a c.args.label.now c.requires.at
          (λ residual. absurd (false≢true
          (sym w.if-not-residual.true ∙ c.residual_at-residual.ensures.is_open.1 residual)))
      | then-not-residual-via-else-not-residual+then-index w ↦
          let head_in = (given (goal.at.returns-then-not-residual c).After-residual_at-residual).head_in in
          let mark = mark_of s p.net.now.nodes a c.residual_at-residual.result.head w.index.result.now head_in
          c.residual_at-residual.ensures.head
          c.requires.search.labels.one_mark_each w.index.ensures in
          IsRelaxed-settled p r c.requires.standing s c.requires.search a c.args.label.now c.requires.at
          (sym mark ∙ w.if-index.true)
    ]

pub cost_along-requires : goal.cost_along-requires
cost_along-requires c = (given (goal.at.cost_along-requires c).After-residual_at-residual).priced

-- the distance, as the code has it, is the sum, which fits
abbrev distance_in : After-cost_along → ℤ
distance_in c =
    to_z w64 (of_z w64 (to_z w64 (of_z w64 c.args.label.now.distance) +ℤ to_z w64 (of_z w64 c.cost_along.result)))

record IsSum (c : After-cost_along) : Type 0 where
  fits : FitsSigned w64 (to_z w64 (of_z w64 c.args.label.now.distance) +ℤ to_z w64 (of_z w64 c.cost_along.result))
  is : distance_in c
      ≡ c.args.label.now.distance
      +ℤ reduced_cost_of c.args.routing.now.potentials.items (arc_by_index c.args.problem.now c.args.index)

sum : (c : After-cost_along) → IsSum c
sum c =
    let p = c.args.problem.now in
    let r = c.args.routing.now in
    let a = arc_by_index p c.args.index in
    let arc = given (goal.at.After-cost_along c).After-residual_at-residual in
    let priced = IsPriced-arc p r c.requires.standing a arc.is in
    let s = c.args.self.now in
    let small = IsSmall-tail p r c.requires.standing s c.requires.search a c.args.label.now c.requires.at in
    let upto = small.distance in
    let from = subst (λ o. pos 0 ≤ℤ distance_of_label o) c.requires.at.label (c.requires.search.labels.risen a.tail) in
    let along : c.cost_along.result ≡ reduced_cost_of r.potentials.items a = c.cost_along.ensures ∙ arc.reduced in
    record { fits = omega (arith, sizes); is = omega (arith, sizes) }

pub overflow_add-distance : goal.overflow_add-distance
overflow_add-distance c = (sum (goal.at.overflow_add-distance c).After-cost_along).fits

-- what is known of the node that the residual arc leads to holds of the arc's head
low_at : (s : Search) (v w : ℕ) (d : ℤ) → v ≡ w
    → (is_labelled s.labels.items v ≡ true) × (distance_at s.labels.items v ≤ℤ d)
    → (is_labelled s.labels.items w ≡ true) × (distance_at s.labels.items w ≤ℤ d)
low_at s v w d e = subst (λ u. (is_labelled s.labels.items u ≡ true) × (distance_at s.labels.items u ≤ℤ d)) e

lower_at : (s : Search) (v w : ℕ) (d : ℤ) → v ≡ w
    → (is_labelled s.labels.items v ≡ true → d <ℤ distance_at s.labels.items v)
    → is_labelled s.labels.items w ≡ true → d <ℤ distance_at s.labels.items w
lower_at s v w d e = subst (λ u. is_labelled s.labels.items u ≡ true → d <ℤ distance_at s.labels.items u) e

entered_at : (s t : Search) (v w : ℕ) (l : Label) → v ≡ w → IsEntered s t v l → IsEntered s t w l
entered_at s t v w l e = subst (λ u. IsEntered s t u l) e

pub is_lower-requires : goal.is_lower-requires
is_lower-requires c =
    let within = (given (goal.at.is_lower-requires c).After-residual_at-residual).head_in in
    omega (arith, within, c.residual_at-residual.ensures.head, c.requires.search.labels.one_each)

pub returns-then-not-is_lower : goal.returns-then-not-is_lower
returns-then-not-is_lower c =
    let p = c.args.problem.now in
    let r = c.args.routing.now in
    let s = c.args.self.now in
    let a = arc_by_index p c.args.index in
    let d = distance_in (goal.at.returns-then-not-is_lower c).After-cost_along in
    let is = (sum (goal.at.returns-then-not-is_lower c).After-cost_along).is in
    let low = low_at s c.residual_at-residual.result.head a.head d c.residual_at-residual.ensures.head
    (c.is_lower.ensures.no_lower c.if-not-is_lower.true) in
    IsRelaxed-low p r c.requires.standing s c.requires.search a c.args.label.now c.requires.at d is low

pub overflow_add-label : goal.overflow_add-label
overflow_add-label c =
    let small = IsSmall-tail c.args.problem.now c.args.routing.now c.requires.standing c.args.self.now c.requires.search
    (arc_by_index c.args.problem.now c.args.index) c.args.label.now c.requires.at in
    omega (arith, small.depth)

-- the arc is a residual arc to a node that is not settled
record IsOpen (c : Else-not-is_lower) : Type 0 where
  residual : IsResidualArc c.args.problem.now c.args.routing.now (arc_by_index c.args.problem.now c.args.index)
  free : is_in c.args.self.now.settled.items (arc_by_index c.args.problem.now c.args.index).head ≡ false

open_arc : (c : Else-not-is_lower) → IsOpen c
open_arc c = record {
  residual = c.residual_at-residual.ensures.is_open.0 c.if-not-residual.false;
  free =
      let head_in = (given (goal.at.Else-not-is_lower c).After-residual_at-residual).head_in in
      let mark = mark_of c.args.self.now c.args.problem.now.net.now.nodes (arc_by_index c.args.problem.now c.args.index)
      c.residual_at-residual.result.head c.index.result.now head_in c.residual_at-residual.ensures.head
      c.requires.search.labels.one_mark_each
      c.index.ensures in
      sym mark ∙ c.if-index.false;
}

pub enter-requires-clause-node : goal.enter-requires-clause-node
enter-requires-clause-node c =
    let within = (given (goal.at.enter-requires-clause-node c).After-residual_at-residual).head_in in
    omega (arith, within, c.residual_at-residual.ensures.head, c.requires.search.labels.one_each)

pub enter-requires-clause-distance : goal.enter-requires-clause-distance
enter-requires-clause-distance c =
    let is = (sum (goal.at.enter-requires-clause-distance c).After-cost_along).is in
    let residual = (open_arc (goal.at.enter-requires-clause-distance c).Else-not-is_lower).residual in
    above-level c.args.problem.now c.args.routing.now c.requires.standing c.args.self.now c.requires.search
    (arc_by_index c.args.problem.now c.args.index) c.args.label.now c.requires.at _ is residual

pub returns : goal.returns
returns c =
    let p = c.args.problem.now in
    let r = c.args.routing.now in
    let s = c.args.self.now in
    let t = c.enter.new.self in
    let a = arc_by_index p c.args.index in
    let d = distance_in (goal.at.returns c).After-cost_along in
    let to = c.residual_at-residual.ensures.head in
    let is = (sum (goal.at.returns c).After-cost_along).is in
    let lower =
    lower_at s c.residual_at-residual.result.head a.head d to (c.is_lower.ensures.lower c.if-not-is_lower.false) in
    let o = open_arc (goal.at.returns c).Else-not-is_lower in
    on_ok_weaker c.enter.result (λ entered.
    IsRelaxed-entered p r c.requires.standing s c.requires.search a c.args.label.now c.requires.at d is o.residual
    o.free lower c.args.index c.requires.index refl t
    (entered_at s t c.residual_at-residual.result.head a.head _ to entered))
    c.enter.ensures
