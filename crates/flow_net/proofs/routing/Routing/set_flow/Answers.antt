use Rattle.flow_net.proofs.ResidualLemmas.{AreResiduals-set, link_place-within}
use Rattle.flow_net.proofs.Words.{AreResiduals, IsCost, IsProblem, IsResidual, Link, Places, Problem, get_or_read, link_at, place_in, places_at}
use Rattle.std.proofs.Common.{Bool, List, arith, false, get_or, length, of_z, set, subst, sym, to_z, true, w64, ℕ, ◌<◌, ◌≡◌}
use Rattle.flow_net.proofs.routing.Routing.set_flow.Goals as goal

-- the places of a link's arcs, as the code reads them
module _ (p : Problem) (is : IsProblem p) (k : ℕ) (below : k < length p.net.now.links) (r : Places)
    (e : r ≡ get_or p.adjacency.places.items k r) where
  read : r ≡ places_at p.adjacency.places.items k
  read =
      get_or_read p.adjacency.places.items k r (omega (arith, below, is.adjacency.places.one_each)) e
      (record { forward = 0; back = 0 })

  within : (w : Bool) → place_in r w < length p.adjacency.arcs.items
  within w = subst (λ q. place_in q w < length p.adjacency.arcs.items) (sym read)
      (link_place-within p.net.now.nodes p.net.now.links p.adjacency is.adjacency k below w)

-- the cost of a link, as the code reads it, is within the limits
link-cost : (p : Problem) → IsProblem p → (k : ℕ) → k < length p.net.now.links → (links : List Link)
    → links ≡ p.net.now.links → IsCost (link_at links k).cost
link-cost p is k below links same = subst (λ xs. IsCost (link_at xs k).cost) (sym same) (is.net.links k below).cost

pub along-requires : goal.along-requires
along-requires c =
    link-cost c.args.problem.now c.requires.problem c.args.link c.requires.link c.as_slice.result.now c.as_slice.ensures

pub along-requires-2 : goal.along-requires-2
along-requires-2 c =
    link-cost c.args.problem.now c.requires.problem c.args.link c.requires.link c.as_slice.result.now c.as_slice.ensures

pub index_mut-requires-2 : goal.index_mut-requires-2
index_mut-requires-2 c =
    let i = within c.args.problem.now c.requires.problem c.args.link c.requires.link c.index-places.result.now
    c.index-places.ensures true in
    omega (arith, i, c.requires.residuals.one_each)

pub index_mut-requires-3 : goal.index_mut-requires-3
index_mut-requires-3 c =
    let i = within c.args.problem.now c.requires.problem c.args.link c.requires.link c.index-places.result.now
    c.index-places.ensures false in
    omega (arith, i, c.requires.residuals.one_each)

pub returns-clause-residuals : goal.returns-clause-residuals
returns-clause-residuals c =
    let p = c.args.problem.now in
    let links = p.net.now.links in
    let arcs = p.adjacency.arcs.items in
    let k = c.args.link in
    let x = to_z w64 (of_z w64 c.args.carried) in
    let flow = c.args.self.now.flow.items in
    let residuals = c.args.self.now.residuals.items in
    let forth = subst (λ xs. IsResidual (link_at xs k) x true c.along.result) c.as_slice.ensures c.along.ensures in
    let back = subst (λ xs. IsResidual (link_at xs k) x false c.along-2.result) c.as_slice.ensures c.along-2.ensures in
    let places = read p c.requires.problem k c.requires.link c.index-places.result.now c.index-places.ensures in
    let both_set = AreResiduals-set p.net.now.nodes links p.adjacency c.requires.problem.adjacency flow residuals k
    c.requires.link x c.along.result c.along-2.result c.requires.one_each forth back c.requires.residuals in
    subst (λ (q : Places).
    AreResiduals links (set flow k x) arcs (set (set residuals q.forward c.along.result) q.back c.along-2.result))
    (sym places)
    both_set
