-- What leaves each node of a net less what enters it, and what the flow costs, link by link.
use Rattle.flow_problem.proofs.Words.{IsWithinLimits, IsWithinRooms, Link, Net, Problem, add-one, cases_eq, due, eq-eqb, flow_on, ints, length-set, link_at}
use Rattle.flow_problem.proofs.Words.{mul-le, ne_eqb, set_cases, sizes, sum_below, surplus_at, surplus_of_routing, unsigned_abs, unsigned_abs-mul, w128, when}
use Rattle.flow_net.specs.declared.limits.TheConstants.{MOST_COST, MOST_LINKS, MOST_ROOM}
use Rattle.std.proofs.Common.{Bool, FitsSigned, List, arith, false, inl, inr, length, pos, refl, set, suc, sym, true, zero, ℕ, ℤ, ◌*ℤ◌, ◌*◌, ◌+ℤ◌, ◌+◌, ◌-ℤ◌}
use Rattle.std.proofs.Common.{◌<◌, ◌==◌, ◌∙◌, ◌≡◌, ◌≢◌, ◌≤ℤ◌, ◌≤◌}

-- what leaves node v by the first n links less what enters it by them
abbrev pub surplus_below : List Link → List ℤ → ℕ → ℕ → ℤ
surplus_below links flow n v = sum_below n (λ k. when ((link_at links k).from == v) (flow_on flow k))
    -ℤ sum_below n (λ k. when ((link_at links k).to == v) (flow_on flow k))

-- an amount more at node i
pub added : (surpluses : List ℤ) (i v : ℕ) (x : ℤ) → i < length surpluses
    → surplus_at (set surpluses i (surplus_at surpluses i +ℤ x)) v
    ≡ surplus_at surpluses v +ℤ when (i == v) x
added surpluses i v x within =
    set_cases surpluses i (surplus_at surpluses i +ℤ x) (pos 0) within (λ u z. z ≡ surplus_at surpluses u +ℤ when (i == u) x) (rw (eq-eqb i i refl) refl)
    (λ u ne. rw (ne_eqb i u (λ e. ne (sym e))) (omega (arith, ints))) v

-- a sum of numbers within a bound
pub sum_within : (n m : ℕ) (f : ℕ → ℤ) → ((k : ℕ) → k < n → unsigned_abs (f k) ≤ m)
    → unsigned_abs (sum_below n f) ≤ n * m
sum_within zero m f h = omega arith
sum_within (suc n) m f h =
    let before = sum_within n m f (λ k l. h k (omega arith)) in
    let here = h n (omega arith) in
    omega (arith, sizes, before, here)

-- a link more
pub surplus_below-more : (links : List Link) (flow : List ℤ) (n v : ℕ) → surplus_below links flow (n + 1) v
    ≡ surplus_below links flow n v +ℤ (when ((link_at links n).from == v) (flow_on flow n) -ℤ when ((link_at links n).to == v) (flow_on flow n))
surplus_below-more links flow n v = rw add-one (omega (arith, ints))

-- two amounts at the ends of a link
pub carried : (surpluses : List ℤ) (from to v : ℕ) (x : ℤ) → from < length surpluses → to < length surpluses
    → let once = set surpluses from (surplus_at surpluses from +ℤ x) in
    surplus_at (set once to (surplus_at once to +ℤ (pos 0 -ℤ x))) v
    ≡ surplus_at surpluses v +ℤ (when (from == v) x -ℤ when (to == v) x)
carried surpluses from to v x from_in to_in =
    let once = set surpluses from (surplus_at surpluses from +ℤ x) in
    let first = added surpluses from v x from_in in
    let second = added once to v (pos 0 -ℤ x) (let e = length-set surpluses from (surplus_at surpluses from +ℤ x) in omega arith) in
    let back = turned (to == v) in
    omega (arith, ints, first, second, back)
  where
    turned : (b : Bool) → when b (pos 0 -ℤ x) ≡ pos 0 -ℤ when b x
    turned true = refl
    turned false = refl

-- no sum of flows leaves 128 bits
abbrev pub most_flow : ℕ
most_flow = MOST_LINKS * unsigned_abs MOST_ROOM

-- what link k carries, at most a room
module _ (net : Net) (flow : List ℤ) (limits : IsWithinLimits net) (rooms : IsWithinRooms net.links flow) where
  pub flow_small : (k : ℕ) → k < length net.links → (pos 0 ≤ℤ flow_on flow k) × (flow_on flow k ≤ℤ MOST_ROOM)
  flow_small k below =
      let from = rooms.not_negative k below in
      let upto = rooms.upto_room k below in
      let room = (limits.links k below).room.upto in
      (from, omega (arith, ints, upto, room))

  pub surplus_small : (n v : ℕ) → n ≤ length net.links → unsigned_abs (surplus_below net.links flow n v) ≤ 2 * most_flow
  surplus_small n v upto =
      let out = sum_within n (unsigned_abs MOST_ROOM) (λ k. when ((link_at net.links k).from == v) (flow_on flow k))
      (λ k l. part k ((link_at net.links k).from == v) (omega arith)) in
      let into = sum_within n (unsigned_abs MOST_ROOM) (λ k. when ((link_at net.links k).to == v) (flow_on flow k))
      (λ k l. part k ((link_at net.links k).to == v) (omega arith)) in
      let few = limits.few_links in
      let times : n * unsigned_abs MOST_ROOM ≤ most_flow
      = mul-le n (unsigned_abs MOST_ROOM) MOST_LINKS (unsigned_abs MOST_ROOM) (omega arith) (omega arith) in
      omega (arith, sizes, out, into, times)
    where
      part : (k : ℕ) (b : Bool) → k < length net.links → unsigned_abs (when b (flow_on flow k)) ≤ unsigned_abs MOST_ROOM
      part k true below = let small = flow_small k below in omega (arith, sizes, small)
      part k false below = omega arith

  -- what the flow on a link costs, and on the first links
  pub link_cost_small : (k : ℕ) → k < length net.links
      → unsigned_abs ((link_at net.links k).cost *ℤ flow_on flow k) ≤ MOST_COST * unsigned_abs MOST_ROOM
  link_cost_small k below =
      let carried = flow_small k below in
      let size = unsigned_abs-mul (link_at net.links k).cost (flow_on flow k) in
      let times = mul-le (unsigned_abs (link_at net.links k).cost) (unsigned_abs (flow_on flow k)) MOST_COST (unsigned_abs MOST_ROOM)
      (limits.links k below).cost (omega (arith, sizes, carried)) in
      omega (arith, size, times)

  pub cost_small : (n : ℕ) → n ≤ length net.links
      → unsigned_abs (sum_below n (λ k. (link_at net.links k).cost *ℤ flow_on flow k))
      ≤ MOST_LINKS * (MOST_COST * unsigned_abs MOST_ROOM)
  cost_small n upto =
      let sum = sum_within n (MOST_COST * unsigned_abs MOST_ROOM) (λ k. (link_at net.links k).cost *ℤ flow_on flow k)
      (λ k l. link_cost_small k (omega arith)) in
      let few = limits.few_links in
      let times = mul-le n (MOST_COST * unsigned_abs MOST_ROOM) MOST_LINKS (MOST_COST * unsigned_abs MOST_ROOM) (omega arith) (omega arith) in
      omega (arith, sum, times)

-- a loop's step over the links: what link k carries is added at its first node and taken off at its second
module _ (net : Net) (flow surpluses : List ℤ) (limits : IsWithinLimits net) (rooms : IsWithinRooms net.links flow) (k : ℕ) (below : k < length net.links)
    (each : length surpluses ≡ net.nodes) (surplus : (v : ℕ) → v < net.nodes → surplus_at surpluses v ≡ surplus_below net.links flow k v) where
  pub first_fits : FitsSigned w128 (surplus_at surpluses (link_at net.links k).from +ℤ flow_on flow k)
  first_fits =
      let at = surplus (link_at net.links k).from (limits.links k below).from_in in
      let small = surplus_small net flow limits rooms k (link_at net.links k).from (omega (arith, below)) in
      let carried = flow_small net flow limits rooms k below in
      omega (arith, sizes, at, small, carried)

  pub second_fits : FitsSigned w128
      (surplus_at (set surpluses (link_at net.links k).from (surplus_at surpluses (link_at net.links k).from +ℤ flow_on flow k)) (link_at net.links k).to
      +ℤ (pos 0 -ℤ flow_on flow k))
  second_fits =
      let l = link_at net.links k in
      let within = limits.links k below in
      let first = added surpluses l.from l.to (flow_on flow k) (let w = within.from_in in omega (arith, w, each)) in
      let at = surplus l.to within.to_in in
      let small = surplus_small net flow limits rooms k l.to (omega (arith, below)) in
      let carried = flow_small net flow limits rooms k below in
      let part = when_small (l.from == l.to) (flow_on flow k) carried.0 in
      omega (arith, sizes, first, at, small, carried, part)
    where
      when_small : (b : Bool) (x : ℤ) → pos 0 ≤ℤ x → (pos 0 ≤ℤ when b x) × (when b x ≤ℤ x)
      when_small true x h = (h, omega (arith, ints))
      when_small false x h = (omega (arith, ints), h)

-- what is due at a node is its surplus in a routing
pub due_is : (p : Problem) → p.source ≢ p.sink → (v : ℕ) → due p v ≡ surplus_of_routing p.source p.sink p.amount v
due_is p apart v = elim (cases_eq v p.source) [
  | inl e ↦
      rw (eq-eqb v p.source e, eq-eqb p.source v (sym e), ne_eqb p.sink v (λ d. apart (sym (d ∙ e)))) (omega (arith, ints))
  | inr ne ↦
      rw (ne_eqb v p.source ne, ne_eqb p.source v (λ e. ne (sym e)))
      (elim (cases_eq v p.sink) [
        | inl e ↦ rw (eq-eqb v p.sink e, eq-eqb p.sink v (sym e)) refl
        | inr other ↦ rw (ne_eqb v p.sink other, ne_eqb p.sink v (λ e. other (sym e))) refl
      ])
]
