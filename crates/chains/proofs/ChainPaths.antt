-- In a net of chains a path leads from part to part exactly where the two reach.
use Rattle.chains.proofs.Words.{All-contains, All-slice_get, AreGroups, Case, Cold, Contains-append_left, Contains-append_right, Contains-slice_get}
use Rattle.chains.proofs.Words.{Group, Hot, IsComplete, IsGrid, IsInner, IsInnerLink, IsOnPlaces, IsPath, LeadsTo, Link, Net, Part, PathsAreReaches}
use Rattle.chains.proofs.Words.{Source, StandInLine, StartsChain, and_from, and_parts, both_parts, both_reach, chain_links, is_forbidden, mul-add-lt}
use Rattle.chains.proofs.Words.{not-true, not_from_false, onward, open_link, passes_heat, reach_between, same_Some, same_from_place, slice_get_read}
use Rattle.chains.proofs.Words.{slice_get_within, chain_length, depth_of}
use Rattle.std.proofs.Common.{All, Contains, IsTrue, List, Some, [], ap, ap₂, arith, false, inl, inr, length, not, refl, slice_get, subst, subst₂}
use Rattle.std.proofs.Common.{suc, sym, true, zero, ℕ, ℤ, ⊎_elim, ◌*◌, ◌++◌, ◌+◌, ◌-◌, ◌<◌, ◌∙◌, ◌∷◌, ◌≡◌, ◌≤◌, ◌⊎◌}
use Rattle.chains.proofs.DepthLemmas.{chain_length-some, depth-le, depth-within, rank-le}
use Rattle.chains.proofs.RankLemmas.{places_some, rank_within, passes-rank, rank-passes}
use Rattle.chains.proofs.LinkPaths.{LeadsTo-none, LeadsTo-append, LeadsTo-link, IsPath-keeps}
use Rattle.chains.proofs.ChainLinks.{permitted-all, Enters, Descends, Leaves, All-chain_links, entered, led_on, left}

-- ---- parts that reach

-- the parts at two indexes, between which heat passes, and whose sources are no forbidden match
record AreJoined (c : Case) (hot cold : List Part) (a b : ℕ) (p q : Part) : Type 0 where
  pub hot_part : slice_get hot a ≡ Some p
  pub cold_part : slice_get cold b ≡ Some q
  pub passes : passes_heat p q ≡ true
  pub free : is_forbidden c.forbids p.source q.source ≡ false

module _ (c : Case) (hot cold : List Part) (a b : ℕ) where
  joined_parts : IsTrue (reach_between c hot cold a b) → (p : Part) × (q : Part) × AreJoined c hot cold a b p q
  joined_parts reach =
      let (p, q, hot_part, cold_part, both) = both_parts c (slice_get hot a) (slice_get cold b) reach in
      let parts = and_parts (passes_heat p q) (not (is_forbidden c.forbids p.source q.source)) both in
      let forbidden = is_forbidden c.forbids p.source q.source in
      (p, q, record { hot_part = hot_part; cold_part = cold_part; passes = parts.0; free = not-true forbidden parts.1 })

  reach_from_joined : (p q : Part) → AreJoined c hot cold a b p q → IsTrue (reach_between c hot cold a b)
  reach_from_joined p q h =
      let forbidden = is_forbidden c.forbids p.source q.source in
      ap₂ (both_reach c) h.hot_part h.cold_part
      ∙ and_from (passes_heat p q) (not forbidden) h.passes (not_from_false forbidden h.free)

-- ---- the nodes of chains

pub group_index : (groups : List Group) (g : Group) → Contains groups g → (i : ℕ) × (slice_get groups i ≡ Some g)
group_index groups g (i, within, is) = (i, slice_get_read groups (length groups) i g refl within (sym is))

module _ (c : Case) (places : List ℤ) (hot cold : List Part) where
  -- a node of the chain of a group, at the depth of a hot part or a greater one
  record IsBelow (g : Group) (p : Part) (v : ℕ) : Type 0 where
    pub depth : ℕ
    pub is : v ≡ g.first_node + depth
    pub within : depth < chain_length places hot cold
    pub from : depth_of places hot cold p ≤ depth

  -- the node of a cold part that takes heat from a hot part
  record IsTaker (p : Part) (v : ℕ) : Type 0 where
    pub index : ℕ
    pub part : Part
    pub is : v ≡ length hot + index
    pub at : slice_get cold index ≡ Some part
    pub from : depth_of places hot cold p ≤ depth_of places hot cold part
    pub free : is_forbidden c.forbids p.source part.source ≡ false

-- what a net of chains is made of: parts on the grid of the case, and groups whose chains stand in line behind the parts
pub record AreForChains (c : Case) (places : List ℤ) (hot cold : List Part) (groups : List Group) : Type 0 where
  pub complete : IsComplete c
  pub is_grid : IsGrid c places
  pub hot_on : All (IsOnPlaces c places Hot) hot
  pub cold_on : All (IsOnPlaces c places Cold) cold
  pub are : AreGroups c groups
  pub in_line : StandInLine (length hot + length cold) (chain_length places hot cold) groups

module _ (c : Case) (places : List ℤ) (hot cold : List Part) (groups : List Group)
    (for : AreForChains c places hot cold groups) where
  hot_place : (a : ℕ) (p : Part) → slice_get hot a ≡ Some p → IsOnPlaces c places Hot p
  hot_place a p at = All-slice_get (IsOnPlaces c places Hot) hot a p for.hot_on at

  cold_place : (b : ℕ) (q : Part) → slice_get cold b ≡ Some q → IsOnPlaces c places Cold q
  cold_place b q at = All-slice_get (IsOnPlaces c places Cold) cold b q for.cold_on at

  some_place : 0 < length places
  some_place = places_some c places for.complete for.is_grid

  hot_depth : (a : ℕ) (p : Part) → slice_get hot a ≡ Some p → depth_of places hot cold p < chain_length places hot cold
  hot_depth a p at =
      depth-within places hot cold p (Contains-append_left hot cold p (Contains-slice_get hot a p at))
      (rank_within c places for.is_grid.ordered Hot p (hot_place a p at))

  cold_there : (b : ℕ) (q : Part) → slice_get cold b ≡ Some q → Contains (hot ++ cold) q
  cold_there b q at = Contains-append_right hot cold q (Contains-slice_get cold b q at)

  cold_depth : (b : ℕ) (q : Part) → slice_get cold b ≡ Some q
      → depth_of places hot cold q < chain_length places hot cold
  cold_depth b q at =
      let ranked = rank_within c places for.is_grid.ordered Cold q (cold_place b q at) in
      depth-within places hot cold q (cold_there b q at) ranked

  -- a node of a chain stands behind those of the parts, and before the end of the net
  pub node_of : (g : Group) → Contains groups g → (r : ℕ) → r < chain_length places hot cold
      → ((length hot + length cold) ≤ g.first_node + r)
      × ((g.first_node + r) < (length hot + length cold) + length groups * chain_length places hot cold)
  node_of g (i, within, is) r below =
      let first = for.in_line i g (slice_get_read groups (length groups) i g refl within (sym is)) in
      let last = mul-add-lt i (chain_length places hot cold) r (length groups) within below in
      (omega (arith, first), omega (arith, first, last))

  -- a node of two chains is the same node of the same chain
  same_node : (g h : Group) → Contains groups g → Contains groups h → (r s : ℕ)
      → r < chain_length places hot cold → s < chain_length places hot cold
      → g.first_node + r ≡ h.first_node + s → (g ≡ h) × (r ≡ s)
  same_node g h g_in h_in r s r_in s_in same =
      let (i, from) = group_index groups g g_in in
      let (j, to) = group_index groups h h_in in
      let x = for.in_line i g from in
      let y = for.in_line j h to in
      let e = same_from_place i r j s (chain_length places hot cold) r_in s_in (omega (arith, x, y, same)) in
      (same_Some g h (sym from ∙ ap (slice_get groups) e.0 ∙ to), e.1)

  -- what is permitted to one source of a group is permitted to each
  permitted : (g : Group) → Contains groups g → (source other : Source) → Contains g.sources source
      → Contains g.sources other → (b : ℕ) (q : Part)
      → slice_get cold b ≡ Some q → is_forbidden c.forbids source q.source ≡ false
      → is_forbidden c.forbids other q.source ≡ false
  permitted g is source other stands beside b q at free =
      let (i, here) = group_index groups g is in
      (for.are.alike i i other source (g, here, beside) (g, here, stands)).0 refl q.source (cold_place b q at).source
      ∙ free

  abbrev links : List Link
  links = chain_links c places hot cold groups

  -- ---- where parts reach, a path leads

  down : (g : Group) → Contains groups g → (r k : ℕ) → r + k < chain_length places hot cold
      → LeadsTo links (g.first_node + r) (g.first_node + (r + k))
  down g is r zero within =
      let same : r ≡ r + zero = omega arith in
      subst (λ n. LeadsTo links (g.first_node + r) (g.first_node + n)) same (LeadsTo-none links (g.first_node + r))
  down g is r (suc k) within =
      let same : r + k + 1 ≡ r + suc k = omega arith in
      let next = open_link (g.first_node + (r + k)) (g.first_node + (r + k + 1)) in
      subst (λ n. LeadsTo links (g.first_node + r) (g.first_node + n)) same
      (LeadsTo-link links (g.first_node + r) next (down g is r k (omega (arith, within)))
      (led_on c places hot cold groups g (r + k) is some_place (omega (arith, within))))

  to_cold : (g : Group) → Contains groups g → (source : Source) → Contains g.sources source
      → (r b : ℕ) (q : Part) → slice_get cold b ≡ Some q
      → r ≤ depth_of places hot cold q → is_forbidden c.forbids source q.source ≡ false
      → LeadsTo links (g.first_node + r) (length hot + b)
  to_cold g is source stands r b q at le free =
      let within = cold_depth b q at in
      let same : r + (depth_of places hot cold q - r) ≡ depth_of places hot cold q = omega (arith, le) in
      let last = open_link (g.first_node + depth_of places hot cold q) (length hot + b) in
      let led_down = down g is r (depth_of places hot cold q - r) (omega (arith, same, within)) in
      let all_permitted =
      permitted-all c g q.source (λ other beside. permitted g is source other stands beside b q at free) in
      let leaving_link = left c places hot cold groups g b q is at all_permitted in
      LeadsTo-link links (g.first_node + r) last
      (subst (λ n. LeadsTo links (g.first_node + r) (g.first_node + n)) same led_down) leaving_link

  joined_leads : (a b : ℕ) (p q : Part) → AreJoined c hot cold a b p q → LeadsTo links a (length hot + b)
  joined_leads a b p q h =
      let on = hot_place a p h.hot_part in
      let (i, (f, at, f_stands)) = for.are.some p.source on.source in
      let (g, by) = entered c places hot cold groups a p f h.hot_part (Contains-slice_get groups i f at) f_stands in
      let le = depth-le places hot cold p q
      (passes-rank c places for.is_grid.ordered Hot Cold p q on (cold_place b q h.cold_part) h.passes) in
      let first = open_link a (g.first_node + depth_of places hot cold p) in
      let into_chain = LeadsTo-link links a first (LeadsTo-none links a) by.link in
      let out_of_chain =
      to_cold g by.group_is p.source by.stands (depth_of places hot cold p) b q h.cold_part le h.free in
      LeadsTo-append links a (g.first_node + depth_of places hot cold p) (length hot + b) into_chain out_of_chain

  -- ---- a path leads to nothing else

  abbrev Goes : Group → Part → ℕ → Type 0
  Goes g p v = IsBelow c places hot cold g p v ⊎ IsTaker c places hot cold p v

  -- from a node that a hot part enters or comes down to, a link leads on to such a node, or to a cold part that takes its heat, and no
  -- link leaves a cold part
  module _ (g : Group) (g_in : Contains groups g) (p : Part) (stands : Contains g.sources p.source) where
    abbrev GoesOn : Link → Type 0
    GoesOn l = Goes g p l.from → Goes g p l.to

    enter : Enters c places hot cold groups GoesOn
    enter i q h at h_in in_h (inl here) =
        absurd (omega (arith, slice_get_within hot i q at, node_of g g_in here.depth here.within, here.is))
    enter i q h at h_in in_h (inr taker) = absurd (omega (arith, slice_get_within hot i q at, taker.is))

    descend : Descends c places hot cold groups GoesOn
    descend h r stride h_in some within (inl here) =
        let (one, same) = same_node g h g_in h_in here.depth r here.within (omega (arith, within)) (sym here.is) in
        let is = ap (λ (f : Group). f.first_node + (r + stride)) (sym one) in
        inl (record { depth = r + stride; is = is; within = within; from = omega (arith, same, here.from) })
    descend h r stride h_in some within (inr taker) =
        let node = node_of h h_in r (omega (arith, within)) in
        absurd (omega (arith, slice_get_within cold taker.index taker.part taker.at, node, taker.is))

    leave : Leaves c places hot cold groups GoesOn
    leave h i q h_in at permitted (inl here) =
        let (one, same) =
        same_node g h g_in h_in here.depth (depth_of places hot cold q) here.within (cold_depth i q at) (sym here.is) in
        let free = permitted p.source (subst (λ (f : Group). Contains f.sources p.source) one stands) in
        inr (record { index = i; part = q; is = refl; at = at; from = omega (arith, same, here.from); free = free })
    leave h i q h_in at permitted (inr taker) =
        let node = node_of h h_in (depth_of places hot cold q) (cold_depth i q at) in
        absurd (omega (arith, slice_get_within cold taker.index taker.part taker.at, node, taker.is))

    step : (l : Link) → Contains links l → GoesOn l
    step l there =
        All-contains GoesOn links l (All-chain_links c places hot cold groups GoesOn enter descend leave) there

  taker_reaches : (a b : ℕ) (p : Part) → slice_get hot a ≡ Some p
      → IsTaker c places hot cold p (length hot + b) → IsTrue (reach_between c hot cold a b)
  taker_reaches a b p hot_part taker =
      let place : taker.index ≡ b = omega (arith, taker.is) in
      let cold_part = subst (λ n. slice_get cold n ≡ Some taker.part) place taker.at in
      let le = rank-le places hot cold p taker.part (cold_there b taker.part cold_part) taker.from in
      let passes = rank-passes c places for.is_grid.ordered Hot Cold p taker.part (hot_place a p hot_part)
      (cold_place b taker.part cold_part) le in
      reach_from_joined c hot cold a b p taker.part (record {
        hot_part = hot_part;
        cold_part = cold_part;
        passes = passes;
        free = taker.free;
      })

  -- a path that begins at a hot part begins with its entering link, and ends at a cold part that it reaches
  abbrev LeadsRight : Link → Type 0
  LeadsRight l =
      (b : ℕ) (path : List Link) → l.from < length hot → b < length cold → IsPath links path l.to (length hot + b)
      → IsTrue (reach_between c hot cold l.from b)

  right_entering : Enters c places hot cold groups LeadsRight
  right_entering i p g at g_in stands b path hot_in b_in rest =
      let within = hot_depth i p at in
      let node = g.first_node + depth_of places hot cold p in
      let start : IsBelow c places hot cold g p node
      = record { depth = depth_of places hot cold p; is = refl; within = within; from = omega arith } in
      let goes_on = IsPath-keeps links (Goes g p) (step g g_in p stands) path node (length hot + b) rest (inl start) in
      ⊎_elim (λ below. absurd (omega (arith, node_of g g_in below.depth below.within, below.is, b_in)))
      (taker_reaches i b p at) goes_on

  right_down : Descends c places hot cold groups LeadsRight
  right_down g r stride g_in some within b path hot_in b_in rest =
      absurd (omega (arith, node_of g g_in r (omega (arith, within)), hot_in))

  right_leaving : Leaves c places hot cold groups LeadsRight
  right_leaving g i q g_in at permitted b path hot_in b_in rest =
      absurd (omega (arith, node_of g g_in (depth_of places hot cold q) (cold_depth i q at), hot_in))

  path_reaches : (a b : ℕ) (path : List Link) → a < length hot → b < length cold
      → IsPath links path a (length hot + b) → IsTrue (reach_between c hot cold a b)
  path_reaches a b [] a_in b_in same = absurd (omega (arith, same, a_in))
  path_reaches a b (l ∷ path) a_in b_in (there, from, rest) =
      let all = All-chain_links c places hot cold groups LeadsRight right_entering right_down right_leaving in
      let from_there = All-contains LeadsRight links l all there b path (omega (arith, from, a_in)) b_in rest in
      subst (λ v. IsTrue (reach_between c hot cold v b)) from from_there

  -- ---- so paths are reaches, and from the first node of a chain paths lead to all that its hot parts reach

  pub paths_are_reaches : PathsAreReaches (length hot) (length cold) links (reach_between c hot cold)
  paths_are_reaches = record {
    hot_within = λ a b reach. let (p, q, h) = joined_parts c hot cold a b reach in
        slice_get_within hot a p h.hot_part;
    cold_within = λ a b reach. let (p, q, h) = joined_parts c hot cold a b reach in
        slice_get_within cold b q h.cold_part;
    leads = λ a b reach. let (p, q, h) = joined_parts c hot cold a b reach in
        joined_leads a b p q h;
    reaches = λ a b a_in b_in leads. path_reaches a b leads.0 a_in b_in leads.1;
  }

  pub starts_chain : (net : Net) → net.links ≡ links
      → net.nodes ≡ (length hot + length cold) + length groups * chain_length places hot cold → (g : Group)
      → Contains groups g → StartsChain c hot cold net g
  starts_chain net same nodes g is =
      let node = node_of g is 0 (chain_length-some places hot cold) in
      let first : g.first_node + 0 ≡ g.first_node = omega arith in
      record {
        from = omega (arith, node);
        within = omega (arith, node, nodes);
        leads = λ a b p hot_part stands reach.
            let (r, q, h) = joined_parts c hot cold a b reach in
            let e : r ≡ p = same_Some r p (sym h.hot_part ∙ hot_part) in
            let free = subst (λ (x : Part). is_forbidden c.forbids x.source q.source ≡ false) e h.free in
            let from_first = to_cold g is p.source stands 0 b q h.cold_part (omega arith) free in
            subst (λ xs. LeadsTo xs g.first_node (length hot + b)) (sym same)
            (subst (λ n. LeadsTo links n (length hot + b)) first from_first);
      }

  -- ---- the net of the chains is an inner net

  abbrev first : ℕ
  first = length hot + length cold

  abbrev nodes_in_all : ℕ
  nodes_in_all = first + length groups * chain_length places hot cold

  -- among the nodes of the parts and of the chains
  abbrev IsAmong : Link → Type 0
  IsAmong l = IsInnerLink (length hot) (length cold) nodes_in_all l

  -- an open link between two of them
  among : (from to : ℕ) → from < nodes_in_all → to < nodes_in_all → (from < length hot) ⊎ (first ≤ from)
      → length hot ≤ to
      → (first ≤ from → first ≤ to → from < to) → IsAmong (open_link from to)
  among from to from_in to_in leave enter order =
      record {
        from_in = from_in;
        to_in = to_in;
        leaves = leave;
        enters = enter;
        onward = order;
        room = refl;
        cost = refl;
      }

  into_chains : Enters c places hot cold groups IsAmong
  into_chains i p g at g_in stands =
      let index = slice_get_within hot i p at in
      let node = node_of g g_in _ (hot_depth i p at) in
      among _ _ (omega (arith, index)) (omega (arith, node)) (inl index) (omega (arith, node))
      (λ late _. absurd (omega (arith, late, index)))

  down_chains : Descends c places hot cold groups IsAmong
  down_chains g r stride g_in some within =
      let from = node_of g g_in r (omega (arith, within)) in
      let to = node_of g g_in (r + stride) within in
      among _ _ (omega (arith, from)) (omega (arith, to)) (inr (omega (arith, from))) (omega (arith, to))
      (λ _ _. omega (arith, some))

  out_of_chains : Leaves c places hot cold groups IsAmong
  out_of_chains g i q g_in at permitted =
      let index = slice_get_within cold i q at in
      let node = node_of g g_in _ (cold_depth i q at) in
      among _ _ (omega (arith, node)) (omega (arith, index)) (inr (omega (arith, node))) (omega arith)
      (λ _ late. absurd (omega (arith, late, index)))

  pub IsInner-chains : (net : Net) → net.links ≡ links → net.nodes ≡ nodes_in_all
      → IsInner (length hot) (length cold) net
  IsInner-chains net links nodes =
      let all = All-chain_links c places hot cold groups IsAmong into_chains down_chains out_of_chains in
      record {
        nodes = omega (arith, nodes);
        links = subst₂ (λ n ls. All (IsInnerLink (length hot) (length cold) n) ls) (sym nodes) (sym links) all;
      }
