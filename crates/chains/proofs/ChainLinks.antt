-- The links of a net of chains: how loops append them, which ones they are, and how many.
use Rattle.chains.proofs.Words.{All-append, All-cons, All-cons_if, All-contains, All-enumerated, All-flat_map, All-map, All-nil, All-weaker}
use Rattle.chains.proofs.Words.{AllPass-from_list_all, Any-from_list_any, Case, Contains-append_left, Contains-append_right, Contains-cons}
use Rattle.chains.proofs.Words.{Contains-flat_map, Contains-get_or, Group, Link, Part, Source, chain_links, cons_if, entering, entering_at}
use Rattle.chains.proofs.Words.{enumerate_from, false≢true, find, first_node_of, flat_map, has_source, is_forbidden, is_permitted, le-div_iff_mul-le}
use Rattle.chains.proofs.Words.{leaving, leaving_at, length-enumerate_from, links_of_group, list_all-from_AllPass, list_any-from_Any, not-true}
use Rattle.chains.proofs.Words.{not_from_false, onward, open_link, range_with_len, same_Some, same_source, same_source-same, same_source-true}
use Rattle.chains.proofs.Words.{STRIDES, chain_length, depth_of, stride_link, stride_links, strides_within}
use Rattle.std.proofs.Common.{All, Bool, Contains, List, None, Option, Some, [], ap, arith, cond, false, get_or, length, length-append, not}
use Rattle.std.proofs.Common.{option_map, option_to_list, refl, slice_get, subst, sym, true, ℕ, ℤ, ⊎_elim, ◌*◌, ◌+◌, ◌-◌, ◌/◌, ◌<◌, ◌∙◌, ◌∷◌, ◌≡◌}
use Rattle.std.proofs.Common.{◌≤◌}
use Rattle.std.proofs.lemmas.List.FromFn.{get_or-range_with_len, length-range_with_len}
use Rattle.chains.proofs.DepthLemmas.{chain_length-le}
use Rattle.chains.proofs.FlatMaps.{Contains-enumerated, length-flat_map-le}
use Rattle.chains.proofs.StrideLemmas.{few_onward, next_onward, positive-within}

-- ---- general lists

module _ {X : Type 0} where
  -- what is found stands in the list and passes, and where one passes some is found
  find-some : (test : X → Bool) (xs : List X) (x : X) → find test xs ≡ Some x → Contains xs x × (test x ≡ true)
  find-some test [] x found = cc
  find-some test (y ∷ ys) x found = at (find-some test ys x) (test y) refl found
    where
      at : (find test ys ≡ Some x → Contains ys x × (test x ≡ true)) → (b : Bool) → test y ≡ b
          → cond b (Some y) (find test ys) ≡ Some x → Contains (y ∷ ys) x
          × (test x ≡ true)
      at later true passes same =
          let e = same_Some y x same in
          ((0, omega arith, e), ap test (sym e) ∙ passes)
      at later false fails same =
          let (there, passes) = later same in
          (Contains-append_right (y ∷ []) ys x there, passes)

  find-there : (test : X → Bool) (xs : List X) (x : X) → Contains xs x → test x ≡ true
      → (y : X) × (find test xs ≡ Some y)
  find-there test [] x (k, within, is) passes = absurd (omega (arith, within))
  find-there test (z ∷ zs) x found passes = at (λ rest. find-there test zs x rest passes) (test z) refl
    where
      at : (Contains zs x → (y : X) × (find test zs ≡ Some y)) → (b : Bool) → test z ≡ b
          → (y : X) × (cond b (Some z) (find test zs) ≡ Some y)
      at rest true e = (z, refl)
      at rest false e =
          rest (⊎_elim (λ same. absurd (false≢true (sym e ∙ ap test same ∙ passes))) (λ later. later)
          (Contains-cons z zs x found))

has_source-true : (source : Source) (g : Group) → has_source source g ≡ true → Contains g.sources source
has_source-true source g has =
    let (k, other, within, is, same) = Any-from_list_any (λ s. same_source s source) g.sources has in
    subst (Contains g.sources) (same_source-true other source same) (k, within, is)

-- the first node of a group is at most that of all groups
pub node_at_most : (groups : List Group) (source : Source) (node most : ℕ)
    → All (λ g. g.first_node ≤ most) groups → first_node_of groups source ≡ Some node
    → node ≤ most
node_at_most groups source node most each is = at (find (has_source source) groups) refl is
  where
    at : (o : Option Group) → find (has_source source) groups ≡ o
        → option_map (λ g. g.first_node) o ≡ Some node → node ≤ most
    at None none same = cc same
    at (Some g) found same =
        subst (λ n. n ≤ most) (same_Some g.first_node node same)
        (All-contains (λ f. f.first_node ≤ most) groups g each (find-some (has_source source) groups g found).0)

has_source-there : (source : Source) (g : Group) → Contains g.sources source → has_source source g ≡ true
has_source-there source g (k, within, is) =
    list_any-from_Any (λ s. same_source s source) g.sources (k, source, within, is, same_source-same source)

abbrev pub IsPermitted : Case → Group → Source → Type 0
IsPermitted c g cold = is_permitted c g cold ≡ true

-- what is permitted to a group is permitted to each of its sources
pub permitted-each : (c : Case) (g : Group) (cold source : Source) → is_permitted c g cold ≡ true
    → Contains g.sources source
    → is_forbidden c.forbids source cold ≡ false
permitted-each c g cold source free_of found =
    let free = λ (hot : Source). not (is_forbidden c.forbids hot cold) in
    let each_free = AllPass-from_list_all free g.sources free_of in
    let free_source = All-contains (λ hot. free hot ≡ true) g.sources source each_free found in
    not-true (is_forbidden c.forbids source cold) free_source

pub permitted-all : (c : Case) (g : Group) (cold : Source)
    → ((source : Source) → Contains g.sources source → is_forbidden c.forbids source cold ≡ false)
    → is_permitted c g cold ≡ true
permitted-all c g cold each =
    let free = λ (hot : Source). not (is_forbidden c.forbids hot cold) in
    list_all-from_AllPass free g.sources (λ k d within.
    let hot = get_or g.sources k d in
    let free_hot = each hot (Contains-get_or g.sources k d within) in
    not_from_false (is_forbidden c.forbids hot cold) free_hot)

-- ---- which links they are

module _ (c : Case) (places : List ℤ) (hot cold : List Part) (groups : List Group) where
  -- what holds of the links from hot parts, down the chains, and to cold parts
  abbrev pub Enters : (Link → Type 0) → Type 0
  Enters P = (i : ℕ) (p : Part) (g : Group) → slice_get hot i ≡ Some p → Contains groups g → Contains g.sources p.source
      → P (open_link i (g.first_node + depth_of places hot cold p))

  abbrev pub Descends : (Link → Type 0) → Type 0
  Descends P = (g : Group) (r stride : ℕ) → Contains groups g → 0 < stride → (r + stride) < chain_length places hot cold
      → P (open_link (g.first_node + r) (g.first_node + (r + stride)))

  abbrev pub Leaves : (Link → Type 0) → Type 0
  Leaves P = (g : Group) (i : ℕ) (q : Part) → Contains groups g → slice_get cold i ≡ Some q
      → ((source : Source) → Contains g.sources source → is_forbidden c.forbids source q.source ≡ false)
      → P (open_link (g.first_node + depth_of places hot cold q) (length hot + i))

  module _ (P : Link → Type 0) (enter : Enters P) (descend : Descends P) (leave : Leaves P) where
    all_entering : (i : ℕ) (p : Part) → slice_get hot i ≡ Some p
        → All P (entering_at (depth_of places hot cold) groups (i, p))
    all_entering i p at = each (find (has_source p.source) groups) refl
      where
        into : ℕ → Link
        into node = open_link i (node + depth_of places hot cold p)

        each : (o : Option Group) → find (has_source p.source) groups ≡ o
            → All P (option_to_list (option_map into (option_map (λ g. g.first_node) o)))
        each None none = All-nil P
        each (Some g) found =
            let (there, has) = find-some (has_source p.source) groups g found in
            All-cons P (into g.first_node) [] (enter i p g at there (has_source-true p.source g has)) (All-nil P)

    all_of_stride : (g : Group) → Contains groups g → (stride : ℕ) → 0 < stride
        → All P (stride_links g.first_node (chain_length places hot cold) stride)
    all_of_stride g found stride some =
        let count = (chain_length places hot cold - 1) / stride in
        All-map P (stride_link g.first_node stride) (range_with_len 0 count)
        (λ k d within.
        let early : k < count = omega (arith, within, length-range_with_len 0 count) in
        let step : k ≡ get_or (range_with_len 0 count) k d = omega (arith, get_or-range_with_len 0 count k d early) in
        let upto = (le-div_iff_mul-le {k = stride} {x = k + 1} {y = chain_length places hot cold - 1} some).0
        (omega (arith, early)) in
        let to : g.first_node + (k * stride + stride) ≡ g.first_node + k * stride + stride = omega arith in
        let link = descend g (k * stride) stride found some (omega (arith, upto, some)) in
        subst (λ n. P (stride_link g.first_node stride n)) step
        (subst (λ n. P (open_link (g.first_node + k * stride) n)) to link))

    all_leaving : (g : Group) → Contains groups g → (i : ℕ) (q : Part) → slice_get cold i ≡ Some q
        → All P (leaving_at c (depth_of places hot cold) (length hot) g (i, q))
    all_leaving g found i q at =
        let link = open_link (g.first_node + depth_of places hot cold q) (length hot + i) in
        All-cons_if P (is_permitted c g q.source) link [] (λ free.
        leave g i q found at (λ source there. permitted-each c g q.source source free there)) (All-nil P)

    all_of_group : (g : Group) → Contains groups g → All P (links_of_group c places hot cold g)
    unfolding onward
    all_of_group g found =
        let nodes = chain_length places hot cold in
        let room = 2 * length places in
        let strides = strides_within nodes room STRIDES in
        let of_strides = All-weaker (λ stride. 0 < stride) (λ stride. All P (stride_links g.first_node nodes stride))
        (all_of_stride g found) strides (positive-within nodes room) in
        let strided = All-flat_map P (stride_links g.first_node nodes) strides of_strides in
        let of_parts = All-enumerated (λ p. All P (leaving_at c (depth_of places hot cold) (length hot) g p)) cold
        (all_leaving g found) in
        let left_at =
        All-flat_map P (leaving_at c (depth_of places hot cold) (length hot) g) (enumerate_from 0 cold) of_parts in
        All-append P (onward g.first_node nodes room) (leaving c (depth_of places hot cold) (length hot) g cold) strided
        left_at

    -- what holds of each of them holds of all links
    pub All-chain_links : All P (chain_links c places hot cold groups)
    All-chain_links =
        let of_parts = All-enumerated (λ p. All P (entering_at (depth_of places hot cold) groups p)) hot all_entering in
        let entered = All-flat_map P (entering_at (depth_of places hot cold) groups) (enumerate_from 0 hot) of_parts in
        let in_groups = All-flat_map P (links_of_group c places hot cold) groups (λ k d within.
        all_of_group (get_or groups k d) (Contains-get_or groups k d within)) in
        All-append P (entering (depth_of places hot cold) groups hot)
        (flat_map (links_of_group c places hot cold) groups) entered in_groups

  -- ---- links that stand among them

  abbrev all_links : List Link
  all_links = chain_links c places hot cold groups

  in_group : (g : Group) (l : Link) → Contains groups g → Contains (links_of_group c places hot cold g) l
      → Contains all_links l
  in_group g l there link =
      let in_some = Contains-flat_map (links_of_group c places hot cold) groups g l there link in
      Contains-append_right (entering (depth_of places hot cold) groups hot)
      (flat_map (links_of_group c places hot cold) groups) l in_some

  -- the one link that a part has here
  of_part : (f : ℕ × Part → List Link) (parts : List Part) (i : ℕ) (p : Part) (l : Link)
      → slice_get parts i ≡ Some p → f (i, p) ≡ l ∷ []
      → Contains (flat_map f (enumerate_from 0 parts)) l
  of_part f parts i p l at is =
      let numbered = Contains-enumerated parts i p at in
      Contains-flat_map f (enumerate_from 0 parts) (i, p) l numbered
      (subst (λ ls. Contains ls l) (sym is) (0, omega arith, refl))

  -- the group whose chain a part enters
  pub record EntersBy (a : ℕ) (p : Part) (g : Group) : Type 0 where
    pub group_is : Contains groups g
    pub stands : Contains g.sources p.source
    pub link : Contains all_links (open_link a (g.first_node + depth_of places hot cold p))

  pub entered : (a : ℕ) (p : Part) (f : Group) → slice_get hot a ≡ Some p → Contains groups f
      → Contains f.sources p.source → (g : Group) × EntersBy a p g
  entered a p f at there stands =
      let (g, found) = find-there (has_source p.source) groups f there (has_source-there p.source f stands) in
      let (first, has) = find-some (has_source p.source) groups g found in
      let into = λ (node : ℕ). open_link a (node + depth_of places hot cold p) in
      let is = ap (λ o. option_to_list (option_map into (option_map (λ (h : Group). h.first_node) o))) found in
      let entering_link = of_part (entering_at (depth_of places hot cold) groups) hot a p (into g.first_node) at is in
      let link = Contains-append_left (entering (depth_of places hot cold) groups hot)
      (flat_map (links_of_group c places hot cold) groups) (into g.first_node) entering_link in
      (g, record { group_is = first; stands = has_source-true p.source g has; link = link })

  pub led_on : (g : Group) (r : ℕ) → Contains groups g → 0 < length places → (r + 1) < chain_length places hot cold
      → Contains all_links (open_link (g.first_node + r) (g.first_node + (r + 1)))
  led_on g r there some within =
      let next = open_link (g.first_node + r) (g.first_node + (r + 1)) in
      let nodes = chain_length places hot cold in
      let room = 2 * length places in
      let few = chain_length-le places hot cold some in
      let next_stands = next_onward g.first_node nodes room r (omega (arith, few)) within in
      let in_links = Contains-append_left (onward g.first_node nodes room)
      (leaving c (depth_of places hot cold) (length hot) g cold) next next_stands in
      in_group g next there in_links

  pub left : (g : Group) (b : ℕ) (q : Part) → Contains groups g → slice_get cold b ≡ Some q
      → is_permitted c g q.source ≡ true
      → Contains all_links (open_link (g.first_node + depth_of places hot cold q) (length hot + b))
  left g b q there at permitted =
      let out = open_link (g.first_node + depth_of places hot cold q) (length hot + b) in
      let is : leaving_at c (depth_of places hot cold) (length hot) g (b, q) ≡ out ∷ []
      = ap (λ b. cons_if b out []) permitted in
      let way_on = onward g.first_node (chain_length places hot cold) (2 * length places) in
      in_group g out there (Contains-append_right way_on (leaving c (depth_of places hot cold) (length hot) g cold) out
      (of_part (leaving_at c (depth_of places hot cold) (length hot) g) cold b q out at is))

  -- ---- how many there are

  pub few_chain_links : length all_links ≤ length hot + length groups * (length cold + 2 * length places)
  few_chain_links =
      let into =
      length-flat_map-le (entering_at (depth_of places hot cold) groups) 1 (enumerate_from 0 hot)
      (λ p. at_most_one p.0 p.1 (first_node_of groups p.1.source)) in
      let rest = length-flat_map-le (links_of_group c places hot cold) (length cold + 2 * length places) groups few in
      let both = length-append (entering (depth_of places hot cold) groups hot)
      (flat_map (links_of_group c places hot cold) groups) in
      omega (arith, into, rest, length-enumerate_from 0 hot, both)
    where
      at_most_one : (i : ℕ) (p : Part) (o : Option ℕ)
          → length (option_to_list (option_map (λ node. open_link i (node + depth_of places hot cold p)) o)) ≤ 1
      at_most_one i p None = omega arith
      at_most_one i p (Some node) = omega arith

      one_or_none : (l : Link) (b : Bool) → length (cons_if b l []) ≤ 1
      one_or_none l true = omega arith
      one_or_none l false = omega arith

      few : (g : Group) → length (links_of_group c places hot cold g) ≤ length cold + 2 * length places
      few g =
          let out =
          length-flat_map-le (leaving_at c (depth_of places hot cold) (length hot) g) 1 (enumerate_from 0 cold)
          (λ p. one_or_none _ (is_permitted c g p.1.source)) in
          let down = few_onward g.first_node (chain_length places hot cold) (2 * length places) in
          let both =
          length-append (onward g.first_node (chain_length places hot cold) (2 * length places))
          (leaving c (depth_of places hot cold) (length hot) g cold) in
          omega (arith, out, down, length-enumerate_from 0 cold, both)
