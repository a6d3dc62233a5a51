-- The net around an inner net: sums over its links, and where they stand.
use Rattle.transport.proofs.Words.{All, All-append, All-cons, All-nil, Cold, Ends, Hot, Link, Net, Part, Side, Some, ends_behind, get_or-append-add}
use Rattle.transport.proofs.Words.{get_or_append_left, int_sum_from, int_sum_from-append, ints, link_at, links_between, links_of_parts, most_of}
use Rattle.transport.proofs.Words.{net_around, parts_of, pos, same_Some, slice_get, slice_get_within, spare_link, whole_link, ℤ, ◌+ℤ◌}
use Rattle.std.proofs.Common.{List, [], ap, ap₂, arith, get_or, length, length-append, refl, subst, suc, zero, ℕ, ◌*◌, ◌++◌, ◌+◌, ◌<◌, ◌∙◌, ◌∷◌, ◌≡◌}

pub length-links_of_parts : (side : Side) (ends : Ends) (node : ℕ) (parts : List Part)
    → length (links_of_parts side ends node parts) ≡ 2 * length parts
length-links_of_parts side ends node [] = refl
length-links_of_parts side ends node (p ∷ parts) =
    let rest = length-links_of_parts side ends (suc node) parts in
    omega arith

int_sum_from-links : (side : Side) (ends : Ends) (f : ℕ → Link → ℤ) (first start n node i : ℕ) (parts : List Part)
    → n ≡ first + 2 * i → node ≡ start + i
    → int_sum_from f n (links_of_parts side ends node parts)
    ≡ int_sum_from (λ j p.
    f (first + 2 * j) (whole_link side ends (start + j) p)
    +ℤ f (first + 2 * j + 1) (spare_link side ends (start + j) p))
    i parts
int_sum_from-links side ends f first start n node i [] e k = refl
int_sum_from-links side ends f first start n node i (p ∷ parts) e k =
    let next : suc n ≡ first + 2 * i + 1 = omega arith in
    let whole : f n (whole_link side ends node p) ≡ f (first + 2 * i) (whole_link side ends (start + i) p)
    = ap₂ (λ a b. f a (whole_link side ends b p)) e k in
    let spare : f (suc n) (spare_link side ends node p) ≡ f (first + 2 * i + 1) (spare_link side ends (start + i) p) =
    ap₂ (λ a b. f a (spare_link side ends b p)) next k in
    let rest =
    int_sum_from-links side ends f first start (suc (suc n)) (suc node) (suc i) parts (omega arith) (omega arith) in
    omega (arith, ints)

-- ---- the links around an inner net

abbrev pub ends : Net → Ends
ends inner = ends_behind inner.nodes

module _ (hot cold : List Part) (inner : Net) where
  -- the index of the first link of a side's parts, and the node of its first part
  abbrev pub first_link : Side → ℕ
  first_link Hot = length inner.links
  first_link Cold = length inner.links + 2 * length hot

  abbrev pub first_node : Side → ℕ
  first_node Hot = 0
  first_node Cold = length hot

  -- the indices of the two links of the part at an index
  abbrev pub whole_at : Side → ℕ → ℕ
  whole_at side i = first_link side + 2 * i

  abbrev pub spare_at : Side → ℕ → ℕ
  spare_at side i = first_link side + 2 * i + 1

  -- the index of the first of the three links between the further nodes
  abbrev pub between_at : ℕ
  between_at = length inner.links + 2 * length hot + 2 * length cold

  -- what a sum over all links takes from the links of a side's parts
  abbrev pub parts_sum : Side → (ℕ → Link → ℤ) → List Part → ℤ
  parts_sum side f parts = int_sum_from
      (λ i p. f (whole_at side i) (whole_link side (ends inner) (first_node side + i) p) +ℤ f (spare_at side i)
      (spare_link side (ends inner) (first_node side + i) p)) 0 parts

  -- and from those between the further nodes
  abbrev pub between_sum : (ℕ → Link → ℤ) → ℤ
  between_sum f = int_sum_from f between_at (links_between (ends inner) (most_of hot) (most_of cold))

  pub sum_around : (f : ℕ → Link → ℤ)
      → int_sum_from f 0 (net_around hot cold inner).links
      ≡ int_sum_from f 0 inner.links +ℤ (parts_sum Hot f hot +ℤ (parts_sum Cold f cold +ℤ between_sum f))
  sum_around f =
      let hot_links = links_of_parts Hot (ends inner) 0 hot in
      let cold_links = links_of_parts Cold (ends inner) (length hot) cold in
      let between = links_between (ends inner) (most_of hot) (most_of cold) in
      let all = int_sum_from-append f 0 inner.links (hot_links ++ (cold_links ++ between)) in
      let after = int_sum_from-append f (0 + length inner.links) hot_links (cold_links ++ between) in
      let last = int_sum_from-append f (0 + length inner.links + length hot_links) cold_links between in
      let h = length-links_of_parts Hot (ends inner) 0 hot in
      let k = length-links_of_parts Cold (ends inner) (length hot) cold in
      let hots = int_sum_from-links Hot (ends inner) f (first_link Hot) 0 (0 + length inner.links) 0 0 hot (omega arith)
      (omega arith) in
      let colds = int_sum_from-links Cold (ends inner) f (first_link Cold) (length hot)
      (0 + length inner.links + length hot_links) (length hot) 0 cold (omega arith) (omega arith) in
      let three = ap (λ n. int_sum_from f n between)
      {x = 0 + length inner.links + length hot_links + length cold_links} {y = between_at} (omega arith) in
      omega (arith, ints)

-- ---- where the links of a net around an inner net stand

-- the link that `link_at` gives where there is none
abbrev pub no_link : Link
no_link = record { from = 0; to = 0; room = pos 0; cost = pos 0 }

parts_there : (side : Side) (e : Ends) (node : ℕ) (parts : List Part) (i : ℕ) (p : Part) (d : Link)
    → slice_get parts i ≡ Some p
    → (get_or (links_of_parts side e node parts) (2 * i) d ≡ whole_link side e (node + i) p)
    × (get_or (links_of_parts side e node parts) (2 * i + 1) d ≡ spare_link side e (node + i) p)
parts_there side e node [] i p d at = cc at
parts_there side e node (q ∷ parts) zero p d at =
    let here : node ≡ node + 0 = omega arith in
    (ap₂ (whole_link side e) here (same_Some q p at), ap₂ (spare_link side e) here (same_Some q p at))
parts_there side e node (q ∷ parts) (suc i) p d at =
    let (whole, spare) = parts_there side e (suc node) parts i p d at in
    let links = links_of_parts side e node (q ∷ parts) in
    let there : suc node + i ≡ node + suc i = omega arith in (
      ap (λ k. get_or links k d) {x = 2 * suc i} {y = suc (suc (2 * i))} (omega arith) ∙ whole
          ∙ ap (λ n. whole_link side e n p) there,
      ap (λ k. get_or links k d) {x = 2 * suc i + 1} {y = suc (suc (2 * i + 1))} (omega arith) ∙ spare
          ∙ ap (λ n. spare_link side e n p) there,
    )

pub All-links_of_parts : (P : Link → Type 0) (side : Side) (e : Ends) (node : ℕ) (parts : List Part)
    → ((i : ℕ) (p : Part) → slice_get parts i ≡ Some p
    → P (whole_link side e (node + i) p) × P (spare_link side e (node + i) p))
    → All P (links_of_parts side e node parts)
All-links_of_parts P side e node [] each = All-nil P
All-links_of_parts P side e node (p ∷ parts) each =
    let here : node + 0 ≡ node = omega arith in
    let (whole, spare) = subst (λ n. P (whole_link side e n p) × P (spare_link side e n p)) here (each 0 p refl) in
    let next = λ (i : ℕ). let same : node + suc i ≡ suc node + i = omega arith in
    same in
    let others = All-links_of_parts P side e (suc node) parts (λ i q at.
    subst (λ n. P (whole_link side e n q) × P (spare_link side e n q)) (next i) (each (suc i) q at)) in
    let others_and_spare =
    All-cons P (spare_link side e node p) (links_of_parts side e (suc node) parts) spare others in
    All-cons P (whole_link side e node p) (spare_link side e node p ∷ links_of_parts side e (suc node) parts) whole
    others_and_spare

-- ---- the links of the net

-- link k of the net
pub record IsLinkAt (net : Net) (k : ℕ) (l : Link) : Type 0 where
  pub within : k < length net.links
  pub is : link_at net.links k ≡ l

module _ (hot cold : List Part) (inner : Net) where
  -- the links of the parts of a side
  abbrev links_of : Side → List Link
  links_of side = links_of_parts side (ends inner) (first_node hot cold inner side) (parts_of side hot cold)

  abbrev between : List Link
  between = links_between (ends inner) (most_of hot) (most_of cold)

  abbrev net : Net
  net = net_around hot cold inner

  length-of : (side : Side) → length (links_of side) ≡ 2 * length (parts_of side hot cold)
  length-of side = length-links_of_parts side (ends inner) (first_node hot cold inner side) (parts_of side hot cold)

  pub length-net_around : length net.links ≡ between_at hot cold inner + 3
  length-net_around =
      let all = length-append inner.links (links_of Hot ++ (links_of Cold ++ between)) in
      let after = length-append (links_of Hot) (links_of Cold ++ between) in
      let last = length-append (links_of Cold) between in
      let three : length between ≡ 3 = refl in
      omega (arith, length-of Hot, length-of Cold, all, after, last, three)

  pub inner_at : (k : ℕ) → k < length inner.links → IsLinkAt net k (link_at inner.links k)
  inner_at k within = record {
    within = omega (arith, within, length-net_around);
    is = get_or_append_left inner.links (links_of Hot ++ (links_of Cold ++ between)) no_link k within;
  }

  -- what stands at an index behind the links of a front
  past : (front rest : List Link) (k j : ℕ) → k ≡ length front + j
      → get_or (front ++ rest) k no_link ≡ get_or rest j no_link
  past front rest k j is = ap (λ n. get_or (front ++ rest) n no_link) is ∙ get_or-append-add front rest j no_link

  past_hot : (k j : ℕ) → k ≡ length inner.links + 2 * length hot + j
      → get_or net.links k no_link ≡ get_or (links_of Cold ++ between) j no_link
  past_hot k j is =
      past inner.links (links_of Hot ++ (links_of Cold ++ between)) k (length (links_of Hot) + j)
      (omega (arith, is, length-of Hot))
      ∙ past (links_of Hot) (links_of Cold ++ between) (length (links_of Hot) + j) j refl

  pub between_is : (j : ℕ) → j < 3 → IsLinkAt net (between_at hot cold inner + j) (link_at between j)
  between_is j within = record {
    within = omega (arith, within, length-net_around);
    is =
        past_hot (between_at hot cold inner + j) (length (links_of Cold) + j) (omega (arith, length-of Cold))
        ∙ past (links_of Cold) between (length (links_of Cold) + j) j refl;
  }

  -- a link of a side's parts
  of_side : (side : Side) (j k : ℕ) (l : Link) → j < 2 * length (parts_of side hot cold)
      → k ≡ first_link hot cold inner side + j
      → get_or (links_of side) j no_link ≡ l → IsLinkAt net k l
  of_side Hot j k l early at is = record {
    within = omega (arith, early, at, length-net_around);
    is =
        past inner.links (links_of Hot ++ (links_of Cold ++ between)) k j at
        ∙ get_or_append_left (links_of Hot) (links_of Cold ++ between) no_link j (omega (arith, early, length-of Hot))
        ∙ is;
  }
  of_side Cold j k l early at is = record {
    within = omega (arith, early, at, length-net_around);
    is =
        past_hot k j at ∙ get_or_append_left (links_of Cold) between no_link j (omega (arith, early, length-of Cold))
        ∙ is;
  }

  module _ (side : Side) (i : ℕ) (p : Part) (at : slice_get (parts_of side hot cold) i ≡ Some p) where
    links_there : (get_or (links_of side) (2 * i) no_link
        ≡ whole_link side (ends inner) (first_node hot cold inner side + i) p)
        × (get_or (links_of side) (2 * i + 1) no_link
        ≡ spare_link side (ends inner) (first_node hot cold inner side + i) p)
    links_there = parts_there side (ends inner) (first_node hot cold inner side) (parts_of side hot cold) i p no_link at

    pub whole_is : IsLinkAt net (whole_at hot cold inner side i)
        (whole_link side (ends inner) (first_node hot cold inner side + i) p)
    whole_is =
        of_side side (2 * i) _ _ (let early = slice_get_within (parts_of side hot cold) i p at in omega (arith, early))
        refl links_there.0

    pub spare_is : IsLinkAt net (spare_at hot cold inner side i)
        (spare_link side (ends inner) (first_node hot cold inner side + i) p)
    spare_is =
        of_side side (2 * i + 1) _ _
        (let early = slice_get_within (parts_of side hot cold) i p at in omega (arith, early)) (omega arith)
        links_there.1

  -- what holds of the three links between the further nodes
  pub All-between : (P : Link → Type 0) → P (link_at between 0) → P (link_at between 1) → P (link_at between 2)
      → All P between
  All-between P one two three =
      let last_one = All-cons P (link_at between 2) [] three (All-nil P) in
      let last_two = All-cons P (link_at between 1) (link_at between 2 ∷ []) two last_one in
      All-cons P (link_at between 0) (link_at between 1 ∷ link_at between 2 ∷ []) one last_two

  -- what holds of the two links of each part
  abbrev pub OfParts : (Link → Type 0) → Type 0
  OfParts P =
      (side : Side) (i : ℕ) (p : Part) → slice_get (parts_of side hot cold) i ≡ Some p
      → P (whole_link side (ends inner) (first_node hot cold inner side + i) p)
      × P (spare_link side (ends inner) (first_node hot cold inner side + i) p)

  -- what holds of all links of a net around an inner net
  pub All-net_around : (P : Link → Type 0) → All P inner.links → OfParts P → All P between → All P net.links
  All-net_around P inside parts last =
      let hot_links = All-links_of_parts P Hot (ends inner) 0 hot (parts Hot) in
      let cold_links = All-links_of_parts P Cold (ends inner) (length hot) cold (parts Cold) in
      let after_hot = All-append P (links_of Cold) between cold_links last in
      let behind = All-append P (links_of Hot) (links_of Cold ++ between) hot_links after_hot in
      All-append P inner.links (links_of Hot ++ (links_of Cold ++ between)) inside behind
