-- What an amount sent along an arc, or along a path, keeps and changes.
use Rattle.flow_net.proofs.Words.{All, All-head, All-tail, Arc, AreProofOfLeast, CanCarry, IsArc, IsWalk, IsWithinRooms, Link, carry, cases_eq}
use Rattle.flow_net.proofs.Words.{drop_more, flow_on, fold_more, get_or-set_other, get_or-set_same, get_or_read, ints, length-set, link_at}
use Rattle.flow_net.proofs.Words.{reduced_cost, reduced_cost_of, residual_of, sent_along, sent_along_path, sum_below}
use Rattle.std.proofs.Common.{Bool, List, [], ap, arith, drop, false, get_or, inl, inr, length, pos, refl, set, subst, sym, take, true, ℕ, ℤ, ◌+ℤ◌}
use Rattle.std.proofs.Common.{◌+◌, ◌-ℤ◌, ◌<ℤ◌, ◌<◌, ◌==◌, ◌∙◌, ◌∷◌, ◌≡◌, ◌≢◌, ◌≤ℤ◌}
use Rattle.flow_net.proofs.Duality.{surplus, when}
use Rattle.flow_net.proofs.Sums.{sum_below-change}
use Rattle.flow_net.proofs.ArcLemmas.{OfWays, arc_cases}

-- one link's flow changed
module _ (links : List Link) (flow : List ℤ) (k : ℕ) (below : k < length links)
    (one_each : length flow ≡ length links) (x : ℤ) where
  flow_here : flow_on (set flow k x) k ≡ x
  flow_here = get_or-set_same flow k x (pos 0) (omega arith)

  flow_there : (j : ℕ) → j ≢ k → flow_on (set flow k x) j ≡ flow_on flow j
  flow_there j ne = get_or-set_other flow k j x (pos 0) ne

  -- what holds of that link, and of each other one, holds of all
  each_link : (P : ℕ → Type 0) → P k → (j : ℕ) → (j ≢ k → P j) → P j
  each_link P here j there = elim (cases_eq j k) [ inl e ↦ subst P (sym e) here | inr ne ↦ there ne ]

  changed_rooms : IsWithinRooms links flow → pos 0 ≤ℤ x → x ≤ℤ (link_at links k).room
      → IsWithinRooms links (set flow k x)
  changed_rooms rooms from upto = record {
    one_each = length-set flow k x ∙ one_each;
    not_negative =
        λ j l.
        each_link (λ i. pos 0 ≤ℤ flow_on (set flow k x) i) (rw flow_here from) j (λ ne.
        rw (flow_there j ne) (rooms.not_negative j l));
    upto_room =
        λ j l.
        each_link (λ i. flow_on (set flow k x) i ≤ℤ (link_at links i).room) (rw flow_here upto) j (λ ne.
        rw (flow_there j ne) (rooms.upto_room j l));
  }

  -- a link that counts at node v by a test
  changed_sum : (test : ℕ → Bool) → sum_below (length links) (λ j. when (test j) (flow_on (set flow k x) j))
      ≡ sum_below (length links) (λ j. when (test j) (flow_on flow j)) +ℤ when (test k) (x -ℤ flow_on flow k)
  changed_sum test =
      let change = sum_below-change (length links) (λ j. when (test j) (flow_on flow j))
      (λ j. when (test j) (flow_on (set flow k x) j)) k below (λ j l ne. ap (when (test j)) (flow_there j ne)) in
      let here = ap (when (test k)) flow_here in
      let difference = less (test k) x (flow_on flow k) in
      omega (arith, ints, change, here, difference)
    where
      less : (p : Bool) (a b : ℤ) → when p a -ℤ when p b ≡ when p (a -ℤ b)
      less true a b = refl
      less false a b = omega (arith, ints)

  changed_surplus : (v : ℕ)
      → surplus links (set flow k x) v
      ≡ surplus links flow v
      +ℤ (when ((link_at links k).from == v) (x -ℤ flow_on flow k)
      -ℤ when ((link_at links k).to == v) (x -ℤ flow_on flow k))
  changed_surplus v =
      let out = changed_sum (λ j. (link_at links j).from == v) in
      let into = changed_sum (λ j. (link_at links j).to == v) in
      omega (arith, ints, out, into)

  changed_proof : (potentials : List ℤ) → AreProofOfLeast links flow potentials
      → reduced_cost (link_at links k) potentials ≡ pos 0
      → AreProofOfLeast links (set flow k x) potentials
  changed_proof potentials proof none = record {
    left_to_add =
        λ j l.
        each_link (λ i.
        flow_on (set flow k x) i <ℤ (link_at links i).room → pos 0 ≤ℤ reduced_cost (link_at links i) potentials)
        (λ left. omega (arith, ints)) j (λ ne. rw (flow_there j ne) (proof.left_to_add j l));
    flowing =
        λ j l.
        each_link (λ i. pos 0 <ℤ flow_on (set flow k x) i → reduced_cost (link_at links i) potentials ≤ℤ pos 0)
        (λ some. omega (arith, ints)) j (λ ne. rw (flow_there j ne) (proof.flowing j l));
  }

-- what ends of a path get more of an amount: its first node more to give, its last node less
abbrev pub ends_gain : ℕ → ℕ → ℤ → ℕ → ℤ
ends_gain u w m v = when (u == v) m -ℤ when (w == v) m

-- an amount sent along an arc
module _ (links : List Link) (flow : List ℤ) (m : ℤ) (rooms : IsWithinRooms links flow) where
  sent-rooms : (a : Arc) → IsArc links a → pos 0 ≤ℤ m → m ≤ℤ residual_of links flow a
      → IsWithinRooms links (sent_along flow a m)
  sent-rooms =
      arc_cases links (λ a. pos 0 ≤ℤ m → m ≤ℤ residual_of links flow a → IsWithinRooms links (sent_along flow a m)) way
    where
      way : OfWays links (λ a. pos 0 ≤ℤ m → m ≤ℤ residual_of links flow a → IsWithinRooms links (sent_along flow a m))
      way k true below from upto =
          let carried = rooms.not_negative k below in
          changed_rooms links flow k below rooms.one_each (flow_on flow k +ℤ m) rooms (omega (arith, ints))
          (omega (arith, ints))
      way k false below from upto =
          let carried = rooms.upto_room k below in
          changed_rooms links flow k below rooms.one_each (flow_on flow k -ℤ m) rooms (omega (arith, ints))
          (omega (arith, ints))

  sent-surplus : (v : ℕ) (a : Arc) → IsArc links a
      → surplus links (sent_along flow a m) v ≡ surplus links flow v +ℤ ends_gain a.tail a.head m v
  sent-surplus v =
      arc_cases links (λ a. surplus links (sent_along flow a m) v ≡ surplus links flow v +ℤ ends_gain a.tail a.head m v)
      way
    where
      more : (x : ℤ) → (x +ℤ m) -ℤ x ≡ m
      more x = omega (arith, ints)

      less : (p q : Bool) (x : ℤ) → when p ((x -ℤ m) -ℤ x) -ℤ when q ((x -ℤ m) -ℤ x) ≡ when q m -ℤ when p m
      less true true x = omega (arith, ints)
      less true false x = omega (arith, ints)
      less false true x = omega (arith, ints)
      less false false x = omega (arith, ints)

      way : OfWays links
          (λ a. surplus links (sent_along flow a m) v ≡ surplus links flow v +ℤ ends_gain a.tail a.head m v)
      way k true below =
          changed_surplus links flow k below rooms.one_each (flow_on flow k +ℤ m) v
          ∙ ap (λ d. surplus links flow v +ℤ ends_gain (link_at links k).from (link_at links k).to d v)
          (more (flow_on flow k))
      way k false below =
          changed_surplus links flow k below rooms.one_each (flow_on flow k -ℤ m) v
          ∙ ap (λ d. surplus links flow v +ℤ d)
          (less ((link_at links k).from == v) ((link_at links k).to == v) (flow_on flow k))

  sent-proof : (potentials : List ℤ) → AreProofOfLeast links flow potentials → (a : Arc) → IsArc links a
      → reduced_cost_of potentials a ≡ pos 0
      → AreProofOfLeast links (sent_along flow a m) potentials
  sent-proof potentials proof =
      arc_cases links
      (λ a. reduced_cost_of potentials a ≡ pos 0 → AreProofOfLeast links (sent_along flow a m) potentials) way
    where
      way : OfWays links
          (λ a. reduced_cost_of potentials a ≡ pos 0 → AreProofOfLeast links (sent_along flow a m) potentials)
      way k true below none =
          changed_proof links flow k below rooms.one_each (flow_on flow k +ℤ m) potentials proof none
      way k false below none =
          changed_proof links flow k below rooms.one_each (flow_on flow k -ℤ m) potentials proof (omega (arith, ints))

-- a path whose first arc carries the amount: the rest can carry it still
module _ (links : List Link) (flow : List ℤ) (a : Arc) (path : List Arc) (m : ℤ) (rooms : IsWithinRooms links flow)
    (can : CanCarry links flow (a ∷ path) m) where
  pub first_arc : IsArc links a
  first_arc = All-head (IsArc links) a path can.arcs

  pub first_rooms : pos 0 ≤ℤ m → IsWithinRooms links (sent_along flow a m)
  first_rooms from =
      sent-rooms links flow m rooms a first_arc from (All-head (λ b. m ≤ℤ residual_of links flow b) a path can.residual)

  pub CanCarry-rest : CanCarry links (sent_along flow a m) path m
  CanCarry-rest = record {
    arcs = All-tail (IsArc links) a path can.arcs;
    apart = can.apart.1;
    residual = λ k d l. let b = get_or path k d in
        let same = get_or-set_other flow a.link b.link (carry a (flow_on flow a.link) m) (pos 0) (can.apart.0 k d l) in
        let before = All-tail (λ b. m ≤ℤ residual_of links flow b) a path can.residual k d l in
        rw same before;
  }

-- the flow after an amount is sent along a path
pub path-rooms : (links : List Link) (flow : List ℤ) (path : List Arc) (m : ℤ) → pos 0 ≤ℤ m
    → IsWithinRooms links flow → CanCarry links flow path m
    → IsWithinRooms links (sent_along_path flow path m)
path-rooms links flow [] m from rooms can = rooms
path-rooms links flow (a ∷ path) m from rooms can =
    let rest_rooms = first_rooms links flow a path m rooms can from in
    let rest_carries = CanCarry-rest links flow a path m rooms can in
    path-rooms links (sent_along flow a m) path m from rest_rooms rest_carries

pub path-proof : (links : List Link) (flow potentials : List ℤ) (path : List Arc) (m : ℤ) → pos 0 ≤ℤ m
    → IsWithinRooms links flow → CanCarry links flow path m
    → All (λ a. reduced_cost_of potentials a ≡ pos 0) path → AreProofOfLeast links flow potentials
    → AreProofOfLeast links (sent_along_path flow path m) potentials
path-proof links flow potentials [] m from rooms can none proof = proof
path-proof links flow potentials (a ∷ path) m from rooms can none proof =
    let rest_rooms = first_rooms links flow a path m rooms can from in
    let rest_carries = CanCarry-rest links flow a path m rooms can in
    let rest_none = All-tail (λ b. reduced_cost_of potentials b ≡ pos 0) a path none in
    let first_is = first_arc links flow a path m rooms can in
    let first_none = All-head (λ b. reduced_cost_of potentials b ≡ pos 0) a path none in
    let first_proof = sent-proof links flow m rooms potentials proof a first_is first_none in
    path-proof links (sent_along flow a m) potentials path m from rest_rooms rest_carries rest_none first_proof

-- only the ends of a path have another surplus
pub path-surplus : (links : List Link) (flow : List ℤ) (path : List Arc) (m : ℤ) (u w v : ℕ) → pos 0 ≤ℤ m
    → IsWithinRooms links flow
    → CanCarry links flow path m → IsWalk path u w
    → surplus links (sent_along_path flow path m) v ≡ surplus links flow v +ℤ ends_gain u w m v
path-surplus links flow [] m u w v from rooms can walk =
    subst (λ x. surplus links flow v ≡ surplus links flow v +ℤ ends_gain u x m v) walk (omega (arith, ints))
path-surplus links flow (a ∷ path) m u w v from rooms can walk =
    let rest_rooms = first_rooms links flow a path m rooms can from in
    let rest_carries = CanCarry-rest links flow a path m rooms can in
    let rest = path-surplus links (sent_along flow a m) path m a.head w v from rest_rooms rest_carries walk.1 in
    let first = sent-surplus links flow m rooms v a (first_arc links flow a path m rooms can) in
    let begins = ap (λ x. when (x == v) m) walk.0 in
    omega (arith, ints, rest, first, begins)

-- what the code reads past the end of a list of arcs
abbrev pub no_arc : Arc
no_arc = record { tail = 0; head = 0; link = 0; forward = false; cost = pos 0 }

-- a loop's step along a path
module _ (links : List Link) (flow : List ℤ) (path : List Arc) (m : ℤ) (i : ℕ) (within : i < length path)
    (rooms : IsWithinRooms links flow) (can : CanCarry links flow (drop i path) m) where
  next_can : CanCarry links flow (get_or path i no_arc ∷ drop (i + 1) path) m
  next_can = subst (λ p. CanCarry links flow p m) (drop_more path i no_arc within) can

  pub next_arc : IsArc links (get_or path i no_arc)
  next_arc = first_arc links flow (get_or path i no_arc) (drop (i + 1) path) m rooms next_can

  -- what its link carries, as the code reads it
  pub next_carried : (x : ℤ) → x ≡ get_or flow (get_or path i no_arc).link x
      → x ≡ flow_on flow (get_or path i no_arc).link
  next_carried x e =
      get_or_read flow (get_or path i no_arc).link x
      (let b = next_arc.below in let each = rooms.one_each in omega arith) e (pos 0)

  pub next_rooms : pos 0 ≤ℤ m → IsWithinRooms links (sent_along flow (get_or path i no_arc) m)
  next_rooms = first_rooms links flow (get_or path i no_arc) (drop (i + 1) path) m rooms next_can

  pub next_carries : CanCarry links (sent_along flow (get_or path i no_arc) m) (drop (i + 1) path) m
  next_carries = CanCarry-rest links flow (get_or path i no_arc) (drop (i + 1) path) m rooms next_can

  pub next_sent : (first : List ℤ) → flow ≡ sent_along_path first (take i path) m
      → sent_along flow (get_or path i no_arc) m ≡ sent_along_path first (take (i + 1) path) m
  next_sent first e =
      ap (λ f. sent_along f (get_or path i no_arc) m) e
      ∙ sym (fold_more (λ f a. sent_along f a m) first path i no_arc within)
