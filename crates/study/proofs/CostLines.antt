-- What a heat flow costs over the price of one utility is on a line; so the least cost never rises more at a higher price, and is on a line
-- between two prices at which it is, from two that are next to each other.
use Rattle.study.proofs.Words.{*ℤ-+ℤ, *ℤ--ℤ, *ℤ-zero, *ℤ-≤ℤ_right, *ℤ_assoc, *ℤ_comm, +ℤ-*ℤ, -ℤ-*ℤ, Cold, HasNoFlow}
use Rattle.study.proofs.Words.{Hot, IsHeatFlow, IsLeastCost, Part, Side, Source, Transfer, by_lt_z, cases_eq, cost_of}
use Rattle.study.proofs.Words.{heat_at, int_sum_from, ints, neg_ℤ, pos, price_at, price_of, priced, priced_part, set}
use Rattle.study.proofs.Words.{side_cost, ℤ, ≤ℤ_from_*ℤ, ◌*ℤ◌, ◌+ℤ◌, ◌-ℤ◌, ◌<ℤ◌, ◌≤ℤ◌}
use Rattle.std.proofs.Common.{Bool, List, ap, arith, get_or, length, map, refl, subst, suc, sym, ℕ, [], ⊎_elim, ◌<◌}
use Rattle.std.proofs.Common.{◌∙◌, ◌∷◌, ◌≡◌, ◌≢◌}
use Rattle.std.proofs.lemmas.List.{get_or-set_other, get_or-set_same}
use Rattle.stream_case.specs.declared.source.Source.TheVariants.{Stream as of_stream, Utility as of_utility}
use Rattle.study.proofs.PricedFlows.{flow-priced, flow-unpriced}

int_sum_from-map : {X Y : Type 0} (f : ℕ → Y → ℤ) (g : X → Y) (n : ℕ) (xs : List X)
    → int_sum_from f n (map g xs) ≡ int_sum_from (λ a x. f a (g x)) n xs
int_sum_from-map f g n [] = refl
int_sum_from-map f g n (x ∷ xs) = ap (λ z. f n (g x) +ℤ z) (int_sum_from-map f g (suc n) xs)

-- v moves on the line through v0 at 0 and v1 at 1
abbrev IsOnLine : ℤ → ℤ → ℤ → ℤ → Type 0
IsOnLine p v0 v1 v = v ≡ v0 +ℤ p *ℤ (v1 -ℤ v0)

line-same : (p v : ℤ) → IsOnLine p v v v
line-same p v =
    let none : v -ℤ v ≡ pos 0 = omega (arith, ints) in
    let zero_rise = ap (λ z. p *ℤ z) none ∙ *ℤ-zero p in
    omega (arith, ints)

line-itself : (p : ℤ) → IsOnLine p (pos 0) (pos 1) p
line-itself p = omega (arith, ints)

line-times : (p v0 v1 v h : ℤ) → IsOnLine p v0 v1 v → IsOnLine p (v0 *ℤ h) (v1 *ℤ h) (v *ℤ h)
line-times p v0 v1 v h is =
    ap (λ z. z *ℤ h) is ∙ +ℤ-*ℤ v0 (p *ℤ (v1 -ℤ v0)) h
    ∙ ap (λ z. v0 *ℤ h +ℤ z) (*ℤ_assoc p (v1 -ℤ v0) h ∙ ap (λ z. p *ℤ z) (-ℤ-*ℤ v1 v0 h))

line-plus : (p a0 a1 a b0 b1 b : ℤ) → IsOnLine p a0 a1 a → IsOnLine p b0 b1 b
    → IsOnLine p (a0 +ℤ b0) (a1 +ℤ b1) (a +ℤ b)
line-plus p a0 a1 a b0 b1 b one two =
    let e : a1 +ℤ b1 -ℤ (a0 +ℤ b0) ≡ (a1 -ℤ a0) +ℤ (b1 -ℤ b0) = omega (arith, ints) in
    let split = ap (λ z. p *ℤ z) e ∙ *ℤ-+ℤ p (a1 -ℤ a0) (b1 -ℤ b0) in
    omega (arith, ints)

line-sum : {X : Type 0} (p : ℤ) (f0 f1 f : ℕ → X → ℤ) (n : ℕ) (xs : List X)
    → ((a : ℕ) (x : X) → IsOnLine p (f0 a x) (f1 a x) (f a x))
    → IsOnLine p (int_sum_from f0 n xs) (int_sum_from f1 n xs) (int_sum_from f n xs)
line-sum p f0 f1 f n [] each = line-same p (pos 0)
line-sum p f0 f1 f n (x ∷ xs) each =
    line-plus p (f0 n x) (f1 n x) (f n x) (int_sum_from f0 (suc n) xs) (int_sum_from f1 (suc n) xs) (int_sum_from f (suc n) xs)
    (each n x) (line-sum p f0 f1 f (suc n) xs each)

module _ (own : List ℤ) (i : ℕ) (there : i < length own) where
  -- the prices with p as that of the utility
  abbrev pub at : ℤ → List ℤ
  at p = set own i p

  price_line : (p : ℤ) (source : Source) (x : ℤ)
      → IsOnLine p (price_of (at (pos 0)) source x) (price_of (at (pos 1)) source x) (price_of (at p) source x)
  price_line p (of_stream j) x = line-same p x
  price_line p (of_utility j) x =
      ⊎_elim (λ same. rw (here p same, here (pos 0) same, here (pos 1) same) (line-itself p))
      (λ other. rw (away p other, away (pos 0) other, away (pos 1) other) (line-same p (price_at own j))) (cases_eq j i)
    where
      here : (q : ℤ) → j ≡ i → price_at (at q) j ≡ q
      here q same = ap (λ k. get_or (at q) k (pos 0)) same ∙ get_or-set_same own i q (pos 0) there

      away : (q : ℤ) → j ≢ i → price_at (at q) j ≡ price_at own j
      away q other = get_or-set_other own i j q (pos 0) other

  side_line : (p : ℤ) (side : Side) (parts : List Part) (ts : List Transfer)
      → IsOnLine p (side_cost side (priced (at (pos 0)) parts) ts) (side_cost side (priced (at (pos 1)) parts) ts)
      (side_cost side (priced (at p) parts) ts)
  side_line p side parts ts =
      rw (own_sum p, own_sum (pos 0), own_sum (pos 1)) (line-sum p (term (pos 0)) (term (pos 1)) (term p) 0 parts
      (λ a q. line-times p (price_of (at (pos 0)) q.source q.price) (price_of (at (pos 1)) q.source q.price) (price_of (at p) q.source q.price)
      (heat_at side ts a) (price_line p q.source q.price)))
    where
      term : ℤ → ℕ → Part → ℤ
      term x a q = price_of (at x) q.source q.price *ℤ heat_at side ts a

      own_sum : (x : ℤ) → side_cost side (priced (at x) parts) ts ≡ int_sum_from (term x) 0 parts
      own_sum x = int_sum_from-map (λ a q. q.price *ℤ heat_at side ts a) (priced_part (at x)) 0 parts

  module _ (reach : ℕ → ℕ → Bool) (hot cold : List Part) where
    -- what transfers cost where the utility has the price p, and how much more for each 1 of it
    abbrev pub cost : ℤ → List Transfer → ℤ
    cost p ts = cost_of (priced (at p) hot) (priced (at p) cold) ts

    abbrev rise : List Transfer → ℤ
    rise ts = cost (pos 1) ts -ℤ cost (pos 0) ts

    abbrev pub Least : ℤ → ℤ → Type 0
    Least p v = IsLeastCost reach (priced (at p) hot) (priced (at p) cold) v

    abbrev pub Flow : ℤ → List Transfer → Type 0
    Flow p ts = IsHeatFlow reach (priced (at p) hot) (priced (at p) cold) ts

    -- from one price to another
    cost-moves : (p q : ℤ) (ts : List Transfer) → cost q ts ≡ cost p ts +ℤ rise ts *ℤ (q -ℤ p)
    cost-moves p q ts =
        let from = line p in
        let to = line q in
        let split = *ℤ--ℤ (rise ts) q p in
        let turn_p = *ℤ_comm (rise ts) p in
        let turn_q = *ℤ_comm (rise ts) q in
        omega (arith, ints)
      where
        line : (x : ℤ) → IsOnLine x (cost (pos 0) ts) (cost (pos 1) ts) (cost x ts)
        line x =
            let hots = λ (q : ℤ). side_cost Hot (priced (at q) hot) ts in
            let colds = λ (q : ℤ). side_cost Cold (priced (at q) cold) ts in
            line-plus x (hots (pos 0)) (hots (pos 1)) (hots x) (colds (pos 0)) (colds (pos 1)) (colds x)
            (side_line x Hot hot ts) (side_line x Cold cold ts)

    pub flow-moves : (p q : ℤ) (ts : List Transfer) → Flow p ts → Flow q ts
    flow-moves p q ts flow = flow-priced (at q) reach hot cold ts (flow-unpriced (at p) reach hot cold ts flow)

    -- no heat flow at one price, none at any
    pub none-moves : (p q : ℤ) → HasNoFlow reach (priced (at p) hot) (priced (at p) cold)
        → HasNoFlow reach (priced (at q) hot) (priced (at q) cold)
    none-moves p q none ts flow = none ts (flow-moves q p ts flow)

    -- a flow that is least at the middle of three prices bounds both rises
    pub rises-fall : (p a b d : ℤ) → Least p a → Least (p +ℤ pos 1) b → Least (p +ℤ pos 2) d → (d -ℤ b) ≤ℤ (b -ℤ a)
    rises-fall p a b d first middle last =
        let m = p +ℤ pos 1 in
        let ts = middle.transfers in
        let below = first.least ts (flow-moves m p ts middle.flow) in
        let above = last.least ts (flow-moves m (p +ℤ pos 2) ts middle.flow) in
        let down = cost-moves m p ts in
        let up = cost-moves m (p +ℤ pos 2) ts in
        let back : rise ts *ℤ (p -ℤ m) ≡ neg_ℤ (rise ts)
        = ap (λ z. rise ts *ℤ z) {x = p -ℤ m} {y = neg_ℤ (pos 1)} (omega (arith, ints))
        ∙ omega (arith, ints) in
        let on : rise ts *ℤ (p +ℤ pos 2 -ℤ m) ≡ rise ts
        = ap (λ z. rise ts *ℤ z) {x = p +ℤ pos 2 -ℤ m} {y = pos 1} (omega (arith, ints))
        ∙ omega (arith, ints) in
        omega (arith, ints, below, above, down, up, back, on, middle.costs)

    -- least costs on one line at p, at the next price and at q: each price between has its least cost there
    module _ (p q v s : ℤ) (first : Least p v) (next : Least (p +ℤ pos 1) (v +ℤ s)) (last : Least q (v +ℤ s *ℤ (q -ℤ p))) where
      abbrev middle : List Transfer
      middle = next.transfers

      steep : (p +ℤ pos 1) <ℤ q → rise middle ≡ s
      steep behind =
          let m = p +ℤ pos 1 in
          let u = rise middle in
          let below = first.least middle (flow-moves m p middle next.flow) in
          let above = last.least middle (flow-moves m q middle next.flow) in
          let down = cost-moves m p middle in
          let up = cost-moves m q middle in
          let back : u *ℤ (p -ℤ m) ≡ neg_ℤ u
          = ap (λ z. u *ℤ z) {x = p -ℤ m} {y = neg_ℤ (pos 1)} (omega (arith, ints)) ∙ omega (arith, ints) in
          let length_is : s *ℤ (q -ℤ p) ≡ s *ℤ (q -ℤ m) +ℤ s
          = ap (λ z. s *ℤ z) {x = q -ℤ p} {y = (q -ℤ m) +ℤ pos 1} (omega (arith, ints))
          ∙ *ℤ-+ℤ s (q -ℤ m) (pos 1) ∙ omega (arith, ints) in
          let upto : u ≤ℤ s = omega (arith, ints) in
          let from : s ≤ℤ u = ≤ℤ_from_*ℤ (q -ℤ m) s u (omega (arith, ints)) (omega (arith, ints)) in
          omega (arith, ints)

      between-costs : (r : ℤ) → (p +ℤ pos 1) <ℤ q → cost r middle ≡ v +ℤ s *ℤ (r -ℤ p)
      between-costs r behind =
          let m = p +ℤ pos 1 in
          let moved = cost-moves m r middle ∙ ap (λ z. cost m middle +ℤ z *ℤ (r -ℤ m)) (steep behind) in
          let length_is : s *ℤ (r -ℤ p) ≡ s *ℤ (r -ℤ m) +ℤ s
          = ap (λ z. s *ℤ z) {x = r -ℤ p} {y = (r -ℤ m) +ℤ pos 1} (omega (arith, ints))
          ∙ *ℤ-+ℤ s (r -ℤ m) (pos 1) ∙ omega (arith, ints) in
          omega (arith, ints)

      between-least : (r : ℤ) → p ≤ℤ r → r ≤ℤ q → (ts : List Transfer) → Flow r ts → (v +ℤ s *ℤ (r -ℤ p)) ≤ℤ cost r ts
      between-least r from upto ts flow =
          let w = rise ts in
          let below = first.least ts (flow-moves r p ts flow) in
          let above = last.least ts (flow-moves r q ts flow) in
          let up = cost-moves p r ts in
          let down = cost-moves q r ts in
          let split_q = *ℤ--ℤ s q p in
          let split_r = *ℤ--ℤ s r p in
          by_lt_z w s (λ less.
          let more = *ℤ-≤ℤ_right (q -ℤ r) w s (omega (arith, ints)) (omega (arith, ints)) in
          let w_down = *ℤ--ℤ w r q in
          let w_more = *ℤ--ℤ w q r in
          let s_more = *ℤ--ℤ s q r in
          omega (arith, ints)) (λ not_less.
          let more = *ℤ-≤ℤ_right (r -ℤ p) s w (omega (arith, ints)) not_less in
          omega (arith, ints))

      pub between : (r : ℤ) → p <ℤ q → p ≤ℤ r → r ≤ℤ q → Least r (v +ℤ s *ℤ (r -ℤ p))
      between r ahead from upto = by_lt_z (p +ℤ pos 1) q (λ behind. record {
        transfers = middle;
        flow = flow-moves (p +ℤ pos 1) r middle next.flow;
        costs = between-costs r behind;
        least = between-least r from upto;
      }) (λ adjacent.
          by_lt_z p r (λ later. let is : p +ℤ pos 1 ≡ r = omega (arith, ints) in
          subst (λ x. Least x (v +ℤ s *ℤ (x -ℤ p))) is (subst (Least (p +ℤ pos 1)) (ap (λ z. v +ℤ z) one_step) next))
          (λ not_later. let is : p ≡ r = omega (arith, ints) in subst (λ x. Least x (v +ℤ s *ℤ (x -ℤ p))) is (subst (Least p) no_step first)))
        where
          one_step : s ≡ s *ℤ (p +ℤ pos 1 -ℤ p)
          one_step =
              sym (ap (λ z. s *ℤ z) {x = p +ℤ pos 1 -ℤ p} {y = pos 1} (omega (arith, ints)) ∙ omega (arith, ints))

          no_step : v ≡ v +ℤ s *ℤ (p -ℤ p)
          no_step =
              let none = ap (λ z. s *ℤ z) {x = p -ℤ p} {y = pos 0} (omega (arith, ints)) ∙ *ℤ-zero s in
              omega (arith, ints)
