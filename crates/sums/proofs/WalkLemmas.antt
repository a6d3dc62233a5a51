-- A walk along two lists of amounts that are laid end to end on one axis: from each point where an amount ends to the next such point.
use Rattle.std.proofs.Common.{All, AllPairs, Bool, Contains, Decides, List, [], add-zero, ap, ap₂, arith, eq-eqb, false, get_or, if◌then◌else◌, inl, inr}
use Rattle.std.proofs.Common.{int_eq, int_lt, length, ne_eqb, pos, refl, subst, suc, sym, take_all, true, zero, ℕ, ℤ, ⊎_elim, ◌++◌, ◌+ℤ◌, ◌+◌, ◌-ℤ◌, ◌-◌, ◌<ℤ◌}
use Rattle.std.proofs.Common.{◌<◌, ◌==◌, ◌∙◌, ◌∷◌, ◌≡◌, ◌≢◌, ◌≤ℤ◌, ◌≤◌, ◌⊎◌}
use Rattle.sums.proofs.Words.{All-append, All-nil, All-tail, All-weaker, Contains-append_left, Contains-append_right, Decides-int_eq, IsWithin, Pair, Progress}
use Rattle.sums.proofs.Words.{by_lt_z, cases_eq, cases_lt, clamps, cons_if, cons_positive, int_max, int_min, int_sum_by, ints, progress_after}
use Rattle.sums.proofs.ConsLemmas.{All-cons_if, AllPairs-cons_if, Contains-cons_if_here}
use Rattle.sums.proofs.IntegerLemmas.{if_zero, int_lt-from, int_lt-true}
use Rattle.sums.proofs.OrderLemmas.{AllPairs-append, AllPairs-nil, Lists-unique}
use Rattle.sums.proofs.SumLemmas.{int_sum_by-append}
use Rattle.sums.specs.Spans.{IsOverlap, ListsOverlaps, NotNegative, begin_of, overlap, pair_before}

-- ---- the spans of one list

pub begin_of-suc : (xs : List ℤ) (a : ℕ) → begin_of xs (suc a) ≡ begin_of xs a +ℤ get_or xs a (pos 0)
begin_of-suc [] zero = refl
begin_of-suc [] (suc a) = refl
begin_of-suc (x ∷ xs) zero = omega (arith, ints)
begin_of-suc (x ∷ xs) (suc a) = let rest = begin_of-suc xs a in omega (arith, ints)

pub begin_of-next : (xs : List ℤ) → NotNegative xs → (a : ℕ) → begin_of xs a ≤ℤ begin_of xs (suc a)
begin_of-next [] h zero = omega (arith, ints)
begin_of-next [] h (suc a) = omega (arith, ints)
begin_of-next (x ∷ xs) h zero = let first = h 0 x (omega arith) in omega (arith, ints)
begin_of-next (x ∷ xs) h (suc a) =
    let rest = begin_of-next xs (All-tail (λ y. pos 0 ≤ℤ y) x xs h) a in
    omega (arith, ints)

-- how much of a span lies before a point
abbrev pub part_before : List ℤ → ℤ → ℕ → ℤ
part_before xs at a = int_min at (begin_of xs (suc a)) -ℤ int_min at (begin_of xs a)

module _ (xs : List ℤ) (h : NotNegative xs) where
  pub begin_of-rises : (a b : ℕ) → a ≤ b → begin_of xs a ≤ℤ begin_of xs b
  begin_of-rises a b le =
      let same : a + (b - a) ≡ b = omega (arith, le) in
      subst (λ c. begin_of xs a ≤ℤ begin_of xs c) same (further (b - a))
    where
      further : (n : ℕ) → begin_of xs a ≤ℤ begin_of xs (a + n)
      further zero = rw add-zero (omega (arith, ints))
      further (suc n) =
          let before = further n in
          let step = begin_of-next xs h (a + n) in
          let same : a + suc n ≡ suc (a + n) = omega arith in
          rw same (omega (arith, ints))

  -- a span that begins before another ends does not stand behind it
  index_upto : (a i : ℕ) → begin_of xs a <ℤ begin_of xs (suc i) → a ≤ i
  index_upto a i before =
      ⊎_elim (λ later. let rises = begin_of-rises (suc i) a (omega (arith, later)) in absurd (omega (arith, ints))) (λ upto. upto) (cases_lt i a)

  -- the point goes on to the next one within the span at i
  part_before-moved : (i a : ℕ) (at next more : ℤ) → begin_of xs i ≤ℤ at → at ≤ℤ next
      → next ≤ℤ begin_of xs (suc i) → more ≡ next -ℤ at
      → part_before xs next a ≡ part_before xs at a +ℤ (if i == a then more else pos 0)
  part_before-moved i a at next more from some upto gives = by (cases_eq i a) (cases_lt a i)
    where
      by : (i ≡ a) ⊎ (i ≢ a) → (a < i) ⊎ (i ≤ a)
          → part_before xs next a ≡ part_before xs at a +ℤ (if i == a then more else pos 0)
      by (inl same) other =
          let here = ap (begin_of xs) same in
          let end = ap (λ c. begin_of xs (suc c)) same in
          rw (eq-eqb i a same) (omega (arith, ints, clamps))
      by (inr differ) (inl before) =
          let rises = begin_of-rises (suc a) i (omega (arith, before)) in
          let own = begin_of-next xs h a in
          rw (ne_eqb i a differ) (omega (arith, ints, clamps))
      by (inr differ) (inr behind) =
          let rises = begin_of-rises (suc i) a (omega (arith, behind, differ)) in
          let own = begin_of-next xs h a in
          rw (ne_eqb i a differ) (omega (arith, ints, clamps))

-- a walk stands at a point of the span at its index
pub record Stands (xs : List ℤ) (p : Progress) (at : ℤ) : Type 0 where
  pub within : IsWithin xs p
  pub given : p.given ≡ at -ℤ begin_of xs p.index

-- and goes on to the next point: to the next span, where this one ends
record GoesOn (xs : List ℤ) (p after : Progress) (next : ℤ) : Type 0 where
  stands : Stands xs after next
  behind : p.index ≤ after.index
  ends : next ≡ begin_of xs (suc p.index) → after.index ≡ suc p.index

goes_on : (xs : List ℤ) (p : Progress) (at next more : ℤ) → NotNegative xs → Stands xs p at → at ≤ℤ next
    → next ≤ℤ begin_of xs (suc p.index) → more ≡ next -ℤ at
    → GoesOn xs p (progress_after xs p more) next
goes_on xs p at next more h stands some upto gives = by (int_eq given amount) (Decides-int_eq given amount)
  where
    given : ℤ
    given = p.given +ℤ more

    amount : ℤ
    amount = get_or xs p.index (pos 0)

    by : (b : Bool) → Decides b (given ≡ amount)
        → GoesOn xs p (if b then record { index = p.index + 1; given = pos 0 } else record { index = p.index; given = given }) next
    by true d =
        let whole = d.0 refl in
        let is = stands.given in
        let end = begin_of-suc xs p.index in
        let count : p.index + 1 ≡ suc p.index = omega arith in
        let begin = ap (begin_of xs) count in
        let step = begin_of-next xs h (p.index + 1) in
        let span = begin_of-suc xs (p.index + 1) in
        record {
          stands =
              record { within = record { from = omega (arith, ints); upto = omega (arith, ints) }; given = omega (arith, ints) };
          behind = omega arith;
          ends = λ e. count;
        }
    by false d =
        let is = stands.given in
        let within = stands.within in
        let end = begin_of-suc xs p.index in
        record {
          stands =
              record { within = record { from = omega (arith, ints); upto = omega (arith, ints) }; given = omega (arith, ints) };
          behind = omega arith;
          ends = λ e. let whole = d.1 (omega (arith, ints)) in cc whole;
        }

-- ---- the pairs of a walk

-- two pairs do not stand before each other
pub pair_one_way : (p q : Pair) → pair_before p q → pair_before q p → ⊥
pair_one_way p q (inl h) (inl k) = omega arith
pair_one_way p q (inl h) (inr k) = omega (arith, k.0)
pair_one_way p q (inr h) (inl k) = omega (arith, h.0)
pair_one_way p q (inr h) (inr k) = omega (arith, h.1, k.1)

same_pair : (i j a b : ℕ) (x y : ℤ) → i ≡ a → j ≡ b → x ≡ y
    → ◌≡◌ {A = Pair} (record { first = i; second = j; amount = x }) (record { first = a; second = b; amount = y })
same_pair i j a b x y p q r n = record { first = p n; second = q n; amount = r n }

-- an overlap that ends no later than a point
pub record EndsBy (us vs : List ℤ) (at : ℤ) (r : Pair) : Type 0 where
  pub overlaps : IsOverlap us vs r
  pub ends : int_min (begin_of us (suc r.first)) (begin_of vs (suc r.second)) ≤ℤ at

-- what the pairs with an index give
abbrev pub sum_at : (Pair → ℕ) → ℕ → List Pair → ℤ
sum_at index a ps = int_sum_by (λ r. if index r == a then r.amount else pos 0) ps

sum_at-push : (index : Pair → ℕ) (a : ℕ) (ps : List Pair) (i j : ℕ) (amount : ℤ) → pos 0 ≤ℤ amount
    → sum_at index a (ps ++ cons_positive i j amount [])
    ≡ sum_at index a ps +ℤ (if index (record { first = i; second = j; amount = amount }) == a then amount else pos 0)
sum_at-push index a ps i j amount some =
    int_sum_by-append (λ r. if index r == a then r.amount else pos 0) ps (cons_positive i j amount [])
    ∙ ap (λ z. sum_at index a ps +ℤ z) (either (int_lt (pos 0) amount) refl)
  where
    r : Pair
    r = record { first = i; second = j; amount = amount }

    either : (b : Bool) → int_lt (pos 0) amount ≡ b
        → sum_at index a (cons_if b r []) ≡ (if index r == a then amount else pos 0)
    either true e = omega (arith, ints)
    either false e = sym (if_zero (index r == a) amount (omega (arith, ints)))

-- a walk that has come so far along both lists, and its pairs: the overlaps that begin before its point
pub record IsWalk (us vs : List ℤ) (p q : Progress) (ps : List Pair) : Type 0 where
  pub at : ℤ
  pub first : Stands us p at
  pub second : Stands vs q at
  pub begins : int_max (begin_of us p.index) (begin_of vs q.index) ≡ at
  pub each : All (EndsBy us vs at) ps
  pub every : (a b : ℕ) → pos 0 <ℤ overlap us vs a b → int_max (begin_of us a) (begin_of vs b) <ℤ at
      → Contains ps (record { first = a; second = b; amount = overlap us vs a b })
  pub ordered : AllPairs pair_before ps
  pub firsts : (a : ℕ) → sum_at (λ r. r.first) a ps ≡ part_before us at a
  pub seconds : (b : ℕ) → sum_at (λ r. r.second) b ps ≡ part_before vs at b

-- the lesser of what both amounts have left is within both
pub within_both : (us vs : List ℤ) (p q : Progress) (ps : List Pair) (more : ℤ)
    → more ≡ int_min (get_or us p.index (pos 0) -ℤ p.given) (get_or vs q.index (pos 0) -ℤ q.given) → IsWalk us vs p q ps
    → IsWithin us (record { index = p.index; given = p.given +ℤ more }) × IsWithin vs (record { index = q.index; given = q.given +ℤ more })
within_both us vs p q ps more is walk =
    let one = walk.first.within in
    let other = walk.second.within in (
      record { from = omega (arith, ints, clamps); upto = omega (arith, ints, clamps) },
      record { from = omega (arith, ints, clamps); upto = omega (arith, ints, clamps) },
    )

-- how many amounts stand before the ends of the lists
abbrev pub still_left : List ℤ → List ℤ → Progress → Progress → ℕ
still_left us vs p q = (length us - p.index) + (length vs - q.index)

-- a walk that has come nearer to its end
pub record IsNearer (us vs : List ℤ) (left : ℕ) (p q : Progress) (ps : List Pair) : Type 0 where
  pub walk : IsWalk us vs p q ps
  pub nearer : still_left us vs p q < left

module _ (us vs : List ℤ) (h : NotNegative us) (k : NotNegative vs) where
  pub IsWalk-none : IsWalk us vs (record { index = 0; given = pos 0 }) (record { index = 0; given = pos 0 }) []
  IsWalk-none =
      let us_from = λ (a : ℕ). begin_of-rises us h 0 a (omega arith) in
      let vs_from = λ (b : ℕ). begin_of-rises vs k 0 b (omega arith) in
      record {
        at = pos 0;
        first = record {
          within =
              record { from = omega (arith, ints); upto = let span = begin_of-suc us 0 in let upto = us_from 1 in omega (arith, ints) };
          given = refl;
        };
        second = record {
          within =
              record { from = omega (arith, ints); upto = let span = begin_of-suc vs 0 in let upto = vs_from 1 in omega (arith, ints) };
          given = refl;
        };
        begins = omega (arith, ints, clamps);
        each = All-nil (EndsBy us vs (pos 0));
        every = λ a b positive before. let from = us_from a in absurd (omega (arith, ints, clamps));
        ordered = AllPairs-nil pair_before;
        firsts = λ a. let from = us_from a in
            let upto = us_from (suc a) in
            omega (arith, ints, clamps);
        seconds = λ b. let from = vs_from b in
            let upto = vs_from (suc b) in
            omega (arith, ints, clamps);
      }

  -- the amounts where a walk stands give the lesser of what they have left
  module _ (p q : Progress) (ps : List Pair) (more : ℤ) (first : p.index < length us) (second : q.index < length vs)
      (is : more ≡ int_min (get_or us p.index (pos 0) -ℤ p.given) (get_or vs q.index (pos 0) -ℤ q.given)) (walk : IsWalk us vs p q ps) where
    abbrev here : Pair
    here = record { first = p.index; second = q.index; amount = more }

    abbrev pushed : List Pair
    pushed = cons_positive p.index q.index more []

    -- the next point where an amount ends
    abbrev next : ℤ
    next = int_min (begin_of us (suc p.index)) (begin_of vs (suc q.index))

    -- where the walk stands
    record Knows : Type 0 where
      us_from : begin_of us p.index ≤ℤ walk.at
      vs_from : begin_of vs q.index ≤ℤ walk.at
      us_upto : next ≤ℤ begin_of us (suc p.index)
      vs_upto : next ≤ℤ begin_of vs (suc q.index)
      goes : walk.at ≤ℤ next
      gives : more ≡ next -ℤ walk.at
      overlaps : overlap us vs p.index q.index ≡ more

    knows : Knows
    knows =
        let us_end = begin_of-suc us p.index in
        let vs_end = begin_of-suc vs q.index in
        let us_given = walk.first.given in
        let vs_given = walk.second.given in
        let us_within = walk.first.within in
        let vs_within = walk.second.within in
        let begins = walk.begins in
        record {
          us_from = omega (arith, ints);
          vs_from = omega (arith, ints);
          us_upto = omega (arith, ints, clamps);
          vs_upto = omega (arith, ints, clamps);
          goes = omega (arith, ints, clamps);
          gives = omega (arith, ints, clamps);
          overlaps = omega (arith, ints, clamps);
        }

    ends_here : pos 0 <ℤ more → EndsBy us vs next here
    ends_here positive = record {
      overlaps =
          record { first_within = first; second_within = second; amount = sym knows.overlaps; positive = positive };
      ends = omega (arith, ints);
    }

    later : (r : Pair) → EndsBy us vs walk.at r → pos 0 <ℤ more → pair_before r here
    later r e positive = by (cases_lt r.first p.index) (cases_lt r.second q.index)
      where
        begins : (begin_of us r.first <ℤ walk.at) × (begin_of vs r.second <ℤ walk.at)
        begins =
            let some = e.overlaps.positive in
            let amount = e.overlaps.amount in
            let ends = e.ends in
            (omega (arith, ints, clamps), omega (arith, ints, clamps))

        firsts : r.first ≤ p.index
        firsts =
            let before = begins.0 in
            let now = knows in
            index_upto us h r.first p.index (omega (arith, ints))

        seconds : r.second ≤ q.index
        seconds =
            let before = begins.1 in
            let now = knows in
            index_upto vs k r.second q.index (omega (arith, ints))

        by : (r.first < p.index) ⊎ (p.index ≤ r.first) → (r.second < q.index) ⊎ (q.index ≤ r.second)
            → pair_before r here
        by (inl before) other = inl before
        by (inr from) (inl before) = inr (omega (arith, firsts, from), before)
        by (inr from) (inr behind) =
            let us_end = ap (λ a. begin_of us (suc a)) {x = r.first} {y = p.index} (omega (arith, firsts, from)) in
            let vs_end = ap (λ b. begin_of vs (suc b)) {x = r.second} {y = q.index} (omega (arith, seconds, behind)) in
            let ends = e.ends in
            let now = knows in
            absurd (omega (arith, ints, clamps))

    -- an overlap that begins between the two points is that of the two amounts
    found : (a b : ℕ) → pos 0 <ℤ overlap us vs a b → walk.at ≤ℤ int_max (begin_of us a) (begin_of vs b)
        → int_max (begin_of us a) (begin_of vs b) <ℤ next
        → Contains pushed (record { first = a; second = b; amount = overlap us vs a b })
    found a b positive from upto =
        let now = knows in
        let us_upto = index_upto us h a p.index (omega (arith, ints, clamps)) in
        let us_from = index_upto us h p.index a (omega (arith, ints, clamps)) in
        let vs_upto = index_upto vs k b q.index (omega (arith, ints, clamps)) in
        let vs_from = index_upto vs k q.index b (omega (arith, ints, clamps)) in
        let one : p.index ≡ a = omega (arith, us_upto, us_from) in
        let two : q.index ≡ b = omega (arith, vs_upto, vs_from) in
        let amount : more ≡ overlap us vs a b = sym knows.overlaps ∙ ap₂ (overlap us vs) one two in
        subst (Contains pushed) (same_pair p.index q.index a b more (overlap us vs a b) one two amount) (Contains-cons_if_here (int_lt (pos 0) more) here []
        (int_lt-from (pos 0) more (omega (arith, ints))))

    pub IsWalk-more : IsNearer us vs (still_left us vs p q) (progress_after us p more) (progress_after vs q more) (ps ++ cons_positive p.index q.index more [])
    IsWalk-more = let now = knows in
        let one = goes_on us p walk.at next more h walk.first now.goes now.us_upto now.gives in
        let other = goes_on vs q walk.at next more k walk.second now.goes now.vs_upto now.gives in
        let test = int_lt (pos 0) more in
        let some : pos 0 ≤ℤ more = omega (arith, ints) in
        let begins : (int_max (begin_of us (progress_after us p more).index) (begin_of vs (progress_after vs q more).index) ≡ next)
        × (still_left us vs (progress_after us p more) (progress_after vs q more) < still_left us vs p q) =
        by_lt_z (begin_of vs (suc q.index)) (begin_of us (suc p.index))
        (λ less. let ends = other.ends (omega (arith, ints, clamps)) in let begin = ap (begin_of vs) ends in let within = one.stands.within in
        let given = one.stands.given in
        (omega (arith, ints, clamps), omega (arith, first, second, ends, one.behind)))
        (λ most. let ends = one.ends (omega (arith, ints, clamps)) in let begin = ap (begin_of us) ends in let within = other.stands.within in
        let given = other.stands.given in
        (omega (arith, ints, clamps), omega (arith, first, second, ends, other.behind))) in
        record {
          walk = record {
            at = next;
            first = one.stands;
            second = other.stands;
            begins = begins.0;
            each = All-append (EndsBy us vs next) ps pushed (All-weaker (EndsBy us vs walk.at) (EndsBy us vs next)
                (λ r e. record { overlaps = e.overlaps; ends = let ends = e.ends in omega (arith, ints) }) ps walk.each)
                (All-cons_if (EndsBy us vs next) test here [] (λ e. ends_here (int_lt-true (pos 0) more e)) (All-nil (EndsBy us vs next)));
            every = λ a b positive upto. by_lt_z (int_max (begin_of us a) (begin_of vs b)) walk.at
                (λ before. Contains-append_left ps pushed _ (walk.every a b positive before))
                (λ from. Contains-append_right ps pushed _ (found a b positive from upto));
            ordered = AllPairs-append pair_before ps pushed walk.ordered
                (AllPairs-cons_if pair_before test here [] (λ e. All-nil (pair_before here)) (AllPairs-nil pair_before))
                (λ n d within. All-cons_if (pair_before (get_or ps n d)) test here []
                (λ e. later (get_or ps n d) (walk.each n d within) (int_lt-true (pos 0) more e)) (All-nil (pair_before (get_or ps n d))));
            firsts =
                λ a. sum_at-push (λ r. r.first) a ps p.index q.index more some
                ∙ ap (λ z. z +ℤ (if p.index == a then more else pos 0)) (walk.firsts a)
                ∙ sym (part_before-moved us h p.index a walk.at next more now.us_from now.goes now.us_upto now.gives);
            seconds =
                λ b. sum_at-push (λ r. r.second) b ps p.index q.index more some
                ∙ ap (λ z. z +ℤ (if q.index == b then more else pos 0)) (walk.seconds b)
                ∙ sym (part_before-moved vs k q.index b walk.at next more now.vs_from now.goes now.vs_upto now.gives);
          };
          nearer = begins.1;
        }

  -- a walk that has come to the end of a list
  record Ended : Type 0 where
    p : Progress
    q : Progress
    ps : List Pair
    end : (length us ≤ p.index) ⊎ (length vs ≤ q.index)
    walk : IsWalk us vs p q ps

  go_on : (n : ℕ) (p q : Progress) (ps : List Pair) → still_left us vs p q ≤ n → IsWalk us vs p q ps → Ended
  go_on zero p q ps few walk = record { p = p; q = q; ps = ps; end = inl (omega (arith, few)); walk = walk }
  go_on (suc n) p q ps few walk = by (cases_lt p.index (length us)) (cases_lt q.index (length vs)) (go_on n)
    where
      by : (p.index < length us) ⊎ (length us ≤ p.index) → (q.index < length vs) ⊎ (length vs ≤ q.index)
          → ((p' q' : Progress) (ps' : List Pair) → still_left us vs p' q' ≤ n → IsWalk us vs p' q' ps' → Ended) → Ended
      by (inr end) other later = record { p = p; q = q; ps = ps; end = inl end; walk = walk }
      by (inl first) (inr end) later = record { p = p; q = q; ps = ps; end = inr end; walk = walk }
      by (inl first) (inl second) later =
          let step = IsWalk-more p q ps _ first second refl walk in
          later _ _ _ (omega (arith, step.nearer, few)) step.walk

  ended : Ended
  ended =
      let none : Progress = record { index = 0; given = pos 0 } in
      go_on (still_left us vs none none) none none [] (omega arith) IsWalk-none

  -- its point is behind every overlap, so it has all of them
  pub ListsOverlaps-walk : (p q : Progress) (ps : List Pair) → (length us ≤ p.index) ⊎ (length vs ≤ q.index)
      → IsWalk us vs p q ps → ListsOverlaps us vs ps
  ListsOverlaps-walk p q ps end walk = record {
    ordered = walk.ordered;
    each = All-weaker (EndsBy us vs walk.at) (IsOverlap us vs) (λ r e. e.overlaps) ps walk.each;
    every = λ r e.
        let amount = e.amount in
        let positive = e.positive in
        let ends = past end r.first r.second e.first_within e.second_within in
        subst (Contains ps) (same_pair r.first r.second r.first r.second (overlap us vs r.first r.second) r.amount refl refl (sym amount))
        (walk.every r.first r.second (omega (arith, ints)) (omega (arith, ints, clamps)));
  }
    where
      past : (length us ≤ p.index) ⊎ (length vs ≤ q.index) → (a b : ℕ) → a < length us → b < length vs
          → int_min (begin_of us (suc a)) (begin_of vs (suc b)) ≤ℤ walk.at
      past (inl end) a b first second =
          let within = walk.first.within in
          let given = walk.first.given in
          let rises = begin_of-rises us h (suc a) p.index (omega (arith, first, end)) in
          omega (arith, ints, clamps)
      past (inr end) a b first second =
          let within = walk.second.within in
          let given = walk.second.given in
          let rises = begin_of-rises vs k (suc b) q.index (omega (arith, second, end)) in
          omega (arith, ints, clamps)

  -- there is a list of the overlaps
  pub some_overlaps : (ps : List Pair) × ListsOverlaps us vs ps
  some_overlaps = (ended.ps, ListsOverlaps-walk ended.p ended.q ended.ps ended.end ended.walk)

-- ---- what the pairs of one index add up to, where both lists have one total

-- the part of a span before the point where a walk ended is all of it
all_before : (xs ys : List ℤ) → NotNegative xs → NotNegative ys
    → int_sum_by (λ x. x) xs ≡ int_sum_by (λ x. x) ys → (p q : Progress) (at : ℤ) → Stands xs p at
    → Stands ys q at → (length xs ≤ p.index) ⊎ (length ys ≤ q.index) → (a : ℕ) → a < length xs
    → part_before xs at a ≡ get_or xs a (pos 0)
all_before xs ys h k total p q at stands other end a within =
    let before = past end in
    let own = begin_of-next xs h a in
    let span = begin_of-suc xs a in
    omega (arith, ints, clamps)
  where
    past : (length xs ≤ p.index) ⊎ (length ys ≤ q.index) → begin_of xs (suc a) ≤ℤ at
    past (inl end) =
        let inside = stands.within in
        let given = stands.given in
        let rises = begin_of-rises xs h (suc a) p.index (omega (arith, within, end)) in
        omega (arith, ints)
    past (inr end) =
        let inside = other.within in
        let given = other.given in
        let all = ap (int_sum_by (λ x. x)) (take_all (length xs) xs (omega arith)) in
        let other_all = ap (int_sum_by (λ x. x)) (take_all (length ys) ys (omega arith)) in
        let rises = begin_of-rises xs h (suc a) (length xs) (omega (arith, within)) in
        let other_rises = begin_of-rises ys k (length ys) q.index end in
        omega (arith, ints)

module _ (us vs : List ℤ) (ps : List Pair) (h : NotNegative us) (k : NotNegative vs) (total : int_sum_by (λ x. x) us ≡ int_sum_by (λ x. x) vs)
    (lists : ListsOverlaps us vs ps) where
  walked : Ended us vs h k
  walked = ended us vs h k

  -- the overlaps are one list, that of the walk
  same : walked.ps ≡ ps
  same = Lists-unique pair_before pair_one_way (IsOverlap us vs) walked.ps ps
      (ListsOverlaps-walk us vs h k walked.p walked.q walked.ps walked.end walked.walk) lists

  pub overlaps_first : (a : ℕ) → a < length us
      → int_sum_by (λ p. if p.first == a then p.amount else pos 0) ps ≡ get_or us a (pos 0)
  overlaps_first a within = sym (ap (sum_at (λ r. r.first) a) same) ∙ walked.walk.firsts a
      ∙ all_before us vs h k total walked.p walked.q walked.walk.at walked.walk.first walked.walk.second walked.end a within

  pub overlaps_second : (b : ℕ) → b < length vs
      → int_sum_by (λ p. if p.second == b then p.amount else pos 0) ps ≡ get_or vs b (pos 0)
  overlaps_second b within = sym (ap (sum_at (λ r. r.second) b) same) ∙ walked.walk.seconds b ∙ all_before vs us k h
      (sym total) walked.q walked.p walked.walk.at walked.walk.second walked.walk.first (⊎_elim inr inl walked.end) b within
