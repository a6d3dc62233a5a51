-- Valuations of the first lines: with one line less and with one more, and that there is at most one.
use Rattle.network_values.proofs.Words.{All-append, All-cons, All-map, All-nil, All-push, All-take, All-weaker, AreStreams-IsComplete, BranchValue, Case}
use Rattle.network_values.proofs.Words.{HasNumbers, HasPositiveSize, HasShape, IsBelow, IsComplete, IsValidStream, IsValuation, LeaveRoom, LeavesRoom, Line}
use Rattle.network_values.proofs.Words.{Network, Solves, Valuation, all_at, branch_side, duty_at, first_part, first_value, front, full_size, get_or-map}
use Rattle.network_values.proofs.Words.{length-map, line_at, line_of, made_before, made_by, made_fewer, made_values, makes, mixed_value, no_value, passed_value}
use Rattle.network_values.proofs.Words.{positive-is, positive-minus, rational_zero, second_part, slice_get-get_or, slice_get-take, uses, value_at}
use Rattle.network_values.proofs.LineLemmas.{mix_determined, mix_solved, mixed_positive, pass_determined, pass_solved, split_determined, split_solved}
use Rattle.network_values.proofs.StreamStates.{full_size-positive}
use Rattle.std.proofs.Common.{All, List, Some, [], ap, ap₂, arith, drop, get_or, length, length-append, map, refl, slice_get, subst, suc, sym, take, zero, ℕ}
use Rattle.std.proofs.Common.{◌++◌, ◌+◌, ◌-◌, ◌<◌, ◌∙◌, ◌∷◌, ◌≡◌, ◌≤◌}
use Rattle.std.proofs.lemmas.List.{ext_get_or, get_or-append-add, get_or-drop, get_or-take, get_or_append_left, length-drop, length-take, take-append-drop}
use Rattle.std.proofs.lemmas.List.{take-append-le, take-take, take_all}
use Rattle.networks.specs.declared.network.Line.TheVariants as line

-- ---- lists

-- what holds of each of the first lines
pub first_each : (P : Line → Type 0) (lines : List Line) (n : ℕ) → All P (take n lines) → (k : ℕ) (l : Line)
    → k < n → slice_get lines k ≡ Some l → P l
first_each P lines n all k l early here = all_at P (take n lines) k l all (slice_get-take n lines k early ∙ here)

pub each_first : (P : Line → Type 0) (lines : List Line) (n : ℕ)
    → ((k : ℕ) (l : Line) → k < n → slice_get lines k ≡ Some l → P l) → All P (take n lines)
each_first P lines n each k d inside =
    let early : k < n = omega (arith, inside, length-take n lines) in
    each k (get_or (take n lines) k d) early (sym (slice_get-take n lines k early) ∙ slice_get-get_or (take n lines) k d inside)

-- ---- values that agree

-- two valuations carry the same on the branches below a number
pub record AgreeBelow (values other : Valuation) (m : ℕ) : Type 0 where
  pub same : (branch : ℕ) → branch < m → value_at values branch ≡ value_at other branch

-- the branches that a line uses and makes have numbers below m
pub record AreBelow (m : ℕ) (l : Line) : Type 0 where
  pub used : All (λ b. b < m) (uses l)
  pub made : All (λ b. b < m) (makes l)

pub agree-take : (values : Valuation) (m : ℕ) → AgreeBelow values (take m values) m
agree-take values m = record { same = λ branch early. sym (get_or-take m values branch no_value early) }

pub agree-append : (values more : Valuation) → AgreeBelow values (values ++ more) (length values)
agree-append values more = record { same = λ branch early. sym (get_or_append_left values more no_value branch early) }

pub solves_same : (case : Case) (network : Network) (values other : Valuation) (m : ℕ) (l : Line)
    → AgreeBelow values other m → AreBelow m l
    → Solves case network values l → Solves case network other l
solves_same case network values other m (line.Split from first size second) agree below solved =
    rw (
      sym (agree.same from (below.used 0 0 (omega arith))),
      sym (agree.same first (below.made 0 0 (omega arith))),
      sym (agree.same second (below.made 1 0 (omega arith))),
    ) solved
solves_same case network values other m (line.Pass from exchanger to) agree below solved =
    rw (sym (agree.same from (below.used 0 0 (omega arith))), sym (agree.same to (below.made 0 0 (omega arith)))) solved
solves_same case network values other m (line.Mix first second to) agree below solved =
    rw (
      sym (agree.same first (below.used 0 0 (omega arith))),
      sym (agree.same second (below.used 1 0 (omega arith))),
      sym (agree.same to (below.made 0 0 (omega arith))),
    ) solved
solves_same case network values other m l agree below solved = tt

-- a line's branches are made by it and the lines before it
pub line_below : (case : Case) (network : Network) (n m : ℕ) (l : Line) → HasNumbers case network n l
    → made_before case network (suc n) ≤ m → AreBelow m l
line_below case network n m l numbers upto = record {
  used = λ j d inside. let early = numbers.used j d inside in
      omega (arith, early, numbers.next, upto);
  made = λ j d inside. let number = get_or-any (makes l) j d inside ∙ numbers.made j inside in
      omega (arith, number, numbers.next, upto, inside);
}
  where
    get_or-any : (xs : List ℕ) (j d : ℕ) → j < length xs → get_or xs j d ≡ get_or xs j 0
    get_or-any [] j d inside = absurd (omega (arith, inside))
    get_or-any (x ∷ xs) zero d inside = refl
    get_or-any (x ∷ xs) (suc j) d inside = get_or-any xs j d (omega (arith, inside))

-- ---- one line less

pub valuation_less : (case : Case) (network : Network) (n : ℕ) (values : Valuation) → HasShape case network
    → IsValuation case network (suc n) values
    → IsValuation case network n (front case network n values)
valuation_less case network n values shape is = let m = made_before case network n in
    let fewer : m ≤ length values = omega (arith, made_fewer case network n (suc n) (omega arith), is.count) in
    record {
      within = omega (arith, is.within);
      count = length-take m values ∙ omega (arith, fewer);
      own = take-take (length case.streams) m values (omega arith) ∙ is.own;
      positive = All-take (λ v. IsBelow rational_zero v.cp) m values is.positive;
      solved = each_first (Solves case network (take m values)) network.lines n (λ k l early here.
          let below = line_below case network k m l ((line_of shape k l here).numbers) (made_fewer case network (suc k) n (omega (arith, early))) in
          let solved = first_each (Solves case network values) network.lines (suc n) is.solved k l (omega (arith, early)) here in
          solves_same case network values (take m values) m l (agree-take values m) below solved);
    }

-- ---- one line more

-- a branch that the first lines have made has a size above 0
pub branch_positive : (case : Case) (network : Network) (n : ℕ) (values : Valuation)
    → IsValuation case network n values → (branch : ℕ)
    → branch < made_before case network n → IsBelow rational_zero (value_at values branch).cp
branch_positive case network n values is branch early = is.positive branch no_value (omega (arith, early, is.count))

pub length-made_values : (case : Case) (network : Network) (values : Valuation) (l : Line)
    → length (made_values case network values l) ≡ length (makes l)
length-made_values case network values l = grind arith

-- what a line makes has sizes above 0
made_positive : (case : Case) (network : Network) (n : ℕ) (values : Valuation) (l : Line)
    → IsValuation case network n values → HasNumbers case network n l
    → HasPositiveSize l → LeavesRoom values l
    → All (λ v. IsBelow rational_zero v.cp) (made_values case network values l)
made_positive case network n values (line.Split from first size second) is numbers positive room =
    let P : BranchValue → Type 0 = λ v. IsBelow rational_zero v.cp in
    let v = value_at values from in
    All-cons P (first_part v size) (second_part v size ∷ []) (positive-is size positive.above)
    (All-cons P (second_part v size) [] (positive-minus size v.cp room) (All-nil P))
made_positive case network n values (line.Pass from exchanger to) is numbers positive room =
    let P : BranchValue → Type 0 = λ v. IsBelow rational_zero v.cp in
    All-cons P (passed_value (branch_side case network from) (value_at values from) (duty_at network exchanger)) []
    (branch_positive case network n values is from (numbers.used 0 0 (omega arith))) (All-nil P)
made_positive case network n values (line.Mix first second to) is numbers positive room =
    let P : BranchValue → Type 0 = λ v. IsBelow rational_zero v.cp in
    let one = branch_positive case network n values is first (numbers.used 0 0 (omega arith)) in
    let two = branch_positive case network n values is second (numbers.used 1 0 (omega arith)) in
    All-cons P (mixed_value (value_at values first) (value_at values second)) [] (mixed_positive (value_at values first) (value_at values second) one two)
    (All-nil P)
made_positive case network n values l is numbers positive room = All-nil (λ v. IsBelow rational_zero v.cp)

-- it is found behind the values before it
made_found : (case : Case) (network : Network) (n : ℕ) (values : Valuation) (l : Line)
    → IsValuation case network n values → HasNumbers case network n l
    → (j : ℕ) → j < length (makes l)
    → value_at (values ++ made_values case network values l) (get_or (makes l) j 0)
    ≡ get_or (made_values case network values l) j no_value
made_found case network n values l is numbers j inside =
    let made = made_values case network values l in
    ap (value_at (values ++ made)) (numbers.made j inside ∙ ap (λ k. k + j) (sym is.count))
    ∙ get_or-append-add values made j no_value

-- and solves the line's equations
made_solves : (case : Case) (network : Network) (n : ℕ) (values : Valuation) (l : Line)
    → IsValuation case network n values → HasNumbers case network n l
    → Solves case network (values ++ made_values case network values l) l
made_solves case network n values (line.Split from first size second) is numbers =
    let l = line.Split from first size second in
    let v = value_at values from in
    let before = (agree-append values (made_values case network values l)).same from (omega (arith, numbers.used 0 0 (omega arith), is.count)) in
    let found = made_found case network n values l is numbers in
    rw (sym before, found 0 (omega arith), found 1 (omega arith)) (split_solved v size)
made_solves case network n values (line.Pass from exchanger to) is numbers =
    let l = line.Pass from exchanger to in
    let used : from < made_before case network n = numbers.used 0 0 (omega arith) in
    let before = (agree-append values (made_values case network values l)).same from (omega (arith, used, is.count)) in
    rw (sym before, made_found case network n values l is numbers 0 (omega arith))
    (pass_solved (branch_side case network from) (value_at values from) (duty_at network exchanger) (branch_positive case network n values is from used))
made_solves case network n values (line.Mix first second to) is numbers =
    let l = line.Mix first second to in
    let agree = (agree-append values (made_values case network values l)).same in
    let one : first < made_before case network n = numbers.used 0 0 (omega arith) in
    let two : second < made_before case network n = numbers.used 1 0 (omega arith) in
    let some = mixed_positive (value_at values first) (value_at values second) (branch_positive case network n values is first one)
    (branch_positive case network n values is second two) in
    rw (
      sym (agree first (omega (arith, one, is.count))),
      sym (agree second (omega (arith, two, is.count))),
      made_found case network n values l is numbers 0 (omega arith),
    ) (mix_solved (value_at values first) (value_at values second) some)
made_solves case network n values l is numbers = tt

pub valuation_more : (case : Case) (network : Network) (n : ℕ) (values : Valuation) (l : Line)
    → HasShape case network → slice_get network.lines n ≡ Some l
    → IsValuation case network n values → LeavesRoom values l
    → IsValuation case network (suc n) (values ++ made_values case network values l)
valuation_more case network n values l shape here is room =
    let of = line_of shape n l here in
    let numbers = of.numbers in
    let made = made_values case network values l in
    let many = length-made_values case network values l in
    let agree = agree-append values made in
    record {
      within = of.at.within;
      count = omega (arith, length-append values made, many, numbers.next, is.count);
      own = take-append-le (length case.streams) values made (omega (arith, is.count)) ∙ is.own;
      positive =
          All-append (λ v. IsBelow rational_zero v.cp) _ _ is.positive (made_positive case network n values l is numbers of.size room);
      solved =
          subst (All (Solves case network (values ++ made))) (sym of.at.more) (All-push (Solves case network (values ++ made)) (take n network.lines) l
          (each_first (Solves case network (values ++ made)) network.lines n (λ k other early at.
          let numbers = (line_of shape k other at).numbers in
          let below = line_below case network k (length values) other numbers
          (omega (arith, made_fewer case network (suc k) n (omega (arith, early)), is.count)) in
          solves_same case network values (values ++ made) (length values) other agree below
          (first_each (Solves case network values) network.lines n is.solved k other early at))) (made_solves case network n values l is numbers));
    }

-- ---- the last branches

-- the values behind a line are the values before it and what the line makes of them, and a split left something
pub record EndsIn (case : Case) (network : Network) (n : ℕ) (l : Line) (values : Valuation) : Type 0 where
  pub parts : values ≡ front case network n values ++ made_values case network (front case network n values) l
  pub room : LeavesRoom (front case network n values) l

-- what a line makes is found where it made it, and its split left something
record IsDetermined (case : Case) (network : Network) (values before : Valuation) (l : Line) : Type 0 where
  made : map (value_at values) (makes l) ≡ made_values case network before l
  room : LeavesRoom before l

line_determined : (case : Case) (network : Network) (values before : Valuation) (l : Line)
    → AgreeBelow values before (length before)
    → All (λ b. b < length before) (uses l) → AreBelow (length values) l → All (λ v. IsBelow rational_zero v.cp) before
    → All (λ v. IsBelow rational_zero v.cp) values → Solves case network values l
    → IsDetermined case network values before l
line_determined case network values before (line.Split from first size second) agree used below early positive solved =
    let split = rw (agree.same from (used 0 0 (omega arith))) at solved in
    let parts = split_determined (value_at before from) (value_at values first) (value_at values second) size split in
    record { made = ap₂ (λ a b. a ∷ b ∷ []) parts.first_is parts.second_is; room = parts.room (positive second no_value (below.made 1 0 (omega arith))) }
line_determined case network values before (line.Pass from exchanger to) agree used below early positive solved =
    let pass = rw (agree.same from (used 0 0 (omega arith))) at solved in
    let some = early from no_value (used 0 0 (omega arith)) in
    record { made = ap (λ a. a ∷ []) (pass_determined _ (value_at before from) (value_at values to) (duty_at network exchanger) some pass); room = tt }
line_determined case network values before (line.Mix first second to) agree used below early positive solved =
    let mix = rw (agree.same first (used 0 0 (omega arith)), agree.same second (used 1 0 (omega arith))) at solved in
    let a = value_at before first in
    let b = value_at before second in
    let some = mixed_positive a b (early first no_value (used 0 0 (omega arith))) (early second no_value (used 1 0 (omega arith))) in
    record { made = ap (λ v. v ∷ []) (mix_determined a b (value_at values to) some mix); room = tt }
line_determined case network values before l agree used below early positive solved = record { made = refl; room = tt }

pub valuation_ends : (case : Case) (network : Network) (n : ℕ) (values : Valuation) (l : Line)
    → HasShape case network → slice_get network.lines n ≡ Some l
    → IsValuation case network (suc n) values → EndsIn case network n l values
valuation_ends case network n values l shape here is =
    let m = made_before case network n in
    let before = take m values in
    let numbers = (line_of shape n l here).numbers in
    let less = valuation_less case network n values shape is in
    let agree = subst (AgreeBelow values before) (sym less.count) (agree-take values m) in
    let used = subst (λ k. All (λ b. b < k) (uses l)) (sym less.count) numbers.used in
    let below = line_below case network n (length values) l numbers (omega (arith, is.count)) in
    let solved = first_each (Solves case network values) network.lines (suc n) is.solved n l (omega arith) here in
    let determined = line_determined case network values before l agree used below less.positive is.positive solved in
    let many = length-made_values case network before l in
    let long : length (drop m values) ≡ length (made_values case network before l)
    = omega (arith, length-drop m values, is.count, numbers.next, many) in
    let last : drop m values ≡ made_values case network before l
    = ext_get_or no_value (drop m values) (made_values case network before l) long (λ j inside.
    let within : j < length (makes l) = omega (arith, inside, long, many) in
    get_or-drop m values j no_value ∙ ap (value_at values) (sym (numbers.made j within))
    ∙ sym (get_or-map (value_at values) (makes l) j 0 no_value within)
    ∙ ap (λ vs. get_or vs j no_value) determined.made) in
    record { parts = sym (take-append-drop m values) ∙ ap (λ vs. before ++ vs) last; room = determined.room }

-- ---- the start, and that there is at most one

pub valuation_start : (case : Case) (network : Network) → IsComplete case
    → IsValuation case network 0 (map first_value case.streams)
unfolding made_by
valuation_start case network complete = let many = length-map case.streams first_value in
    record {
      within = omega arith;
      count = omega (arith, many);
      own = take_all (length case.streams) (map first_value case.streams) (omega (arith, many));
      positive = All-map (λ v. IsBelow rational_zero v.cp) first_value case.streams
          (All-weaker IsValidStream (λ s. IsBelow rational_zero (full_size s)) full_size-positive case.streams (AreStreams-IsComplete case complete).each);
      solved = All-nil (Solves case network (map first_value case.streams));
    }

-- the first branches are the streams' own
start_only : (case : Case) (network : Network) (values : Valuation) → IsValuation case network 0 values
    → values ≡ map first_value case.streams
unfolding made_by
start_only case network values is = sym (take_all (length case.streams) values (omega (arith, is.count))) ∙ is.own

pub one_valuation : (case : Case) (network : Network) (n : ℕ) (values other : Valuation)
    → HasShape case network → IsValuation case network n values
    → IsValuation case network n other → values ≡ other
one_valuation case network zero values other shape is is_other =
    start_only case network values is ∙ sym (start_only case network other is_other)
one_valuation case network (suc n) values other shape is is_other =
    let l = get_or network.lines n (line.End 0) in
    let here = (line_at network.lines n (line.End 0) is.within).here in
    let before = one_valuation case network n (front case network n values) (front case network n other) shape (valuation_less case network n values shape is)
    (valuation_less case network n other shape is_other) in
    (valuation_ends case network n values l shape here is).parts ∙ ap (λ vs. vs ++ made_values case network vs l) before
    ∙ sym (valuation_ends case network n other l shape here is_other).parts

-- ---- where there is one

-- the front of a valuation of more lines
pub valuation_front : (case : Case) (network : Network) (n more : ℕ) (values : Valuation)
    → HasShape case network → IsValuation case network (n + more) values
    → IsValuation case network n (front case network n values)
valuation_front case network n zero values shape is =
    let same : n + 0 ≡ n = omega arith in
    let own = subst (λ k. IsValuation case network k values) same is in
    subst (IsValuation case network n) (sym (take_all (made_before case network n) values (omega (arith, own.count)))) own
valuation_front case network n (suc more) values shape is =
    let next : n + suc more ≡ suc (n + more) = omega arith in
    let less = valuation_less case network (n + more) values shape (subst (λ k. IsValuation case network k values) next is) in
    let first = valuation_front case network n more (front case network (n + more) values) shape less in
    subst (IsValuation case network n) (take-take (made_before case network n) (made_before case network (n + more)) values
    (made_fewer case network n (n + more) (omega arith))) first

pub room_left : (case : Case) (network : Network) (n : ℕ) (values : Valuation) → HasShape case network
    → IsValuation case network n values
    → LeaveRoom case network n
room_left case network n values shape is index l other early here is_other =
    let split : n ≡ suc index + (n - suc index) = omega (arith, early) in
    let more = valuation_front case network (suc index) (n - suc index) values shape (subst (λ k. IsValuation case network k values) split is) in
    let shorter = front case network (suc index) values in
    let same = one_valuation case network index (front case network index shorter) other shape
    (valuation_less case network index shorter shape more) is_other in
    subst (λ vs. LeavesRoom vs l) same (valuation_ends case network index shorter l shape here more).room

pub valuation_from_room : (case : Case) (network : Network) (n : ℕ) → IsComplete case → HasShape case network
    → n ≤ length network.lines
    → LeaveRoom case network n → (values : Valuation) × IsValuation case network n values
valuation_from_room case network zero complete shape within room =
    (map first_value case.streams, valuation_start case network complete)
valuation_from_room case network (suc n) complete shape within room =
    let l = get_or network.lines n (line.End 0) in
    let here = (line_at network.lines n (line.End 0) within).here in
    let (values, is) = valuation_from_room case network n complete shape (omega (arith, within))
    (λ index other vs early. room index other vs (omega (arith, early))) in
    (values ++ made_values case network values l, valuation_more case network n values l shape here is (room n l values (omega arith) here is))
