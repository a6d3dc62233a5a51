-- The items of workers, and of all of them.
use Rattle.std.proofs.Common.{Err, List, Ok, Result, Some, [], ap, arith, div-add-mod', get_or, length, length-append, refl, slice_get, subst, suc, sym, ℕ}
use Rattle.std.proofs.Common.{⊎_elim, ◌%◌, ◌*◌, ◌++◌, ◌+◌, ◌-◌, ◌/◌, ◌<◌, ◌≤◌, ◌∙◌, ◌∷◌, ◌≡◌, ◌≢◌}
use Rattle.workers.proofs.Words.{AreItemsOfWorker, AreItemsOfWorkers, EachIsItem, IfOk, cases_eq, cases_lt, get_or-reverse, get_or-set_other, get_or-set_same}
use Rattle.workers.proofs.Words.{get_or_from_slice_get, length-reverse, length-set, mod-mul-add, mod_below, mul-le, reverse, set, slice_get-append}
use Rattle.workers.proofs.Words.{slice_get-get_or, slice_get_push, slice_get_within}

-- one more of items with these numbers
pub one_more : {X : Type 0} (IsItem : ℕ → X → Type 0) (number : ℕ → ℕ) (items : List X) (x : X)
    → EachIsItem (λ k y. IsItem (number k) y) items
    → IsItem (number (length items)) x → EachIsItem (λ k y. IsItem (number k) y) (items ++ x ∷ [])
one_more IsItem number items x each last k y at =
    ⊎_elim (λ before. each k y before) (λ (here, is). subst (λ n. IsItem (number n) y) (sym here) (subst (IsItem (number (length items))) (sym is) last))
    (slice_get_push items x k y at)

-- what holds at each index holds at one more
pub one_within : {X : Type 0} (P : ℕ → Type 0) (items : List X) (x : X) → ((j : ℕ) → j < length items → P j)
    → P (length items) → (j : ℕ)
    → j < length (items ++ x ∷ []) → P j
one_within P items x each last j there =
    let long = length-append items (x ∷ []) in
    ⊎_elim (λ less. each j less) (λ not_less. subst P {x = length items} {y = j} (omega (arith, there, not_less, long)) last) (cases_lt j (length items))

-- ---- the items of a worker, one after the other

-- those that it made so far, and the number of its next one
pub record AreMade {X : Type 0} (IsItem : ℕ → X → Type 0) (many workers worker number : ℕ)
    (items : List X) : Type 0 where
  pub next : number ≡ worker + length items * workers
  pub within : (j : ℕ) → j < length items → worker + j * workers < many
  pub each : EachIsItem (λ j x. IsItem (worker + j * workers) x) items

-- one more
pub one_made : {X : Type 0} (IsItem : ℕ → X → Type 0) (many workers worker number : ℕ) (items : List X) (x : X)
    → AreMade IsItem many workers worker number items → number < many → IsItem number x
    → AreMade IsItem many workers worker (number + workers) (items ++ x ∷ [])
one_made IsItem many workers worker number items x made room is =
    let long = length-append items (x ∷ []) in
    let product : (length items + 1) * workers ≡ length items * workers + workers = omega arith in
    record {
      next = rw long (omega (arith, made.next, product));
      within = one_within (λ k. worker + k * workers < many) items x made.within (subst (λ n. n < many) made.next room);
      each = one_more IsItem (λ k. worker + k * workers) items x made.each (subst (λ n. IsItem n x) made.next is);
    }

-- all, where its next number is past the last item
pub all_made : {X : Type 0} (IsItem : ℕ → X → Type 0) (many workers worker number : ℕ) (items : List X)
    → AreMade IsItem many workers worker number items → many ≤ number
    → AreItemsOfWorker IsItem many workers worker items
all_made IsItem many workers worker number items made end = record {
  each = made.each;
  all = λ j. (
    made.within j,
    λ below. ⊎_elim (λ less. less) (λ past.
        let more = mul-le (length items) workers j workers past (omega arith) in
        absurd (omega (arith, made.next, end, below, more))) (cases_lt j (length items)),
  );
}

-- ---- the last item

-- multiples are ordered as their factors
less_times : (workers worker j q : ℕ) → 0 < workers → worker + j * workers < worker + q * workers → j < q
less_times workers worker j q some less =
    ⊎_elim (λ h. h) (λ past. let more = mul-le q workers j workers past (omega arith) in absurd (omega (arith, less, more))) (cases_lt j q)

times_less : (workers worker j q : ℕ) → 0 < workers → j < q → worker + j * workers < worker + q * workers
times_less workers worker j q some less =
    let more = mul-le (suc j) workers q workers (omega (arith, less)) (omega arith) in
    let product : suc j * workers ≡ j * workers + workers = omega arith in
    omega (arith, some, more, product)

module _ {X : Type 0} (IsItem : ℕ → X → Type 0) (left workers : ℕ) (some : 0 < workers) where
  number_is : left % workers + left / workers * workers ≡ left
  number_is = let sum = div-add-mod' left workers in omega (arith, sum)

  -- it is that of the greatest number of the worker
  last_place : (items : List X) (x : X)
      → AreItemsOfWorker IsItem (left + 1) workers (left % workers) (items ++ x ∷ []) → length items ≡ left / workers
  last_place items x of =
      let long = length-append items (x ∷ []) in
      let there = (of.all (left / workers)).1 (let n = number_is in omega (arith, n)) in
      let last = (of.all (length items)).0 (omega (arith, long)) in
      let upto = less_times workers (left % workers) (length items) (suc (left / workers)) some (let n = number_is in omega (arith, last, n, some)) in
      omega (arith, there, long, upto)

  pub last_is : (items : List X) (x : X)
      → AreItemsOfWorker IsItem (left + 1) workers (left % workers) (items ++ x ∷ []) → IsItem left x
  last_is items x of =
      let place = last_place items x of in
      let here : slice_get (items ++ x ∷ []) (length items) ≡ Some x = slice_get_last items x in
      subst (λ n. IsItem n x) (ap (λ q. left % workers + q * workers) place ∙ number_is) (of.each (length items) x here)
    where
      slice_get_last : (ys : List X) (y : X) → slice_get (ys ++ y ∷ []) (length ys) ≡ Some y
      slice_get_last [] y = refl
      slice_get_last (z ∷ ys) y = slice_get_last ys y

  -- the worker's items without it
  pub without_last : (items : List X) (x : X)
      → AreItemsOfWorker IsItem (left + 1) workers (left % workers) (items ++ x ∷ [])
      → AreItemsOfWorker IsItem left workers (left % workers) items
  without_last items x of =
      let place = last_place items x of in
      let n = number_is in
      record {
        each = λ j y at. of.each j y (slice_get-append items (x ∷ []) j y at);
        all =
            λ j. (
              λ less. let more =
                  times_less workers (left % workers) j (left / workers) some (omega (arith, less, place)) in
                  omega (arith, more, n),
              λ less. let fewer =
                  less_times workers (left % workers) j (left / workers) some (omega (arith, less, n)) in
                  omega (arith, fewer, place),
            );
      }

  -- those of another worker stay
  pub without_other : (worker : ℕ) (items : List X) → worker < workers → worker ≢ left % workers
      → AreItemsOfWorker IsItem (left + 1) workers worker items
      → AreItemsOfWorker IsItem left workers worker items
  without_other worker items within other of = record {
    each = of.each;
    all =
        λ j. (
          λ less. let below = (of.all j).0 less in
              ⊎_elim (λ same. absurd (other (own j same))) (λ apart. omega (arith, below, apart))
              (cases_eq (worker + j * workers) left),
          λ less. (of.all j).1 (omega (arith, less)),
        );
  }
    where
      own : (j : ℕ) → worker + j * workers ≡ left → worker ≡ left % workers
      own j same =
          sym (mod-mul-add j workers worker within)
          ∙ ap (λ n. n % workers) {x = j * workers + worker} {y = left} (omega (arith, same))

-- ---- the shares of all workers

-- without the last item of all
pub next_shares : {X E : Type 0} (IsItem : ℕ → X → Type 0) (left : ℕ) (lists : List (Result (List X) E)) (items : List X) (x : X)
    → 0 < length lists
    → AreItemsOfWorkers IsItem (left + 1) lists → slice_get lists (left % length lists) ≡ Some (Ok (items ++ x ∷ []))
    → AreItemsOfWorkers IsItem left (set lists (left % length lists) (Ok items))
next_shares {X} {E} IsItem left lists items x some each here worker answer at =
    let own = left % length lists in
    let changed = set lists own (Ok items) in
    let long : length changed ≡ length lists = length-set lists own (Ok items) in
    let within : worker < length lists = subst (λ n. worker < n) long (slice_get_within changed worker answer at) in
    let is : answer ≡ get_or changed worker answer = sym (get_or_from_slice_get changed worker answer answer at) in
    subst (λ n. IfOk answer (AreItemsOfWorker IsItem left n worker)) (sym long)
    (⊎_elim
    (λ same.
    let last : answer ≡ Ok items = is ∙ ap (λ w. get_or changed w answer) same
    ∙ get_or-set_same lists own (Ok items) answer (mod_below left (length lists) some) in
    subst (λ a. IfOk a (AreItemsOfWorker IsItem left (length lists) worker)) (sym last)
    (subst (λ w. AreItemsOfWorker IsItem left (length lists) w items) (sym same)
    (without_last IsItem left (length lists) some items x (each own (Ok (items ++ x ∷ [])) here))))
    (λ other.
    let old : slice_get lists worker ≡ Some answer = slice_get-get_or lists worker answer within
    ∙ ap Some (sym (get_or-set_other lists own worker (Ok items) answer other) ∙ sym is) in
    other_share answer other within (each worker answer old))
    (cases_eq worker own))
  where
    other_share : (a : Result (List X) E) → worker ≢ left % length lists → worker < length lists
        → IfOk a (AreItemsOfWorker IsItem (left + 1) (length lists) worker)
        → IfOk a (AreItemsOfWorker IsItem left (length lists) worker)
    other_share (Ok ys) other within of = without_other IsItem left (length lists) some worker ys within other of
    other_share (Err e) other within of = of

-- a worker whose share is not want of memory has an item left
pub has_last : {X E : Type 0} (IsItem : ℕ → X → Type 0) (left : ℕ) (lists : List (Result (List X) E)) (share : Result (List X) E)
    → 0 < length lists
    → AreItemsOfWorkers IsItem (left + 1) lists → share ≡ get_or lists (left % length lists) share
    → IfOk share (λ items. 0 < length items)
has_last IsItem left lists (Err e) some each is = tt
has_last IsItem left lists (Ok items) some each is =
    let own = left % length lists in
    let here : slice_get lists own ≡ Some (Ok items)
    = slice_get-get_or lists own (Ok items) (mod_below left (length lists) some) ∙ ap Some (sym is) in
    let there = ((each own (Ok items) here).all (left / length lists)).1 (let n = number_is IsItem left (length lists) some in omega (arith, n)) in
    omega (arith, there)

-- ---- the items, the last one first

-- the items turned round
pub turned : {X : Type 0} (IsItem : ℕ → X → Type 0) (many : ℕ) (items : List X) → length items ≡ many
    → ((j : ℕ) (x : X) → slice_get items j ≡ Some x → IsItem (many - suc j) x) → EachIsItem IsItem (reverse items)
turned IsItem many items long each k x at =
    let within : k < length items
    = subst (λ n. k < n) (length-reverse items) (slice_get_within (reverse items) k x at) in
    let is : get_or items (length items - 1 - k) x ≡ x
    = sym (get_or-reverse items k x within) ∙ get_or_from_slice_get (reverse items) k x x at in
    subst (λ n. IsItem n x) {x = many - suc (length items - 1 - k)} {y = k} (omega (arith, long, within))
    (each (length items - 1 - k) x (slice_get-get_or items (length items - 1 - k) x (omega (arith, within)) ∙ ap Some is))
