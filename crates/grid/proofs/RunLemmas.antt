-- Sums over the parts that are made are sums over utilities and streams: what each adds at the places, one after another.
use Rattle.grid.proofs.SourceTests.{covers-latent, is_here-true, stands_at-from, stands_at-true}
use Rattle.grid.proofs.Words.{All, All-contains, All-head, All-tail, All-weaker, AllPairs, AllPairs-head, AllPairs-tail, Contains, Contains-cons}
use Rattle.grid.proofs.Words.{Decides-int_eq, IsLatent, Part, Side, Stream, Utility, and_from, and_left, and_right, cases_Bool, cons_if, covers}
use Rattle.grid.proofs.Words.{false_from_ne_true, high_end, if◌then◌else◌, int_eq, int_le, int_sum_by, int_sum_by-add, int_sum_by-append, int_sum_by-zero}
use Rattle.grid.proofs.Words.{interval_parts, ints, is_here, has_latent_heat, low_end, made_parts, picked, pos, same_side, same_side-true, shifted_level, stands_at}
use Rattle.grid.proofs.Words.{stream_part, utility_part, ℤ, ◌+ℤ◌, ◌<ℤ◌}
use Rattle.std.proofs.Common.{Bool, List, [], ap, ap₂, arith, false, get_or, refl, suc, sym, true, ℕ, ⊎_elim, ◌&&◌, ◌++◌, ◌∙◌, ◌∷◌, ◌≡◌}

sum-cons_if : (f : Part → ℤ) (b : Bool) (p : Part) (ps : List Part)
    → int_sum_by f (cons_if b p ps) ≡ (if b then f p else pos 0) +ℤ int_sum_by f ps
sum-cons_if f true p ps = refl
sum-cons_if f false p ps = omega (arith, ints)

sum-picked : {X : Type 0} (f : Part → ℤ) (test : X → Bool) (make : ℕ → X → Part) (v : X → ℤ) (n : ℕ) (xs : List X)
    → ((i : ℕ) (x : X) → f (make i x) ≡ v x)
    → int_sum_by f (picked test make n xs) ≡ int_sum_by (λ x. if test x then v x else pos 0) xs
sum-picked f test make v n [] h = refl
sum-picked f test make v n (x ∷ xs) h = sum-cons_if f (test x) (make n x) (picked test make (suc n) xs)
    ∙ ap₂ ◌+ℤ◌ (ap (λ z. if test x then z else pos 0) (h n x)) (sum-picked f test make v (suc n) xs h)

-- what is added at the places that pass a test
abbrev passed_run : (ℤ → Bool) → (ℤ → ℤ) → List ℤ → ℤ
passed_run test v [] = pos 0
passed_run test v (g ∷ places) = (if test g then v g else pos 0) +ℤ passed_run test v places

-- what a utility adds at the places, a latent stream too, and a stream on the intervals
abbrev pub level_run : (Utility → ℤ) → Side → Utility → List ℤ → ℤ
level_run w side u = passed_run (λ g. is_here side g u) (λ g. w u)

abbrev pub latent_run : (ℤ → ℤ → Stream → ℤ) → Side → Stream → List ℤ → ℤ
latent_run v side s = passed_run (λ g. stands_at side g s) (λ g. v g g s)

abbrev interval_run : (ℤ → ℤ → Stream → ℤ) → Side → Stream → ℤ → List ℤ → ℤ
interval_run v side s g [] = pos 0
interval_run v side s g (low ∷ places) = if covers side g low s then v g low s else pos 0

abbrev pub stream_run : (ℤ → ℤ → Stream → ℤ) → Side → Stream → List ℤ → ℤ
stream_run v side s [] = pos 0
stream_run v side s (g ∷ places) = interval_run v side s g places +ℤ stream_run v side s places

module _ (f : Part → ℤ) (v : ℤ → ℤ → Stream → ℤ) (w : Utility → ℤ)
    (of_streams : (high low : ℤ) (i : ℕ) (s : Stream) → f (stream_part high low i s) ≡ v high low s)
    (of_utilities : (i : ℕ) (u : Utility) → f (utility_part i u) ≡ w u) (streams : List Stream)
    (utilities : List Utility) (side : Side) where
  sum-interval : (g : ℤ) (places : List ℤ)
      → int_sum_by f (interval_parts streams utilities side g places)
      ≡ int_sum_by (λ s. interval_run v side s g places) streams
  sum-interval g [] = sym (int_sum_by-zero (λ s. pos 0) streams (λ k d within. refl))
  sum-interval g (low ∷ places) =
      sum-picked f (covers side g low) (stream_part g low) (v g low) 0 streams (of_streams g low)

  -- a sum over parts, exchanged
  pub sum-made : (places : List ℤ) → int_sum_by f (made_parts streams utilities side places)
      ≡ int_sum_by (λ u. level_run w side u places) utilities +ℤ int_sum_by (λ s.
      latent_run v side s places +ℤ stream_run v side s places) streams
  sum-made [] =
      let none = int_sum_by-zero (λ u. pos 0) utilities (λ k d within. refl) in
      let nothing = int_sum_by-zero (λ s. pos 0) streams (λ k d within. refl) in
      omega (arith, ints)
  sum-made (g ∷ places) =
      let latent = picked (stands_at side g) (stream_part g g) 0 streams in
      let here = picked (is_here side g) utility_part 0 utilities in
      let inside = interval_parts streams utilities side g places in
      let rest = made_parts streams utilities side places in
      let first = int_sum_by-append f (latent ++ here) (inside ++ rest) in
      let level = int_sum_by-append f latent here in
      let second = int_sum_by-append f inside rest in
      let latents = sum-picked f (stands_at side g) (stream_part g g) (v g g) 0 streams (of_streams g g) in
      let levels = sum-picked f (is_here side g) utility_part w 0 utilities of_utilities in
      let intervals = sum-interval g places in
      let later = sum-made places in
      let all_levels =
      int_sum_by-add (λ u. if is_here side g u then w u else pos 0) (λ u. level_run w side u places) utilities in
      let at_place = λ (s : Stream). if stands_at side g s then v g g s else pos 0 in
      let latent_runs = λ (s : Stream). latent_run v side s places in
      let intervals_here = λ (s : Stream). interval_run v side s g places in
      let stream_runs = λ (s : Stream). stream_run v side s places in
      let all_streams =
      int_sum_by-add (λ s. at_place s +ℤ latent_runs s) (λ s. intervals_here s +ℤ stream_runs s) streams in
      let all_latents = int_sum_by-add at_place latent_runs streams in
      let all_intervals = int_sum_by-add intervals_here stream_runs streams in
      let all_later = int_sum_by-add latent_runs stream_runs streams in omega (arith, ints)

-- ---- a utility has one part, at its level, and so has a latent stream

passed_run-none : (test : ℤ → Bool) (v : ℤ → ℤ) (places : List ℤ) → All (λ g. test g ≡ false) places
    → passed_run test v places ≡ pos 0
passed_run-none test v [] fails = refl
passed_run-none test v (g ∷ places) fails =
    let rest = passed_run-none test v places (All-tail (λ z. test z ≡ false) g places fails) in
    let term : (if test g then v g else pos 0) ≡ pos 0
    = ap (λ b. if b then v g else pos 0) (All-head (λ z. test z ≡ false) g places fails) in
    omega (arith, ints)

passed_run-one : (test : ℤ → Bool) (v : ℤ → ℤ) (level : ℤ) (places : List ℤ) → test level ≡ true
    → ((g : ℤ) → test g ≡ true → g ≡ level)
    → AllPairs (λ a b. b <ℤ a) places → Contains places level → passed_run test v places ≡ v level
passed_run-one test v level [] here alone falls (k, within, is) = absurd (omega arith)
passed_run-one test v level (g ∷ places) here alone falls found =
    let lower = AllPairs-head (λ a b. b <ℤ a) g places falls in
    ⊎_elim (λ e.
    let fails : (z : ℤ) → z <ℤ g → test z ≡ false
    = λ z less. false_from_ne_true (test z) (λ passes. let same = alone z passes in omega (arith, ints)) in
    let rest = passed_run-none test v places (All-weaker (λ z. z <ℤ g) (λ z. test z ≡ false) fails places lower) in
    let term : (if test g then v g else pos 0) ≡ v level
    = ap (λ z. if test z then v z else pos 0) e ∙ ap (λ b. if b then v level else pos 0) here in
    omega (arith, ints)) (λ later.
    let under = All-contains (λ place. place <ℤ g) places level lower later in
    let rest = passed_run-one test v level places here alone (AllPairs-tail (λ a b. b <ℤ a) g places falls) later in
    let fails = false_from_ne_true (test g) (λ passes. let same = alone g passes in omega (arith, ints)) in
    let term : (if test g then v g else pos 0) ≡ pos 0 = ap (λ b. if b then v g else pos 0) fails in
    omega (arith, ints)) (Contains-cons g places level found)

none_pass : (test : ℤ → Bool) (places : List ℤ) → ((g : ℤ) → test g ≡ false) → All (λ g. test g ≡ false) places
none_pass test places fails k d within = fails (get_or places k d)

pub level_run-is : (w : Utility → ℤ) (side : Side) (u : Utility) (places : List ℤ)
    → AllPairs (λ a b. b <ℤ a) places → Contains places (shifted_level u)
    → level_run w side u places ≡ (if same_side u.side side then w u else pos 0)
level_run-is w side u places falls found =
    let test = λ (g : ℤ). is_here side g u in
    ⊎_elim (λ same.
    let here : test (shifted_level u) ≡ true =
    and_from (same_side u.side side) (int_eq (shifted_level u) (shifted_level u)) same
    ((Decides-int_eq (shifted_level u) (shifted_level u)).1 refl) in
    passed_run-one test (λ g. w u) (shifted_level u) places here (λ g passes.
    sym (is_here-true side g u passes).level) falls found
    ∙ sym (ap (λ b. if b then w u else pos 0) same))
    (λ other.
    passed_run-none test (λ g. w u) places
    (none_pass test places (λ g. and_left (same_side u.side side) (int_eq (shifted_level u) g) other))
    ∙ sym (ap (λ b. if b then w u else pos 0) other))
    (cases_Bool (same_side u.side side))

pub latent_run-is : (v : ℤ → ℤ → Stream → ℤ) (side : Side) (s : Stream) (places : List ℤ) → IsLatent s
    → same_side s.side side ≡ true
    → AllPairs (λ a b. b <ℤ a) places → Contains places (high_end s)
    → latent_run v side s places ≡ v (high_end s) (high_end s) s
latent_run-is v side s places latent same falls found =
    let stands = stands_at-from side (high_end s) s (same_side-true s.side side same) latent refl in
    passed_run-one (λ g. stands_at side g s) (λ g. v g g s) (high_end s) places stands (λ g passes.
    sym (stands_at-true side g s passes).high) falls found

-- no other stream has a part at a place
pub latent_run-none : (v : ℤ → ℤ → Stream → ℤ) (side : Side) (s : Stream) (places : List ℤ)
    → has_latent_heat s ≡ false → latent_run v side s places ≡ pos 0
latent_run-none v side s places sensible =
    passed_run-none (λ g. stands_at side g s) (λ g. v g g s) places
    (none_pass (λ g. stands_at side g s) places (λ g.
    and_right (same_side s.side side) (has_latent_heat s && int_eq (high_end s) g)
    (and_left (has_latent_heat s) (int_eq (high_end s) g) sensible)))

-- and a latent one has none on an interval
pub stream_run-latent : (v : ℤ → ℤ → Stream → ℤ) (side : Side) (s : Stream) (places : List ℤ) → IsLatent s
    → AllPairs (λ a b. b <ℤ a) places
    → stream_run v side s places ≡ pos 0
stream_run-latent v side s [] latent falls = refl
stream_run-latent v side s (g ∷ []) latent falls = refl
stream_run-latent v side s (g ∷ low ∷ places) latent falls =
    let rest_falls = AllPairs-tail (λ a b. b <ℤ a) g (low ∷ places) falls in
    let rest = stream_run-latent v side s (low ∷ places) latent rest_falls in
    let lower = AllPairs-head (λ a b. b <ℤ a) g (low ∷ places) falls in
    let not_covered = covers-latent side g low s latent (All-head (λ z. z <ℤ g) low places lower) in
    let term : (if covers side g low s then v g low s else pos 0) ≡ pos 0 =
    ap (λ b. if b then v g low s else pos 0) not_covered in
    omega (arith, ints)

-- ---- a stream of the other side has no part

pub stream_run-other : (v : ℤ → ℤ → Stream → ℤ) (side : Side) (s : Stream) (places : List ℤ)
    → same_side s.side side ≡ false
    → stream_run v side s places ≡ pos 0
stream_run-other v side s [] other = refl
stream_run-other v side s (g ∷ []) other = refl
stream_run-other v side s (g ∷ low ∷ places) other =
    let rest = stream_run-other v side s (low ∷ places) other in
    let other_side = and_left (same_side s.side side) (int_le (low_end s) low && int_le g (high_end s)) other in
    let term : (if covers side g low s then v g low s else pos 0) ≡ pos 0 =
    ap (λ b. if b then v g low s else pos 0) other_side in
    omega (arith, ints)

pub latent_run-other : (v : ℤ → ℤ → Stream → ℤ) (side : Side) (s : Stream) (places : List ℤ)
    → same_side s.side side ≡ false
    → latent_run v side s places ≡ pos 0
latent_run-other v side s places other =
    let none_stand = none_pass (λ g. stands_at side g s) places (λ g.
    and_left (same_side s.side side) (has_latent_heat s && int_eq (high_end s) g) other) in
    passed_run-none (λ g. stands_at side g s) (λ g. v g g s) places none_stand
