-- The parts of a side above a place add up to the heat of its streams above it; so do those from a place on.
use Rattle.grid.proofs.SourceTests.{has_latent_heat-true}
use Rattle.grid.proofs.MakingLemmas.{holds_ends, holds_levels}
use Rattle.grid.proofs.RunLemmas.{latent_run, latent_run-is, latent_run-none, latent_run-other, level_run, level_run-is, stream_run, stream_run-latent}
use Rattle.grid.proofs.RunLemmas.{stream_run-other, sum-made}
use Rattle.grid.proofs.Words.{*ℤ--ℤ, *ℤ-zero, All, All-contains, AllPairs, AllPairs-head, AllPairs-tail, Contains, Contains-cons, HoldsPlaces, IsLatent}
use Rattle.grid.proofs.Words.{int_lt-false, IsSensible, IsValidStream, Part, Side, Stream, Utility, cases_Bool, clamps, counts_above, heat_over}
use Rattle.grid.proofs.Words.{heat_over-latent, heat_over-sensible, high_end, if◌then◌else◌, int_le, int_le-false, int_le-from, int_lt-from, int_max}
use Rattle.grid.proofs.Words.{int_sum_by, int_sum_by-same, ints, false_from_ne_true, has_latent_heat, is_stream, length_above, low_end, made_parts, order-sensible}
use Rattle.grid.proofs.Words.{piece_heat, pos, same_side, sensible_above, stands_above, ℤ, ◌*ℤ◌, ◌+ℤ◌, ◌-ℤ◌, ◌<ℤ◌, ◌≤ℤ◌}
use Rattle.std.proofs.Common.{Bool, List, [], ap, ap₂, arith, false, get_or, inl, inr, refl, sym, true, ⊎_elim, ◌&&◌, ◌∙◌, ◌∷◌, ◌≡◌, ◌⊎◌}

-- ---- a stream's parts from the top down

greatest_first : (g : ℤ) (places : List ℤ) → AllPairs (λ a b. b <ℤ a) (g ∷ places) → (x : ℤ)
    → Contains (g ∷ places) x → x ≤ℤ g
greatest_first g places falls x found =
    let rest_falls = AllPairs-head (λ a b. b <ℤ a) g places falls in
    ⊎_elim (λ e. omega (arith, ints)) (λ later.
    let less = All-contains (λ z. z <ℤ g) places x rest_falls later in
    omega (arith, ints)) (Contains-cons g places x found)

-- x is a place from g down, or not below g; so it does not lie strictly between g and the next place
abbrev Meets : ℤ → List ℤ → ℤ → Type 0
Meets g places x = Contains (g ∷ places) x ⊎ (g ≤ℤ x)

Meets-next : (g l : ℤ) (places : List ℤ) (x : ℤ) → AllPairs (λ a b. b <ℤ a) (g ∷ l ∷ places) → l <ℤ g
    → Meets g (l ∷ places) x
    → ((x ≤ℤ l) ⊎ (g ≤ℤ x)) × Meets l places x
Meets-next g l places x falls step (inl found) =
    let rest_falls = AllPairs-tail (λ a b. b <ℤ a) g (l ∷ places) falls in
    let first_or_later = Contains-cons g (l ∷ places) x found in
    ⊎_elim (λ e. (inr (omega (arith, ints)), inr (omega (arith, ints)))) (λ later.
    (inl (greatest_first l places rest_falls x later), inl later)) first_or_later
Meets-next g l places x falls step (inr le) = (inr le, inr (omega (arith, ints)))

-- the length of an interval inside the range from low to high, if it lies above a place
abbrev length_in : ℤ → ℤ → ℤ → ℤ → ℤ → ℤ
length_in low high at g l = if (int_le low l && int_le g high) then (if int_le at l then g -ℤ l else pos 0) else pos 0

length_in-is : (low high at g l : ℤ) → l <ℤ g → low ≤ℤ high → (low ≤ℤ l) ⊎ (g ≤ℤ low)
    → (high ≤ℤ l) ⊎ (g ≤ℤ high) → (at ≤ℤ l) ⊎ (g ≤ℤ at)
    → length_in low high at g l ≡ length_above low high (int_max at l) -ℤ length_above low high (int_max at g)
length_in-is low high at g l step order (inl a) (inr b) (inl c) =
    rw (int_le-from low l a, int_le-from g high b, int_le-from at l c) (omega (arith, ints, clamps))
length_in-is low high at g l step order (inl a) (inr b) (inr c) =
    rw (int_le-from low l a, int_le-from g high b, int_le-false at l (omega (arith, ints)))
    (omega (arith, ints, clamps))
length_in-is low high at g l step order (inl a) (inl b) c =
    rw (int_le-from low l a, int_le-false g high (omega (arith, ints)))
    (⊎_elim (λ d. omega (arith, ints, clamps)) (λ d. omega (arith, ints, clamps)) c)
length_in-is low high at g l step order (inr a) b c =
    rw (int_le-false low l (omega (arith, ints)))
    (⊎_elim (λ d. omega (arith, ints, clamps)) (λ d. omega (arith, ints, clamps)) c)

-- the heat of a piece of a stream that stands above a place
abbrev pub piece_above : Bool → ℤ → ℤ → ℤ → Stream → ℤ
piece_above from_itself place high low s =
    if counts_above from_itself place (if from_itself then low else high) then piece_heat high low s else pos 0

-- an interval stands above a place with both ends
interval_above-is : (from_itself : Bool) (at g l : ℤ) → l <ℤ g → (at ≤ℤ l) ⊎ (g ≤ℤ at)
    → counts_above from_itself at (if from_itself then l else g) ≡ int_le at l
interval_above-is true at g l step place = refl
interval_above-is false at g l step (inl below) = int_lt-from at g (omega (arith, ints)) ∙ sym (int_le-from at l below)
interval_above-is false at g l step (inr above) =
    int_lt-false at g above ∙ sym (int_le-false at l (omega (arith, ints)))

module _ (from_itself : Bool) (at : ℤ) (side : Side) (s : Stream) (same : same_side s.side side ≡ true)
    (order : low_end s ≤ℤ high_end s) (no_load : s.load ≡ pos 0) where
  scaled : (b c : Bool) (x : ℤ)
      → (if b then (if c then (s.cp *ℤ x +ℤ s.load) else pos 0) else pos 0)
      ≡ s.cp *ℤ (if b then (if c then x else pos 0) else pos 0)
  scaled true true x = omega (arith, ints)
  scaled true false x = sym (*ℤ-zero s.cp)
  scaled false c x = sym (*ℤ-zero s.cp)

  -- with the heat above the place where they begin the parts on intervals are the sensible heat above the place
  run-is : (g : ℤ) (places : List ℤ) → AllPairs (λ a b. b <ℤ a) (g ∷ places) → Meets g places (low_end s)
      → Meets g places (high_end s) → Meets g places at
      → stream_run (piece_above from_itself at) side s (g ∷ places) +ℤ sensible_above (int_max at g) s
      ≡ sensible_above at s
  run-is g [] falls low high place =
      let here : int_max at g ≡ at =
      ⊎_elim (λ found.
      ⊎_elim (λ e. omega (arith, ints, clamps)) (λ (k, within, is). absurd (omega arith)) (Contains-cons g [] at found))
      (λ le. omega (arith, ints, clamps)) place in
      let heat = ap (λ t. sensible_above t s) here in omega (arith, ints)
  run-is g (l ∷ places) falls low high place =
      let step = AllPairs-head (λ a b. b <ℤ a) g (l ∷ places) falls 0 g (omega arith) in
      let (low_out, low_next) = Meets-next g l places (low_end s) falls step low in
      let (high_out, high_next) = Meets-next g l places (high_end s) falls step high in
      let (place_out, place_next) = Meets-next g l places at falls step place in
      let rest = run-is l places (AllPairs-tail (λ a b. b <ℤ a) g (l ∷ places) falls) low_next high_next place_next in
      let above = λ (t : ℤ). length_above (low_end s) (high_end s) t in
      let term =
      ap (λ b. if (b && (int_le (low_end s) l
      && int_le g (high_end s))) then piece_above from_itself at g l s else pos 0) same
      ∙ ap (λ b.
      if (int_le (low_end s) l && int_le g (high_end s)) then (if b then piece_heat g l s else pos 0) else pos 0)
      (interval_above-is from_itself at g l step place_out)
      ∙ scaled (int_le (low_end s) l && int_le g (high_end s)) (int_le at l) (g -ℤ l)
      ∙ ap (λ x. s.cp *ℤ x) (length_in-is (low_end s) (high_end s) at g l step order low_out high_out place_out)
      ∙ *ℤ--ℤ s.cp (above (int_max at l)) (above (int_max at g)) in
      omega (arith, ints)

has_latent_heat-sensible : (s : Stream) → IsSensible s → has_latent_heat s ≡ false
has_latent_heat-sensible s h =
    false_from_ne_true (has_latent_heat s) (λ e.
    let load = (has_latent_heat-true s e).load in
    let none = h.load in
    omega (arith, ints))

-- on places that hold the ends of a sensible stream and the place, the parts above the place add up to the heat above it
stream_run-is : (from_itself : Bool) (place : ℤ) (side : Side) (s : Stream) (places : List ℤ) → IsSensible s
    → same_side s.side side ≡ true
    → AllPairs (λ a b. b <ℤ a) places → Contains places (low_end s) → Contains places (high_end s)
    → Contains places place
    → stream_run (piece_above from_itself place) side s places ≡ sensible_above place s
stream_run-is from_itself place side s [] sensible same falls (k, within, is) high at = absurd (omega arith)
stream_run-is from_itself place side s (g ∷ places) sensible same falls low high at =
    let order = order-sensible s sensible in
    let top = greatest_first g places falls (high_end s) high in
    let none : length_above (low_end s) (high_end s) (int_max place g) ≡ pos 0 = omega (arith, ints, clamps) in
    let begins = ap (λ l. s.cp *ℤ l) none ∙ *ℤ-zero s.cp in
    let run =
    run-is from_itself place side s same (omega (arith, ints)) sensible.load g places falls (inl low) (inl high)
    (inl at) in
    omega (arith, ints)

-- the one part of a latent stream is its load, if that stands above the place
level_above-is : (from_itself : Bool) (place level : ℤ) (s : Stream) → s.cp ≡ pos 0
    → piece_above from_itself place level level s ≡ (if counts_above from_itself place level then s.load else pos 0)
level_above-is from_itself place level s no_flow =
    ap (λ heat. if counts_above from_itself place (if from_itself then level else level) then heat else pos 0) heat
    ∙ ap (λ end. if counts_above from_itself place end then s.load else pos 0) (either from_itself)
  where
    heat : piece_heat level level s ≡ s.load
    heat =
        let width : level -ℤ level ≡ pos 0 = omega (arith, ints) in
        let none = ap (λ x. s.cp *ℤ x) width ∙ *ℤ-zero s.cp in
        omega (arith, ints)

    either : (b : Bool) → (if b then level else level) ≡ level
    either true = refl
    either false = refl

-- the parts of a stream above a place are its heat above it
runs-are : (from_itself : Bool) (place : ℤ) (side : Side) (s : Stream) (places : List ℤ) → IsSensible s ⊎ IsLatent s
    → AllPairs (λ a b. b <ℤ a) places
    → Contains places (low_end s) → Contains places (high_end s) → Contains places place
    → latent_run (piece_above from_itself place) side s places
    +ℤ stream_run (piece_above from_itself place) side s places
    ≡ (if same_side s.side side then heat_over from_itself place s else pos 0)
runs-are from_itself place side s places heat falls low high at =
    ⊎_elim (λ same. own same heat ∙ sym (ap (λ b. if b then heat_over from_itself place s else pos 0) same)) (λ other.
    let latent = latent_run-other (piece_above from_itself place) side s places other in
    let on_intervals = stream_run-other (piece_above from_itself place) side s places other in
    let none : latent_run (piece_above from_itself place) side s places
    +ℤ stream_run (piece_above from_itself place) side s places
    ≡ pos 0
    = omega (arith, ints) in
    none ∙ sym (ap (λ b. if b then heat_over from_itself place s else pos 0) other))
    (cases_Bool (same_side s.side side))
  where
    own : same_side s.side side ≡ true → IsSensible s ⊎ IsLatent s
        → latent_run (piece_above from_itself place) side s places
        +ℤ stream_run (piece_above from_itself place) side s places
        ≡ heat_over from_itself place s
    own same (inl sensible) =
        let none = latent_run-none (piece_above from_itself place) side s places
        (has_latent_heat-sensible s sensible) in
        let run = stream_run-is from_itself place side s places sensible same falls low high at in
        let whole = heat_over-sensible from_itself place s sensible in
        omega (arith, ints)
    own same (inr latent) =
        let none = stream_run-latent (piece_above from_itself place) side s places latent falls in
        let run = latent_run-is (piece_above from_itself place) side s places latent same falls high
        ∙ level_above-is from_itself place (high_end s) s latent.cp in
        let whole = heat_over-latent from_itself place s latent in omega (arith, ints)

-- ---- the parts of a side

-- the heat of a stream's part above a place, and this much for each utility's part
abbrev pub part_over : Bool → ℤ → ℤ → Part → ℤ
part_over from_itself place each p =
    if is_stream p.source then (if stands_above from_itself place p then p.least else pos 0) else each

pub sum-part_over : (streams : List Stream) (utilities : List Utility) (side : Side) (places : List ℤ)
    (from_itself : Bool)
    (place each : ℤ)
    → All IsValidStream streams → HoldsPlaces streams utilities places → Contains places place
    → int_sum_by (part_over from_itself place each) (made_parts streams utilities side places)
    ≡ int_sum_by (λ u. if same_side u.side side then each else pos 0) utilities +ℤ int_sum_by (λ s.
    if same_side s.side side then heat_over from_itself place s else pos 0) streams
sum-part_over streams utilities side places from_itself place each valid holds at =
    let exchanged =
    sum-made (part_over from_itself place each) (piece_above from_itself place) (λ u. each) (λ high low i s. refl)
    (λ i u. refl) streams utilities side places in
    let levels = int_sum_by-same (λ u. level_run (λ v. each) side u places)
    (λ u. if same_side u.side side then each else pos 0) utilities
    (λ k d within.
    level_run-is (λ v. each) side (get_or utilities k d) places holds.falls
    (holds_levels streams utilities places holds k d within)) in
    let runs =
    int_sum_by-same (λ s.
    latent_run (piece_above from_itself place) side s places
    +ℤ stream_run (piece_above from_itself place) side s places)
    (λ s. if same_side s.side side then heat_over from_itself place s else pos 0) streams (λ k d within.
    let s = get_or streams k d in
    let held = holds_ends streams utilities places holds k d within in
    runs-are from_itself place side s places (valid k d within).heat holds.falls held.1 held.0 at) in
    exchanged ∙ ap₂ ◌+ℤ◌ levels runs
