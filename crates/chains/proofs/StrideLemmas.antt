-- The links down a chain: the strides that fit, which links they give, and how many.
use Rattle.chains.proofs.Words.{All, All-cons, All-head, All-nil, All-tail, Contains, Contains-flat_map, Link, STRIDES, at_drop_more, cases_lt}
use Rattle.chains.proofs.Words.{flat_map, le-leb, lt-leb, onward, open_link, stride_link, stride_links, strides_within}
use Rattle.std.proofs.Common.{List, [], ap, append_assoc, ap₂, arith, drop, get_or, if◌then◌else◌, length, length-append, refl, subst, suc, sym, zero, ℕ}
use Rattle.std.proofs.Common.{⊎_elim, ◌++◌, ◌+◌, ◌-◌, ◌/◌, ◌<◌, ◌∙◌, ◌∷◌, ◌≡◌, ◌≤◌}
use Rattle.std.proofs.lemmas.List.FromFn.{get_or-map-range_with_len, length-map-range_with_len}

module _ (nodes : ℕ) where
  abbrev count : ℕ → ℕ
  count stride = (nodes - 1) / stride

  -- a stride that fits, and one that does not
  within-fits : (room stride : ℕ) (strides : List ℕ) → count stride ≤ room
      → strides_within nodes room (stride ∷ strides) ≡ stride ∷ strides_within nodes (room - count stride) strides
  unfolding strides_within
  within-fits room stride strides fits =
      ap (λ b.
      if b then stride ∷ strides_within nodes (room - count stride) strides else strides_within nodes room strides)
      (le-leb (count stride) room fits)

  within-misses : (room stride : ℕ) (strides : List ℕ) → room < count stride
      → strides_within nodes room (stride ∷ strides) ≡ strides_within nodes room strides
  unfolding strides_within
  within-misses room stride strides late =
      ap (λ b.
      if b then stride ∷ strides_within nodes (room - count stride) strides else strides_within nodes room strides)
      (lt-leb (count stride) room late)

  within-none : (room : ℕ) → strides_within nodes room [] ≡ []
  unfolding strides_within
  within-none room = refl

  -- what holds of all strides holds of those that fit
  All-within : (P : ℕ → Type 0) (room : ℕ) (strides : List ℕ) → All P strides
      → All P (strides_within nodes room strides)
  All-within P room [] all = subst (All P) (sym (within-none room)) (All-nil P)
  All-within P room (stride ∷ strides) all =
      let later = All-tail P stride strides all in
      ⊎_elim (λ late. subst (All P) (sym (within-misses room stride strides late)) (All-within P room strides later))
      (λ fits.
      subst (All P) (sym (within-fits room stride strides fits))
      (All-cons P stride (strides_within nodes (room - count stride) strides) (All-head P stride strides all)
      (All-within P (room - count stride) strides later)))
      (cases_lt room (count stride))

strides_positive : All (λ stride. 0 < stride) STRIDES
strides_positive zero d within = omega arith
strides_positive (suc zero) d within = omega arith
strides_positive (suc (suc zero)) d within = omega arith
strides_positive (suc (suc (suc zero))) d within = omega arith
strides_positive (suc (suc (suc (suc zero)))) d within = omega arith
strides_positive (suc (suc (suc (suc (suc k))))) d within = absurd (omega (arith, within))

pub positive-within : (nodes room : ℕ) → All (λ stride. 0 < stride) (strides_within nodes room STRIDES)
positive-within nodes room = All-within nodes (λ stride. 0 < stride) room STRIDES strides_positive

pub stride_positive : (i : ℕ) → i < length STRIDES → 0 < get_or STRIDES i 0
stride_positive i within = strides_positive i 0 within

-- ---- the links of the strides that fit

module _ (first nodes : ℕ) where
  abbrev pub links_within : ℕ → List ℕ → List Link
  links_within room strides = flat_map (stride_links first nodes) (strides_within nodes room strides)

  few-within : (room : ℕ) (strides : List ℕ) → length (links_within room strides) ≤ room
  few-within room [] =
      let none = ap (λ ss. length (flat_map (stride_links first nodes) ss)) (within-none nodes room) in
      omega (arith, none)
  few-within room (stride ∷ strides) =
      ⊎_elim
      (λ late.
      let skipped = within-misses nodes room stride strides late in
      let same = ap (λ ss. length (flat_map (stride_links first nodes) ss)) skipped in
      omega (arith, same, few-within room strides))
      (λ fits.
      let rest = links_within (room - count nodes stride) strides in
      let taken = within-fits nodes room stride strides fits in
      let same = ap (λ ss. length (flat_map (stride_links first nodes) ss)) taken in
      let both = length-append (stride_links first nodes stride) rest in
      let own = length-map-range_with_len (stride_link first stride) 0 (count nodes stride) in
      omega (arith, same, both, own, few-within (room - count nodes stride) strides, fits))
      (cases_lt room (count nodes stride))

  pub few_onward : (room : ℕ) → length (onward first nodes room) ≤ room
  unfolding onward
  few_onward room = few-within room STRIDES

  -- from each node a link leads to the next one
  pub next_onward : (room r : ℕ) → (nodes - 1) ≤ room → (r + 1) < nodes
      → Contains (onward first nodes room) (open_link (first + r) (first + (r + 1)))
  unfolding onward
  next_onward room r le within =
      let next = open_link (first + r) (first + (r + 1)) in
      let same : stride_link first 1 r ≡ next = ap₂ open_link (omega arith) (omega arith) in
      let early : r < count nodes 1 = omega (arith, within) in
      let stands = get_or-map-range_with_len (stride_link first 1) 0 (count nodes 1) r r next early (omega arith) in
      let among : r < length (stride_links first nodes 1)
      = omega (arith, early, length-map-range_with_len (stride_link first 1) 0 (count nodes 1)) in
      let fits = within-fits nodes room 1 (drop 1 STRIDES) (omega (arith, le)) in
      let there = subst (λ ss. Contains ss 1) (sym fits) (0, omega arith, refl) in
      Contains-flat_map (stride_links first nodes) (strides_within nodes room STRIDES) 1 next there
      (r, among, stands ∙ same)

  -- ---- what a loop over the strides has still to append

  module _ (strides : List ℕ) (i stride room : ℕ) (within : i < length strides)
      (is : stride ≡ get_or strides i 0) (before whole after : List Link)
      (so_far : before ++ links_within room (drop i strides) ≡ whole) where
    here : links_within room (drop i strides) ≡ links_within room (stride ∷ drop (i + 1) strides)
    here =
        at_drop_more (links_within room) strides i 0 within
        ∙ ap (λ n. links_within room (n ∷ drop (i + 1) strides)) (sym is)

    pub stride-fits : count nodes stride ≤ room → after ≡ before ++ stride_links first nodes stride
        → after ++ links_within (room - count nodes stride) (drop (i + 1) strides) ≡ whole
    stride-fits fits pushed =
        let own = stride_links first nodes stride in
        let rest = links_within (room - count nodes stride) (drop (i + 1) strides) in
        let next : links_within room (drop i strides) ≡ own ++ rest
        = here ∙ ap (flat_map (stride_links first nodes)) (within-fits nodes room stride (drop (i + 1) strides) fits) in
        ap (λ links. links ++ rest) pushed ∙ append_assoc before own rest
        ∙ ap (λ links. before ++ links) (sym next) ∙ so_far

    pub stride-misses : room < count nodes stride → after ≡ before
        → after ++ links_within room (drop (i + 1) strides) ≡ whole
    stride-misses late kept =
        let skipped = within-misses nodes room stride (drop (i + 1) strides) late in
        let next = here ∙ ap (flat_map (stride_links first nodes)) skipped in
        ap (λ links. links ++ links_within room (drop (i + 1) strides)) kept
        ∙ ap (λ links. before ++ links) (sym next) ∙ so_far

  pub links_within-none : (room : ℕ) → links_within room [] ≡ []
  links_within-none room = ap (flat_map (stride_links first nodes)) (within-none nodes room)
