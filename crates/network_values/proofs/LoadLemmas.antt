-- The states of latent branches are parts of a load: of streams' own branches, behind splits, and of mixes.
use Rattle.network_values.proofs.Words.{All-cons, All-nil, BranchValue, Case, HasNumbers, HasShape, IsAtMost, IsBelow, IsMix, IsOfOneStream, IsPartOfLoad}
use Rattle.network_values.proofs.Words.{IsValuation, KeepsLoad, Line, LoadsAreKept, Network, PassKeepsLoad, Rational, Side, Solves, Stream, Valuation}
use Rattle.network_values.proofs.Words.{at_most-plus_plus, at_most-times_left, at_most-whole, at_most_antisymm, at_most_from_below, at_most_from_not_below}
use Rattle.network_values.proofs.Words.{at_most_from_not_negative, at_most_refl, below_not_same, cases_lt, first_part_of_load, first_state, ints, is_latent}
use Rattle.network_values.proofs.Words.{is_latent_branch, line_at, line_of, made_before, made_by, made_fewer, makes, minus, not_negative-minus, option_map_or}
use Rattle.network_values.proofs.Words.{own_stream, plus, plus-times, positive-nonzero, rational_zero, stream_at, subst₂, times, times-minus, times-turned}
use Rattle.network_values.proofs.Words.{times_cancel_right, times_comm, value_at, whole, zero-times}
use Rattle.network_values.proofs.LineLemmas.{mixed_positive}
use Rattle.network_values.proofs.StreamStates.{is_latent_branch-is}
use Rattle.network_values.proofs.ValuationLemmas.{branch_positive, first_each}
use Rattle.network_values.proofs.WholeLemmas.{item_at, own_value}
use Rattle.std.proofs.Common.{All, [], ap, arith, false, get_or, if◌then◌else◌, inl, inr, length, pos, slice_get, subst, suc, sym, take, zero, ℕ, ◌-◌, ◌<◌}
use Rattle.std.proofs.Common.{◌∙◌, ◌∷◌, ◌≡◌, ◌≤◌, ◌⊎◌}
use Rattle.std.specs.Prelude.{IsTrue}
use Rattle.networks.specs.declared.network.Line.TheVariants as line
use Rattle.stream_case.specs.declared.source.Side.TheVariants as side

-- ---- means

not_negative_factor : (c x : Rational) → IsBelow rational_zero c → IsAtMost rational_zero (times c x)
    → IsAtMost rational_zero x
not_negative_factor c x some h = at_most_from_not_below x rational_zero (λ below.
    let turned = times-turned rational_zero c x (at_most_from_below rational_zero c some) (at_most_from_below x rational_zero below) in
    let none = at_most_antisymm (times c x) rational_zero (subst (IsAtMost (times c x)) (zero-times x) turned) h in
    below_not_same x rational_zero below (times_cancel_right x rational_zero c (positive-nonzero c some) (times_comm x c ∙ none ∙ sym (zero-times c))))

at_most_from_times : (c a b : Rational) → IsBelow rational_zero c → IsAtMost (times c a) (times c b) → IsAtMost a b
at_most_from_times c a b some h = at_most_from_not_negative a b
    (not_negative_factor c (minus b a) some (subst (IsAtMost rational_zero) (sym (times-minus c b a)) (not_negative-minus (times c a) (times c b) h)))

-- the state of a mix is at most, and at least, what both states are
module _ (first second to : BranchValue) (some : IsBelow rational_zero first.cp) (other : IsBelow rational_zero second.cp) (mix : IsMix first second to)
  where
    size : IsBelow rational_zero to.cp
    size = subst (IsBelow rational_zero) (sym mix.size) (mixed_positive first second some other)

    parts : (x : Rational) → times to.cp x ≡ plus (times first.cp x) (times second.cp x)
    parts x = ap (λ c. times c x) mix.size ∙ plus-times first.cp second.cp x

    one_size : IsAtMost rational_zero first.cp
    one_size = at_most_from_below rational_zero first.cp some

    other_size : IsAtMost rational_zero second.cp
    other_size = at_most_from_below rational_zero second.cp other

    mixed_at_most : (x : Rational) → IsAtMost first.t x → IsAtMost second.t x → IsAtMost to.t x
    mixed_at_most x one two =
        let both = at_most-plus_plus (times first.cp first.t) (times first.cp x) (times second.cp second.t) (times second.cp x)
        (at_most-times_left first.cp first.t x one_size one) (at_most-times_left second.cp second.t x other_size two) in
        at_most_from_times to.cp to.t x size (subst₂ IsAtMost (sym mix.heat) (sym (parts x)) both)

    mixed_at_least : (x : Rational) → IsAtMost x first.t → IsAtMost x second.t → IsAtMost x to.t
    mixed_at_least x one two =
        let both = at_most-plus_plus (times first.cp x) (times first.cp first.t) (times second.cp x) (times second.cp second.t)
        (at_most-times_left first.cp x first.t one_size one) (at_most-times_left second.cp x second.t other_size two) in
        at_most_from_times to.cp x to.t size (subst₂ IsAtMost (sym (parts x)) (sym mix.heat) both)

    mixed_part : IsPartOfLoad first.t → IsPartOfLoad second.t → IsPartOfLoad to.t
    mixed_part one two =
        record { least = mixed_at_least rational_zero one.least two.least; most = mixed_at_most (whole (pos 1)) one.most two.most }

-- ---- streams

first_part : (on : Side) → IsPartOfLoad (first_part_of_load on)
first_part side.Hot =
    record { least = at_most-whole (pos 0) (pos 1) (omega (arith, ints)); most = at_most_refl (whole (pos 1)) }
first_part side.Cold =
    record { least = at_most_refl rational_zero; most = at_most-whole (pos 0) (pos 1) (omega (arith, ints)) }

first_kept : (s : Stream) → IsTrue (is_latent s) → IsPartOfLoad (first_state s)
first_kept s latent =
    subst IsPartOfLoad (sym (ap (λ b. if b then first_part_of_load s.side else whole s.supply) latent)) (first_part s.side)

-- ---- branches, line by line

same_latent : (case : Case) (network : Network) (a b : ℕ) → stream_at network.branches a ≡ stream_at network.branches b
    → is_latent_branch case network a ≡ is_latent_branch case network b
unfolding is_latent_branch
same_latent case network a b same = ap (λ i. option_map_or is_latent (slice_get case.streams i) false) same

module _ (case : Case) (network : Network) (n : ℕ) (values : Valuation) (shape : HasShape case network) (is : IsValuation case network n values) where
  abbrev Kept : ℕ → Type 0
  Kept branch = KeepsLoad case network values branch

  -- the branches that the lines before an index have made
  abbrev KeptBefore : ℕ → Type 0
  KeptBefore index = (branch : ℕ) → branch < made_before case network index → Kept branch

  -- a state that is that of another branch of the stream
  kept_as : (a b : ℕ) → stream_at network.branches a ≡ stream_at network.branches b
      → (value_at values a).t ≡ (value_at values b).t → Kept b → Kept a
  kept_as a b stream state kept latent =
      subst IsPartOfLoad (sym state) (kept (sym (same_latent case network a b stream) ∙ latent))

  own_kept : (branch : ℕ) → branch < length case.streams → Kept branch
  own_kept branch early latent = let (s, at) = item_at case.streams branch early in
      let stream = ap (slice_get case.streams) (own_stream shape.made_once branch early) ∙ at in
      subst IsPartOfLoad (sym (ap (λ v. v.t) (own_value is branch s at))) (first_kept s (sym (is_latent_branch-is case network branch s stream) ∙ latent))

  -- the branches that the line at an index makes, where those before it have such states
  made_kept : (index : ℕ) (l : Line) → KeptBefore index → index < n → IsOfOneStream network.branches l
      → HasNumbers case network index l
      → Solves case network values l → PassKeepsLoad case network values l → All Kept (makes l)
  made_kept index (line.Split from first cp second) before early one_stream numbers solved passes =
      let kept = before from (numbers.used 0 0 (omega arith)) in
      All-cons Kept first (second ∷ []) (kept_as first from one_stream.0 solved.first_state kept)
      (All-cons Kept second [] (kept_as second from one_stream.1 solved.second_state kept) (All-nil Kept))
  made_kept index (line.Pass from exchanger to) before early one_stream numbers solved passes =
      All-cons Kept to [] passes (All-nil Kept)
  made_kept index (line.Mix first second to) before early one_stream numbers solved passes =
      let one = numbers.used 0 0 (omega arith) in
      let two = numbers.used 1 0 (omega arith) in
      let above : (branch : ℕ) → branch < made_before case network index
      → IsBelow rational_zero (value_at values branch).cp
      = λ branch known.
      branch_positive case network n values is branch (omega (arith, known, made_fewer case network index n (omega (arith, early)))) in
      All-cons Kept to [] (λ latent.
      let of_first = sym (same_latent case network to first one_stream.1) ∙ latent in
      mixed_part (value_at values first) (value_at values second) (value_at values to) (above first one) (above second two) solved
      (before first one of_first) (before second two (same_latent case network second first one_stream.0 ∙ of_first))) (All-nil Kept)
  made_kept index l before early one_stream numbers solved passes = All-nil Kept

  -- a branch made before a line or by it
  known_kept : (index : ℕ) (l : Line) → KeptBefore index → HasNumbers case network index l
      → All Kept (makes l) → (branch : ℕ)
      → branch < made_before case network (suc index)
      → (branch < made_before case network index) ⊎ (made_before case network index ≤ branch) → Kept branch
  known_kept index l before numbers made branch known (inl earlier) = before branch earlier
  known_kept index l before numbers made branch known (inr later) =
      let j = branch - made_before case network index in
      let inside : j < length (makes l) = omega (arith, known, numbers.next, later) in
      subst Kept (numbers.made j inside ∙ omega (arith, later)) (made j 0 inside)

  kept_before : All (PassKeepsLoad case network values) (take n network.lines) → (index : ℕ) → index ≤ n
      → KeptBefore index
  unfolding made_by
  kept_before passes zero upto branch known = own_kept branch (omega (arith, known))
  kept_before passes (suc index) upto branch known =
      let l = get_or network.lines index (line.End 0) in
      let of = line_of shape index l (line_at network.lines index (line.End 0) (omega (arith, upto, is.within))).here in
      let before = kept_before passes index (omega (arith, upto)) in
      let solved = first_each (Solves case network values) network.lines n is.solved index l (omega (arith, upto)) of.at.here in
      let kept = first_each (PassKeepsLoad case network values) network.lines n passes index l (omega (arith, upto)) of.at.here in
      known_kept index l before of.numbers (made_kept index l before (omega (arith, upto)) of.one_stream of.numbers solved kept) branch known
      (cases_lt branch (made_before case network index))

pub loads_kept : LoadsAreKept
loads_kept case network n values shape is passes branch known =
    kept_before case network n values shape is passes n (omega arith) branch (omega (arith, known, is.count))
