-- The balance of any weight of the branches of a network: what is even at each line adds up, each stream ends just once, and no branch is left over.
use Rattle.network_values.proofs.Words.{All-flat_map, All-head, All-map, All-nil, All-tail, All-weaker, AreEnded, AreMadeInOrder, BranchValue, Case}
use Rattle.network_values.proofs.Words.{Contains-get_or, Contains-slice_get, EndOnce, HasShape, IsAdditive, IsAtMost, IsBelow, IsOfOneStream, IsWholeValuation}
use Rattle.network_values.proofs.Words.{Line, Network, Rational, Solves, Stream, StreamsEndOnce, Valuation, Weight, WeightsBalance, at_most-plus_left}
use Rattle.network_values.proofs.Words.{at_most-plus_right, at_most_from_below, at_most_from_plus, at_most_refl, at_most_trans, below_not_at_most, cases_eq}
use Rattle.network_values.proofs.Words.{ended_by, ended_streams, ends, enumerate_from, false≢true, first_value, found, get_or-map, last_value, length-map}
use Rattle.network_values.proofs.Words.{list_any, made_by, makes, minus, minus-plus, minus-self, mix_loss, nat_tests, none_any, option_map_or, own_stream}
use Rattle.network_values.proofs.Words.{pass_loss, plus, plus-minus, plus-zero, plus_assoc, plus_cancel_left, plus_comm, range_with_len, range_with_len-append}
use Rattle.network_values.proofs.Words.{rational_sum_by, rational_zero, stream_at, stream_loss, stream_within, streams_first, subst₂, used_by, used_there}
use Rattle.network_values.proofs.Words.{used_within, uses, value_at, weight_at, zero-plus}
use Rattle.std.proofs.Common.{All, AllPairs, Bool, Contains, List, Some, [], ap, ap₂, arith, eq-eqb, false, get_or, if◌then◌else◌, inl, inr, length, ne_eqb}
use Rattle.std.proofs.Common.{refl, slice_get, subst, suc, sym, true, zero, ℕ, ◌+◌, ◌-◌, ◌<◌, ◌==◌, ◌∙◌, ◌∷◌, ◌≡◌, ◌≢◌, ◌⊎◌}
use Rattle.network_values.proofs.WholeLemmas.{All-range, Contains-range, all_solved, branch_above, item_at, own_value}
use Rattle.fractions.proofs.RationalSums.{but_at, left_of, left_of-unused, left_of-used, not_negative-rational_sum_by, one_taken, rational_sum_by-append}
use Rattle.fractions.proofs.RationalSums.{rational_sum_by-flat_map, rational_sum_by-map, rational_sum_by-minus, rational_sum_by-plus, rational_sum_by-same}
use Rattle.fractions.proofs.RationalSums.{rational_sum_by-zero, sum-enumerate, sum_over_used, term-at_most}
use Rattle.networks.specs.declared.network.Line.TheVariants as line

module _ (weight : ℕ → Rational) where
  abbrev pub IsEven : Line → Type 0
  IsEven (line.Split from first cp second) = weight from ≡ plus (weight first) (weight second)
  IsEven l = Unit {0}

  -- what a line takes, beside what it makes
  abbrev taken : Line → Rational
  taken l = plus (plus (pass_loss weight l) (mix_loss weight l)) (rational_sum_by weight (ends l))

  -- what is taken away, and put to it again
  put_back : (a b : Rational) → a ≡ plus b (minus a b)
  put_back a b = sym (plus_comm b (minus a b) ∙ plus-minus a b)

  line_balance : (l : Line) → IsEven l
      → rational_sum_by weight (uses l) ≡ plus (rational_sum_by weight (makes l)) (taken l)
  line_balance (line.Exchanger name hot cold duty) even = simp plus-zero refl
  line_balance (line.Split from first cp second) even = simp plus-zero even
  line_balance (line.Pass from exchanger to) even = simp plus-zero (put_back (weight from) (weight to))
  line_balance (line.Mix first second to) even =
      simp (plus-zero, zero-plus) (put_back (plus (weight first) (weight second)) (weight to))
  line_balance (line.End branch) even = simp (plus-zero, zero-plus) refl

  lines_balance : (network : Network) → All IsEven network.lines → rational_sum_by weight (used_by network.lines)
      ≡ plus (rational_sum_by weight (made_by network.lines))
      (plus (plus (rational_sum_by (pass_loss weight) network.lines) (rational_sum_by (mix_loss weight) network.lines))
      (rational_sum_by weight (ended_by network.lines)))
  unfolding used_by made_by ended_by
  lines_balance network even =
      let lines = network.lines in
      let make = λ (l : Line). rational_sum_by weight (makes l) in
      let end = λ (l : Line). rational_sum_by weight (ends l) in
      let between = λ (l : Line). plus (pass_loss weight l) (mix_loss weight l) in
      rational_sum_by-flat_map weight uses lines
      ∙ rational_sum_by-same (λ l. rational_sum_by weight (uses l)) (λ l. plus (make l) (taken l)) lines
      (All-weaker IsEven (λ l. rational_sum_by weight (uses l) ≡ plus (make l) (taken l)) line_balance lines even)
      ∙ rational_sum_by-plus make taken lines
      ∙ ap₂ plus (sym (rational_sum_by-flat_map weight makes lines)) (rational_sum_by-plus between end lines ∙ ap₂ plus
      (rational_sum_by-plus (pass_loss weight) (mix_loss weight) lines) (sym (rational_sum_by-flat_map weight ends lines)))

  -- all branches are those of the streams and those that lines make
  all_made_by : {case : Case} {network : Network} → AreMadeInOrder case network
      → rational_sum_by weight (range_with_len 0 (length network.branches))
      ≡ plus (rational_sum_by weight (range_with_len 0 (length case.streams)))
      (rational_sum_by weight (made_by network.lines))
  all_made_by {case} {network} made =
      let m = length case.streams in
      let n = length network.branches - m in
      let total : m + n ≡ length network.branches = omega (arith, streams_first made) in
      let own = rational_sum_by weight (range_with_len 0 m) in
      ap (λ k. rational_sum_by weight (range_with_len 0 k)) (sym total)
      ∙ ap (rational_sum_by weight) (sym (range_with_len-append 0 m n))
      ∙ rational_sum_by-append weight (range_with_len 0 m) (range_with_len (0 + m) n) ∙ ap (λ k. plus own
      (rational_sum_by weight (range_with_len k n))) {x = 0 + m} {y = m} (omega arith)
      ∙ ap (λ ns. plus own (rational_sum_by weight ns)) (sym made.made)

  -- the streams' own branches weigh what passes and mixes take, and the ended branches, and those that are left over
  pub flow_balance : {case : Case} {network : Network} → HasShape case network → All IsEven network.lines
      → rational_sum_by weight (range_with_len 0 (length case.streams))
      ≡ plus (plus (plus (rational_sum_by (pass_loss weight) network.lines) (rational_sum_by (mix_loss weight) network.lines))
      (rational_sum_by weight (ended_by network.lines))) (rational_sum_by (left_of weight (used_by network.lines)) (range_with_len 0 (length network.branches)))
  flow_balance {case} {network} shape even =
      let own = rational_sum_by weight (range_with_len 0 (length case.streams)) in
      let made = rational_sum_by weight (made_by network.lines) in
      let left = rational_sum_by (left_of weight (used_by network.lines)) (range_with_len 0 (length network.branches)) in
      let all = sum_over_used weight (used_by network.lines) (length network.branches) shape.used_once (used_within shape.made_once shape.made_first) in
      plus_cancel_left own _ made
      (plus_comm made own ∙ sym (all_made_by shape.made_once) ∙ all ∙ ap (λ x. plus x left) (lines_balance network even) ∙ plus_assoc made _ left)

-- Each stream ends just once, and no branch is left over.

-- ---- additive weights

pub even : (weight : Weight) → IsAdditive weight
    → (case : Case) (network : Network) (values : Valuation) (l : Line) → IsOfOneStream network.branches l
    → Solves case network values l → IsEven (weight_at weight network values) l
even weight additive case network values (line.Split from first cp second) one solves =
    let i = stream_at network.branches from in
    let whole = value_at values from in
    let part : (b : ℕ) → stream_at network.branches b ≡ i → (value_at values b).t ≡ whole.t → weight i
    (record { cp = (value_at values b).cp; t = whole.t }) ≡ weight_at weight network values b =
    λ b of_stream state. ap₂ (λ n t. weight n (record { cp = (value_at values b).cp; t = t })) (sym of_stream) (sym state) in
    ap (λ f. weight i (record { cp = f; t = whole.t })) (sym solves.sizes)
    ∙ additive i (value_at values first).cp (value_at values second).cp whole.t
    ∙ ap₂ plus (part first one.0 solves.first_state) (part second one.1 solves.second_state)
even weight additive case network values l one solves = tt

module _ {case : Case} {network : Network} {values : Valuation} (shape : HasShape case network) (whole : IsWholeValuation case network values) where
  pub all_even : (weight : Weight) → IsAdditive weight → All (IsEven (weight_at weight network values)) network.lines
  all_even weight additive k d within =
      even weight additive case network values (get_or network.lines k d) (shape.one_stream k d within)
      (all_solved whole k d within)

-- ---- branches that end

pub ended_within : {case : Case} {network : Network} → HasShape case network
    → All (λ b. b < length network.branches) (ended_by network.lines)
unfolding ended_by
ended_within {case} {network} shape =
    All-flat_map (λ b. b < length network.branches) ends network.lines (All-weaker (λ l. All (λ b. b < length network.branches) (uses l))
    (λ l. All (λ b. b < length network.branches) (ends l)) of_line network.lines (used_there shape.made_once shape.made_first))
  where
    of_line : (l : Line) → All (λ b. b < length network.branches) (uses l)
        → All (λ b. b < length network.branches) (ends l)
    of_line (line.End branch) within = within
    of_line l within = All-nil (λ b. b < length network.branches)

-- ---- sizes as weights

-- the sizes of the branches of one stream
unfoldable pub sizes : ℕ → Weight
sizes i stream value = if i == stream then value.cp else rational_zero

sizes-additive : (i : ℕ) → IsAdditive (sizes i)
unfolding sizes
sizes-additive i stream f g t = grind (arith, plus-zero)

sizes-own : (i : ℕ) (value : BranchValue) → sizes i i value ≡ value.cp
unfolding sizes
sizes-own i value = ap (λ b. if b then value.cp else rational_zero) (eq-eqb i i refl)

sizes-other : (i stream : ℕ) (value : BranchValue) → i ≢ stream → sizes i stream value ≡ rational_zero
unfolding sizes
sizes-other i stream value other = ap (λ b. if b then value.cp else rational_zero) (ne_eqb i stream other)

sizes-above : (i stream : ℕ) (value : BranchValue) → IsBelow rational_zero value.cp
    → IsAtMost rational_zero (sizes i stream value)
unfolding sizes
sizes-above i stream value above = grind (arith, at_most_from_below, at_most_refl)

-- two branches of one size
sizes-same : (i stream other : ℕ) (a b : BranchValue) → stream ≡ other → a.cp ≡ b.cp
    → sizes i stream a ≡ sizes i other b
unfolding sizes
sizes-same i stream other a b same size = ap₂ (λ s f. if i == s then f else rational_zero) same size

-- two numbers of the greatest value c don't fit into a sum of at most c
no_two : (f : ℕ → Rational) (c : Rational) → IsBelow rational_zero c → (us : List ℕ)
    → All (λ u. IsAtMost rational_zero (f u)) us
    → IsAtMost (rational_sum_by f us) c → (i j d : ℕ) → i < j → j < length us → f (get_or us i d) ≡ c
    → f (get_or us j d) ≡ c → ⊥
no_two f c some [] least few i j d before within one two = absurd (omega (arith, within))
no_two f c some (u ∷ us) least few i zero d before within one two = absurd (omega (arith, before))
no_two f c some (u ∷ us) least few zero (suc j) d before within one two =
    let later = All-tail (λ v. IsAtMost rational_zero (f v)) u us least in
    let none : IsAtMost (rational_sum_by f us) rational_zero
    = at_most_from_plus (rational_sum_by f us) rational_zero c (subst₂ IsAtMost
    (plus_comm (f u) (rational_sum_by f us) ∙ ap (plus (rational_sum_by f us)) one) (sym (zero-plus c)) few) in
    let here = subst (λ x. IsAtMost x (rational_sum_by f us)) two (term-at_most f us (get_or us j d) later (Contains-get_or us j d (omega (arith, within)))) in
    below_not_at_most rational_zero c some (at_most_trans c (rational_sum_by f us) rational_zero here none)
no_two f c some (u ∷ us) least few (suc i) (suc j) d before within one two =
    no_two f c some us (All-tail (λ v. IsAtMost rational_zero (f v)) u us least) (at_most_trans (rational_sum_by f us) (plus (f u) (rational_sum_by f us)) c
    (at_most-plus_left (f u) (rational_sum_by f us) (All-head (λ v. IsAtMost rational_zero (f v)) u us least)) few) i j d (omega (arith, before))
    (omega (arith, within)) one two

-- ---- streams end once

module _ {case : Case} {network : Network} {values : Valuation} (shape : HasShape case network) (whole : IsWholeValuation case network values)
    (ended : AreEnded case network values) where
  -- the size of a branch, where it is one of the stream
  abbrev of : ℕ → ℕ → Rational
  of i = weight_at (sizes i) network values

  abbrev left : ℕ → Rational
  left i = rational_sum_by (left_of (of i) (used_by network.lines)) (range_with_len 0 (length network.branches))

  abbrev all_ended : ℕ → Rational
  all_ended i = rational_sum_by (of i) (ended_by network.lines)

  of-least : (i branch : ℕ) → branch < length network.branches → IsAtMost rational_zero (of i branch)
  of-least i branch within =
      sizes-above i (stream_at network.branches branch) (value_at values branch) (branch_above whole shape branch within)

  -- passes and mixes take nothing of the sizes
  pass_loss-none : (i : ℕ) (l : Line) → IsOfOneStream network.branches l → Solves case network values l
      → pass_loss (of i) l ≡ rational_zero
  pass_loss-none i (line.Pass from exchanger to) one solves =
      ap (minus (of i from)) (sizes-same i (stream_at network.branches to)
      (stream_at network.branches from) (value_at values to) (value_at values from) one solves.size)
      ∙ minus-self (of i from)
  pass_loss-none i l one solves = refl

  mix_loss-none : (i : ℕ) (l : Line) → IsOfOneStream network.branches l → Solves case network values l
      → mix_loss (of i) l ≡ rational_zero
  mix_loss-none i (line.Mix first second to) one solves =
      let s = stream_at network.branches first in
      let both : BranchValue
      = record { cp = plus (value_at values first).cp (value_at values second).cp; t = rational_zero } in
      let one_first = sizes-same i s s (value_at values first) (record { cp = (value_at values first).cp; t = rational_zero }) refl refl in
      let one_second = sizes-same i (stream_at network.branches second) s (value_at values second)
      (record { cp = (value_at values second).cp; t = rational_zero }) one.0 refl in
      ap₂ minus (ap₂ plus one_first one_second ∙ sym (sizes-additive i s (value_at values first).cp (value_at values second).cp rational_zero))
      (sizes-same i (stream_at network.branches to) s (value_at values to) both one.1 solves.size)
      ∙ minus-self (sizes i s both)
  mix_loss-none i l one solves = refl

  -- a stream's own branch is the only one of them that is of the stream
  own_size : (i : ℕ) → i < length case.streams
      → rational_sum_by (of i) (range_with_len 0 (length case.streams)) ≡ (value_at values i).cp
  own_size i within =
      one_taken (of i) i 0 (length case.streams) (omega arith) (omega (arith, within))
      ∙ ap₂ plus (ap (λ s. sizes i s (value_at values i))
      (own_stream shape.made_once i within)
      ∙ sizes-own i (value_at values i)) (rational_sum_by-zero (but_at (of i) i) (range_with_len 0 (length case.streams))
      (All-range (λ k. but_at (of i) i k ≡ rational_zero) (length case.streams) others))
      ∙ plus-zero (value_at values i).cp
    where
      others : (k : ℕ) → k < length case.streams → but_at (of i) i k ≡ rational_zero
      others k inside = by (cases_eq k i)
        where
          by : (k ≡ i) ⊎ (k ≢ i) → but_at (of i) i k ≡ rational_zero
          by (inl same) = ap (λ b. if b then rational_zero else of i k) (eq-eqb k i same)
          by (inr other) =
              ap (λ b. if b then rational_zero else of i k) (ne_eqb k i other) ∙ ap (λ s. sizes i s (value_at values k))
              (own_stream shape.made_once k inside) ∙ sizes-other i k (value_at values k) (λ same. other (sym same))

  -- so the size of a stream is that of its ended branches, and of those that are left over
  sizes_balance : (i : ℕ) → i < length case.streams → (value_at values i).cp ≡ plus (all_ended i) (left i)
  sizes_balance i within =
      sym (own_size i within) ∙ flow_balance (of i) shape (all_even shape whole (sizes i) (sizes-additive i))
      ∙ ap (λ x. plus x (left i))
      (ap (λ x. plus x (all_ended i)) (ap₂ plus passes mixes ∙ plus-zero rational_zero) ∙ zero-plus (all_ended i))
    where
      passes : rational_sum_by (pass_loss (of i)) network.lines ≡ rational_zero
      passes = rational_sum_by-zero (pass_loss (of i)) network.lines
          (λ k d inside. pass_loss-none i (get_or network.lines k d) (shape.one_stream k d inside) (all_solved whole k d inside))

      mixes : rational_sum_by (mix_loss (of i)) network.lines ≡ rational_zero
      mixes = rational_sum_by-zero (mix_loss (of i)) network.lines
          (λ k d inside. mix_loss-none i (get_or network.lines k d) (shape.one_stream k d inside) (all_solved whole k d inside))

  left_of-least : (i k : ℕ) → k < length network.branches
      → IsAtMost rational_zero (left_of (of i) (used_by network.lines) k)
  left_of-least i k within = grind (arith, at_most_refl, of-least)

  all_left-least : (i : ℕ)
      → All (λ k. IsAtMost rational_zero (left_of (of i) (used_by network.lines) k)) (range_with_len 0 (length network.branches))
  all_left-least i =
      All-range (λ k. IsAtMost rational_zero (left_of (of i) (used_by network.lines) k)) (length network.branches) (left_of-least i)

  all_ended-least : (i : ℕ) → All (λ u. IsAtMost rational_zero (of i u)) (ended_by network.lines)
  all_ended-least i =
      All-weaker (λ b. b < length network.branches) (λ u. IsAtMost rational_zero (of i u)) (of-least i) (ended_by network.lines)
      (ended_within shape)

  -- an end of a stream has all of its size
  end_size : (i : ℕ) → i < length case.streams → (k : ℕ) → k < length (ended_by network.lines)
      → stream_at network.branches (get_or (ended_by network.lines) k 0) ≡ i
      → of i (get_or (ended_by network.lines) k 0) ≡ (value_at values i).cp
  end_size i within k inside same =
      let (s, at) = item_at case.streams i within in
      let full = ended.full k 0 inside s (ap (slice_get case.streams) same ∙ at) in
      ap₂ (sizes i) same full ∙ sizes-own i (last_value s)
      ∙ ap (λ (v : BranchValue). v.cp) (sym (own_value whole i s at))

  some_end : (i : ℕ) → Contains (ended_streams network) i
      → (k : ℕ) × (k < length (ended_by network.lines)) × (stream_at network.branches (get_or (ended_by network.lines) k 0) ≡ i)
  unfolding ended_streams
  some_end i (k, within, is) = let all = ended_by network.lines in
      let inside : k < length all = omega (arith, within, length-map all (stream_at network.branches)) in
      (k, inside, sym (get_or-map (stream_at network.branches) all k 0 i inside) ∙ is)

  nothing_left : (i : ℕ) → i < length case.streams → IsAtMost (left i) rational_zero
  nothing_left i within =
      let all = ended_by network.lines in
      let (k, inside, same) = some_end i (ended.each i within) in
      let here = subst (λ x. IsAtMost x (all_ended i)) (end_size i within k inside same) (term-at_most (of i) all (get_or all k 0) (all_ended-least i)
      (Contains-get_or all k 0 inside)) in
      at_most_from_plus (left i) rational_zero (all_ended i) (subst₂ IsAtMost (sizes_balance i within ∙ plus_comm (all_ended i) (left i))
      (sym (zero-plus (all_ended i))) here)

  all_used : (branch : ℕ) → branch < length network.branches → Contains (used_by network.lines) branch
  all_used branch within = by (list_any (λ u. branch == u) (used_by network.lines)) refl
    where
      by : (b : Bool) → list_any (λ u. branch == u) (used_by network.lines) ≡ b
          → Contains (used_by network.lines) branch
      by true some = let (k, u, it) = found (λ v. branch == v) (used_by network.lines) some in
          subst (Contains (used_by network.lines)) (grind (arith, nat_tests, it.passes)) (Contains-slice_get (used_by network.lines) k u it.at)
      by false none = let i = stream_at network.branches branch in
          let apart = All-weaker (λ u. (branch == u) ≡ false) (λ u. branch ≢ u) (λ u differ same. false≢true (sym differ ∙ eq-eqb branch u same))
          (used_by network.lines) (none_any (λ u. branch == u) (used_by network.lines) none) in
          let here = left_of-unused (of i) (used_by network.lines) branch apart
          ∙ sizes-own i (value_at values branch) in
          let term = term-at_most (left_of (of i) (used_by network.lines)) (range_with_len 0 (length network.branches)) branch (all_left-least i)
          (Contains-range (length network.branches) branch within) in
          absurd (below_not_at_most rational_zero (value_at values branch).cp (branch_above whole shape branch within)
          (at_most_trans _ (left i) rational_zero (subst (λ x. IsAtMost x (left i)) here term) (nothing_left i (stream_within shape branch within))))

  ends_differ : AllPairs (λ a b. a ≢ b) (ended_streams network)
  unfolding ended_streams
  ends_differ j k d before within same = let all = ended_by network.lines in
      let second : k < length all = omega (arith, within, length-map all (stream_at network.branches)) in
      let first : j < length all = omega (arith, before, second) in
      let i = stream_at network.branches (get_or all j 0) in
      let other : stream_at network.branches (get_or all k 0) ≡ i
      = sym (get_or-map (stream_at network.branches) all k 0 d second) ∙ sym same
      ∙ get_or-map (stream_at network.branches) all j 0 d first in
      let inside = stream_within shape (get_or all j 0) (ended_within shape j 0 first) in
      let size = (value_at values i).cp in
      let few = subst (IsAtMost (all_ended i)) (sym (sizes_balance i inside)) (at_most-plus_right (all_ended i) (left i)
      (not_negative-rational_sum_by (left_of (of i) (used_by network.lines)) (range_with_len 0 (length network.branches)) (all_left-least i))) in
      no_two (of i) size (branch_above whole shape i (omega (arith, inside, streams_first shape.made_once))) all (all_ended-least i) few j k 0 before second
      (end_size i inside j first refl) (end_size i inside k second other)

  pub end_once : EndOnce network
  end_once = record { distinct = ends_differ; none_left = all_used }

pub streams_end : StreamsEndOnce
streams_end case network values shape whole ended = end_once shape whole ended

-- The balance of any additive weight.

-- nothing is left over where each number is used
none_left-zero : (f : ℕ → Rational) (us : List ℕ) (n : ℕ) → ((k : ℕ) → k < n → Contains us k)
    → rational_sum_by (left_of f us) (range_with_len 0 n) ≡ rational_zero
none_left-zero f us n used = rational_sum_by-zero (left_of f us) (range_with_len 0 n)
    (All-range (λ k. left_of f us k ≡ rational_zero) n (λ k within. left_of-used f us k (used k within)))

module _ (case : Case) (network : Network) (values : Valuation) (weight : Weight) (shape : HasShape case network) (whole : IsWholeValuation case network values)
    (ended : AreEnded case network values) where
  -- what a stream weighs at its beginning, and at its end
  abbrev begin_weight : ℕ → Rational
  begin_weight i = option_map_or (λ s. weight i (first_value s)) (slice_get case.streams i) rational_zero

  abbrev end_weight : ℕ → Rational
  end_weight i = option_map_or (λ s. weight i (last_value s)) (slice_get case.streams i) rational_zero

  abbrev branch_weight : ℕ → Rational
  branch_weight = weight_at weight network values

  abbrev all_taken : Rational
  all_taken =
      plus (rational_sum_by (pass_loss branch_weight) network.lines) (rational_sum_by (mix_loss branch_weight) network.lines)

  streams : List ℕ
  streams = range_with_len 0 (length case.streams)

  own_weight : (i : ℕ) → i < length case.streams → begin_weight i ≡ branch_weight i
  own_weight i within = let (s, at) = item_at case.streams i within in
      ap (λ o. option_map_or (λ t. weight i (first_value t)) o rational_zero) at
      ∙ sym (ap₂ weight (own_stream shape.made_once i within) (own_value whole i s at))

  ended_weight : (branch : ℕ) → branch < length network.branches
      → ((s : Stream) → slice_get case.streams (stream_at network.branches branch) ≡ Some s → value_at values branch ≡ last_value s)
      → branch_weight branch ≡ end_weight (stream_at network.branches branch)
  ended_weight branch within full =
      let i = stream_at network.branches branch in
      let (s, at) = item_at case.streams i (stream_within shape branch within) in
      ap (weight i) (full s at) ∙ sym (ap (λ o. option_map_or (λ t. weight i (last_value t)) o rational_zero) at)

  -- the ended branches are the streams' ends, each once
  ends_weigh : rational_sum_by branch_weight (ended_by network.lines) ≡ rational_sum_by end_weight streams
  unfolding ended_streams streams
  ends_weigh =
      let all = ended_by network.lines in
      let once = end_once shape whole ended in
      let within = ended_within shape in
      let streams_within : All (λ i. i < length case.streams) (ended_streams network)
      = All-map (λ i. i < length case.streams) (stream_at network.branches) all
      (λ k d inside. stream_within shape (get_or all k d) (within k d inside)) in
      rational_sum_by-same branch_weight (λ b. end_weight (stream_at network.branches b)) all (λ k d inside. ended_weight (get_or all k d) (within k d inside)
      (ended.full k d inside)) ∙ sym (rational_sum_by-map end_weight (stream_at network.branches) all)
      ∙ sym (sum_over_used end_weight (ended_streams network)
      (length case.streams) once.distinct streams_within
      ∙ ap (plus (rational_sum_by end_weight (ended_streams network)))
      (none_left-zero end_weight (ended_streams network) (length case.streams) ended.each)
      ∙ plus-zero (rational_sum_by end_weight (ended_streams network)))

  module _ (additive : IsAdditive weight) where
    begins_weigh : rational_sum_by begin_weight streams ≡ plus all_taken (rational_sum_by end_weight streams)
    unfolding streams
    begins_weigh = let once = end_once shape whole ended in
        rational_sum_by-same begin_weight branch_weight streams (All-range (λ i. begin_weight i ≡ branch_weight i) (length case.streams) own_weight)
        ∙ flow_balance branch_weight shape (all_even shape whole weight additive)
        ∙ ap₂ plus (ap (plus all_taken) ends_weigh) (none_left-zero branch_weight
        (used_by network.lines) (length network.branches) once.none_left)
        ∙ plus-zero (plus all_taken (rational_sum_by end_weight streams))

    pub weight_balance : rational_sum_by (stream_loss weight) (enumerate_from 0 case.streams) ≡ all_taken
    unfolding streams
    weight_balance =
        sum-enumerate (stream_loss weight) (λ i. minus (begin_weight i) (end_weight i)) case.streams (λ i s at. ap₂ minus
        (sym (ap (λ o. option_map_or (λ t. weight i (first_value t)) o rational_zero) at))
        (sym (ap (λ o. option_map_or (λ t. weight i (last_value t)) o rational_zero) at)))
        ∙ rational_sum_by-minus begin_weight end_weight streams
        ∙ ap (λ x. minus x (rational_sum_by end_weight streams)) begins_weigh
        ∙ minus-plus all_taken (rational_sum_by end_weight streams)

pub weights_balanced : WeightsBalance
weights_balanced case network values weight shape whole ended additive =
    weight_balance case network values weight shape whole ended additive
