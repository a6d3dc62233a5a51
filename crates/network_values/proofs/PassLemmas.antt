-- What all passes take, by the sides of the exchangers.
use Rattle.fractions.proofs.RationalSums.{but_at, one_taken, only, rational_sum_by-plus, rational_sum_by-same, rational_sum_by-swap, rational_sum_by-zero}
use Rattle.fractions.proofs.RationalSums.{sum-enumerate, sum-enumerated, sum-once}
use Rattle.network_values.proofs.Words.{Case, Exchanger, HasShape, IsExchanger, Joins, Line, Network, Rational, Source, all_at, and-false, cases_eq}
use Rattle.network_values.proofs.Words.{count-passages, declared_parts, enumerate_from, exchangers_of, inlet_height, is_pass_of, minus, minus-self}
use Rattle.network_values.proofs.Words.{option_map_or, outlet_height, pass_loss, pass_of, plus, plus-zero, range_with_len, rational_sum_by, rational_zero}
use Rattle.network_values.proofs.Words.{same_Some, side_of, slice_get-append, slice_get-get_or, slice_get_within, stands_at, stream_at, zero-plus}
use Rattle.network_values.proofs.WholeLemmas.{All-range}
use Rattle.std.proofs.Common.{Option, Some, ap, ap₂, arith, count_by, drop, eq-eqb, false, find, get_or, if◌then◌else◌, inl, inr, length, ne_eqb}
use Rattle.std.proofs.Common.{refl, slice_get, subst, suc, sym, take, ℕ, ◌&&◌, ◌++◌, ◌<◌, ◌==◌, ◌∙◌, ◌∷◌, ◌≡◌, ◌≢◌, ◌⊎◌}
use Rattle.networks.specs.declared.network.Line.TheVariants as line
use Rattle.stream_case.specs.declared.source.Side.TheVariants as side
use Rattle.stream_case.specs.declared.source.Source.TheVariants as source

-- a sum with one term that is not 0
sum-single : (c : Rational) (k n : ℕ) → k < n
    → rational_sum_by (λ i. if i == k then c else rational_zero) (range_with_len 0 n) ≡ c
sum-single c k n within = let f = λ (i : ℕ). if i == k then c else rational_zero in
    let others : (i : ℕ) → i < n → but_at f k i ≡ rational_zero = λ i inside. grind arith in
    one_taken f k 0 n (omega arith) (omega (arith, within))
    ∙ ap₂ plus (ap (λ b. if b then c else rational_zero) (eq-eqb k k refl))
    (rational_sum_by-zero (but_at f k) (range_with_len 0 n) (All-range (λ i. but_at f k i ≡ rational_zero) n others))
    ∙ plus-zero c

-- the two sides of an exchanger are two sources
sides_differ : (case : Case) (e : Exchanger) → IsExchanger case e → (i : ℕ) → e.hot ≡ source.Stream i
    → e.cold ≡ source.Stream i → ⊥
sides_differ case e is i hot cold = let same : side.Hot ≡ side.Cold = same_Some side.Hot side.Cold
    (sym is.hot ∙ ap (side_of case) (hot ∙ sym cold) ∙ is.cold) in cc same

module _ (weight : ℕ → Rational) (network : Network) where
  -- what a line takes as the pass of a side
  abbrev line_taken : Line → ℕ → Source → Rational
  line_taken l number (source.Stream i) = only (is_pass_of network.branches number i) (pass_loss weight) l
  line_taken l number (source.Utility i) = rational_zero

  abbrev line_sides : Line → ℕ × Exchanger → Rational
  line_sides l (number, e) = plus (line_taken l number e.hot) (line_taken l number e.cold)

  -- what the pass of a side takes
  abbrev pub side_taken : ℕ → Source → Rational
  side_taken number (source.Stream i) =
      minus (inlet_height weight (pass_of network number i)) (outlet_height weight (pass_of network number i))
  side_taken number (source.Utility i) = rational_zero

  abbrev pub sides_taken : ℕ × Exchanger → Rational
  sides_taken (number, e) = plus (side_taken number e.hot) (side_taken number e.cold)

taken_once : (weight : ℕ → Rational) (o : Option Line)
    → option_map_or (pass_loss weight) o rational_zero ≡ minus (inlet_height weight o) (outlet_height weight o)
taken_once weight (Some (line.Pass from exchanger to)) = refl
taken_once weight o = sym (minus-self rational_zero)

module _ (weight : ℕ → Rational) (case : Case) (network : Network) (shape : HasShape case network) where
  -- all lines take as passes of a side what its one pass takes
  side_once : (number : ℕ) (e : Exchanger) → slice_get (exchangers_of network.lines) number ≡ Some e → (s : Source)
      → ((i : ℕ) → s ≡ source.Stream i → Joins e i)
      → rational_sum_by (λ l. line_taken weight network l number s) network.lines ≡ side_taken weight network number s
  unfolding pass_of
  side_once number e at (source.Stream i) joins = let p = is_pass_of network.branches number i in
      let once : count_by p network.lines ≡ 1
      = sym (count-passages network.branches number i network.lines)
      ∙ shape.passed_once number i e at (joins i refl) in
      sum-once p (pass_loss weight) network.lines once ∙ taken_once weight (find p network.lines)
  side_once number e at (source.Utility i) joins =
      rational_sum_by-zero (λ l. rational_zero) network.lines (λ k d within. refl)

  -- no pass: no side
  none_taken : (l : Line) → ((number stream : ℕ) → is_pass_of network.branches number stream l ≡ false)
      → rational_zero ≡ rational_sum_by (line_sides weight network l) (enumerate_from 0 (exchangers_of network.lines))
  none_taken l none =
      sym (sum-enumerate (line_sides weight network l) (λ i. rational_zero) (exchangers_of network.lines)
      (λ number e at. ap₂ plus (of_side number e.hot) (of_side number e.cold) ∙ plus-zero rational_zero)
      ∙ rational_sum_by-zero (λ i. rational_zero) (range_with_len 0 (length (exchangers_of network.lines))) (λ k d within. refl))
    where
      of_side : (number : ℕ) (s : Source) → line_taken weight network l number s ≡ rational_zero
      of_side number (source.Stream i) = ap (λ b. if b then pass_loss weight l else rational_zero) (none number i)
      of_side number (source.Utility i) = refl

  -- what a pass takes on a side of another exchanger, and on a side of its own
  module _ (from exchanger to : ℕ) where
    abbrev the_pass : Line
    the_pass = line.Pass from exchanger to

    elsewhere : (number : ℕ) (s : Source) → number ≢ exchanger
        → line_taken weight network the_pass number s ≡ rational_zero
    elsewhere number (source.Stream i) other =
        ap (λ b. if b && (i == stream_at network.branches from) then pass_loss weight the_pass else rational_zero)
        (ne_eqb number exchanger other)
    elsewhere number (source.Utility i) other = refl

    own_side : (number : ℕ) (s : Source) → number ≡ exchanger → s ≡ source.Stream (stream_at network.branches from)
        → line_taken weight network the_pass number s ≡ pass_loss weight the_pass
    own_side number s here same = let i = stream_at network.branches from in
        ap (line_taken weight network the_pass number) same
        ∙ ap₂ (λ b c. if b && c then pass_loss weight the_pass else rational_zero)
        (eq-eqb number exchanger here) (eq-eqb i i refl)

    other_side : (number : ℕ) (s : Source) → s ≢ source.Stream (stream_at network.branches from)
        → line_taken weight network the_pass number s ≡ rational_zero
    other_side number (source.Stream i) differ =
        ap (λ b. if (number == exchanger) && b then pass_loss weight the_pass else rational_zero) (ne_eqb i (stream_at network.branches from)
        (λ same. differ (ap source.Stream same)))
        ∙ ap (λ b. if b then pass_loss weight the_pass else rational_zero) (and-false (number == exchanger))
    other_side number (source.Utility i) differ = refl

    own_sides : (number : ℕ) (e : Exchanger) → IsExchanger case e → number ≡ exchanger
        → Joins e (stream_at network.branches from)
        → line_sides weight network the_pass (number, e) ≡ pass_loss weight the_pass
    own_sides number e is here (inl hot) = ap₂ plus (own_side number e.hot here hot) (other_side number e.cold
        (λ cold. sides_differ case e is (stream_at network.branches from) hot cold))
        ∙ plus-zero (pass_loss weight the_pass)
    own_sides number e is here (inr cold) =
        ap₂ plus (other_side number e.hot (λ hot. sides_differ case e is (stream_at network.branches from) hot cold))
        (own_side number e.cold here cold) ∙ zero-plus (pass_loss weight the_pass)

    pass_taken : (e : Exchanger) → slice_get (exchangers_of network.lines) exchanger ≡ Some e
        → Joins e (stream_at network.branches from)
        → pass_loss weight the_pass
        ≡ rational_sum_by (line_sides weight network the_pass) (enumerate_from 0 (exchangers_of network.lines))
    pass_taken e at joins =
        let es = exchangers_of network.lines in
        let c = pass_loss weight the_pass in
        sym (sum-enumerate (line_sides weight network the_pass) (λ i. if i == exchanger then c else rational_zero) es each
        ∙ sum-single c exchanger (length es) (slice_get_within es exchanger e at))
      where
        each : (number : ℕ) (other : Exchanger) → slice_get (exchangers_of network.lines) number ≡ Some other
            → line_sides weight network the_pass (number, other)
            ≡ (if number == exchanger then pass_loss weight the_pass else rational_zero)
        each number other here = by (cases_eq number exchanger)
          where
            by : (number ≡ exchanger) ⊎ (number ≢ exchanger)
                → line_sides weight network the_pass (number, other)
                ≡ (if number == exchanger then pass_loss weight the_pass else rational_zero)
            by (inl same) =
                let one : e ≡ other
                = same_Some e other (sym at ∙ ap (slice_get (exchangers_of network.lines)) (sym same) ∙ here) in
                own_sides number other (all_at (IsExchanger case) (exchangers_of network.lines) number other shape.exchangers.each here) same
                (subst (λ x. Joins x (stream_at network.branches from)) one joins)
                ∙ sym (ap (λ b. if b then pass_loss weight the_pass else rational_zero) (eq-eqb number exchanger same))
            by (inr differ) =
                ap₂ plus (elsewhere number other.hot differ) (elsewhere number other.cold differ)
                ∙ plus-zero rational_zero
                ∙ sym (ap (λ b. if b then pass_loss weight the_pass else rational_zero) (ne_eqb number exchanger differ))

  line_by_sides : (index : ℕ) (l : Line) → slice_get network.lines index ≡ Some l
      → pass_loss weight l ≡ rational_sum_by (line_sides weight network l) (enumerate_from 0 (exchangers_of network.lines))
  line_by_sides index (line.Pass from exchanger to) here = let l = line.Pass from exchanger to in
      let (e, declared, joins) = shape.declared_first index l here in
      let earlier = exchangers_of (take index network.lines) in
      let later = exchangers_of (l ∷ drop (suc index) network.lines) in
      let parts : exchangers_of network.lines ≡ earlier ++ later
      = declared_parts (stands_at network.lines index l here) in
      pass_taken from exchanger to e (ap (λ es. slice_get es exchanger) parts ∙ slice_get-append earlier later exchanger e declared) joins
  line_by_sides index l here = none_taken l (λ number stream. refl)

  -- the passes take what the sides take
  pub passes_by_side : rational_sum_by (pass_loss weight) network.lines ≡ rational_sum_by (sides_taken weight network)
      (enumerate_from 0 (exchangers_of network.lines))
  passes_by_side = let es = exchangers_of network.lines in
      rational_sum_by-same (pass_loss weight) (λ l. rational_sum_by (line_sides weight network l) (enumerate_from 0 es)) network.lines
      (λ k d within. line_by_sides k (get_or network.lines k d) (slice_get-get_or network.lines k d within))
      ∙ rational_sum_by-swap (line_sides weight network) network.lines (enumerate_from 0 es)
      ∙ sum-enumerated (λ p. rational_sum_by (λ l. line_sides weight network l p) network.lines) (sides_taken weight network) es (λ number e at.
      rational_sum_by-plus (λ l. line_taken weight network l number e.hot) (λ l. line_taken weight network l number e.cold) network.lines
      ∙ ap₂ plus (side_once number e at e.hot (λ i same. inl same)) (side_once number e at e.cold (λ i same. inr same)))
