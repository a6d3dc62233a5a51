-- The hot shifted curve lies nowhere to the right of the cold one: at every temperature it has at most its heat.
use Rattle.vertical_design.proofs.Words.{*ℤ-+ℤ, *ℤ--ℤ, All-weaker, AreEnds-IsValidStream, AreSensibleStreams, Contains, Contains-get_or}
use Rattle.vertical_design.proofs.Words.{HIGHEST_SHIFTED, IsSensibleStream, LOWEST_SHIFTED, Side, Stream, clamps, cold_target-within, each_end}
use Rattle.vertical_design.proofs.Words.{heat_above, heat_at, heat_below, heat_of, high_end, hot_target-bound, hot_target-within, int_lt_cases, ints}
use Rattle.vertical_design.proofs.Words.{low_end, same_side, stream_ends, sum_side-same, unsigned_abs, whole}
use Rattle.std.proofs.Common.{All, List, ap, arith, get_or, pos, subst, suc, sym, true, zero, ℕ, ℤ, ⊎_elim, ◌*ℤ◌, ◌+ℤ◌, ◌-ℤ◌, ◌<ℤ◌, ◌<◌, ◌≡◌, ◌≤ℤ◌}
use Rattle.std.proofs.Common.{◌⊎◌}
use Rattle.vertical_design.proofs.CurveLemmas.{below_and_above, sum_side-linear, curve_begins, curve_ends}
use Rattle.vertical_design.proofs.CurveParts.{low_parts, high_parts, length_parts, parts_below, curve_parts, scaled, curve_parts-whole, ends_order}
use Rattle.stream_case.specs.declared.source.Side.TheVariants as side

-- the place x does not lie inside a and b
abbrev pub IsOutside : ℤ → ℤ → ℤ → Type 0
IsOutside a b x = (x ≤ℤ a) ⊎ (b ≤ℤ x)

-- ---- numbers in a row that are straight wherever they are below 0, with steps to either side and an end

module _ (f on back left : ℤ → ℤ) (returns : (n : ℤ) → back (on n) ≡ n)
    (nearer : (n : ℤ) → left (on n) ≡ left n -ℤ pos 1) (last : (n : ℤ) → left n ≤ℤ pos 0 → pos 0 ≤ℤ f n)
    (straight : (n : ℤ) → f n <ℤ pos 0 → f (on n) +ℤ f (back n) ≡ f n +ℤ f n) where
  -- they would fall on for ever
  never_falls : (k : ℕ) (n : ℤ) → left n ≤ℤ pos k → f n <ℤ pos 0 → f n ≤ℤ f (back n) → ⊥
  never_falls zero n near below falls = let end = last n near in omega (arith, ints, end, below)
  never_falls (suc k) n near below falls =
      let line = straight n below in
      let same = ap f (returns n) in
      let next = nearer n in
      never_falls k (on n) (omega (arith, ints)) (omega (arith, ints)) (omega (arith, ints))

-- ---- at whole temperatures

module _ (streams : List Stream) (are : AreSensibleStreams streams) where
  abbrev IsOrdered : ℤ → Type 0
  IsOrdered t = heat_at side.Hot streams t ≤ℤ heat_at side.Cold streams t

  -- at the end of a stream the cold curve lies further by what the hot target exceeds the deficit
  ordered_at_end : (t : ℤ) → Contains (stream_ends streams) t → IsOrdered t
  ordered_at_end t member =
      let both = λ (of : Side).
      let parts_of_all = All-weaker IsSensibleStream
      (λ s. same_side s.side of ≡ true → heat_of s ≡ heat_below t s +ℤ heat_above t s *ℤ pos 1)
      (λ s h own. let parts = below_and_above t s h in omega (arith, ints, parts)) streams are.each in
      sum_side-linear of heat_of (heat_below t) (heat_above t) (pos 1) streams parts_of_all in
      omega (arith, ints, both side.Hot, both side.Cold, hot_target-bound streams t member)

  ends_ordered : All (λ s. IsOrdered (high_end s) × IsOrdered (low_end s)) streams
  ends_ordered =
      each_end IsOrdered streams (λ k o within.
      ordered_at_end (get_or (stream_ends streams) k o) (Contains-get_or (stream_ends streams) k o within))

  lowest_ordered : IsOrdered LOWEST_SHIFTED
  lowest_ordered =
      omega (
        arith,
        ints,
        curve_begins side.Hot streams are,
        curve_begins side.Cold streams are,
        (cold_target-within streams are.are).from,
      )

  highest_ordered : IsOrdered HIGHEST_SHIFTED
  highest_ordered =
      omega (
        arith,
        ints,
        curve_ends side.Hot streams are,
        curve_ends side.Cold streams are,
        (hot_target-within streams are.are).from,
      )

  -- ---- in parts

  module _ (d : ℕ) (some : 0 < d) where
    -- by how much the cold curve has more heat
    abbrev more : ℤ → ℤ
    more n = curve_parts d side.Cold streams n -ℤ curve_parts d side.Hot streams n

    more_at : (t : ℤ) → IsOrdered t → pos 0 ≤ℤ more (t *ℤ pos d)
    more_at t order =
        let whole = λ (of : Side). curve_parts-whole d of streams t some are.each in
        omega (
          arith,
          ints,
          whole side.Hot,
          whole side.Cold,
          scaled d (heat_at side.Hot streams t) (heat_at side.Cold streams t) order,
        )

    -- and where each stream has the same range below it
    more_like : (n t : ℤ) → IsOrdered t
        → ((s : Stream) → IsSensibleStream s → length_parts d n s ≡ length_parts d (t *ℤ pos d) s) → pos 0 ≤ℤ more n
    more_like n t order lengths =
        let same_lengths = All-weaker IsSensibleStream (λ s. parts_below d n s ≡ parts_below d (t *ℤ pos d) s) (λ s h.
        ap (λ l. s.cp *ℤ l) (lengths s h)) streams are.each in
        let same =
        λ (of : Side). sum_side-same of (parts_below d n) (parts_below d (t *ℤ pos d)) streams same_lengths in
        omega (arith, ints, same side.Hot, same side.Cold, more_at t order)

    before_all : (n : ℤ) → n ≤ℤ (LOWEST_SHIFTED *ℤ pos d) → pos 0 ≤ℤ more n
    before_all n upto =
        more_like n LOWEST_SHIFTED lowest_ordered (λ s h.
        omega (
          arith,
          ints,
          clamps,
          scaled d LOWEST_SHIFTED (low_end s) (AreEnds-IsValidStream s h.valid).from,
          ends_order d s h,
          upto,
        ))

    behind_all : (n : ℤ) → (HIGHEST_SHIFTED *ℤ pos d) ≤ℤ n → pos 0 ≤ℤ more n
    behind_all n from =
        more_like n HIGHEST_SHIFTED highest_ordered (λ s h.
        omega (
          arith,
          ints,
          clamps,
          scaled d (high_end s) HIGHEST_SHIFTED (AreEnds-IsValidStream s h.valid).upto,
          ends_order d s h,
          from,
        ))

    -- away from the ends of all streams each step of a curve is like the one before it
    curve-straight : (of : Side) (n : ℤ) → All (λ s. (n ≡ high_parts d s → ⊥) × (n ≡ low_parts d s → ⊥)) streams
        → curve_parts d of streams (n +ℤ pos 1) +ℤ curve_parts d of streams (n -ℤ pos 1)
        ≡ curve_parts d of streams n +ℤ curve_parts d of streams n
    curve-straight of n clear =
        let here = parts_below d n in
        let last = parts_below d (n -ℤ pos 1) in
        let step = λ (s : Stream). here s -ℤ last s in
        let next = sum_side-linear of (parts_below d (n +ℤ pos 1)) here step (pos 1) streams
        (λ k o within own. stays (get_or streams k o) (are.each k o within) (clear k o within)) in
        omega (
          arith,
          ints,
          sum_side-linear of here last step (pos 1) streams (λ k o within own. omega (arith, ints)),
          next,
        )
      where
        stays : (s : Stream) → IsSensibleStream s → (n ≡ high_parts d s → ⊥) × (n ≡ low_parts d s → ⊥)
            → parts_below d (n +ℤ pos 1) s
            ≡ parts_below d n s +ℤ (parts_below d n s -ℤ parts_below d (n -ℤ pos 1) s) *ℤ pos 1
        stays s h clear =
            let here = length_parts d n s in
            let last = length_parts d (n -ℤ pos 1) s in
            let next : length_parts d (n +ℤ pos 1) s ≡ here +ℤ (here -ℤ last)
            = omega (arith, ints, clamps, ends_order d s h, clear.0, clear.1) in
            omega (arith, ints, ap (λ l. s.cp *ℤ l) next, *ℤ-+ℤ s.cp here (here -ℤ last), *ℤ--ℤ s.cp here last)

    more-straight : (n : ℤ) → more n <ℤ pos 0 → more (n +ℤ pos 1) +ℤ more (n -ℤ pos 1) ≡ more n +ℤ more n
    more-straight n below =
        let away : (t : ℤ) → IsOrdered t → n ≡ t *ℤ pos d → ⊥ =
        λ t order same. let here = subst (λ m. pos 0 ≤ℤ more m) (sym same) (more_at t order) in
        omega (arith, ints, here, below) in
        let clear = All-weaker (λ s. IsOrdered (high_end s) × IsOrdered (low_end s))
        (λ s. (n ≡ high_parts d s → ⊥) × (n ≡ low_parts d s → ⊥))
        (λ s both. (away (high_end s) both.0, away (low_end s) both.1)) streams ends_ordered in
        omega (arith, ints, curve-straight side.Hot n clear, curve-straight side.Cold n clear)

    -- the hot curve has at most the heat of the cold one
    pub curves_in_order : (n : ℤ) → curve_parts d side.Hot streams n ≤ℤ curve_parts d side.Cold streams n
    curves_in_order n =
        let order = int_lt_cases (more (n -ℤ pos 1)) (more n) in
        ⊎_elim (λ below. absurd (⊎_elim (down below) (up below) order)) (λ most. omega (arith, ints, most))
        (int_lt_cases (more n) (pos 0))
      where
        up : more n <ℤ pos 0 → more n ≤ℤ more (n -ℤ pos 1) → ⊥
        up =
            never_falls more (λ m. m +ℤ pos 1) (λ m. m -ℤ pos 1) (λ m. HIGHEST_SHIFTED *ℤ pos d -ℤ m)
            (λ m. omega (arith, ints)) (λ m. omega (arith, ints)) (λ m near. behind_all m (omega (arith, ints, near)))
            more-straight (unsigned_abs (HIGHEST_SHIFTED *ℤ pos d -ℤ n)) n (omega (arith, ints))

        down : more n <ℤ pos 0 → more (n -ℤ pos 1) <ℤ more n → ⊥
        down below falls =
            never_falls more (λ m. m -ℤ pos 1) (λ m. m +ℤ pos 1) (λ m. m -ℤ LOWEST_SHIFTED *ℤ pos d)
            (λ m. omega (arith, ints)) (λ m. omega (arith, ints)) (λ m near. before_all m (omega (arith, ints, near)))
            (λ m under. let turned = more-straight m under in omega (arith, ints, turned))
            (unsigned_abs (n -ℤ LOWEST_SHIFTED *ℤ pos d)) n (omega (arith, ints)) below
            (omega (arith, ints, more-straight n below, falls, below))
