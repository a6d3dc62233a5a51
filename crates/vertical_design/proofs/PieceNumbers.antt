-- The numbers of a piece are small: its sizes, and temperatures in the range of a stream.
use Rattle.vertical_design.proofs.Words.{AreEnds, AreSmall, HIGHEST_SHIFTED, IsAtMost, IsContribution, IsSized, MOST_CONTRIBUTION, MOST_CP, MOST_FLOW}
use Rattle.vertical_design.proofs.Words.{Rational, Side, at_most-whole, at_most_from_ratio_whole, at_most_from_whole_ratio, at_most_trans, ints}
use Rattle.vertical_design.proofs.Words.{mul-le-mul, neg_ℤ-*ℤ, ratio, sized-minus, sized-plus, sized-whole, unsigned_abs, whole}
use Rattle.std.proofs.Common.{arith, neg_ℤ, pos, subst, ℕ, ℤ, ◌*◌, ◌+◌, ◌<◌, ◌≡◌, ◌≤◌}
use Rattle.vertical_design.proofs.Intervals.{actual_at}
use Rattle.stream_case.specs.declared.source.Side.TheVariants as side

abbrev pub most_flow : ℕ
most_flow = unsigned_abs MOST_FLOW

abbrev pub most_cp : ℕ
most_cp = unsigned_abs MOST_CP

abbrev pub highest : ℕ
highest = unsigned_abs HIGHEST_SHIFTED + unsigned_abs MOST_CONTRIBUTION

pub small : (d e : ℕ) → 0 < d → d ≤ most_flow → 0 < e → e ≤ most_flow → AreSmall d most_cp e highest
small d e some_d few_d some_e few_e =
    let dens : d * e ≤ most_flow * most_flow = mul-le-mul few_d few_e in
    record {
      size_den = some_d;
      state_den = some_e;
      dens = omega (arith, dens);
      size = omega (arith, few_d);
      state = omega (arith, few_e);
      heat = omega (arith, dens);
    }

-- a number of this denominator from -m to m
sized-around : (d m : ℕ) (a : Rational) (n : ℤ) → 0 < d → a ≡ ratio n d → IsAtMost (whole (neg_ℤ (pos m))) a
    → IsAtMost a (whole (pos m)) → IsSized d m a
sized-around d m a n some is least most =
    let from = at_most_from_whole_ratio (neg_ℤ (pos m)) n d some (subst (IsAtMost (whole (neg_ℤ (pos m)))) is least) in
    let upto = at_most_from_ratio_whole n (pos m) d some (subst (λ x. IsAtMost x (whole (pos m))) is most) in
    record { num = n; is = is; small = omega (arith, ints, from, upto, neg_ℤ-*ℤ (pos m) (pos d)) }

-- a temperature in the range of a stream, on its own scale
pub stream_sized : (of : Side) (d : ℕ) (t : Rational) (contribution n low high : ℤ) → 0 < d → t ≡ ratio n d
    → AreEnds low high
    → IsAtMost (whole low) t → IsAtMost t (whole high) → IsContribution contribution
    → IsSized d highest (actual_at of t contribution)
stream_sized of d t contribution n low high some is ends least most given = by of
  where
    own : IsSized d (unsigned_abs HIGHEST_SHIFTED) t
    own =
        let lower = at_most-whole (neg_ℤ (pos (unsigned_abs HIGHEST_SHIFTED))) low (omega (arith, ints, ends.from)) in
        let above_lowest =
        at_most_trans (whole (neg_ℤ (pos (unsigned_abs HIGHEST_SHIFTED)))) (whole low) t lower least in
        let within = at_most-whole high (pos (unsigned_abs HIGHEST_SHIFTED)) ends.upto in
        let below_highest = at_most_trans t (whole high) (whole (pos (unsigned_abs HIGHEST_SHIFTED))) most within in
        sized-around d (unsigned_abs HIGHEST_SHIFTED) t n some is above_lowest below_highest

    shift : IsSized d (unsigned_abs MOST_CONTRIBUTION) (whole contribution)
    shift =
        sized-whole d (unsigned_abs MOST_CONTRIBUTION) contribution some (omega (arith, ints, given.from, given.upto))

    by : (on : Side) → IsSized d highest (actual_at on t contribution)
    by side.Hot =
        sized-plus d (unsigned_abs HIGHEST_SHIFTED) (unsigned_abs MOST_CONTRIBUTION) t (whole contribution) own shift
    by side.Cold =
        sized-minus d (unsigned_abs HIGHEST_SHIFTED) (unsigned_abs MOST_CONTRIBUTION) t (whole contribution) own shift
