-- Two pieces that face each other at both ends keep their approach.
use Rattle.vertical_design.proofs.Words.{All-contains, AreApart, AreFacing, AreSensible, AreSensibleStreams, AreSensibleStreams-both, Case}
use Rattle.vertical_design.proofs.Words.{Contains-slice_get, HasValidStreams, IsAtMost, IsBelow, IsOutermost, IsOutermost-outermost, IsStandard}
use Rattle.vertical_design.proofs.Words.{Piece, Rational, Side, Source, Stream, Utility, all_at, at_most-whole, at_most_below_trans}
use Rattle.vertical_design.proofs.Words.{at_most_from_below, at_most_from_minus_right, at_most_trans, below_at_most_trans, contribution_of}
use Rattle.vertical_design.proofs.Words.{curve_heat, each_end, high_end, length-stream_ends, low_end, minus, none-some, on_scale, option_map}
use Rattle.vertical_design.proofs.Words.{option_map_or, outermost, plus, plus_assoc, plus_comm, same_Some, shifted, shifted_level}
use Rattle.vertical_design.proofs.Words.{shifted_level-standard, side_of, stream_ends, temperature, whole, whole-minus, whole-plus}
use Rattle.std.proofs.Common.{None, Option, Some, ap, ap₂, arith, pos, refl, slice_get, subst, subst₂, sym, ℕ, ℤ, ◌+ℤ◌, ◌∙◌, ◌≡◌, ◌≤ℤ◌}
use Rattle.stream_case.proofs.StandardUtilities.{own_utility}
use Rattle.vertical_design.proofs.FacingCurves.{approach_above, approach_below}
use Rattle.stream_case.specs.declared.source.Side.TheVariants as side
use Rattle.stream_case.specs.declared.source.Source.TheVariants as source

-- ---- within the range of a stream

pub record IsWithinRange (s : Stream) (low high : Rational) : Type 0 where
  pub from : IsAtMost (whole (low_end s)) low
  pub rises : IsBelow low high
  pub upto : IsAtMost high (whole (high_end s))

-- the shifted temperature of a source of a side in a state
abbrev pub shifted_state : Case → Side → Source → Rational → Rational
shifted_state case of a state = on_scale of (temperature case a state) (contribution_of case a)

-- where its source is a stream, a piece of a side lies within its range
abbrev pub StaysInRange : Case → Piece → (Stream → Type 0) → Type 0
StaysInRange case p InRange =
    (i : ℕ) (s : Stream) → p.source ≡ source.Stream i → slice_get case.streams i ≡ Some s → InRange s

-- a hot and a cold piece face each other at both ends, within the ranges of their streams
pub record Faces (case : Case) (p q : Piece) : Type 0 where
  pub hot_range : StaysInRange case p (λ s.
      IsWithinRange s (shifted_state case side.Hot p.source p.after) (shifted_state case side.Hot p.source p.before))
  pub cold_range : StaysInRange case q (λ s.
      IsWithinRange s (shifted_state case side.Cold q.source q.before) (shifted_state case side.Cold q.source q.after))
  pub hot_end : AreFacing case.streams p.source q.source (shifted_state case side.Hot p.source p.before)
      (shifted_state case side.Cold q.source q.after)
  pub cold_end : AreFacing case.streams p.source q.source (shifted_state case side.Hot p.source p.after)
      (shifted_state case side.Cold q.source q.before)

-- ---- sources and utilities

pub found : {X Y : Type 0} (f : X → Y) (on : Y) (o : Option X) → option_map f o ≡ Some on
    → (x : X) × (o ≡ Some x) × (f x ≡ on)
found f on None is = absurd (none-some on is)
found f on (Some x) is = (x, refl, same_Some (f x) on is)

-- from shifted temperatures back to actual ones
apart : (hot cold : Rational) (hot_contribution cold_contribution : ℤ)
    → IsAtMost (plus cold (whole cold_contribution)) (minus hot (whole hot_contribution))
    → IsAtMost (plus cold (whole (hot_contribution +ℤ cold_contribution))) hot
apart hot cold a b order =
    let sum_is = plus_comm (whole b) (whole a) ∙ whole-plus a b in
    let both_moved = plus_assoc cold (whole b) (whole a) ∙ ap (plus cold) sum_is in
    let moved = at_most_from_minus_right (plus cold (whole b)) hot (whole a) order in
    subst (λ x. IsAtMost x hot) both_moved moved

-- the hot side is at least the cold one at both ends
record IsOrdered (hot_in hot_out cold_in cold_out : Rational) : Type 0 where
  hot_end : IsAtMost cold_out hot_in
  cold_end : IsAtMost cold_in hot_out

module _ (case : Case) (valid : HasValidStreams case.streams) (sensible : AreSensible case.streams)
    (standard : IsStandard case) where
  abbrev are : AreSensibleStreams case.streams
  are = AreSensibleStreams-both case.streams valid.are_streams sensible

  abbrev outer_end : Side → ℤ
  outer_end of = outermost of (stream_ends case.streams)

  outer : (of : Side) → IsOutermost of (stream_ends case.streams) (outer_end of)
  outer of =
      IsOutermost-outermost of (stream_ends case.streams)
      (let some = valid.some in omega (arith, length-stream_ends case.streams))

  level-shifted : (of : Side) (j : ℕ) (u : Utility) → slice_get case.utilities j ≡ Some u → u.side ≡ of
      → shifted of u.level u.contribution ≡ outer_end of
  level-shifted of j u at side_is =
      ap (λ d. shifted d u.level u.contribution) (sym side_is)
      ∙ ap shifted_level (own_utility case standard j u at) ∙ shifted_level-standard u.side case
      ∙ ap (λ d. outer_end d) side_is

  -- a utility has its level in each state
  utility_level : (of : Side) (j : ℕ) (u : Utility) → slice_get case.utilities j ≡ Some u → u.side ≡ of
      → (state : Rational)
      → shifted_state case of (source.Utility j) state ≡ whole (outer_end of)
  utility_level of j u at side_is state =
      let level = ap (λ o. option_map_or (λ (v : Utility). v.level) o (pos 0)) at in
      let contribution = ap (λ o. option_map_or (λ (v : Utility). v.contribution) o (pos 0)) at in
      ap₂ (λ x y. on_scale of (whole x) y) level contribution ∙ by of ∙ ap whole (level-shifted of j u at side_is)
    where
      by : (d : Side) → on_scale d (whole u.level) u.contribution ≡ whole (shifted d u.level u.contribution)
      by side.Hot = whole-minus u.level u.contribution
      by side.Cold = whole-plus u.level u.contribution

  -- the ends of a stream lie between those levels
  within_levels : (i : ℕ) (s : Stream) → slice_get case.streams i ≡ Some s
      → (outer_end side.Cold ≤ℤ low_end s) × (high_end s ≤ℤ outer_end side.Hot)
  within_levels i s at =
      let low = all_at (λ x. (outer_end side.Cold ≤ℤ high_end x) × (outer_end side.Cold ≤ℤ low_end x)) case.streams i s
      (each_end (λ x. outer_end side.Cold ≤ℤ x) case.streams (outer side.Cold).bound) at in
      let high = all_at (λ x. (high_end x ≤ℤ outer_end side.Hot) × (low_end x ≤ℤ outer_end side.Hot)) case.streams i s
      (each_end (λ x. x ≤ℤ outer_end side.Hot) case.streams (outer side.Hot).bound) at in (low.1, high.0)

  levels_order : outer_end side.Cold ≤ℤ outer_end side.Hot
  levels_order =
      All-contains (λ x. outer_end side.Cold ≤ℤ x) (stream_ends case.streams) (outer_end side.Hot)
      (outer side.Cold).bound (outer side.Hot).member

  module _ (hot_in hot_out cold_in cold_out : Rational) where
    -- two streams at one heat of both curves
    streams_ordered : (i j : ℕ) (s r : Stream) → slice_get case.streams i ≡ Some s
        → slice_get case.streams j ≡ Some r → s.side ≡ side.Hot → r.side ≡ side.Cold
        → IsWithinRange s hot_out hot_in → IsWithinRange r cold_in cold_out
        → curve_heat side.Hot case.streams hot_in ≡ curve_heat side.Cold case.streams cold_out
        → curve_heat side.Hot case.streams hot_out ≡ curve_heat side.Cold case.streams cold_in
        → IsOrdered hot_in hot_out cold_in cold_out
    streams_ordered i j s r at_s at_r hot cold hot_range cold_range hot_same cold_same = record {
      hot_end =
          let member = Contains-slice_get case.streams j r at_r in
          let above_low = at_most_below_trans (whole (low_end r)) cold_in cold_out cold_range.from cold_range.rises in
          approach_below case.streams are r member hot_in cold_out cold above_low cold_range.upto hot_same;
      cold_end =
          let member = Contains-slice_get case.streams i s at_s in
          let below_high = below_at_most_trans hot_out hot_in (whole (high_end s)) hot_range.rises hot_range.upto in
          approach_above case.streams are s member hot_out cold_in hot hot_range.from below_high cold_same;
    }

    -- a stream above the cold level, and one below the hot level
    above_cold : (i : ℕ) (s : Stream) → slice_get case.streams i ≡ Some s → IsWithinRange s hot_out hot_in
        → cold_in ≡ whole (outer_end side.Cold)
        → cold_out ≡ whole (outer_end side.Cold) → IsOrdered hot_in hot_out cold_in cold_out
    above_cold i s at range in_is out_is =
        let bottom = whole (outer_end side.Cold) in
        let bottom_low = at_most-whole (outer_end side.Cold) (low_end s) (within_levels i s at).0 in
        let least = at_most_trans bottom (whole (low_end s)) hot_out bottom_low range.from in
        record {
          hot_end =
              let rises = at_most_from_below hot_out hot_in range.rises in
              let above_bottom = at_most_trans bottom hot_out hot_in least rises in
              subst (λ x. IsAtMost x hot_in) (sym out_is) above_bottom;
          cold_end = subst (λ x. IsAtMost x hot_out) (sym in_is) least;
        }

    below_hot : (j : ℕ) (r : Stream) → slice_get case.streams j ≡ Some r → IsWithinRange r cold_in cold_out
        → hot_in ≡ whole (outer_end side.Hot)
        → hot_out ≡ whole (outer_end side.Hot) → IsOrdered hot_in hot_out cold_in cold_out
    below_hot j r at range in_is out_is =
        let top = whole (outer_end side.Hot) in
        let high_top = at_most-whole (high_end r) (outer_end side.Hot) (within_levels j r at).1 in
        let most = at_most_trans cold_out (whole (high_end r)) top range.upto high_top in
        record {
          hot_end = subst (IsAtMost cold_out) (sym in_is) most;
          cold_end =
              let rises = at_most_from_below cold_in cold_out range.rises in
              let below_top = at_most_trans cold_in cold_out top rises most in
              subst (IsAtMost cold_in) (sym out_is) below_top;
        }

  -- of any two sources, in the states x and y of the hot one and z and w of the cold one
  ordered : (a b : Source) (x y z w : Rational) → side_of case a ≡ Some side.Hot → side_of case b ≡ Some side.Cold
      → ((i : ℕ) (s : Stream) → a ≡ source.Stream i → slice_get case.streams i ≡ Some s
      → IsWithinRange s (shifted_state case side.Hot a y) (shifted_state case side.Hot a x))
      → ((i : ℕ) (s : Stream) → b ≡ source.Stream i → slice_get case.streams i ≡ Some s
      → IsWithinRange s (shifted_state case side.Cold b z) (shifted_state case side.Cold b w))
      → AreFacing case.streams a b (shifted_state case side.Hot a x) (shifted_state case side.Cold b w)
      → AreFacing case.streams a b (shifted_state case side.Hot a y) (shifted_state case side.Cold b z)
      → IsOrdered (shifted_state case side.Hot a x) (shifted_state case side.Hot a y) (shifted_state case side.Cold b z)
      (shifted_state case side.Cold b w)
  ordered (source.Stream i) (source.Stream j) x y z w hot cold hot_range cold_range hot_end cold_end =
      let (s, at_s, s_hot) = found (λ (x : Stream). x.side) side.Hot (slice_get case.streams i) hot in
      let (r, at_r, r_cold) = found (λ (x : Stream). x.side) side.Cold (slice_get case.streams j) cold in
      streams_ordered _ _ _ _ i j s r at_s at_r s_hot r_cold (hot_range i s refl at_s) (cold_range j r refl at_r)
      hot_end cold_end
  ordered (source.Stream i) (source.Utility j) x y z w hot cold hot_range cold_range hot_end cold_end =
      let (s, at_s, s_hot) = found (λ (x : Stream). x.side) side.Hot (slice_get case.streams i) hot in
      let (u, at_u, u_cold) = found (λ (x : Utility). x.side) side.Cold (slice_get case.utilities j) cold in
      let low_level = utility_level side.Cold j u at_u u_cold z in
      let high_level = utility_level side.Cold j u at_u u_cold w in
      above_cold _ _ _ _ i s at_s (hot_range i s refl at_s) low_level high_level
  ordered (source.Utility i) (source.Stream j) x y z w hot cold hot_range cold_range hot_end cold_end =
      let (u, at_u, u_hot) = found (λ (x : Utility). x.side) side.Hot (slice_get case.utilities i) hot in
      let (r, at_r, r_cold) = found (λ (x : Stream). x.side) side.Cold (slice_get case.streams j) cold in
      let high_level = utility_level side.Hot i u at_u u_hot x in
      let low_level = utility_level side.Hot i u at_u u_hot y in
      below_hot _ _ _ _ j r at_r (cold_range j r refl at_r) high_level low_level
  ordered (source.Utility i) (source.Utility j) x y z w hot cold hot_range cold_range hot_end cold_end =
      let (u, at_u, u_hot) = found (λ (x : Utility). x.side) side.Hot (slice_get case.utilities i) hot in
      let (v, at_v, v_cold) = found (λ (x : Utility). x.side) side.Cold (slice_get case.utilities j) cold in
      let top = utility_level side.Hot i u at_u u_hot in
      let bottom = utility_level side.Cold j v at_v v_cold in
      let order = at_most-whole (outer_end side.Cold) (outer_end side.Hot) levels_order in
      record {
        hot_end = subst₂ IsAtMost (sym (bottom w)) (sym (top x)) order;
        cold_end = subst₂ IsAtMost (sym (bottom z)) (sym (top y)) order;
      }

  -- so both keep their approach
  pub faced_apart : (p q : Piece) → side_of case p.source ≡ Some side.Hot
      → side_of case q.source ≡ Some side.Cold → Faces case p q → AreApart case p q
  faced_apart p q hot cold faces =
      let order = ordered p.source q.source p.before p.after q.before q.after hot cold faces.hot_range faces.cold_range
      faces.hot_end faces.cold_end in
      let a = contribution_of case p.source in
      let b = contribution_of case q.source in
      record {
        hot_end = apart (temperature case p.source p.before) (temperature case q.source q.after) a b order.hot_end;
        cold_end = apart (temperature case p.source p.after) (temperature case q.source q.before) a b order.cold_end;
      }
