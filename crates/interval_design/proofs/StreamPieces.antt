-- A part of a stream as a piece: its heat is that of the stream, and it lies in its range.
use Rattle.interval_design.proofs.Words.{AreEnds-IsValidStream, AreSmall, Case, Exchange, IsFine, IsPartOfLoad, IsShifted, IsSized, IsStreamPiece}
use Rattle.interval_design.proofs.Words.{IsValidStream, LONGEST_RANGE, MOST_LOAD, Part, Piece, Share, Stream, Transfer, change, entered_at}
use Rattle.interval_design.proofs.Words.{entered_state, exchange_of, first_state, first_state-sized, full_size, full_size-most, full_size-positive}
use Rattle.interval_design.proofs.Words.{heat_at, high_end, ints, is_latent, kept_hold, last_part_of_load, last_state, left_at, left_state, low_end}
use Rattle.interval_design.proofs.Words.{mapped_item, on_side, option_map_or, part_index, piece_of, piece_on, ratio, ratio-multiple, ratio-times_den}
use Rattle.interval_design.proofs.Words.{shares_of, size_of, size_on, sized-whole, times, whole, width_at, width_of}
use Rattle.std.proofs.Common.{All, List, Some, ap, arith, if◌then◌else◌, length, map, pos, refl, slice_get, subst, sym, true, unsigned_abs, ℕ, ℤ}
use Rattle.std.proofs.Common.{◌*ℤ◌, ◌+ℤ◌, ◌<◌, ◌==◌, ◌∙◌, ◌≡◌, ◌≤ℤ◌, ◌≤◌}
use Rattle.interval_design.proofs.CaseFlow.{places}
use Rattle.interval_design.proofs.PartStates.{own_temperature}
use Rattle.interval_design.proofs.PartShares.{FitsStream, fits, own_share, shares-are, size-shares, some_share, size_on-exchange, state_is, highest}
use Rattle.interval_design.proofs.PartShares.{either_sized, temperature-sized, last_part-sized, last_part, both_ends}
use Rattle.stream_case.specs.declared.source.Source.TheVariants as source

-- its heat is that of the stream, and it lies in its range
pub record IsOwnPart (s : Stream) (ts : List Transfer) (index : ℕ) (p : Part) : Type 0 where
  pub fits : FitsStream s p
  pub heat : heat_at s.side ts index ≡ (s.cp +ℤ s.load) *ℤ pos (width_of p)
  pub order : p.low ≤ℤ p.high
  pub from : low_end s ≤ℤ p.low
  pub upto : p.high ≤ℤ high_end s

small : (width : ℕ) → 0 < width → width ≤ unsigned_abs LONGEST_RANGE → AreSmall width (unsigned_abs MOST_LOAD) 1 highest
small width wide narrow = record {
  size_den = wide;
  state_den = omega arith;
  dens = omega arith;
  size = omega arith;
  state = omega arith;
  heat = omega arith;
}

module _ (case : Case) (hot cold : List Part) (ts : List Transfer) (number : ℕ) (s : Stream)
    (here : slice_get case.streams number ≡ Some s) (valid : IsValidStream s) (index : ℕ) (p : Part)
    (at : slice_get (on_side s.side hot cold) index ≡ Some p) (source_is : p.source ≡ source.Stream number)
    (own : IsOwnPart s ts index p) where
  abbrev piece : Piece
  piece = piece_of case p

  abbrev shares : List Share
  shares = shares_of s.side index (map (exchange_of hot cold) ts)

  wide : 0 < width_of p
  wide = omega arith

  before_is : piece.before ≡ entered_state p s
  before_is = state_is (entered_state p) case p.source number s here source_is

  after_is : piece.after ≡ left_state p s
  after_is = state_is (left_state p) case p.source number s here source_is

  width_is : width_at (on_side s.side hot cold) index ≡ width_of p
  width_is = ap (λ o. option_map_or width_of o 1) at

  full : size_of shares ≡ full_size s
  unfolding shares_of
  full =
      ap size_of (shares-are hot cold s.side index 0 ts)
      ∙ size-shares s.side index (width_at (on_side s.side hot cold) index) 0 ts
      ∙ (λ i. ratio (own.heat i) (width_is i)) ∙ ratio-multiple (s.cp +ℤ s.load) (width_of p) wide

  pub has_share : 0 < length shares
  has_share = some_share shares (full_size s) full (full_size-positive s valid)

  change_is : change s.side piece.before piece.after ≡ whole (pos (width_of p))
  change_is = (λ i. change s.side (before_is i) (after_is i)) ∙ own.fits.change_is

  heats : (k : ℕ) (e : Exchange) → slice_get (map (exchange_of hot cold) ts) k ≡ Some e → piece_on s.side e ≡ index
      → times (size_on s.side e) (change s.side piece.before piece.after) ≡ e.heat
  heats k e there own_piece =
      let (t, at_t, is) = mapped_item (exchange_of hot cold) ts k e there in
      let size : size_on s.side e ≡ ratio t.heat (width_of p) =
      sym (ap (size_on s.side) is) ∙ size_on-exchange s.side hot cold t
      ∙ ap (λ k. ratio t.heat (width_at (on_side s.side hot cold) k)) (ap (piece_on s.side) is ∙ own_piece)
      ∙ ap (ratio t.heat) width_is in
      (λ i. times (size i) (change_is i)) ∙ ratio-times_den t.heat (width_of p) wide ∙ ap (λ (x : Exchange). x.heat) is

  load : is_latent s ≡ true → IsPartOfLoad piece.after
  load latent =
      let temperature = own_temperature s (left_at s.side p) in
      let last : piece.after ≡ last_part_of_load s.side =
      after_is ∙ ap (λ b. if b then last_state s else temperature) latent
      ∙ ap (λ b. if b then last_part_of_load s.side else whole s.target) latent in
      subst IsPartOfLoad (sym last) (last_part s.side)

  fine : IsFine s.side (map (exchange_of hot cold) ts) index piece s
  unfolding shares_of
  fine =
      let width = width_at (on_side s.side hot cold) index in
      let ends = AreEnds-IsValidStream s valid in
      let lowest = ends.from in
      let top = ends.upto in
      let from = own.from in
      let upto = own.upto in
      let order = own.order in
      let high : IsShifted p.high = record { from = omega (arith, ints); upto = omega (arith, ints) } in
      let low : IsShifted p.low = record { from = omega (arith, ints); upto = omega (arith, ints) } in
      let places = both_ends IsShifted s.side p high low in
      let target = valid.target in
      let least = target.from in
      let most = target.upto in
      let last = either_sized (is_latent s) (last_part_of_load s.side) (whole s.target) (last_part-sized s.side)
      (sized-whole 1 highest s.target (omega arith) (omega (arith, ints))) in
      let Over : Share → Type 0 = λ share. (num : ℤ) × (share.cp ≡ ratio num (width_of p)) in
      record {
        size_den = width_of p;
        most_size = unsigned_abs MOST_LOAD;
        state_den = 1;
        most_state = highest;
        small = small (width_of p) wide own.fits.narrow;
        sizes = subst (All Over) (sym (shares-are hot cold s.side index 0 ts))
            (kept_hold (λ (t : Transfer). part_index s.side t == index) (own_share s.side index width)
            (λ (k : ℕ) (t : Transfer). record { exchanger = k; cp = ratio t.heat width }) (λ k t. refl) Over 0 ts
            (λ k t there is. (t.heat, ap (ratio t.heat) width_is)));
        most = full_size-most s valid;
        before =
            let first_sized = first_state-sized s valid highest (omega arith) in
            let own_sized = temperature-sized s.side (entered_at s.side p) s.contribution places.0 valid.contribution in
            let sized = either_sized (is_latent s) (first_state s) (own_temperature s (entered_at s.side p)) first_sized
            own_sized in
            subst (IsSized 1 highest) (sym before_is) sized;
        after =
            let own_sized = temperature-sized s.side (left_at s.side p) s.contribution places.1 valid.contribution in
            let sized =
            either_sized (is_latent s) (last_state s) (own_temperature s (left_at s.side p)) last own_sized in
            subst (IsSized 1 highest) (sym after_is) sized;
      }

  pub stream_piece : IsStreamPiece s.side (map (exchange_of hot cold) ts) index piece s
  stream_piece = record { sizes = full; heats = heats; load = load; fine = fine }
