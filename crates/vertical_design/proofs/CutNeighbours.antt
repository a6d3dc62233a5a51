-- Between two neighbouring cuts no stream begins or ends, and the flow of a side is that of the streams and the
-- utility there.
use Rattle.vertical_design.proofs.Words.{AreSensibleStreams, Case, Contains, Side, Utility, and_parts, cases_lt, flow_in, get_or_default, int_le}
use Rattle.vertical_design.proofs.Words.{bands_of, int_le-true, int_sum_by, ints, lower_cut, same_side, side_flow, upper_cut, utility_from}
use Rattle.vertical_design.proofs.Words.{utility_to, ◌&&◌}
use Rattle.std.proofs.Common.{AllPairs, Bool, List, ap, ap₂, arith, get_or, if◌then◌else◌, inl, inr, length, pos, refl, true, ℕ, ℤ, ⊎_elim, ◌+ℤ◌, ◌+◌}
use Rattle.std.proofs.Common.{◌-◌, ◌<ℤ◌, ◌<◌, ◌∙◌, ◌≡◌, ◌≤ℤ◌, ◌≤◌}
use Rattle.vertical_design.proofs.CurveOrder.{IsOutside}
use Rattle.vertical_design.proofs.StraightCurves.{flow_running, running_flow}
use Rattle.sums.proofs.SumLemmas.{int_sum_by-append, int_sum_by-map}
use Rattle.vertical_design.proofs.BandSources.{bands-parts, kept_sum, own_stream, own_utility, stream_bands, stream_item, utility_bands, utility_item}

module _ (cuts : List ℤ) (falls : AllPairs (λ a b. b <ℤ a) cuts) where
  later_below : (i j : ℕ) → i ≤ j → j < length cuts → get_or cuts j (pos 0) ≤ℤ get_or cuts i (pos 0)
  later_below i j le end =
      ⊎_elim (λ less. let order = falls i j (pos 0) less end in omega (arith, ints, order)) (λ most.
      let same : i ≡ j = omega (arith, le, most) in
      let item = ap (λ n. get_or cuts n (pos 0)) same in
      omega (arith, ints, item)) (cases_lt i j)

  -- each lies from the last to the first one
  pub cut_upto_first : (x : ℤ) → Contains cuts x → x ≤ℤ upper_cut cuts 0
  cut_upto_first x (k, inside, is) =
      let here : get_or cuts k (pos 0) ≡ x = get_or_default cuts k (pos 0) x inside ∙ is in
      omega (arith, ints, here, later_below 0 k (omega arith) inside)

  pub cut_from_last : (x : ℤ) → Contains cuts x → upper_cut cuts (length cuts - 1) ≤ℤ x
  cut_from_last x (k, inside, is) =
      let here : get_or cuts k (pos 0) ≡ x = get_or_default cuts k (pos 0) x inside ∙ is in
      omega (arith, ints, here, later_below k (length cuts - 1) (omega (arith, inside)) (omega (arith, inside)))

  -- and none between two neighbouring ones
  pub none_between : (number : ℕ) → number < length cuts - 1 → (x : ℤ) → Contains cuts x
      → IsOutside (lower_cut cuts number) (upper_cut cuts number) x
  none_between number within x (k, inside, is) =
      let here : get_or cuts k (pos 0) ≡ x = get_or_default cuts k (pos 0) x inside ∙ is in
      ⊎_elim (λ past.
      let order = later_below (number + 1) k (omega (arith, past)) inside in
      inl (omega (arith, ints, order, here))) (λ upto.
      let order = later_below k number upto (omega (arith, within)) in
      inr (omega (arith, ints, order, here))) (cases_lt number k)

-- ---- what a band reaches over

pub reaches : (from to low high : ℤ) → (int_le from low && int_le high to) ≡ true → (from ≤ℤ low) × (high ≤ℤ to)
reaches from to low high is =
    let both = and_parts (int_le from low) (int_le high to) is in
    (int_le-true from low both.0, int_le-true high to both.1)

module _ (case : Case) (low high : ℤ) (of : Side) where
  -- whether the utility reaches over the gap, and the flow of all utilities of the side
  abbrev pub utility_across : Bool
  utility_across = int_le (utility_from of case.streams) low && int_le high (utility_to of case.streams)

  abbrev pub utilities_flow : Bool → ℤ
  utilities_flow across =
      int_sum_by (λ (u : Utility). if same_side u.side of then (if across then pos 1 else pos 0) else pos 0)
      case.utilities

  -- the flow of a side is that of its streams that run, and that of its utilities
  pub side_flow-parts : (are : AreSensibleStreams case.streams)
      → side_flow low high (bands_of of case)
      ≡ flow_running of case.streams are low high +ℤ utilities_flow utility_across
  side_flow-parts are =
      let flow = flow_in low high in
      let utilities_flow = kept_sum (own_utility case of) (utility_item case of) flow
      (λ u. if utility_across then pos 1 else pos 0) (λ k u. refl) 0 case.utilities in
      int_sum_by-map (λ (f : ℤ). f) flow (bands_of of case) ∙ ap (int_sum_by flow) (bands-parts case of)
      ∙ int_sum_by-append flow (stream_bands case of) (utility_bands case of)
      ∙ ap₂ ◌+ℤ◌
      (kept_sum (own_stream case of) (stream_item case of) flow (running_flow of case.streams are low high)
      (λ k s. refl) 0 case.streams)
      utilities_flow
