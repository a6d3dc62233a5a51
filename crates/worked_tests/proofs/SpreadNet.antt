-- A flow of a net that was made by hand balances.
use Rattle.chains.specs.ChainNet.{open_link}
use Rattle.chains.specs.Inner.{IsHeatOf}
use Rattle.flow_net.specs.Net.{IsWithinRooms, flow_on, inflow, link_at, outflow}
use Rattle.flow_net.specs.declared.net.Link.{Link}
use Rattle.flow_net.specs.declared.net.Net.{Net}
use Rattle.grid.specs.declared.part.Part.{Part}
use Rattle.std.proofs.Common.{All, List, [], ap, arith, length, pos, refl, subst, suc, zero, ℕ, ℤ, ◌+◌, ◌<◌, ◌∷◌, ◌≡◌, ◌≤ℤ◌}
use Rattle.std.proofs.lemmas.Int.{ints}
use Rattle.std.proofs.lemmas.Option.{slice_get_within}
use Rattle.sums.proofs.ListLemmas.{All-slice_get}

abbrev pub made_links : List Link
made_links =
    open_link 4 2 ∷ open_link 0 4 ∷ open_link 4 3 ∷ open_link 0 2 ∷ open_link 1 4 ∷ open_link 1 3 ∷ open_link 0 4 ∷ open_link 4 2 ∷ []

abbrev pub made_flow : List ℤ
made_flow = pos 25 ∷ pos 50 ∷ pos 30 ∷ pos 7 ∷ pos 0 ∷ pos 35 ∷ pos 10 ∷ pos 5 ∷ []

abbrev pub made_net : Net
made_net = record { nodes = 5; links = made_links }

within_room : (k : ℕ) → k < 8 → (pos 0 ≤ℤ flow_on made_flow k) × (flow_on made_flow k ≤ℤ (link_at made_links k).room)
within_room zero within = (omega (arith, ints), omega (arith, ints))
within_room (suc zero) within = (omega (arith, ints), omega (arith, ints))
within_room (suc (suc zero)) within = (omega (arith, ints), omega (arith, ints))
within_room (suc (suc (suc zero))) within = (omega (arith, ints), omega (arith, ints))
within_room (suc (suc (suc (suc zero)))) within = (omega (arith, ints), omega (arith, ints))
within_room (suc (suc (suc (suc (suc zero))))) within = (omega (arith, ints), omega (arith, ints))
within_room (suc (suc (suc (suc (suc (suc zero)))))) within = (omega (arith, ints), omega (arith, ints))
within_room (suc (suc (suc (suc (suc (suc (suc zero))))))) within = (omega (arith, ints), omega (arith, ints))
within_room (suc (suc (suc (suc (suc (suc (suc (suc k)))))))) within = absurd (omega (arith, within))

rooms : IsWithinRooms made_links made_flow
rooms =
    record { one_each = refl; not_negative = λ k within. (within_room k within).0; upto_room = λ k within. (within_room k within).1 }

-- what leaves the hot parts and what enters the cold ones
given : (a : ℕ) → a < 2 → outflow made_links made_flow a ≤ℤ pos 100
given zero within = omega (arith, ints)
given (suc zero) within = omega (arith, ints)
given (suc (suc a)) within = absurd (omega (arith, within))

taken : (b : ℕ) → b < 2 → inflow made_links made_flow (2 + b) ≤ℤ pos 100
taken zero within = omega (arith, ints)
taken (suc zero) within = omega (arith, ints)
taken (suc (suc b)) within = absurd (omega (arith, within))

pub made_heat : (hot cold : List Part) → length hot ≡ 2 → length cold ≡ 2 → All (λ p. p.most ≡ pos 100) hot
    → All (λ p. p.most ≡ pos 100) cold
    → IsHeatOf hot cold made_net made_flow
made_heat hot cold hots colds hot_most cold_most = record {
  rooms = rooms;
  balances = λ v from within.
      let same : 4 ≡ v = omega (arith, from, within, hots, colds) in
      subst (λ n. inflow made_links made_flow n ≡ outflow made_links made_flow n) same refl;
  given = λ a p at.
      let most = All-slice_get (λ (x : Part). x.most ≡ pos 100) hot a p hot_most at in
      let least = given a (subst (λ n. a < n) hots (slice_get_within hot a p at)) in
      omega (arith, ints);
  taken = λ b q at.
      let most = All-slice_get (λ (x : Part). x.most ≡ pos 100) cold b q cold_most at in
      let least = taken b (subst (λ n. b < n) colds (slice_get_within cold b q at)) in
      let place = ap (λ n. inflow made_links made_flow (n + b)) hots in
      omega (arith, ints);
}
