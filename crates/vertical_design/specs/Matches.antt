-- What both sides exchange in each interval between two cuts of the heat axis.
use Rattle.std.specs.Prelude.{ℕ, ◌+◌, ◌-◌, ◌*◌, ℤ, pos, ◌-ℤ◌, ◌*ℤ◌, ◌&&◌, int_le}
use Rattle.std.specs.Prelude.{int_lt, unsigned_abs, List, get_or, length, map, Option, Some, None, if◌then◌else◌}
use Rattle.std.specs.List.{filter_map, flat_map, range_with_len}
use Rattle.sums.specs.Spans.{IsOverlap, overlap}
use Rattle.sums.specs.Sum.{int_sum_by}
use Rattle.sums.specs.declared.pairs.Pair.{Pair}
use Rattle.fractions.specs.Rationals.{ratio}
use Rattle.pieces.specs.declared.exchange.Exchange.{Exchange}
use Rattle.vertical_design.specs.declared.band.Band.{Band}

-- ---- what runs in an interval

-- the flow of a source between two cuts: 0 where its band does not reach from the one to the other
abbrev pub flow_in : ℤ → ℤ → Band → ℤ
flow_in low high s = if int_le s.from low && int_le high s.to then s.cp else pos 0

abbrev pub flows_in : ℤ → ℤ → List Band → List ℤ
flows_in low high bands = map (flow_in low high) bands

-- and of a side
abbrev pub side_flow : ℤ → ℤ → List Band → ℤ
side_flow low high bands = int_sum_by (λ f. f) (flows_in low high bands)

-- amounts times a flow
abbrev pub scaled : ℤ → List ℤ → List ℤ
scaled by flows = map (λ f. f *ℤ by) flows

-- each source offers or asks for its flow times that of the other side, so that both sides have one sum
abbrev pub amounts_in : ℤ → ℤ → List Band → List Band → List ℤ
amounts_in low high bands others = scaled (side_flow low high others) (flows_in low high bands)

-- ---- who meets whom

-- the pair of two amounts, if their spans overlap
abbrev pub pair_of : List ℤ → List ℤ → ℕ → ℕ → Option Pair
pair_of firsts seconds i j =
    if int_lt (pos 0) (overlap firsts seconds i j) then Some (record { first = i; second = j; amount = overlap firsts seconds i j }) else None

-- all such pairs, by the first index and then by the second
unfoldable pub pairs_of : List ℤ → List ℤ → List Pair
pairs_of firsts seconds =
    flat_map (λ i. filter_map (pair_of firsts seconds i) (range_with_len 0 (length seconds))) (range_with_len 0 (length firsts))

-- a pair of sources of both sides that meet between two cuts
abbrev pub IsMet : ℤ → ℤ → List Band → List Band → Pair → Type 0
IsMet low high hot cold p = IsOverlap (amounts_in low high hot cold) (amounts_in low high cold hot) p

-- a share p of F times G, the flows of the two sides, makes an exchange: its branches have the flows p/G and p/F, and
-- its heat is that part of the heat between the cuts. Each interval has a piece for each band of a side.
abbrev pub match_of : ℕ → ℤ → ℤ → List Band → List Band → Pair → Exchange
match_of number low high hot cold p = record {
  hot = number * length hot + p.first;
  cold = number * length cold + p.second;
  hot_size = ratio p.amount (unsigned_abs (side_flow low high cold));
  cold_size = ratio p.amount (unsigned_abs (side_flow low high hot));
  heat = ratio ((high -ℤ low) *ℤ p.amount) (unsigned_abs (side_flow low high hot *ℤ side_flow low high cold));
}

unfoldable pub matches_in : ℕ → ℤ → ℤ → List Band → List Band → List Exchange
matches_in number low high hot cold =
    map (match_of number low high hot cold) (pairs_of (amounts_in low high hot cold) (amounts_in low high cold hot))

-- ---- the intervals

-- the numbers of the intervals between neighbouring cuts, from the topmost down, and the cuts of each
abbrev pub intervals_of : List ℤ → List ℕ
intervals_of cuts = range_with_len 0 (length cuts - 1)

abbrev pub lower_cut : List ℤ → ℕ → ℤ
lower_cut cuts number = get_or cuts (number + 1) (pos 0)

abbrev pub upper_cut : List ℤ → ℕ → ℤ
upper_cut cuts number = get_or cuts number (pos 0)

abbrev pub exchanges_at : List Band → List Band → List ℤ → ℕ → List Exchange
exchanges_at hot cold cuts number = matches_in number (lower_cut cuts number) (upper_cut cuts number) hot cold

abbrev pub exchanges_between : List Band → List Band → List ℤ → List Exchange
exchanges_between hot cold cuts = flat_map (exchanges_at hot cold cuts) (intervals_of cuts)
