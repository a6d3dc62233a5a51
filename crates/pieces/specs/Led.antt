-- What is asked of pieces and their exchanges, so that the network that they draw is valid; and what holds of it then.
use Rattle.std.specs.Prelude.{◌≡◌, ◌*◌, ◌<◌, ◌≤◌, ◌≤ℤ◌, ℕ, ℤ, pos, All, List, length, Option, Some, None, slice_get, false, IsTrue}
use Rattle.std.specs.List.{enumerate_from, filter_map}
use Rattle.stream_case.specs.Case.{is_forbidden, side_of}
use Rattle.stream_case.specs.Stream.{is_latent}
use Rattle.stream_case.specs.declared.case.Case.{Case}
use Rattle.stream_case.specs.declared.source.Side.{Side}
use Rattle.stream_case.specs.declared.source.Side.TheVariants as side
use Rattle.stream_case.specs.declared.source.Source.{Source}
use Rattle.stream_case.specs.declared.source.Source.TheVariants as source
use Rattle.stream_case.specs.declared.stream.Stream.{Stream}
use Rattle.stream_case.specs.declared.utility.Utility.{Utility}
use Rattle.fractions.specs.Rationals.{IsAtMost, Rational, minus, plus, ratio, rational_sum, rational_sum_by, times, whole}
use Rattle.networks.specs.Shape.{HasShape, IsPositive}
use Rattle.networks.specs.declared.network.Network.{Network}
use Rattle.network_values.specs.Sides.{approach_of, enters, fixed_level, leaves, side_run}
use Rattle.network_values.specs.Values.{IsPartOfLoad, IsWholeValuation, Valuation, change, first_state, full_size, last_state}
use Rattle.network_values.specs.Penalties.{utility_part}
use Rattle.problem_table.specs.Deficit.{hot_target}
use Rattle.network_audit.specs.Balance.{duty_with}
use Rattle.network_audit.specs.Findings.{HasNoFinding}
use Rattle.network_audit.specs.Sized.{AreSmall, IsSized, IsWholeGroup, count_of, most_den, most_num, numbers_of}
use Rattle.network_audit.specs.Valid.{IsValidNetwork}
use Rattle.network_audit.specs.declared.verdict.Balance.{Balance}
use Rattle.design_lines.specs.LedStages.{LedStage, Meet, size_of, state_behind}
use Rattle.pieces.specs.Pieces.{Piece, exchangers_for, led_course, on_side, piece_on, shares_of, size_on, sources_of}
use Rattle.pieces.specs.declared.exchange.Exchange.{Exchange}

-- ---- an exchange

-- the temperature of a source in a state: a source with one level has that one, the states of any other are its
-- temperatures
abbrev pub level_in : Rational → Option ℤ → Rational
level_in state None = state
level_in state (Some level) = whole level

abbrev pub temperature : Case → Source → Rational → Rational
temperature case a state = level_in state (fixed_level case a)

-- at both ends the hot piece is above the cold one by the approach
pub record AreApart (case : Case) (p q : Piece) : Type 0 where
  pub hot_end : IsAtMost
      (plus (temperature case q.source q.after) (whole (approach_of case p.source q.source)))
      (temperature case p.source p.before)
  pub cold_end : IsAtMost
      (plus (temperature case q.source q.before) (whole (approach_of case p.source q.source)))
      (temperature case p.source p.after)

-- the branch of a stream has a size above 0; a utility has no branch
abbrev pub HasSize : Source → Rational → Type 0
HasSize (source.Stream stream) size = IsPositive size
HasSize (source.Utility number) size = Unit {0}

-- an exchange joins a hot and a cold piece that may meet
pub record JoinsPieces (case : Case) (hot cold : List Piece) (e : Exchange) : Type 0 where
  pub hot_piece : Piece
  pub cold_piece : Piece
  pub hot_there : slice_get hot e.hot ≡ Some hot_piece
  pub cold_there : slice_get cold e.cold ≡ Some cold_piece
  pub hot_side : side_of case hot_piece.source ≡ Some side.Hot
  pub cold_side : side_of case cold_piece.source ≡ Some side.Cold
  pub heat : IsPositive e.heat
  pub hot_size : HasSize hot_piece.source e.hot_size
  pub cold_size : HasSize cold_piece.source e.cold_size
  pub permitted : is_forbidden case.forbids hot_piece.source cold_piece.source ≡ false
  pub apart : AreApart case hot_piece cold_piece

-- ---- a piece of a stream

-- sizes over one denominator, both states over another, and all of them small
pub record IsFine (of : Side) (exchanges : List Exchange) (index : ℕ) (p : Piece) (s : Stream) : Type 0 where
  pub size_den : ℕ
  pub most_size : ℕ
  pub state_den : ℕ
  pub most_state : ℕ
  pub small : AreSmall size_den most_size state_den most_state
  pub sizes : All (λ share. (num : ℤ) × (share.cp ≡ ratio num size_den)) (shares_of of index exchanges)
  pub most : IsAtMost (full_size s) (whole (pos most_size))
  pub before : IsSized state_den most_state p.before
  pub after : IsSized state_den most_state p.after

-- the shares are the whole stream, and each one's heat brings it from the one state to the other
pub record IsStreamPiece (of : Side) (exchanges : List Exchange) (index : ℕ) (p : Piece) (s : Stream) : Type 0 where
  pub sizes : size_of (shares_of of index exchanges) ≡ full_size s
  pub heats : (number : ℕ) (e : Exchange) → slice_get exchanges number ≡ Some e → piece_on of e ≡ index
      → times (size_on of e) (change of p.before p.after) ≡ e.heat
  pub load : IsTrue (is_latent s) → IsPartOfLoad p.after
  pub fine : IsFine of exchanges index p s

-- ---- a utility

-- the heats of the exchanges of a utility
abbrev pub heats_with : List Source → List Source → List Exchange → ℕ → List Rational
heats_with hot cold exchanges index = filter_map (duty_with index) (exchangers_for hot cold exchanges)

-- they come in groups with whole sums, and are in the range of the utility together
pub record HasUtilityHeat (hot cold : List Source) (exchanges : List Exchange) (index : ℕ) (u : Utility) : Type 0 where
  pub den : ℕ
  pub most : ℕ
  pub groups : List (List Rational)
  pub are : heats_with hot cold exchanges index ≡ numbers_of groups
  pub each : All (IsWholeGroup den most) groups
  pub small : den ≤ most_den
  pub few : count_of groups * most * den ≤ most_num
  pub heat : ℤ
  pub total : rational_sum (heats_with hot cold exchanges index) ≡ whole heat
  pub from : u.least ≤ℤ heat
  pub upto : heat ≤ℤ u.most

-- ---- all pieces

-- a stream's pieces meet, from its first state to its last
pub record AreJoined (s : Stream) (stages : List LedStage) : Type 0 where
  pub meet : Meet (first_state s) stages
  pub ends : state_behind (first_state s) stages ≡ last_state s

pub record AreLedPieces (case : Case) (hot cold : List Piece) (exchanges : List Exchange) : Type 0 where
  pub each : All (JoinsPieces case hot cold) exchanges
  pub pieces : (stream : ℕ) (s : Stream) (index : ℕ) (p : Piece) → slice_get case.streams stream ≡ Some s
      → slice_get (on_side s.side hot cold) index ≡ Some p → p.source ≡ source.Stream stream
      → 0 < length (shares_of s.side index exchanges) → IsStreamPiece s.side exchanges index p s
  pub joined : (stream : ℕ) (s : Stream) → slice_get case.streams stream ≡ Some s
      → AreJoined s (led_course hot cold exchanges (stream, s))
  pub utilities : (index : ℕ) (u : Utility) → slice_get case.utilities index ≡ Some u
      → HasUtilityHeat (sources_of hot) (sources_of cold) exchanges index u

-- ---- the balance

-- the balance of the network: what the utilities give and take, and the cost, are sums of the heats of exchanges
abbrev pub exchange_balance : Case → List Source → List Source → List Exchange → Balance
exchange_balance case hot cold exchanges = record {
  hot = rational_sum_by (λ x. utility_part x.duty x.hot) (exchangers_for hot cold exchanges);
  cold = rational_sum_by (λ x. utility_part x.duty x.cold) (exchangers_for hot cold exchanges);
  excess =
      minus (rational_sum_by (λ x. utility_part x.duty x.hot) (exchangers_for hot cold exchanges)) (whole (hot_target case.streams));
  cost =
      rational_sum_by (λ e. times (whole e.1.price) (rational_sum (heats_with hot cold exchanges e.0))) (enumerate_from 0 case.utilities);
}

-- ---- the network

-- a source passes an exchanger between the temperatures of its piece
pub record RunsThrough (case : Case) (network : Network) (values : Valuation) (number : ℕ) (of : Side)
    (p : Piece) : Type 0 where
  pub enters : enters of (side_run case network values number p.source) ≡ temperature case p.source p.before
  pub leaves : leaves of (side_run case network values number p.source) ≡ temperature case p.source p.after

-- the network is valid and its audit has no finding, and over its valuation the sources of each exchange run through
-- their pieces
pub record IsLedNetwork (case : Case) (hot cold : List Piece) (exchanges : List Exchange)
    (network : Network) : Type 0 where
  pub shape : HasShape case network
  pub values : Valuation
  pub valuation : IsWholeValuation case network values
  pub hot_runs : (number : ℕ) (e : Exchange) (p : Piece) → slice_get exchanges number ≡ Some e
      → slice_get hot e.hot ≡ Some p
      → RunsThrough case network values number side.Hot p
  pub cold_runs : (number : ℕ) (e : Exchange) (p : Piece) → slice_get exchanges number ≡ Some e
      → slice_get cold e.cold ≡ Some p
      → RunsThrough case network values number side.Cold p
  pub valid : IsValidNetwork case network
  pub accepted : HasNoFinding case network

-- the law: pieces that are led draw such a network
abbrev pub LedPiecesDrawLedNetworks : Case → List Source → List Source → List Exchange → Network → Type 0
LedPiecesDrawLedNetworks case hot cold exchanges network =
    (hots colds : List Piece) → sources_of hots ≡ hot → sources_of colds ≡ cold
    → AreLedPieces case hots colds exchanges → IsLedNetwork case hots colds exchanges network
