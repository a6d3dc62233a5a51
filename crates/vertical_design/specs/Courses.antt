-- The network of the matches: each stream is led from interval to interval.
use Rattle.std.specs.Prelude.{◌≡◌, ℤ, List, map}
use Rattle.std.specs.List.{flat_map}
use Rattle.stream_case.specs.declared.case.Case.{Case}
use Rattle.stream_case.specs.declared.source.Side.TheVariants as side
use Rattle.stream_case.specs.declared.source.Source.{Source}
use Rattle.networks.specs.declared.network.Network.{Network}
use Rattle.pieces.specs.Pieces as pieces
use Rattle.pieces.specs.declared.exchange.Exchange.{Exchange}
use Rattle.vertical_design.specs.Axis.{AreCuts, bands_of}
use Rattle.vertical_design.specs.Matches.{exchanges_between, intervals_of}
use Rattle.vertical_design.specs.declared.band.Band.{Band}

-- each interval has a piece of each source of a side; what does not run there exchanges nothing
abbrev pub sources_in : List Band → List Source
sources_in bands = map (λ s. s.source) bands

abbrev pub sources_between : List Band → List ℤ → List Source
sources_between bands cuts = flat_map (λ number. sources_in bands) (intervals_of cuts)

-- the pieces and exchanges of the intervals between some cuts
pub record AreBetween (case : Case) (cuts : List ℤ) (hot cold : List Source) (exchanges : List Exchange) : Type 0 where
  pub hot_is : hot ≡ sources_between (bands_of side.Hot case) cuts
  pub cold_is : cold ≡ sources_between (bands_of side.Cold case) cuts
  pub exchanges_are : exchanges ≡ exchanges_between (bands_of side.Hot case) (bands_of side.Cold case) cuts

-- those of a case are between the cuts of its axis
abbrev pub AreIntervals : Case → List Source → List Source → List Exchange → Type 0
AreIntervals case hot cold exchanges =
    (cuts : List ℤ) × AreCuts (bands_of side.Hot case) (bands_of side.Cold case) cuts
    × AreBetween case cuts hot cold exchanges

-- the network that the matches between some cuts draw
unfoldable pub network_of : Case → List ℤ → Network
network_of case cuts =
    pieces.network_of case (sources_between (bands_of side.Hot case) cuts)
    (sources_between (bands_of side.Cold case) cuts)
    (exchanges_between (bands_of side.Hot case) (bands_of side.Cold case) cuts)

-- the network of the vertical design of a case
abbrev pub IsVerticalDesign : Case → Network → Type 0
IsVerticalDesign case network =
    (cuts : List ℤ) × AreCuts (bands_of side.Hot case) (bands_of side.Cold case) cuts × (network ≡ network_of case cuts)
