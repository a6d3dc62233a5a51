-- The network of a heat flow: its parts are the pieces of their sources, and each transfer is an exchange of heat
-- between two of them.
use Rattle.std.specs.Prelude.{ℕ, ◌-ℤ◌, max, unsigned_abs, List, map, slice_get}
use Rattle.std.specs.Option.{option_map_or}
use Rattle.stream_case.specs.declared.case.Case.{Case}
use Rattle.stream_case.specs.declared.source.Source.{Source}
use Rattle.fractions.specs.Rationals.{ratio, whole}
use Rattle.networks.specs.Lines.{Exchanger}
use Rattle.networks.specs.declared.network.Network.{Network}
use Rattle.design_lines.specs.Names.{exchanger_name}
use Rattle.grid.specs.declared.part.Part.{Part}
use Rattle.heat_flow.specs.declared.flow.Transfer.{Transfer}
use Rattle.pieces.specs.Pieces.{network_of as pieces_network, source_at}
use Rattle.pieces.specs.declared.exchange.Exchange.{Exchange}

-- the sources of parts
abbrev pub part_sources : List Part → List Source
part_sources parts = map (λ p. p.source) parts

-- the width of a part, in tenths of a degree; the part of a latent stream or a utility has none, and 1 stands for it
abbrev pub width_of : Part → ℕ
width_of p = max 1 (unsigned_abs (p.high -ℤ p.low))

-- the heat of a transfer over the width of the part at an index, which is the whole heat in the part of a latent
-- stream; over 1 where there is none
abbrev pub width_at : List Part → ℕ → ℕ
width_at parts index = option_map_or width_of (slice_get parts index) 1

abbrev pub exchange_of : List Part → List Part → Transfer → Exchange
exchange_of hot cold t = record {
  hot = t.hot;
  cold = t.cold;
  hot_size = ratio t.heat (width_at hot t.hot);
  cold_size = ratio t.heat (width_at cold t.cold);
  heat = whole t.heat;
}

-- the exchanger of a transfer
abbrev pub exchanger_of : List Part → List Part → ℕ × Transfer → Exchanger
exchanger_of hot cold (number, t) = record {
  name = exchanger_name number;
  hot = source_at (part_sources hot) t.hot;
  cold = source_at (part_sources cold) t.cold;
  duty = whole t.heat;
}

-- the exchangers in the order of the transfers, and each stream led through its parts
unfoldable pub network_of : Case → List Part → List Part → List Transfer → Network
network_of case hot cold transfers =
    pieces_network case (part_sources hot) (part_sources cold) (map (exchange_of hot cold) transfers)
