-- The text of a heat flow with its prices.
use Rattle.std.specs.Prelude.{ℕ, ℤ, List, [], ◌∷◌, ◌++◌, codes, slice_get}
use Rattle.std.specs.Option.{option_map_or}
use Rattle.std.specs.List.{flat_map}
use Rattle.std.specs.Fmt.{signed_decimal}
use Rattle.stream_case.specs.declared.source.Side.{Side}
use Rattle.stream_case.specs.declared.source.Side.TheVariants.{Hot, Cold}
use Rattle.stream_case.specs.declared.case.Case.{Case}
use Rattle.stream_case.specs.declared.utility.Utility.{Utility}
use Rattle.grid.specs.declared.part.Part.{Part}
use Rattle.grid.specs.declared.parts.Parts.{Parts}
use Rattle.heat_flow.specs.declared.flow.Transfer.{Transfer}
use Rattle.heat_flow.specs.declared.prices.Prices.{Prices}
use Rattle.heat_flow.specs.Certificate.{utility_heat}
use Rattle.heat_flow.specs.Cuts.{parts_of}
use Rattle.heat_flow.specs.Prices.{price_at}
use Rattle.reports.specs.Lines.{line, texts_from}
use Rattle.reports.specs.Names.{case_names, source_name}
use Rattle.reports.specs.declared.names.SourceNames.{SourceNames}

-- NAME HIGH LOW
abbrev pub part_text : SourceNames → Part → List ℕ
part_text names p = source_name names p.source ++ 32 ∷ (signed_decimal p.high ++ 32 ∷ signed_decimal p.low)

-- the part at an index of a list
abbrev pub part_at : SourceNames → List Part → ℕ → List ℕ
part_at names parts index = option_map_or (part_text names) (slice_get parts index) []

abbrev pub side_prices : Side → Prices → List ℤ
side_prices Hot prices = prices.hot
side_prices Cold prices = prices.cold

-- use NAME HEAT
abbrev pub use_line : Parts → List Transfer → ℕ → Utility → List ℕ
use_line parts transfers i u =
    line (codes "use " ++ u.name) (utility_heat i u.side (parts_of u.side parts.hot parts.cold) transfers)

-- move NAME HIGH LOW NAME HIGH LOW HEAT
abbrev pub move_line : SourceNames → Parts → Transfer → List ℕ
move_line names parts t =
    line (codes "move " ++ (part_at names parts.hot t.hot ++ 32 ∷ part_at names parts.cold t.cold)) t.heat

-- what a part of this side does with its heat
abbrev pub price_word : Side → List ℕ
price_word Hot = codes "give"
price_word Cold = codes "take"

-- give NAME HIGH LOW PRICE, or take NAME HIGH LOW PRICE
abbrev pub price_line : SourceNames → Side → ℤ → Part → List ℕ
price_line names side price p = line (price_word side ++ 32 ∷ part_text names p) price

abbrev pub price_lines : SourceNames → Side → Parts → Prices → List ℕ
price_lines names side parts prices =
    texts_from (λ i p. price_line names side (price_at (side_prices side prices) i) p) 0 (parts_of side parts.hot parts.cold)

-- the transfers and the prices
abbrev pub certificate_lines : SourceNames → Parts → List Transfer → Prices → List ℕ
certificate_lines names parts transfers prices =
    flat_map (move_line names parts) transfers ++ price_lines names Hot parts prices
    ++ price_lines names Cold parts prices

-- the cost, the use of each utility, the transfers and the prices
abbrev pub flow_text : Case → Parts → List Transfer → Prices → ℤ → List ℕ
flow_text c parts transfers prices cost =
    line (codes "cost") cost ++ texts_from (use_line parts transfers) 0 c.utilities
    ++ certificate_lines (case_names c) parts transfers prices
