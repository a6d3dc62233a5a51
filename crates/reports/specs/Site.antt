-- The text of a site.
use Rattle.std.specs.Prelude.{ℕ, ℤ, pos, List, ◌∷◌, ◌++◌, slice_index_or, codes}
use Rattle.std.specs.Fmt.{signed_decimal}
use Rattle.stream_case.specs.declared.source.Side.TheVariants.{Hot, Cold}
use Rattle.grid.specs.declared.parts.Parts.{Parts}
use Rattle.heat_flow.specs.declared.flow.Transfer.{Transfer}
use Rattle.heat_flow.specs.declared.prices.Prices.{Prices}
use Rattle.site_text.specs.declared.site.Site.{Site}
use Rattle.site.specs.declared.table.SiteTable.{SiteTable}
use Rattle.transport.specs.declared.answer.Answer.{Answer}
use Rattle.transport.specs.declared.answer.Answer.TheVariants.{Least, Stuck}
use Rattle.reports.specs.Cut.{stuck_text}
use Rattle.reports.specs.Flow.{certificate_lines}
use Rattle.heat_flow.specs.Certificate.{utility_heat}
use Rattle.reports.specs.Lines.{line, texts_from}
use Rattle.reports.specs.Names.{site_names}
use Rattle.reports.specs.declared.names.SourceNames.{SourceNames}

-- profile PLACE SINK SOURCE
abbrev pub profile_line : ℤ → ℤ → ℤ → List ℕ
profile_line place sink source = line (codes "profile " ++ (signed_decimal place ++ 32 ∷ signed_decimal sink)) source

-- the profiles at each place
abbrev pub profile_lines : List ℤ → List ℤ → List ℤ → List ℕ
profile_lines places sinks sources =
    texts_from (λ i place. profile_line place (slice_index_or sinks i (pos 0)) (slice_index_or sources i (pos 0))) 0 places

-- what the boiler gives in all, which is utility 0 of a site
abbrev pub boiler_heat : Parts → List Transfer → ℤ
boiler_heat parts transfers = utility_heat 0 Hot parts.hot transfers

-- what the cooling takes in all, which is utility 1 of a site
abbrev pub cooling_heat : Parts → List Transfer → ℤ
cooling_heat parts transfers = utility_heat 1 Cold parts.cold transfers

-- boiler HEAT, cooling HEAT, the transfers and the prices
abbrev pub least_lines : SourceNames → Parts → List Transfer → Prices → List ℕ
least_lines names parts transfers prices =
    line (codes "boiler") (boiler_heat parts transfers)
    ++ line (codes "cooling") (cooling_heat parts transfers) ++ certificate_lines names parts transfers prices

-- or the cut, where there is no heat flow
abbrev pub answer_lines : SourceNames → Parts → Answer → List ℕ
answer_lines names parts (Least flow prices cost) = least_lines names parts flow.transfers prices
answer_lines names parts (Stuck cut) = stuck_text names parts cut

-- the profiles of a site at its places, and its target
abbrev pub total_site_text : Site → SiteTable → List ℤ → List ℤ → Answer → List ℕ
total_site_text site table sinks sources answer =
    profile_lines table.places sinks sources ++ answer_lines (site_names site) table.parts answer
