-- What the table of a site is.
use Rattle.std.specs.Prelude.{◌≡◌, ℕ, length}
use Rattle.stream_case.specs.declared.source.Side.TheVariants.{Hot, Cold}
use Rattle.grid.specs.Part.{AreParts}
use Rattle.heat_flow.specs.Table.{HasSizes, reaches}
use Rattle.site.specs.Reach.{reach_between}
use Rattle.site_text.specs.Site.{streams_of}
use Rattle.site.specs.Table.{IsSiteGrid, site_utilities}
use Rattle.site_text.specs.declared.site.Site.{Site}
use Rattle.site.specs.declared.table.SiteTable.{SiteTable}

-- the grid of a site, the parts of its streams, its boiler and its cooling, and which of them reach each other
pub record IsSiteTable (site : Site) (table : SiteTable) : Type 0 where
  pub grid : IsSiteGrid site table.places
  pub hot_parts : AreParts (streams_of site.plants) (site_utilities site) table.places Hot table.parts.hot
  pub cold_parts : AreParts (streams_of site.plants) (site_utilities site) table.places Cold table.parts.cold
  pub sizes : HasSizes table.reach (length table.parts.hot) (length table.parts.cold)
  pub reach : (a b : ℕ) → reaches table.reach a b ≡ reach_between site table.parts.hot table.parts.cold a b
