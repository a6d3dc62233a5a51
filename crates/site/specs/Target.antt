-- The parts of a site, which its target speaks of, and what its target is.
use Rattle.std.specs.Prelude.{ℤ, List}
use Rattle.stream_case.specs.declared.source.Side.TheVariants.{Cold, Hot}
use Rattle.grid.specs.Part.{AreParts}
use Rattle.grid.specs.declared.part.Part.{Part}
use Rattle.transport.specs.Answer.{IsAnswer}
use Rattle.transport.specs.declared.answer.Answer.{Answer}
use Rattle.site.specs.Reach.{reach_between}
use Rattle.site_text.specs.Site.{streams_of}
use Rattle.site.specs.Table.{IsSiteGrid, site_utilities}
use Rattle.site_text.specs.declared.site.Site.{Site}

-- the hot and the cold parts of a site on its grid
pub record AreSiteParts (site : Site) (hot cold : List Part) : Type 0 where
  pub grid : List ℤ
  pub is_grid : IsSiteGrid site grid
  pub hot_parts : AreParts (streams_of site.plants) (site_utilities site) grid Hot hot
  pub cold_parts : AreParts (streams_of site.plants) (site_utilities site) grid Cold cold

-- a heat flow between these parts of the site with prices that prove that none costs less, or a cut that proves that
-- there is none
abbrev pub IsSiteTarget : Site → List Part → List Part → Answer → Type 0
IsSiteTarget site hot cold answer = IsAnswer (reach_between site hot cold) hot cold answer
