-- What `site` shows of a site.
use Rattle.std.specs.Prelude.{◌≡◌, ℤ, ◌≤ℤ◌, List, map}
use Rattle.grid.specs.declared.parts.Parts.{Parts}
use Rattle.heat_flow.specs.declared.flow.Transfer.{Transfer}
use Rattle.heat_flow.specs.Flow.{IsHeatFlow}
use Rattle.transport.specs.Answer.{IfLeast}
use Rattle.transport.specs.declared.answer.Answer.{Answer}
use Rattle.site.specs.Profiles.{sink_profile, source_profile}
use Rattle.site.specs.Reach.{reach_between}
use Rattle.site.specs.SiteTable.{IsSiteTable}
use Rattle.site_text.specs.declared.site.Site.{Site}
use Rattle.site.specs.declared.table.SiteTable.{SiteTable}
use Rattle.site.specs.Target.{IsSiteTarget}
use Rattle.reports.specs.Site.{boiler_heat}
use Rattle.reports.specs.declared.shown.Shown.{Shown}
use Rattle.reports.specs.declared.shown.Shown.TheVariants.{SiteShown}

-- in a heat flow of these parts the boiler gives just this heat, and in none does it give less
pub record IsLeastBoiler (site : Site) (parts : Parts) (transfers : List Transfer) (heat : ℤ) : Type 0 where
  pub gives : boiler_heat parts transfers ≡ heat
  pub least : (others : List Transfer)
      → IsHeatFlow (reach_between site parts.hot parts.cold) parts.hot parts.cold others
      → heat ≤ℤ boiler_heat parts others

-- what answers these parts of the site: a heat flow with prices that prove that none costs less, which is what the boiler gives; or a cut that proves
-- that there is none
pub record IsSiteAnswer (site : Site) (parts : Parts) (answer : Answer) : Type 0 where
  pub target : IsSiteTarget site parts.hot parts.cold answer
  pub boiler : IfLeast answer (λ flow prices cost. IsLeastBoiler site parts flow.transfers cost)

-- the profiles of a site at each place of its table, with what answers its parts
abbrev pub profiles_shown : Site → SiteTable → Answer → Shown
profiles_shown site table answer =
    SiteShown site table (map (sink_profile site) table.places) (map (source_profile site) table.places) answer

-- the profiles of a site at each place of its grid, and its answer
pub record ShowsSite (site : Site) (shown : Shown) : Type 0 where
  pub table : SiteTable
  pub answer : Answer
  pub is_table : IsSiteTable site table
  pub is_answer : IsSiteAnswer site table.parts answer
  pub is : shown ≡ profiles_shown site table answer
