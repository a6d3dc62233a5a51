use Rattle.commands.proofs.SiteCosts.{least_boiler}
use Rattle.commands.proofs.Words.{AreSiteParts, IfOk-weaker, ShowsSite, SiteTable, profiles_shown}
use Rattle.std.proofs.Common.{◌≡◌}
use Rattle.commands.proofs.site_answer.show_site.Goals as goal

pub returns : goal.returns
returns c =
    let site = c.args.site in
    let table = c.in_ok-table.table in
    let is = c.in_ok-table.ensures in
    let answer = c.in_ok-answer.answer in
    let target = c.in_ok-answer.ensures in
    let parts : AreSiteParts site table.parts.hot table.parts.cold =
    record { grid = table.places; is_grid = is.places; hot_parts = is.hot; cold_parts = is.cold } in
    -- as it is shown
    let as_shown : SiteTable = record { places = table.places; parts = table.parts; reach = table.reach } in
    IfOk-weaker c.show_profiles.result (λ shown. shown ≡ profiles_shown site as_shown answer) (ShowsSite site)
    (λ shown is_shown. record {
      table = as_shown;
      answer = answer;
      is_table =
          record { grid = is.places; hot_parts = is.hot; cold_parts = is.cold; sizes = is.sizes; reach = is.reach };
      is_answer =
          record { target = target; boiler = least_boiler site table.parts answer parts target.certified target.least };
      is = is_shown;
    })
    c.show_profiles.ensures
