-- The table is the site's, and the site has no other parts.
use Rattle.site.proofs.Words.{Answer, AreSiteParts, IsSiteTable, IsSiteTarget, Part, Site}
use Rattle.site.proofs.TargetLemmas.{IfOk-weaker, of_all_parts, parts_of}
use Rattle.std.proofs.Common.{IfOk, List}
use Rattle.site.proofs.target.site_target.Goals as goal

pub table_target-requires-clause-table : goal.table_target-requires-clause-table
table_target-requires-clause-table c =
    let is = c.in_ok-table.ensures in
    record { grid = is.places; hot_parts = is.hot; cold_parts = is.cold; sizes = is.sizes; reach = is.reach }

-- what is answered of all parts of a site
abbrev OfAll : Site → Answer → Type 0
OfAll site a = (hot cold : List Part) → AreSiteParts site hot cold → IsSiteTarget site hot cold a

pub returns : goal.returns
returns c =
    let site = c.args.site.now in
    let table = c.in_ok-table.table in
    let made = c.in_ok-table.ensures in
    let is : IsSiteTable site table
    = record { grid = made.places; hot_parts = made.hot; cold_parts = made.cold; sizes = made.sizes; reach = made.reach } in
    let r = c.table_target.result in
    let all : IfOk r (OfAll site)
    = of_all_parts site c.requires table.parts.hot table.parts.cold r (parts_of site table is) c.table_target.ensures in
    record {
      certified = IfOk-weaker (OfAll site) _ r (λ a all hot cold parts. (all hot cold parts).certified) all;
      least = IfOk-weaker (OfAll site) _ r (λ a all hot cold parts. (all hot cold parts).least) all;
      cut = IfOk-weaker (OfAll site) _ r (λ a all hot cold parts. (all hot cold parts).cut) all;
      stuck_only = IfOk-weaker (OfAll site) _ r (λ a all hot cold parts. (all hot cold parts).stuck_only) all;
    }
