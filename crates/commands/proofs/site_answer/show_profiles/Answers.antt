use Rattle.commands.proofs.Words.{SiteShown, SiteTable, sink_profile, source_profile}
use Rattle.std.proofs.Common.{ap, ap₂, map, ◌∙◌}
use Rattle.commands.proofs.site_answer.show_profiles.Goals as goal

pub returns : goal.returns
returns c =
    let site = c.args.site in
    let table : SiteTable = c.args.table in
    ap₂ (λ sinks sources. SiteShown site table sinks sources c.args.answer)
    (c.in_ok-sinks.ensures ∙ ap (map (sink_profile site)) c.as_slice.ensures)
    (c.in_ok-sources.ensures ∙ ap (map (source_profile site)) c.as_slice-2.ensures)
