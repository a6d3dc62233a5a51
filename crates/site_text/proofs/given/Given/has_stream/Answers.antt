use Rattle.site_text.proofs.Words.{Plant, is_among, list_any}
use Rattle.site_text.proofs.Plants.{is_among-plants}
use Rattle.std.proofs.Common.{List, ap, ◌∙◌}
use Rattle.site_text.proofs.given.Given.has_stream.Goals as goal

pub returns : goal.returns
returns c =
    let name = c.args.name.now in
    rw (← c.self.view_is)
    (c.is_name_within.ensures ∙ ap (λ (plants : List Plant). list_any (λ plant. is_among (λ s. s.name) plant.streams name) plants) c.as_slice.ensures.value
    ∙ is_among-plants name c.self.inside.plants.items)
