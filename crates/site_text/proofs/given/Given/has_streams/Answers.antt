use Rattle.site_text.proofs.Words.{Plant, list_any}
use Rattle.site_text.proofs.Plants.{some_stream-plants}
use Rattle.std.proofs.Common.{List, ap, length, not, ◌==◌, ◌∙◌}
use Rattle.site_text.proofs.given.Given.has_streams.Goals as goal

pub returns : goal.returns
returns c = rw (← c.self.view_is)
    (c.have_streams.ensures ∙ ap (λ (plants : List Plant). list_any (λ plant. not (length plant.streams == 0)) plants) c.as_slice.ensures.value
    ∙ some_stream-plants c.self.inside.plants.items)
