use Rattle.design_lines.proofs.Shaped.{HasShape-drawn}
use Rattle.design_lines.proofs.laws.drawn_networks_have_the_shape.Goals as goal

pub returns : goal.returns
returns c = HasShape-drawn
