-- The way of a stream through places that are listed from the hottest down.
use Rattle.std.specs.Prelude.{List, reverse}
use Rattle.stream_case.specs.declared.source.Side.{Side}
use Rattle.stream_case.specs.declared.source.Side.TheVariants as side

-- hot streams go down through them, and cold ones up
abbrev pub on_the_way : {X : Type 0} → Side → List X → List X
on_the_way side.Hot places = places
on_the_way side.Cold places = reverse places
