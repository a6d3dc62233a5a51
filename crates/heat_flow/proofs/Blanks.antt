-- What stands for none, past the end of a list.
use Rattle.heat_flow.proofs.Words.{Hot, Part, Transfer, pos}
use Rattle.stream_case.specs.declared.source.Source.TheVariants.{Stream as of_stream}

abbrev pub blank : Part
blank =
    record { source = of_stream 0; side = Hot; high = pos 0; low = pos 0; least = pos 0; most = pos 0; price = pos 0 }

abbrev pub no_transfer : Transfer
no_transfer = record { hot = 0; cold = 0; heat = pos 0 }
