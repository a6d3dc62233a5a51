-- A plant without streams leaves the counts.
use Rattle.site_text.proofs.Plants.{few_plant}
use Rattle.site_text.proofs.Words.{HaveFewStreams}
use Rattle.std.proofs.Common.{subst, sym}
use Rattle.site_text.proofs.given.Given.add_plant.Goals as goal

pub invariant_of-self : goal.invariant_of-self
invariant_of-self c = subst HaveFewStreams (sym c.in_err-push.ensures.items) c.self.invariant

pub invariant_of-self-2 : goal.invariant_of-self-2
invariant_of-self-2 c = subst HaveFewStreams (sym c.in_ok-push.ensures.items)
    (few_plant c.self.inside.plants.items (record { name = c.args.name; streams = c.new-streams.result }) c.new-streams.ensures c.self.invariant)
