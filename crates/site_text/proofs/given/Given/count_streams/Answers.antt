use Rattle.site_text.proofs.Words.{HaveFewStreams}
use Rattle.std.proofs.Common.{subst, sym}
use Rattle.site_text.proofs.given.Given.count_streams.Goals as goal

pub count_streams-requires : goal.count_streams-requires
count_streams-requires c = subst HaveFewStreams (sym c.as_slice.ensures.value) c.self.invariant
