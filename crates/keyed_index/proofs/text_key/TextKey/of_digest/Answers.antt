use Rattle.std.proofs.Common.{ap₂, ◌∙◌}
use Rattle.std.specs.Hash.DefaultHasher.{write}
use Rattle.keyed_index.specs.Key.{keyed_by}
use Rattle.keyed_index.proofs.text_key.TextKey.of_digest.Goals as goal

pub returns : goal.returns
unfolding keyed_by
returns c bytes holds = c.write.ensures ∙ ap₂ write c.new-begun.ensures (c.finalize.ensures bytes holds)
