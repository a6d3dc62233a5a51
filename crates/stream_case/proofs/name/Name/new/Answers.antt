-- The name's bytes stand before zeros.
use Rattle.std.proofs.Common.{rules}
use Rattle.stream_case.proofs.NameLemmas.{IsStored-made}
use Rattle.stream_case.proofs.name.Name.new.Goals as goal

pub invariant_of-result : goal.invariant_of-result
invariant_of-result c =
    IsStored-made c.args.bytes.now c.copy_from_slice.new.self c.copy_from_slice.ensures.after (search rules)
