use Rattle.pinch_outside.proofs.Files.{took, took_none}
use Rattle.std.proofs.Common.{arith, refl, rules}
use Rattle.std.proofs.lemmas.Grind.{common_steps}
use Rattle.pinch_outside.proofs.memory_shelf.MemoryShelfShelf.take.Goals as goal

pub returns-clause-told : goal.returns-clause-told
returns-clause-told c = record {
  bound = grind (arith, common_steps);
  files = refl;
  left = grind (arith, took);
  end = grind (arith, took_none);
  asked = refl;
  taken = refl;
  begun = refl;
  failed = search rules;
  ended = grind (arith, common_steps);
  cause = search rules;
}
