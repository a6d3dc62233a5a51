use Rattle.certify.proofs.Words.{IsTableOf, begun_by, bytes_of_parts, hasher_of, keyed_by}
use Rattle.std.proofs.Common.{take, ◌≡◌}
use Rattle.certify.proofs.part_table.table_of.Given as goal

abbrev pub invariant-loop-index : goal.invariant-loop-index
invariant-loop-index l = record {
  table : IsTableOf l.case (take l.index l.parts) l.table;
  key : begun_by (hasher_of l.table) ≡ keyed_by (bytes_of_parts l.case l.parts);
}
