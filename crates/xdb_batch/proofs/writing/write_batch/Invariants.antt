use Rattle.std.proofs.Common.{◌≡◌, ◌++◌, length, take}
use Rattle.std.specs.List.{flat_map}
use Rattle.byteorder.specs.Endian.{little_bytes}
use Rattle.xdb_batch.specs.Spelling.{op_bytes}
use Rattle.xdb_batch.proofs.writing.write_batch.Given as goal

-- the header and the operations so far
abbrev pub invariant-loop-op : goal.invariant-loop-op
invariant-loop-op l =
    l.out.items ≡ (little_bytes 8 l.first ++ little_bytes 4 (length l.ops)) ++ flat_map op_bytes (take l.op-index l.ops)
