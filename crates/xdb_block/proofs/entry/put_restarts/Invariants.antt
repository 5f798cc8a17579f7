use Rattle.std.proofs.Common.{◌≡◌, ◌++◌, take}
use Rattle.std.specs.List.{flat_map}
use Rattle.byteorder.specs.Endian.{little_bytes}
use Rattle.xdb_block.proofs.entry.put_restarts.Given as goal

-- the offsets so far
abbrev pub invariant-loop-offset : goal.invariant-loop-offset
invariant-loop-offset l = l.out.items ≡ l.initial.out.items ++ flat_map (little_bytes 4) (take l.offset-index l.offsets)
