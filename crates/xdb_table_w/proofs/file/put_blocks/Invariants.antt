use Rattle.std.proofs.Common.{take}
use Rattle.xdb_table_w.proofs.FileLaws.{Put}
use Rattle.xdb_table_w.proofs.file.put_blocks.Given as goal

-- the blocks so far are put, and the index has their rows
abbrev pub invariant-loop-block : goal.invariant-loop-block
invariant-loop-block l = Put (take l.block-index l.blocks) l.out.items l.index
