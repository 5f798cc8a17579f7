-- What is left to answer of `new`.
use Rattle.xdb_mem.proofs.HeldLaws.{opened-ops, opened-held}
use Rattle.xdb_mem.proofs.mem.Mem.new.Goals as goal

pub invariant_of-result : goal.invariant_of-result
invariant_of-result c = opened-held c.new.result.items c.new-2.result c.new.ensures.items c.new-2.ensures

pub returns : goal.returns
returns c = opened-ops c.new.result.items c.new-2.result c.new.ensures.items c.new-2.ensures
