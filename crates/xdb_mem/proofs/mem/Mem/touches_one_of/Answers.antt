-- What is left to answer of `touches_one_of`.
use Rattle.std.proofs.Common.{◌∙◌}
use Rattle.xdb_mem.proofs.TouchLaws.{any-turned}
use Rattle.xdb_mem.proofs.mem.Mem.touches_one_of.Goals as goal

pub returns-clause-touches : goal.returns-clause-touches
returns-clause-touches c = c.any_touched.ensures ∙ any-turned c.args.below c.args.ranges.now c.args.self.now
