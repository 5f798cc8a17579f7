-- What is left to answer of `is_same_range`.
use Rattle.xdb_stripes.proofs.RepeatLaws.{same_bounds-is}
use Rattle.xdb_stripes.proofs.spans.is_same_range.Goals as goal

pub returns : goal.returns
returns c = same_bounds-is c.args.a.now c.args.b.now c.same.result c.same.ensures.0 c.same.ensures.1
