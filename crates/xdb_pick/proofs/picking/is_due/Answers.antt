-- The limits of the levels are small.
use Rattle.std.proofs.Common.{arith}
use Rattle.xdb_pick.proofs.WalkLaws.{power_small}
use Rattle.xdb_pick.proofs.picking.is_due.Goals as goal

pub pow-requires : goal.pow-requires
pow-requires c = omega (arith, power_small c.args.level c.requires)

pub overflow_mul-pow : goal.overflow_mul-pow
overflow_mul-pow c = omega (arith, power_small c.args.level c.requires, c.pow.ensures)

pub have_more-requires : goal.have_more-requires
have_more-requires c = omega (arith, power_small c.args.level c.requires, c.pow.ensures)
