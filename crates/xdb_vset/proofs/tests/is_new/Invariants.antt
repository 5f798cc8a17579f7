-- The number isn't among the first ones.
use Rattle.std.proofs.Common.{◌≡◌, take, false}
use Rattle.xdb_lists.specs.Numbers.{is_among}
use Rattle.xdb_vset.proofs.tests.is_new.Given as goal

abbrev pub invariant-loop-new : goal.invariant-loop-new
invariant-loop-new l = is_among l.num (take l.new-index l.nums) ≡ false
