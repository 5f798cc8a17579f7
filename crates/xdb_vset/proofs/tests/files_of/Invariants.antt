-- There is a file for each of the first numbers.
use Rattle.std.proofs.Common.{◌≡◌, map, take}
use Rattle.xdb_vset.proofs.tests.files_of.Given as goal

abbrev pub invariant-loop-num : goal.invariant-loop-num
invariant-loop-num l = map (λ f. f.0) l.files.items ≡ take l.num-index l.nums
