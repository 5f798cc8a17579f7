-- The first files are settled.
use Rattle.std.proofs.Common.{◌≡◌, ◌&&◌, ℕ, eqb, cond, None, take}
use Rattle.xdb_lists.specs.Numbers.{is_among}
use Rattle.xdb_vset.specs.Backings.{count_in, file_in}
use Rattle.xdb_vset.proofs.files.Files.settle_all.Given as goal

abbrev pub invariant-loop-num : goal.invariant-loop-num
invariant-loop-num g l = record {
  count : (b : ℕ) → count_in b l.self.named ≡ count_in b l.initial.self.named;
  file : (b : ℕ) → file_in b l.self.named ≡ cond (is_among b (take l.num-index l.nums) && eqb (count_in b l.initial.self.named) 0) None (file_in b l.initial.self.named);
  rest : l.self ≡ record l.initial.self { named = l.self.named; dead = l.self.dead };
}
