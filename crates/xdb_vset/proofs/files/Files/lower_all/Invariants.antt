-- The files of the first tables are named once less each.
use Rattle.std.proofs.Common.{◌≡◌, ◌+◌, ℕ, Option, take}
use Rattle.xdb_vset.specs.Counts.{named_in}
use Rattle.xdb_vset.specs.Backings.{count_in, FilesAre}
use Rattle.xdb_vset.proofs.files.Files.lower_all.Given as goal

abbrev pub invariant-loop-table : goal.invariant-loop-table
invariant-loop-table g l = record {
  count : (b : ℕ) → count_in b l.self.named + named_in b (take l.table-index l.tables) ≡ count_in b l.initial.self.named;
  kept : (files : ℕ → Option _) → FilesAre files l.initial.self.named → FilesAre files l.self.named;
  rest : l.self ≡ record l.initial.self { named = l.self.named; dead = l.self.dead };
}
