-- The files of the first tables are named once more each.
use Rattle.std.proofs.Common.{◌≡◌, ◌+◌, ℕ, take}
use Rattle.xdb_vset.specs.Counts.{named_in}
use Rattle.xdb_vset.specs.Backings.{count_in, file_in}
use Rattle.xdb_vset.proofs.files.Files.raise_all.Given as goal

abbrev pub invariant-loop-table : goal.invariant-loop-table
invariant-loop-table g l = record {
  count : (b : ℕ) → count_in b l.self.named ≡ count_in b l.initial.self.named + named_in b (take l.table-index l.tables);
  file : (b : ℕ) → file_in b l.self.named ≡ file_in b l.initial.self.named;
  raised : l.self.raised ≡ l.initial.self.raised + l.table-index;
  rest : l.self ≡ record l.initial.self { named = l.self.named; raised = l.self.raised };
}
