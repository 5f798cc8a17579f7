-- The files of the tables of the first levels are named once more each.
use Rattle.std.proofs.Common.{◌≡◌, ◌+◌, ℕ, take}
use Rattle.xdb_vset.specs.Counts.{named_by, table_count}
use Rattle.xdb_vset.specs.Backings.{count_in, file_in}
use Rattle.xdb_vset.proofs.files.Files.raise_version.Given as goal

abbrev pub invariant-loop-level : goal.invariant-loop-level
invariant-loop-level g l = record {
  count : (b : ℕ) → count_in b l.self.named ≡ count_in b l.initial.self.named + named_by b (take l.level l.version);
  file : (b : ℕ) → file_in b l.self.named ≡ file_in b l.initial.self.named;
  raised : l.self.raised ≡ l.initial.self.raised + table_count (take l.level l.version);
  rest : l.self ≡ record l.initial.self { named = l.self.named; raised = l.self.raised };
}
