-- The files of the tables of the first levels are named once less each.
use Rattle.std.proofs.Common.{◌≡◌, ◌+◌, ℕ, Option, take}
use Rattle.xdb_vset.specs.Counts.{named_by}
use Rattle.xdb_vset.specs.Backings.{count_in, FilesAre}
use Rattle.xdb_vset.proofs.files.Files.lower_version.Given as goal

abbrev pub invariant-loop-level : goal.invariant-loop-level
invariant-loop-level g l = record {
  count : (b : ℕ) → count_in b l.self.named + named_by b (take l.level l.version) ≡ count_in b l.initial.self.named;
  kept : (files : ℕ → Option _) → FilesAre files l.initial.self.named → FilesAre files l.self.named;
  rest : l.self ≡ record l.initial.self { named = l.self.named; dead = l.self.dead };
}
