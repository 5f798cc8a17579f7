-- The first entries are copied.
use Rattle.std.proofs.Common.{◌≡◌, ◌++◌, take}
use Rattle.xdb_build.proofs.gather.add_entries.Given as goal

abbrev pub invariant-loop-entry : goal.invariant-loop-entry
invariant-loop-entry l = l.out.items ≡ l.initial.out.items ++ take l.entry-index l.entries
