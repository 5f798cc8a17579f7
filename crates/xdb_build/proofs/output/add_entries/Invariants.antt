-- What the loop of `add_entries` keeps.
use Rattle.std.proofs.Common.{◌≡◌, [], map, take}
use Rattle.xdb_table_w.specs.Content.{content, point_row}
use Rattle.xdb_build.proofs.output.add_entries.Given as goal

abbrev pub invariant-loop-entry : goal.invariant-loop-entry
invariant-loop-entry l = l.writer ≡ content (map point_row (take l.entry-index l.entries)) []
