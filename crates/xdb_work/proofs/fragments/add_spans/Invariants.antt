-- What the loop of `add_spans` keeps.
use Rattle.std.proofs.Common.{◌≡◌, map, take}
use Rattle.xdb_table_w.specs.Content.{content, span_row}
use Rattle.xdb_work.proofs.fragments.add_spans.Given as goal

abbrev pub invariant-loop-span : goal.invariant-loop-span
invariant-loop-span l = l.writer ≡ content l.fn.writer.points (map span_row (take l.span-index l.span-items))
