use Rattle.std.proofs.Common.{◌≡◌, length}
use Rattle.std.specs.List.{slice_split}
use Rattle.xdb_script.proofs.Taking.{SoFar}
use Rattle.xdb_script.specs.Grammar.{is_line_feed}
use Rattle.xdb_script.proofs.reader.read_lines.Given as goal

-- the parts so far are taken, and each is counted
abbrev pub invariant-loop-part : goal.invariant-loop-part
invariant-loop-part l = record {
  counted : l.number ≡ length l.yielded;
  so_far : SoFar l.form (slice_split is_line_feed l.bytes) (length l.yielded) l.tables l.lines.items;
}
