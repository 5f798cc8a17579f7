-- What is left to answer of `add_entries`.
use Rattle.std.proofs.Common.{None, ap, ◌∙◌}
use Rattle.xdb_table_w.specs.Content.{point_row, last_of, goes_behind}
use Rattle.xdb_build.proofs.RowLaws.{entry_behind, entry_written}
use Rattle.xdb_build.proofs.output.add_entries.Goals as goal

pub add-requires : goal.add-requires
add-requires c = record {
  order =
      ap (λ w. goes_behind (last_of None w.points) (point_row c.entry-item.result)) c.loop-entry.invariant
      ∙ entry_behind c.args.entries.now c.loop-entry.entry-index c.entry-item.result c.loop-entry-test.true c.entry-item.is c.requires.order c.requires.points;
}

pub loop-entry-preserved : goal.loop-entry-preserved
loop-entry-preserved c =
    entry_written c.args.entries.now c.loop-entry.entry-index c.entry-item.result c.loop-entry.writer _ c.loop-entry-test.true c.entry-item.is c.loop-entry.invariant c.in_ok-add.ensures.added
