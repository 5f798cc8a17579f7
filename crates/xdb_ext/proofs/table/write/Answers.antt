-- What is left to answer of `write`.
use Rattle.std.proofs.Common.{◌+◌, ◌≤◌, length, sym, subst}
use Rattle.xdb_table_w.specs.Extents.{IsExtent}
use Rattle.xdb_table_w.specs.Files.{IsTable}
use Rattle.xdb_ext.specs.Operations.{rows_of}
use Rattle.xdb_ext.proofs.BoundsLaws.{pieced, is_written, some_rows, extent_of_ops}
use Rattle.xdb_work.proofs.FileLaws.{file_some}
use Rattle.xdb_ext.proofs.table.write.Goals as goal

pub finish-requires : goal.finish-requires
finish-requires c =
    let ops = c.args.ops.now in
    let fs = c.in_ok-fragments.fragments in
    let p = pieced ops c.in_ok-spans.field-0.items c.deref.result.now fs c.in_ok-spans.ensures.made c.deref.ensures.value c.in_ok-spans.ensures.ordered c.in_ok-fragments.ensures.pieces in
    let written = is_written ops fs c.add_points.new.writer c.add_spans.new.writer c.in_ok-add_points.ensures c.in_ok-add_spans.ensures in
    subst (λ w. 1 ≤ length w.points + length w.spans) (sym written) (some_rows ops fs c.requires p)

pub returns : goal.returns
returns c =
    let ops = c.args.ops.now in
    let fs = c.in_ok-fragments.fragments in
    let p = pieced ops c.in_ok-spans.field-0.items c.deref.result.now fs c.in_ok-spans.ensures.made c.deref.ensures.value c.in_ok-spans.ensures.ordered c.in_ok-fragments.ensures.pieces in
    let written = is_written ops fs c.add_points.new.writer c.add_spans.new.writer c.in_ok-add_points.ensures c.in_ok-add_spans.ensures in
    let bytes = c.in_ok-bytes.field-0.bytes.items in
    let table = subst (IsTable 16 bytes) written c.in_ok-bytes.ensures.table in
    record {
      file = record { fragments = fs; in_order = c.in_ok-fragments.ensures.fragments; are_pieces = p.same; table = table };
      extent = extent_of_ops ops fs c.in_ok-bytes.field-0.extent p (subst (λ w. IsExtent w c.in_ok-bytes.field-0.extent) written c.in_ok-bytes.ensures.extent);
      long = (file_some bytes (rows_of ops fs) table, c.in_ok-bytes.ensures.short);
    }
