-- What is left to answer of `table_of`.
use Rattle.std.proofs.Common.{◌≡◌, ◌+◌, ◌≤◌, ◌^◌, ◌<◌, length, Some, sym, subst, arith}
use Rattle.std.proofs.lemmas.List.{length-map}
use Rattle.std.proofs.lemmas.Result.{IfOk-weaker}
use Rattle.xdb_halves.specs.Beside.{IsExtent}
use Rattle.xdb_mem.proofs.ContentLaws.{both-ok}
use Rattle.xdb_rangedel.specs.Content.{content_of}
use Rattle.xdb_table_w.specs.Content.{point_row, span_row}
use Rattle.xdb_table_w.specs.Extents.{IsExtent as IsRowExtent}
use Rattle.xdb_table_w.specs.Files.{IsTable}
use Rattle.xdb_table_w.specs.declared.writer.Written.{Written}
use Rattle.xdb_build.proofs.FileLaws.{content_again}
use Rattle.xdb_build.proofs.ReachLaws.{extent_of_rows}
use Rattle.xdb_build.proofs.RowLaws.{both_written}
use Rattle.xdb_build.specs.Outputs.{file_content}
use Rattle.xdb_build.proofs.output.table_of.Goals as goal

pub finish-requires : goal.finish-requires
finish-requires c =
    let written = both_written c.args.entries.now c.args.spans.now c.add_entries.new.writer c.add_spans.new.writer c.in_ok-add_entries.ensures c.in_ok-add_spans.ensures in
    subst (λ w. 1 ≤ length w.points + length w.spans) (sym written)
    (omega (arith, length-map c.args.entries.now point_row, length-map c.args.spans.now span_row, c.requires.some))

pub returns-clause-content : goal.returns-clause-content
returns-clause-content c =
    let ps = c.args.entries.now in
    let ts = c.args.spans.now in
    let written = both_written ps ts c.add_entries.new.writer c.add_spans.new.writer c.in_ok-add_entries.ensures c.in_ok-add_spans.ensures in
    both-ok {P = λ (w : Written). IsTable 16 w.bytes.items c.add_spans.new.writer} {Q = λ (w : Written). length w.bytes.items < 2 ^ 56} {R = λ (w : Written). file_content w.bytes.items ≡ content_of ps ts} c.finish.result
    (λ w table short. content_again w.bytes.items ps ts (subst (IsTable 16 w.bytes.items) written table) short c.are_points.ensures.points c.list-spans.ensures.small)
    c.finish.ensures.table c.finish.ensures.short

pub returns-clause-extent : goal.returns-clause-extent
returns-clause-extent c =
    let ps = c.args.entries.now in
    let ts = c.args.spans.now in
    let written = both_written ps ts c.add_entries.new.writer c.add_spans.new.writer c.in_ok-add_entries.ensures c.in_ok-add_spans.ensures in
    IfOk-weaker c.finish.result (λ (w : Written). IsRowExtent c.add_spans.new.writer w.extent) (λ (w : Written). IsExtent (content_of ps ts) (Some w.extent))
    (λ w extent. extent_of_rows ps ts w.extent c.are_points.ensures.points c.list-spans.ensures.small (subst (λ r. IsRowExtent r w.extent) written extent))
    c.finish.ensures.extent
