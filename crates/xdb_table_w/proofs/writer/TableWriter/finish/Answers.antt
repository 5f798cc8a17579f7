use Rattle.std.proofs.Common.{◌∙◌, ◌+◌, ◌^◌, ◌<◌, ◌≤◌, List, All, [], ap, sym, subst, length}
use Rattle.xdb_key.specs.Bounds.{bounds}
use Rattle.xdb_key.specs.Entries.{Reach, reach}
use Rattle.xdb_key.specs.Limits.{IsKey}
use Rattle.xdb_block.specs.declared.kind.BlockKind.TheVariants.{Point, Index}
use Rattle.xdb_block.specs.Kept.{Draft, last_key}
use Rattle.xdb_block.specs.Rows.{user_part}
use Rattle.xdb_block.specs.Spelling.{IsBlock}
use Rattle.xdb_table_w.specs.Content.{Content}
use Rattle.xdb_table_w.specs.Extents.{IsExtent, lesser, greater, hull_end}
use Rattle.xdb_table_w.specs.Files.{len_of, index, table_bytes, IsTable}
use Rattle.xdb_table_w.specs.Halves.{rows_in, points_in, IsPointBlock}
use Rattle.xdb_table_w.proofs.ReadyLaws.{close_all, is_table, index_key, hull_of_index, spread_of, seqs_some, ranged}
use Rattle.xdb_table_w.proofs.writer.TableWriter.finish.Goals as goal

pub write_table-requires-clause-blocks : goal.write_table-requires-clause-blocks
write_table-requires-clause-blocks c =
    let w = c.self.inside in
    let some = subst (λ (v : Content). 1 ≤ length v.points + length v.spans) (sym c.self.view_is) c.requires in
    let k = close_all w.blocks.items w.block w.spans w.first w.last.items w.lo w.hi w.point_seqs w.span_seqs c.close.new.blocks.items c.self.invariant some c.in_ok-close.ensures in
    subst (λ (bs : List Draft). All IsPointBlock bs) (sym c.deref.ensures.value) k.ready.point_blocks

pub last_hull-requires : goal.last_hull-requires
last_hull-requires c = λ rows.
    let w = c.self.inside in
    let some = subst (λ (v : Content). 1 ≤ length v.points + length v.spans) (sym c.self.view_is) c.requires in
    let k = close_all w.blocks.items w.block w.spans w.first w.last.items w.lo w.hi w.point_seqs w.span_seqs c.close.new.blocks.items c.self.invariant some c.in_ok-close.ensures in
    let blocks = c.close.new.blocks.items in
    let index_is = c.in_ok-bytes.ensures.written ∙ ap (λ bs. let d : Draft = record { interval = 16; rows = index 16 (rows_in bs) } in d) c.deref.ensures.value in
    subst (λ (d : Draft). IsKey (user_part (last_key [] d.rows))) (sym index_is)
    (index_key blocks k.ready.point_blocks k.ready.points.follow (subst (λ (d : Draft). 1 ≤ length d.rows) index_is rows))

pub unreachable-requires : goal.unreachable-requires
unreachable-requires c =
    let w = c.self.inside in
    let some = subst (λ (v : Content). 1 ≤ length v.points + length v.spans) (sym c.self.view_is) c.requires in
    let spread = spread_of (points_in w.blocks.items w.block) w.spans.rows w.first w.last.items w.lo w.hi w.point_seqs w.span_seqs c.self.invariant.points c.self.invariant.ranges in
    seqs_some (points_in w.blocks.items w.block) w.spans.rows _ (sym c.both.ensures ∙ c.in_default.is) spread some

pub extent-requires-clause-some_lo : goal.extent-requires-clause-some_lo
extent-requires-clause-some_lo c =
    let w = c.self.inside in
    let some = subst (λ (v : Content). 1 ≤ length v.points + length v.spans) (sym c.self.view_is) c.requires in
    let k = close_all w.blocks.items w.block w.spans w.first w.last.items w.lo w.hi w.point_seqs w.span_seqs c.close.new.blocks.items c.self.invariant some c.in_ok-close.ensures in
    let blocks = c.close.new.blocks.items in
    let index_is = c.in_ok-bytes.ensures.written ∙ ap (λ bs. let d : Draft = record { interval = 16; rows = index 16 (rows_in bs) } in d) c.deref.ensures.value in
    let hull = c.in_ok-last.ensures ∙ ap (λ (d : Draft). hull_end d.rows) index_is ∙ hull_of_index blocks k.ready.point_blocks ∙ ap hull_end k.is in
    let found = ranged (points_in w.blocks.items w.block) w.spans.rows w.first w.last.items c.in_ok-last.last w.lo w.hi w.point_seqs w.span_seqs c.in-Some.seqs c.self.invariant.points c.self.invariant.ranges some hull (sym c.both.ensures ∙ c.in-Some.is) in
    found.some_lo

pub extent-requires-clause-some_hi : goal.extent-requires-clause-some_hi
extent-requires-clause-some_hi c =
    let w = c.self.inside in
    let some = subst (λ (v : Content). 1 ≤ length v.points + length v.spans) (sym c.self.view_is) c.requires in
    let k = close_all w.blocks.items w.block w.spans w.first w.last.items w.lo w.hi w.point_seqs w.span_seqs c.close.new.blocks.items c.self.invariant some c.in_ok-close.ensures in
    let blocks = c.close.new.blocks.items in
    let index_is = c.in_ok-bytes.ensures.written ∙ ap (λ bs. let d : Draft = record { interval = 16; rows = index 16 (rows_in bs) } in d) c.deref.ensures.value in
    let hull = c.in_ok-last.ensures ∙ ap (λ (d : Draft). hull_end d.rows) index_is ∙ hull_of_index blocks k.ready.point_blocks ∙ ap hull_end k.is in
    let found = ranged (points_in w.blocks.items w.block) w.spans.rows w.first w.last.items c.in_ok-last.last w.lo w.hi w.point_seqs w.span_seqs c.in-Some.seqs c.self.invariant.points c.self.invariant.ranges some hull (sym c.both.ensures ∙ c.in-Some.is) in
    found.some_hi

pub extent-requires-clause-ordered : goal.extent-requires-clause-ordered
extent-requires-clause-ordered c =
    let w = c.self.inside in
    let some = subst (λ (v : Content). 1 ≤ length v.points + length v.spans) (sym c.self.view_is) c.requires in
    let k = close_all w.blocks.items w.block w.spans w.first w.last.items w.lo w.hi w.point_seqs w.span_seqs c.close.new.blocks.items c.self.invariant some c.in_ok-close.ensures in
    let blocks = c.close.new.blocks.items in
    let index_is = c.in_ok-bytes.ensures.written ∙ ap (λ bs. let d : Draft = record { interval = 16; rows = index 16 (rows_in bs) } in d) c.deref.ensures.value in
    let hull = c.in_ok-last.ensures ∙ ap (λ (d : Draft). hull_end d.rows) index_is ∙ hull_of_index blocks k.ready.point_blocks ∙ ap hull_end k.is in
    let found = ranged (points_in w.blocks.items w.block) w.spans.rows w.first w.last.items c.in_ok-last.last w.lo w.hi w.point_seqs w.span_seqs c.in-Some.seqs c.self.invariant.points c.self.invariant.ranges some hull (sym c.both.ensures ∙ c.in-Some.is) in
    found.ordered

pub extent-requires-clause-numbers : goal.extent-requires-clause-numbers
extent-requires-clause-numbers c =
    let w = c.self.inside in
    let some = subst (λ (v : Content). 1 ≤ length v.points + length v.spans) (sym c.self.view_is) c.requires in
    let k = close_all w.blocks.items w.block w.spans w.first w.last.items w.lo w.hi w.point_seqs w.span_seqs c.close.new.blocks.items c.self.invariant some c.in_ok-close.ensures in
    let blocks = c.close.new.blocks.items in
    let index_is = c.in_ok-bytes.ensures.written ∙ ap (λ bs. let d : Draft = record { interval = 16; rows = index 16 (rows_in bs) } in d) c.deref.ensures.value in
    let hull = c.in_ok-last.ensures ∙ ap (λ (d : Draft). hull_end d.rows) index_is ∙ hull_of_index blocks k.ready.point_blocks ∙ ap hull_end k.is in
    let found = ranged (points_in w.blocks.items w.block) w.spans.rows w.first w.last.items c.in_ok-last.last w.lo w.hi w.point_seqs w.span_seqs c.in-Some.seqs c.self.invariant.points c.self.invariant.ranges some hull (sym c.both.ensures ∙ c.in-Some.is) in
    found.rising

pub extent-requires-clause-small : goal.extent-requires-clause-small
extent-requires-clause-small c =
    let w = c.self.inside in
    let some = subst (λ (v : Content). 1 ≤ length v.points + length v.spans) (sym c.self.view_is) c.requires in
    let k = close_all w.blocks.items w.block w.spans w.first w.last.items w.lo w.hi w.point_seqs w.span_seqs c.close.new.blocks.items c.self.invariant some c.in_ok-close.ensures in
    let blocks = c.close.new.blocks.items in
    let index_is = c.in_ok-bytes.ensures.written ∙ ap (λ bs. let d : Draft = record { interval = 16; rows = index 16 (rows_in bs) } in d) c.deref.ensures.value in
    let hull = c.in_ok-last.ensures ∙ ap (λ (d : Draft). hull_end d.rows) index_is ∙ hull_of_index blocks k.ready.point_blocks ∙ ap hull_end k.is in
    let found = ranged (points_in w.blocks.items w.block) w.spans.rows w.first w.last.items c.in_ok-last.last w.lo w.hi w.point_seqs w.span_seqs c.in-Some.seqs c.self.invariant.points c.self.invariant.ranges some hull (sym c.both.ensures ∙ c.in-Some.is) in
    found.small

pub returns-clause-table : goal.returns-clause-table
returns-clause-table c =
    let w = c.self.inside in
    let some = subst (λ (v : Content). 1 ≤ length v.points + length v.spans) (sym c.self.view_is) c.requires in
    let k = close_all w.blocks.items w.block w.spans w.first w.last.items w.lo w.hi w.point_seqs w.span_seqs c.close.new.blocks.items c.self.invariant some c.in_ok-close.ensures in
    let blocks = c.close.new.blocks.items in
    let points = points_in w.blocks.items w.block in
    let at = c.deref.ensures.value in
    let e = c.in_ok-bytes.ensures in
    let spelled = e.spelled ∙ ap (λ bs. table_bytes 16 (rows_in bs) w.spans.rows) at in
    let each = subst (λ (bs : List Draft). All (λ d. IsBlock 16 Point d.rows) bs) at e.points in
    let listed = subst (λ (bs : List Draft). 1 ≤ length bs → IsBlock 16 Index (index 16 (rows_in bs))) at e.index in
    subst (IsTable 16 c.in_ok-bytes.bytes.items) c.self.view_is
    (is_table blocks w.spans w.first w.last.items w.lo w.hi w.point_seqs w.span_seqs points c.in_ok-bytes.bytes.items k spelled each listed e.spans e.spans_len (subst (λ (bs : List Draft). len_of 16 (index 16 (rows_in bs)) < 2 ^ 32) at e.index_len))

pub returns-clause-extent : goal.returns-clause-extent
returns-clause-extent c =
    let w = c.self.inside in
    let some = subst (λ (v : Content). 1 ≤ length v.points + length v.spans) (sym c.self.view_is) c.requires in
    let k = close_all w.blocks.items w.block w.spans w.first w.last.items w.lo w.hi w.point_seqs w.span_seqs c.close.new.blocks.items c.self.invariant some c.in_ok-close.ensures in
    let blocks = c.close.new.blocks.items in
    let index_is = c.in_ok-bytes.ensures.written ∙ ap (λ bs. let d : Draft = record { interval = 16; rows = index 16 (rows_in bs) } in d) c.deref.ensures.value in
    let hull = c.in_ok-last.ensures ∙ ap (λ (d : Draft). hull_end d.rows) index_is ∙ hull_of_index blocks k.ready.point_blocks ∙ ap hull_end k.is in
    let found = ranged (points_in w.blocks.items w.block) w.spans.rows w.first w.last.items c.in_ok-last.last w.lo w.hi w.point_seqs w.span_seqs c.in-Some.seqs c.self.invariant.points c.self.invariant.ranges some hull (sym c.both.ensures ∙ c.in-Some.is) in
    subst (λ (e : Reach). IsExtent c.args.self e) (sym c.in_ok-extent.ensures) (subst (λ (v : Content). IsExtent v (reach (bounds (lesser w.first w.lo) (greater c.in_ok-last.last w.hi)) c.in-Some.seqs.lo c.in-Some.seqs.hi)) c.self.view_is found.extent)
