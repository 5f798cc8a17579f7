use Rattle.std.proofs.Common.{◌≡◌, ◌∙◌, ◌++◌, ◌<◌, ◌^◌, ap, sym, subst, refl, length, arith}
use Rattle.std.proofs.lemmas.List.{length-append}
use Rattle.xdb_block.specs.Kept.{Draft, rows_in}
use Rattle.xdb_block.specs.Rows.{AreRows}
use Rattle.xdb_block.specs.Spelling.{restart_bytes, block_bytes, IsBlock}
use Rattle.xdb_block.proofs.DraftLaws.{finished_is, finished_block}
use Rattle.xdb_block.proofs.OffsetLaws.{length-restarts}
use Rattle.xdb_block.proofs.writer.BlockWriter.put.Goals as goal

pub returns-clause-len : goal.returns-clause-len
returns-clause-len c =
    let w = c.self.inside in
    let whole = w.out.items ++ restart_bytes w.restarts.items in
    let parts = length-append w.out.items (restart_bytes w.restarts.items) in
    let counted : c.in_ok-len.len ≡ length whole =
    omega (arith, parts, length-restarts w.restarts.items, c.in_ok-len.ensures.len, c.deref.ensures.len) in
    let is = finished_is w.interval w.out.items w.last.items w.restarts.items w.count whole c.self.invariant refl in
    counted ∙ ap length (is ∙ ap (λ (d : Draft). block_bytes d.interval d.rows) c.self.view_is)

pub returns-clause-block : goal.returns-clause-block
returns-clause-block c = λ kind rows_are.
    let w = c.self.inside in
    let whole = w.out.items ++ restart_bytes w.restarts.items in
    let parts = length-append w.out.items (restart_bytes w.restarts.items) in
    let small : length whole < 2 ^ 32 = omega (arith, parts, length-restarts w.restarts.items, c.in_ok-len.ensures.len, c.in_ok-len.ensures.short, c.deref.ensures.len) in
    let rows : AreRows kind (rows_in w.interval w.out.items) = subst (λ (d : Draft). AreRows kind d.rows) (sym c.self.view_is) rows_are in
    subst (λ (d : Draft). IsBlock d.interval kind d.rows) c.self.view_is
    (finished_block w.interval w.out.items w.last.items w.restarts.items w.count whole kind c.self.invariant refl small rows)
