use Rattle.std.proofs.Common.{◌∙◌, ◌++◌, Ok, ap, sym, subst, length, arith}
use Rattle.std.proofs.lemmas.List.{length-append}
use Rattle.xdb_block.specs.Kept.{Draft, rows_in}
use Rattle.xdb_block.specs.Reading.{block_at}
use Rattle.xdb_block.specs.Rows.{AreRows}
use Rattle.xdb_block.specs.Spelling.{restart_bytes, block_bytes}
use Rattle.xdb_block.proofs.DraftLaws.{finished_is, finished_again}
use Rattle.xdb_block.proofs.OffsetLaws.{length-restarts}
use Rattle.xdb_block.proofs.writer.BlockWriter.finish.Goals as goal

pub returns-clause-written : goal.returns-clause-written
returns-clause-written c =
    let w = c.self.inside in
    let is = c.in_ok-put_restarts.ensures ∙ ap (λ os. w.out.items ++ restart_bytes os) c.deref-2.ensures.value in
    finished_is w.interval w.out.items w.last.items w.restarts.items w.count c.put_restarts.new.out.items c.self.invariant is ∙ ap (λ (d : Draft). block_bytes d.interval d.rows) c.self.view_is

pub returns-clause-short : goal.returns-clause-short
returns-clause-short c =
    let w = c.self.inside in
    let whole = ap length c.in_ok-put_restarts.ensures ∙ length-append w.out.items _ in
    omega (arith, whole, length-restarts c.deref-2.result.now, c.in_ok-block_len.ensures.len, c.in_ok-block_len.ensures.short, c.deref.ensures.len, c.deref-2.ensures.len)

pub returns-clause-again : goal.returns-clause-again
returns-clause-again c = λ kind rows_are.
    let w = c.self.inside in
    let is = c.in_ok-put_restarts.ensures ∙ ap (λ os. w.out.items ++ restart_bytes os) c.deref-2.ensures.value in
    let rows : AreRows kind (rows_in w.interval w.out.items) = subst (λ (d : Draft). AreRows kind d.rows) (sym c.self.view_is) rows_are in
    let again = finished_again w.interval w.out.items w.last.items w.restarts.items w.count c.put_restarts.new.out.items kind c.self.invariant is (returns-clause-short c) rows in
    ap (λ (d : Draft). block_at d.interval kind c.put_restarts.new.out.items) (sym c.self.view_is) ∙ again ∙ ap (λ (d : Draft). Ok d.rows) c.self.view_is
