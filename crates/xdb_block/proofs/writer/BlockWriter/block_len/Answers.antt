use Rattle.std.proofs.Common.{◌≡◌, ◌∙◌, ◌+◌, ◌*◌, ◌++◌, ◌^◌, IfOk, ap, refl, length, subst, arith}
use Rattle.std.specs.Prelude.{nat_lt}
use Rattle.std.proofs.lemmas.List.{length-append}
use Rattle.xdb_block.specs.Kept.{Draft}
use Rattle.xdb_block.specs.Spelling.{restart_bytes, block_bytes}
use Rattle.xdb_block.proofs.DraftLaws.{finished_is}
use Rattle.xdb_block.proofs.OffsetLaws.{length-restarts}
use Rattle.xdb_block.proofs.writer.BlockWriter.block_len.Goals as goal

pub returns : goal.returns
returns c =
    let w = c.self.inside in
    let d = c.args.self.now in
    let whole = w.out.items ++ restart_bytes w.restarts.items in
    let parts = length-append w.out.items (restart_bytes w.restarts.items) in
    let is = finished_is w.interval w.out.items w.last.items w.restarts.items w.count whole c.self.invariant refl in
    let counted : c.len.result + (4 * length c.deref.result.now + 4) ≡ length whole = omega (arith, parts, length-restarts w.restarts.items, c.deref.ensures.len) in
    let total = counted ∙ ap length (is ∙ ap (λ (d : Draft). block_bytes d.interval d.rows) c.self.view_is) in
    record {
      len = subst (λ n. IfOk c.block_len.result (λ len. len ≡ n)) total c.block_len.ensures.len;
      fits = c.block_len.ensures.fits ∙ ap (λ n. nat_lt n (2 ^ 32)) total;
    }
