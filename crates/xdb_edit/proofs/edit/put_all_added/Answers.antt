-- One more table is written.
use Rattle.std.proofs.Common.{ℕ, subst, arith}
use Rattle.std.proofs.lemmas.Grind.{common_steps}
use Rattle.std.proofs.lemmas.List.Elements.{All-more}
use Rattle.xdb_meta.specs.Table.{Table, IsTable}
use Rattle.xdb_edit.proofs.edit.put_all_added.Goals as goal

pub loop-level-preserved : goal.loop-level-preserved
loop-level-preserved c =
    let item = c.loop-level-item.result in
    let table : IsTable item.1 = c.in_ok-put_added.ensures.table in
    record {
      written = grind (arith, common_steps);
      tables = All-more (λ (p : ℕ × Table). IsTable p.1) c.args.added.now c.loop-level.level-index item c.loop-level-test.true c.loop-level.invariant.tables (subst (λ (p : ℕ × Table). IsTable p.1) c.loop-level-item.is table);
    }
