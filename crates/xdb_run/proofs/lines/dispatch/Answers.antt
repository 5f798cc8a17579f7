-- Nobody says the definition of a table.
use Rattle.std.proofs.Common.{Option, sym, subst}
use Rattle.xdb_plain.specs.declared.act.By.{By}
use Rattle.xdb_plain.specs.declared.script.Cmd.{Cmd}
use Rattle.xdb_run.specs.Running.{TakesLine}
use Rattle.xdb_run.proofs.LineLaws.{table-takes}
use Rattle.xdb_run.proofs.lines.dispatch.Goals as goal

pub returns-in-None-Table-clause-line : goal.returns-in-None-Table-clause-line
returns-in-None-Table-clause-line g c =
    subst (λ (x : Option By × Cmd). TakesLine c.args.engine.now c.args.engine.now x.0 x.1) (λ i. (sym c.in-None-Table.is-0 i, sym c.in-None-Table.is-1 i))
    (table-takes c.args.engine.now c.in-None-Table.table-1)
