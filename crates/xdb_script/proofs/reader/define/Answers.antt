use Rattle.std.proofs.lemmas.Result.{on_ok_weaker}
use Rattle.xdb_script.proofs.Taking.{table-known, other-known}
use Rattle.xdb_script.proofs.reader.define.Goals as goal

pub returns-in-Table : goal.returns-in-Table
returns-in-Table c = on_ok_weaker c.define.result (λ h. table-known c.args.tables.now c.define.new.self c.args.cmd.now c.in-Table.table c.name.result c.in-Table.is c.name.ensures h) c.define.ensures

pub returns-in_default : goal.returns-in_default
returns-in_default c = other-known c.args.tables.now c.args.cmd.now c.in_default.not-Table
