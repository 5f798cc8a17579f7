use Rattle.xdb_script.proofs.Named.{one-name}
use Rattle.xdb_script.proofs.table.Tables.define.Goals as goal

pub returns : goal.returns
returns c = λ n. rw (← c.self.view_is) (one-name c.self.inside.names.keys c.insert.new.self.keys c.args.name n (c.in_ok-insert.ensures.updates.0 n))
