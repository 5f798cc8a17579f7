use Rattle.xdb_script.proofs.Taking.{short-script}
use Rattle.xdb_script.proofs.reader.read_short.Goals as goal

pub new-requires : goal.new-requires
new-requires c = short-script c.args.form c.args.bytes.now c.in_ok-lines.lines.items c.requires c.in_ok-lines.ensures
