use Rattle.xdb_script.proofs.Taking.{answer-found, answer-only, answer-exact}
use Rattle.xdb_script.proofs.reader.parse.Goals as goal

pub returns-clause-found : goal.returns-clause-found
returns-clause-found c = answer-found c.args.form c.args.bytes.now c.read_script.result c.read_script.ensures

pub returns-clause-only : goal.returns-clause-only
returns-clause-only c = answer-only c.args.form c.args.bytes.now c.read_script.result c.read_script.ensures

pub returns-clause-exact : goal.returns-clause-exact
returns-clause-exact c = answer-exact c.args.form c.args.bytes.now c.read_script.result c.read_script.ensures
