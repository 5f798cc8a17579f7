use Rattle.excisedb.proofs.CauseLaws.{command-known}
use Rattle.excisedb.proofs.laws.the_command_is_known.Goals as goal

pub returns : goal.returns
returns g c call run is = command-known call.status call.words call.left call.left' call.old call.new _ call.devs call.devs' call.ends run is
