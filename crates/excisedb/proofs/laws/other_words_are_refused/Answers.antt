use Rattle.excisedb.proofs.CauseLaws.{words-refused}
use Rattle.excisedb.proofs.laws.other_words_are_refused.Goals as goal

pub returns : goal.returns
returns g c call others = words-refused call.status call.words call.left call.left' call.old call.new _ call.devs call.devs' call.ends others
