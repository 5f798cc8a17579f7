use Rattle.std.proofs.Common.{sym}
use Rattle.xdb_script.proofs.Excise.{up-at}
use Rattle.xdb_script.proofs.client.up_to_excise.Goals as goal

pub returns : goal.returns
returns c = rw (c.split_at.ensures.front, c.split_at.ensures.back, c.excise_at.ensures.first) (sym (up-at c.args.words.now))
