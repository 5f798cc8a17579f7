-- The law `rewrites_say_the_same`, by its lemmas.
use Rattle.xdb_laws.proofs.RewriteLaws.{rewrite-says, rewrite-again}
use Rattle.xdb_laws.proofs.rewrites.rewrites_say_the_same.Goals as goal

pub returns : goal.returns
returns c = record { says = rewrite-says; again = rewrite-again }
