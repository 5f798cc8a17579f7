use Rattle.std.proofs.Common.{subst}
use Rattle.xdb_engine.specs.Files.{AreTold}
use Rattle.excisedb.specs.Ends.{Ends}
use Rattle.excisedb.proofs.CauseLaws.{bad-refused}
use Rattle.excisedb.proofs.laws.bad_scripts_are_refused.Goals as goal

pub returns : goal.returns
returns g c call bytes defect run left bad =
    let told = AreTold g.D.File.FileRef.bytes in
    bad-refused call.status call.words bytes call.left' call.old call.new told call.devs call.devs' defect (subst (λ l. Ends call.status call.words l call.left' call.old call.new told call.devs call.devs') left call.ends) run bad
