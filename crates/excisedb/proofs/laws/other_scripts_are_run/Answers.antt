use Rattle.std.proofs.Common.{subst}
use Rattle.xdb_engine.specs.Files.{AreTold}
use Rattle.excisedb.specs.Ends.{Ends}
use Rattle.excisedb.proofs.CauseLaws.{good-run}
use Rattle.excisedb.proofs.laws.other_scripts_are_run.Goals as goal

pub returns : goal.returns
returns g c call bytes run left good =
    let told = AreTold g.D.File.FileRef.bytes in
    good-run call.status call.words bytes call.left' call.old call.new told call.devs call.devs' (subst (λ l. Ends call.status call.words l call.left' call.old call.new told call.devs call.devs') left call.ends) run good
