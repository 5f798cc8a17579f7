-- What is left to answer of `write_next`.
use Rattle.std.proofs.lemmas.Result.{on_ok_weaker, on_err_weaker}
use Rattle.xdb_build.proofs.TurnLaws.{turn_goes, turn_stops}
use Rattle.xdb_build.proofs.series.write_next.Goals as goal

pub returns-clause-goes : goal.returns-clause-goes
returns-clause-goes g c =
    on_ok_weaker c.add_output.result
    (λ more g' start room u.
    turn_goes g.D.File.FileRef.size g.D.File.FileRef.bytes g' c.args.entries.now c.args.spans.now c.args.from c.args.to c.args.num c.in_ok-part.part c.args.made.now c.add_output.new.made start (g.D.Reader.told c.args.dev.now) (g.D.Reader.told c.add_output.new.dev)
    c.requires.ends c.requires.inside c.in_ok-part.ensures more room u)
    c.add_output.ensures.more

pub returns-clause-stops : goal.returns-clause-stops
returns-clause-stops g c =
    on_err_weaker c.add_output.result
    (λ stops g' start u.
    turn_stops g.D.File.FileRef.size g.D.File.FileRef.bytes g' c.args.entries.now c.args.spans.now c.args.from c.args.num c.args.made.now c.add_output.new.made.tried.items _ start (g.D.Reader.told c.args.dev.now) (g.D.Reader.told c.add_output.new.dev) stops u)
    c.add_output.ensures.stops
