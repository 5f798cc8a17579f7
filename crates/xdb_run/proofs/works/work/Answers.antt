use Rattle.xdb_run.proofs.WorkLaws.{work-ends, work-none}
use Rattle.xdb_run.proofs.works.work.Goals as goal

pub returns-in-NoSuch-clause-line : goal.returns-in-NoSuch-clause-line
returns-in-NoSuch-clause-line g c = work-none g.F.FileRef.bytes c.requires.ready.knows c.in-NoSuch.ensures.ends c.no_such.ensures.note c.no_such.ensures.reply c.no_such.ensures.questions

pub returns-in_default-clause-line : goal.returns-in_default-clause-line
returns-in_default-clause-line g c = work-ends g.F.FileRef.bytes c.args.ask c.bring.result c.requires.ready.knows c.bring.ensures.ends c.in_default.not-NoSuch
