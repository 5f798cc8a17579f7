use Rattle.xdb_run.proofs.ReadLaws.{opens-read, refused-takes, answered-takes, unanswered-takes}
use Rattle.xdb_run.proofs.reads.read.Goals as goal

pub returns-in_default-clause-line : goal.returns-in_default-clause-line
returns-in_default-clause-line g c = refused-takes c.ask-reply.result.1 c.in_default.not-Asked c.ask-reply.ensures.note c.ask-reply.ensures.asked

pub returns-in-Kept-clause-line : goal.returns-in-Kept-clause-line
returns-in-Kept-clause-line g c =
    answered-takes g.F.FileRef.bytes (opens-read c.ask-reply.result.1 c.in-Asked.is c.requires.ready.knows c.ask-reply.ensures.note c.ask-reply.ensures.asked)
    c.in-Kept.ensures.ends c.settle.ensures.note c.settle.ensures.reply c.settle.ensures.questions

pub returns-clause-line : goal.returns-clause-line
returns-clause-line g c =
    unanswered-takes g.F.FileRef.bytes (opens-read c.ask-reply.result.1 c.in-Asked.is c.requires.ready.knows c.ask-reply.ensures.note c.ask-reply.ensures.asked)
    c.bring.result c.bring.ensures.ends c.in_default-bring.not-Kept
