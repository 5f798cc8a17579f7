-- Each step of the cursor is one among the pairs of the parts.
use Rattle.std.proofs.Common.{sym, ap}
use Rattle.xdb_plain.specs.declared.question.Step.TheVariants.{Next, Prev}
use Rattle.xdb_read.specs.Pairs.{step_from}
use Rattle.xdb_read.proofs.CursorLaws.{leads_by, next-is, prev-is, read_none}
use Rattle.xdb_read.proofs.pairs.go.Goals as goal

pub returns-in-Seek-clause-leads : goal.returns-in-Seek-clause-leads
returns-in-Seek-clause-leads g c = leads_by g.F.FileRef.bytes c.args.parts.now c.args.pairs.now c.seek_ge.new.self _ (step_from c.args.step.now) c.seek_ge.result (ap step_from (sym c.in-Seek.is)) c.requires.cursor c.seek_ge.ensures.step

pub returns-in-SeekLt-clause-leads : goal.returns-in-SeekLt-clause-leads
returns-in-SeekLt-clause-leads g c = leads_by g.F.FileRef.bytes c.args.parts.now c.args.pairs.now c.seek_lt.new.self _ (step_from c.args.step.now) c.seek_lt.result (ap step_from (sym c.in-SeekLt.is)) c.requires.cursor c.seek_lt.ensures.step

pub returns-in-SeekLt-clause-alone : goal.returns-in-SeekLt-clause-alone
returns-in-SeekLt-clause-alone g c = λ none. c.seek_lt.ensures.alone (read_none g.F.FileRef.bytes c.args.parts.now c.args.pairs.now c.requires.cursor none)

pub returns-in-SeekLt-clause-calm : goal.returns-in-SeekLt-clause-calm
returns-in-SeekLt-clause-calm g c = λ none. c.seek_lt.ensures.calm (read_none g.F.FileRef.bytes c.args.parts.now c.args.pairs.now c.requires.cursor none)

pub returns-in-Last-clause-leads : goal.returns-in-Last-clause-leads
returns-in-Last-clause-leads g c = leads_by g.F.FileRef.bytes c.args.parts.now c.args.pairs.now c.prev.new.self Prev (step_from c.args.step.now) c.prev.result (prev-is c.args.step.now c.in-Last.is) c.requires.cursor c.prev.ensures.step

pub returns-in-Last-clause-alone : goal.returns-in-Last-clause-alone
returns-in-Last-clause-alone g c = λ none. c.prev.ensures.alone (read_none g.F.FileRef.bytes c.args.parts.now c.args.pairs.now c.requires.cursor none)

pub returns-in-Last-clause-calm : goal.returns-in-Last-clause-calm
returns-in-Last-clause-calm g c = λ none. c.prev.ensures.calm (read_none g.F.FileRef.bytes c.args.parts.now c.args.pairs.now c.requires.cursor none)

pub returns-in-First-clause-leads : goal.returns-in-First-clause-leads
returns-in-First-clause-leads g c = leads_by g.F.FileRef.bytes c.args.parts.now c.args.pairs.now c.next.new.self Next (step_from c.args.step.now) c.next.result (next-is c.args.step.now c.in-First.is) c.requires.cursor c.next.ensures.step

pub returns-in-First-clause-alone : goal.returns-in-First-clause-alone
returns-in-First-clause-alone g c = λ none. c.next.ensures.alone (read_none g.F.FileRef.bytes c.args.parts.now c.args.pairs.now c.requires.cursor none)

pub returns-in-First-clause-calm : goal.returns-in-First-clause-calm
returns-in-First-clause-calm g c = λ none. c.next.ensures.calm (read_none g.F.FileRef.bytes c.args.parts.now c.args.pairs.now c.requires.cursor none)
