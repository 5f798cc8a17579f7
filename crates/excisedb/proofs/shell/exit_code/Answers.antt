-- The code is that of the status, of which all is known.
use Rattle.std.proofs.Common.{◌∙◌}
use Rattle.excisedb.specs.declared.status.Status.TheVariants.{ReadFault, WriteFault, Memory}
use Rattle.excisedb.proofs.ExitLaws.{code-told, code-3, code-4}
use Rattle.excisedb.proofs.shell.exit_code.Goals as goal

pub returns-clause-exits : goal.returns-clause-exits
returns-clause-exits g c = record { status = c.status.result; is = c.from.ensures ∙ c.code.ensures; ends = c.status.ensures.ends }

pub returns-clause-read_fault : goal.returns-clause-read_fault
returns-clause-read_fault g c three = c.status.ensures.read_fault (code-3 _ c.status.result (c.from.ensures ∙ c.code.ensures) three)

pub returns-clause-read_failed : goal.returns-clause-read_failed
returns-clause-read_failed g c rose = code-told _ c.status.result ReadFault (c.from.ensures ∙ c.code.ensures) (c.status.ensures.read_failed rose)

pub returns-clause-write_fault : goal.returns-clause-write_fault
returns-clause-write_fault g c four = c.status.ensures.write_fault (code-4 _ c.status.result (c.from.ensures ∙ c.code.ensures) four)

pub returns-clause-write_failed : goal.returns-clause-write_failed
returns-clause-write_failed g c rose = code-told _ c.status.result WriteFault (c.from.ensures ∙ c.code.ensures) (c.status.ensures.write_failed rose)

pub returns-clause-no_words : goal.returns-clause-no_words
returns-clause-no_words g c lack = code-told _ c.status.result Memory (c.from.ensures ∙ c.code.ensures) (c.status.ensures.no_words lack)

pub returns-clause-no_devices : goal.returns-clause-no_devices
returns-clause-no_devices g c none = code-told _ c.status.result Memory (c.from.ensures ∙ c.code.ensures) (c.status.ensures.no_devices none)
