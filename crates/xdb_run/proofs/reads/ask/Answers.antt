use Rattle.std.proofs.Common.{Some, sym, subst}
use Rattle.xdb_plain.specs.declared.act.By.TheVariants.{Client}
use Rattle.xdb_plain.specs.declared.script.Cmd.TheVariants as cmd
use Rattle.xdb_run.specs.Running.{TakesLine}
use Rattle.xdb_run.proofs.QuestionLaws.{ask-takes}
use Rattle.xdb_run.proofs.reads.ask.Goals as goal

pub returns-then-parted-clause-line : goal.returns-then-parted-clause-line
returns-then-parted-clause-line g c =
    subst (λ parted. TakesLine c.args.engine.now c.ask.new.self (Some (Client c.args.client)) (cmd.Ask c.args.question parted)) (sym c.if-parted.true)
    (ask-takes c.ask.result.1 c.ask.ensures.note c.ask.ensures.asked)
