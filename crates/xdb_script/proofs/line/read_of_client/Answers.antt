use Rattle.std.proofs.Common.{refl}
use Rattle.std.proofs.lemmas.Result.{err_from_is_err_and}
use Rattle.xdb_script.proofs.Named.{standing_ruled, ranged_failed}
use Rattle.xdb_script.specs.Answers.{as_tables, texts}
use Rattle.xdb_script.specs.Reading.{client_line}
use Rattle.xdb_script.specs.Rules.{tables_stand}
use Rattle.xdb_script.proofs.line.read_of_client.Goals as goal

pub returns-in_err-cmd : goal.returns-in_err-cmd
returns-in_err-cmd c =
    let p = err_from_is_err_and c.from_residual.result c.from_residual.ensures.1 in
    rw (p.1, p.2) (ranged_failed c.args.tables.now (client_line c.args.form (texts c.args.words.now)) c.in_err-cmd.field-0.0 c.in_err-cmd.ensures)

pub returns : goal.returns
returns c =
    rw (standing_ruled c.args.tables.now (client_line c.args.form (texts c.args.words.now)) c.in_ok-cmd.cmd (tables_stand (as_tables c.args.tables.now) c.in_ok-cmd.cmd) c.in_ok-cmd.ensures refl c.standing.ensures.rise) c.standing.ensures.stand
