use Rattle.std.proofs.Common.{ap, ◌∙◌, Ok}
use Rattle.std.proofs.lemmas.Result.{err_from_is_err_and}
use Rattle.xdb_key.specs.Reading.{◌>>=◌}
use Rattle.xdb_script.proofs.Named.{spoken, failed_then}
use Rattle.xdb_script.specs.Answers.{ruled, texts}
use Rattle.xdb_script.specs.Reading.{cmd_read, line_of}
use Rattle.xdb_script.proofs.line.read_spoken.Goals as goal

pub returns-in_err-cmd : goal.returns-in_err-cmd
returns-in_err-cmd c =
    let p = err_from_is_err_and c.from_residual-in_err-cmd.result c.from_residual-in_err-cmd.ensures.1 in
    rw (p.1, p.2, spoken c.args.tables.now c.args.form c.args.number c.args.who.now (texts c.args.operands.now) c.in_ok-by.by c.in_ok-by.ensures)
    (failed_then (ruled c.args.tables.now (cmd_read c.args.form c.in_ok-by.by (texts c.args.operands.now))) (λ x. Ok (line_of c.args.number c.in_ok-by.by x)) c.in_err-cmd.field-0.0 c.in_err-cmd.ensures)

pub returns : goal.returns
returns c =
    spoken c.args.tables.now c.args.form c.args.number c.args.who.now (texts c.args.operands.now) c.in_ok-by.by c.in_ok-by.ensures
    ∙ ap (λ r. r >>= λ x. Ok (line_of c.args.number c.in_ok-by.by x)) c.in_ok-cmd.ensures
