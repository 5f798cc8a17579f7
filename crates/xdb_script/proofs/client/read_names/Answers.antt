use Rattle.std.proofs.Common.{◌∙◌}
use Rattle.std.proofs.lemmas.Result.{err_from_is_err_and}
use Rattle.xdb_script.proofs.Each.{all_read-map, each_failed_at, each_ends}
use Rattle.xdb_script.specs.Fields.{name_read}
use Rattle.xdb_script.proofs.client.read_names.Goals as goal

pub returns-in_err-read_name : goal.returns-in_err-read_name
returns-in_err-read_name c =
    let p = err_from_is_err_and c.from_residual-in_err-read_name.result c.from_residual-in_err-read_name.ensures.1 in
    rw (p.1, p.2, all_read-map name_read (λ word. word.now) c.args.words.now)
    (each_failed_at (λ word. name_read word.now) c.args.words.now c.loop-word.word-index _ c.loop-word.names.items c.in_err-read_name.field-0.0 _ c.loop-word-test.true c.in_err-read_name.ensures c.loop-word.invariant)

pub returns : goal.returns
returns c =
    all_read-map name_read (λ word. word.now) c.args.words.now
    ∙ each_ends (λ word. name_read word.now) c.args.words.now c.loop-word.word-index c.loop-word.names.items _ c.loop-word-test.false c.loop-word.invariant
