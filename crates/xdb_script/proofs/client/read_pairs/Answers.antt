use Rattle.std.proofs.Common.{◌∙◌}
use Rattle.std.proofs.lemmas.Result.{err_from_is_err_and}
use Rattle.xdb_script.proofs.Each.{all_read-map, each_failed_at, each_ends}
use Rattle.xdb_script.specs.Drafts.{pair_texts}
use Rattle.xdb_script.specs.Reading.{pair_read}
use Rattle.xdb_script.proofs.client.read_pairs.Goals as goal

pub returns-in_err-read_pair : goal.returns-in_err-read_pair
returns-in_err-read_pair c =
    let p = err_from_is_err_and c.from_residual-in_err-read_pair.result c.from_residual-in_err-read_pair.ensures.1 in
    rw (p.1, p.2, all_read-map pair_read pair_texts c.args.pairs.now)
    (each_failed_at (λ pair. pair_read (pair_texts pair)) c.args.pairs.now c.loop-pair.pair-index _ c.loop-pair.read.items c.in_err-read_pair.field-0.0 _ c.loop-pair-test.true c.in_err-read_pair.ensures c.loop-pair.invariant)

pub returns : goal.returns
returns c =
    all_read-map pair_read pair_texts c.args.pairs.now
    ∙ each_ends (λ pair. pair_read (pair_texts pair)) c.args.pairs.now c.loop-pair.pair-index c.loop-pair.read.items _ c.loop-pair-test.false c.loop-pair.invariant
