-- What is left to answer of `write`.
use Rattle.std.proofs.Common.{get_or, []}
use Rattle.xdb_rangedel.proofs.StripLaws.{write_all}
use Rattle.xdb_rangedel.proofs.sweep.write.Goals as goal

pub returns : goal.returns
returns c = λ j.
    write_all (get_or c.args.columns.now j []) (get_or c.loop-at.columns j []) c.args.from c.args.to c.loop-at.at j c.args.seq c.loop-at-test.false c.loop-at.auto.at c.loop-at.invariant.0 (c.loop-at.invariant.1 j)
