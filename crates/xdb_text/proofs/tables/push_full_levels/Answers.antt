-- One level more is printed; the loop stops where memory is wanting.
use Rattle.xdb_text.proofs.Keeping.{kept-in}
use Rattle.xdb_text.proofs.Spaced.{levels-printed}
use Rattle.xdb_text.proofs.tables.push_full_levels.Goals as goal

pub loop-level-preserved : goal.loop-level-preserved
loop-level-preserved c = levels-printed c.args.out.now.items _ _ c.args.levels.now c.loop-level.level c.list.result.now _ c.loop-level-test.true c.list.ensures c.index-levels-level.is c.loop-level.invariant c.in_ok-push_level.ensures.printed

pub returns-in_err-push_level-clause-kept : goal.returns-in_err-push_level-clause-kept
returns-in_err-push_level-clause-kept c = kept-in _ _ _ _ _ c.loop-level.invariant c.in_err-push_level.ensures.kept
