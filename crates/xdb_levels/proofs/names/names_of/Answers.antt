-- One more level is named, and all are in the end.
use Rattle.std.proofs.Common.{◌++◌, ◌∙◌, ap, map, arith, List}
use Rattle.xdb_meta.specs.Table.{Table}
use Rattle.xdb_levels.specs.Names.{names_from}
use Rattle.xdb_levels.proofs.NameLaws.{names_step, names_end}
use Rattle.xdb_levels.proofs.names.names_of.Goals as goal

pub loop-tables-preserved : goal.loop-tables-preserved
loop-tables-preserved c =
    let done = c.loop-tables.names.items in
    let level = c.loop-tables.level in
    let made = c.in_ok-put_names.ensures ∙ ap (λ (ts : List Table). done ++ map (λ t. (level, t.num)) ts) c.list.ensures in
    record {
      same = omega arith;
      named = names_step done (names_from 0 c.args.levels.now) c.put_names.new.out.items c.args.levels.now c.loop-tables.tables-index level c.tables-item.result c.loop-tables-test.true c.tables-item.is c.loop-tables.invariant.named made;
    }

pub returns : goal.returns
returns c =
    names_end c.loop-tables.names.items (names_from 0 c.args.levels.now) c.args.levels.now c.loop-tables.tables-index c.loop-tables.level c.loop-tables-test.false c.loop-tables.invariant.named
