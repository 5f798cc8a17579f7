-- The next table has a plan, or those behind it say what there is.
use Rattle.std.proofs.Common.{◌<◌, Some, length, sym, ap, ◌∙◌, arith}
use Rattle.std.specs.Option.{option_map}
use Rattle.xdb_edit.specs.Plans.{planned}
use Rattle.xdb_pick.specs.Hulls.{lent}
use Rattle.xdb_pick.proofs.WalkLaws.{length-lent, get_or-lent, one_of, first-next, first-found}
use Rattle.xdb_pick.proofs.picking.first_plan.Goals as goal

pub free_hull-requires-clause-table : goal.free_hull-requires-clause-table
free_hull-requires-clause-table c =
    let tables = c.args.tables.now in
    let i = c.loop-table.table-index in
    let l : i < length (lent tables) = omega (arith, length-lent tables) in
    one_of c.args.v.now c.args.level (lent tables) i c.table-item.result.now c.requires.tables l (get_or-lent tables i c.table-item.result c.loop-table-test.true c.table-item.is)

pub returns-in-Some : goal.returns-in-Some
returns-in-Some c =
    let v = c.args.v.now in
    let tables = c.args.tables.now in
    let i = c.loop-table.table-index in
    let l : i < length (lent tables) = omega (arith, length-lent tables) in
    let found = sym c.in_ok-hull.ensures.plan ∙ ap (option_map (planned v c.args.level)) c.in-Some.is in
    ap Some c.in_ok-planned.ensures
    ∙ first-found v c.args.running.now c.args.level (lent tables) i c.table-item.result.now (planned v c.args.level c.in-Some.hull) l (get_or-lent tables i c.table-item.result c.loop-table-test.true c.table-item.is) found c.loop-table.invariant.rest

pub loop-table-preserved : goal.loop-table-preserved
loop-table-preserved c =
    let v = c.args.v.now in
    let tables = c.args.tables.now in
    let i = c.loop-table.table-index in
    let l : i < length (lent tables) = omega (arith, length-lent tables) in
    let none = sym c.in_ok-hull.ensures.plan ∙ ap (option_map (planned v c.args.level)) c.in_default.is in
    record {
      shut = c.in_ok-hull.ensures.shut;
      rest = first-next v c.args.running.now c.args.level (lent tables) i c.table-item.result.now l (get_or-lent tables i c.table-item.result c.loop-table-test.true c.table-item.is) none c.loop-table.invariant.rest;
    }
