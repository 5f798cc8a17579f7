use Rattle.std.proofs.Common.{true, false, not, sym, ap, refl, ◌∙◌}
use Rattle.xdb_key.specs.Ops.{is_table}
use Rattle.xdb_script.proofs.Named.{table_of, in_order, table-ruled, table-sound}
use Rattle.xdb_script.specs.Answers.{texts}
use Rattle.xdb_script.proofs.table.read_named.Goals as goal

pub returns-then-has : goal.returns-then-has
returns-then-has c =
    let t = table_of c.args.name.now (texts c.args.operands.now) c.in_ok-parts.parts.items c.deref.result.now c.in_ok-name.name c.in_ok-drafts.drafts.items c.in_ok-ops.ops.items c.in_ok-parts.ensures c.deref.ensures.value c.in_ok-name.ensures c.in_ok-drafts.ensures c.in_ok-ops.ensures in
    table-ruled c.args.tables.now c.args.name.now (texts c.args.operands.now) _ c.in_ok-name.name c.in_ok-ops.ops.items true _ t (sym c.has.ensures ∙ c.if-has.true) refl

pub returns-then-is_some : goal.returns-then-is_some
returns-then-is_some c =
    let t = table_of c.args.name.now (texts c.args.operands.now) c.in_ok-parts.parts.items c.deref.result.now c.in_ok-name.name c.in_ok-drafts.drafts.items c.in_ok-ops.ops.items c.in_ok-parts.ensures c.deref.ensures.value c.in_ok-name.ensures c.in_ok-drafts.ensures c.in_ok-ops.ensures in
    let order = in_order c.deref-2.result.now c.in_ok-ops.ops.items c.disorder.result c.is_some.result c.disorder.ensures c.deref-2.ensures.value c.is_some.ensures in
    table-ruled c.args.tables.now c.args.name.now (texts c.args.operands.now) _ c.in_ok-name.name c.in_ok-ops.ops.items false false t (sym c.has.ensures ∙ c.if-has.false) (order ∙ ap not c.if-is_some.true)

pub new-requires-2 : goal.new-requires-2
new-requires-2 c =
    let t = table_of c.args.name.now (texts c.args.operands.now) c.in_ok-parts.parts.items c.deref.result.now c.in_ok-name.name c.in_ok-drafts.drafts.items c.in_ok-ops.ops.items c.in_ok-parts.ensures c.deref.ensures.value c.in_ok-name.ensures c.in_ok-drafts.ensures c.in_ok-ops.ensures in
    let order = in_order c.deref-2.result.now c.in_ok-ops.ops.items c.disorder.result c.is_some.result c.disorder.ensures c.deref-2.ensures.value c.is_some.ensures in
    ap is_table c.new.ensures ∙ table-sound c.args.name.now (texts c.args.operands.now) _ c.in_ok-name.name c.in_ok-ops.ops.items t (order ∙ ap not c.if-is_some.false)

pub returns : goal.returns
returns c =
    let t = table_of c.args.name.now (texts c.args.operands.now) c.in_ok-parts.parts.items c.deref.result.now c.in_ok-name.name c.in_ok-drafts.drafts.items c.in_ok-ops.ops.items c.in_ok-parts.ensures c.deref.ensures.value c.in_ok-name.ensures c.in_ok-drafts.ensures c.in_ok-ops.ensures in
    let order = in_order c.deref-2.result.now c.in_ok-ops.ops.items c.disorder.result c.is_some.result c.disorder.ensures c.deref-2.ensures.value c.is_some.ensures in
    table-ruled c.args.tables.now c.args.name.now (texts c.args.operands.now) _ c.in_ok-name.name c.in_ok-ops.ops.items false true t (sym c.has.ensures ∙ c.if-has.false) (order ∙ ap not c.if-is_some.false) ∙ rw (c.new-2.ensures, c.new.ensures) refl
