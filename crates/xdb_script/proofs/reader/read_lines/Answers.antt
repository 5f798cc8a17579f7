use Rattle.std.proofs.Common.{rules, tests}
use Rattle.std.proofs.lemmas.Iterator.Consumers.{YieldsList-turn, YieldsList-end}
use Rattle.std.proofs.lemmas.Iterator.Splits.{YieldsList-from_slice_split}
use Rattle.std.proofs.lemmas.Result.{err_from_is_err_and}
use Rattle.xdb_script.proofs.Taking.{loop_more, loop_counts, loop_stops, loop_ends}
use Rattle.xdb_script.specs.Grammar.{is_line_feed}
use Rattle.xdb_script.proofs.reader.read_lines.Goals as goal

pub loop-part-preserved : goal.loop-part-preserved
loop-part-preserved c =
    let turn = YieldsList-turn (YieldsList-from_slice_split _ is_line_feed c.args.bytes.now (cc) (cc) (cc) (λ x b q k. search (rules, tests))) c.loop-part.yielded _ c.loop-part.yielded_by c.next.result c.next.new.self c.in-Some.part c.in-Some.is c.next.ensures.steps in
    record {
      counted = loop_counts c.loop-part.number c.loop-part.yielded c.in-Some.part c.loop-part.invariant.counted;
      so_far = loop_more c.args.form c.args.bytes.now c.loop-part.number c.loop-part.yielded c.in-Some.part c.loop-part.tables c.take_part.new.tables c.loop-part.lines.items c.take_part.new.lines.items c.loop-part.invariant.counted turn c.in_ok-take_part.ensures.taken c.loop-part.invariant.so_far;
    }

pub returns-in_err-take_part : goal.returns-in_err-take_part
returns-in_err-take_part c =
    let turn = YieldsList-turn (YieldsList-from_slice_split _ is_line_feed c.args.bytes.now (cc) (cc) (cc) (λ x b q k. search (rules, tests))) c.loop-part.yielded _ c.loop-part.yielded_by c.next.result c.next.new.self c.in-Some.part c.in-Some.is c.next.ensures.steps in
    let p = err_from_is_err_and c.from_residual.result c.from_residual.ensures.1 in
    rw (p.1, p.2)
    (loop_stops c.args.form c.args.bytes.now c.loop-part.number c.loop-part.yielded c.in-Some.part c.loop-part.tables c.loop-part.lines.items c.in_err-take_part.field-0.0 c.loop-part.invariant.counted turn c.in_err-take_part.ensures.stopped c.loop-part.invariant.so_far)

pub returns : goal.returns
returns c =
    let end = YieldsList-end (YieldsList-from_slice_split _ is_line_feed c.args.bytes.now (cc) (cc) (cc) (λ x b q k. search (rules, tests))) c.loop-part.yielded _ c.loop-part.yielded_by c.next.result c.next.new.self c.in-None.is c.next.ensures.steps in
    loop_ends c.args.form c.args.bytes.now c.loop-part.yielded c.loop-part.tables c.loop-part.lines.items end.1 c.loop-part.invariant.so_far
