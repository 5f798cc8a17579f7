-- What is left to answer of `write_last`.
use Rattle.std.proofs.Common.{◌≡◌, ◌-◌, length, take, drop, sym, ap, arith}
use Rattle.std.proofs.lemmas.List.{take_all, length-drop}
use Rattle.std.proofs.lemmas.Result.{on_ok_weaker, on_err_weaker}
use Rattle.xdb_build.proofs.PlaceLaws.{left_first}
use Rattle.xdb_build.proofs.TurnLaws.{turn_ends, turn_stops}
use Rattle.xdb_build.proofs.series.write_last.Goals as goal

pub returns-then-from-eq0-clause-written : goal.returns-then-from-eq0-clause-written
returns-then-from-eq0-clause-written g c =
    let ps = c.args.entries.now in
    let none : c.args.from ≡ 0 = c.if-from-eq0.true in
    on_ok_weaker c.add_output.result
    (λ more g' start light u.
    turn_ends g.D.File.FileRef.size g.D.File.FileRef.bytes g' ps c.args.spans.now c.args.from c.args.num ps c.args.spans.now c.args.made.now c.add_output.new.made start (g.D.Reader.told c.args.dev.now) (g.D.Reader.told c.add_output.new.dev)
    (ap (λ n. drop n ps) (sym none)) (sym (left_first ps c.args.from c.args.spans.now none)) more light u)
    c.add_output.ensures.more

pub returns-then-from-eq0-clause-stops : goal.returns-then-from-eq0-clause-stops
returns-then-from-eq0-clause-stops g c =
    on_err_weaker c.add_output.result
    (λ stops g' start u.
    turn_stops g.D.File.FileRef.size g.D.File.FileRef.bytes g' c.args.entries.now c.args.spans.now c.args.from c.args.num c.args.made.now c.add_output.new.made.tried.items _ start (g.D.Reader.told c.args.dev.now) (g.D.Reader.told c.add_output.new.dev) stops u)
    c.add_output.ensures.stops

pub returns-clause-written : goal.returns-clause-written
returns-clause-written g c =
    let ps = c.args.entries.now in
    let rest : take (length ps - c.args.from) (drop c.args.from ps) ≡ drop c.args.from ps = take_all (length ps - c.args.from) (drop c.args.from ps) (omega (arith, length-drop c.args.from ps)) in
    on_ok_weaker c.add_output-2.result
    (λ more g' start light u.
    turn_ends g.D.File.FileRef.size g.D.File.FileRef.bytes g' ps c.args.spans.now c.args.from c.args.num (take (length ps - c.args.from) (drop c.args.from ps)) c.in_ok-over.over c.args.made.now c.add_output-2.new.made start (g.D.Reader.told c.args.dev.now) (g.D.Reader.told c.add_output-2.new.dev)
    rest c.in_ok-over.ensures more light u)
    c.add_output-2.ensures.more

pub returns-clause-stops : goal.returns-clause-stops
returns-clause-stops g c =
    on_err_weaker c.add_output-2.result
    (λ stops g' start u.
    turn_stops g.D.File.FileRef.size g.D.File.FileRef.bytes g' c.args.entries.now c.args.spans.now c.args.from c.args.num c.args.made.now c.add_output-2.new.made.tried.items _ start (g.D.Reader.told c.args.dev.now) (g.D.Reader.told c.add_output-2.new.dev) stops u)
    c.add_output-2.ensures.stops
