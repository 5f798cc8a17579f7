-- What is left to answer of `write_outputs`.
use Rattle.std.proofs.Common.{◌≡◌, ◌≤◌, ◌+◌, ◌-◌, true, nat_lt, length, arith}
use Rattle.std.proofs.lemmas.Bool.{lt-ltb}
use Rattle.std.proofs.lemmas.Result.{on_ok_weaker}
use Rattle.xdb_build.proofs.TurnLaws.{light_rest}
use Rattle.xdb_build.proofs.series.write_outputs.Goals as goal

pub returns-clause-written : goal.returns-clause-written
returns-clause-written g c =
    let given = c.args.given.now in
    let ps = c.args.entries.now in
    let num = c.loop-to.num in
    let (u, ends, place, last, counted) = c.loop-to.invariant in
    let most = given.count - (num - given.first) in
    let all : length ps ≤ c.loop-to.to = omega (arith, c.loop-to-test.false) in
    let end = c.first-num.result + (c.count.result - 1) in
    let means : 2 ≤ most → nat_lt num end ≡ true = λ some. lt-ltb num end (omega (arith, some, last, u.behind, u.below)) in
    on_ok_weaker c.write_last.result
    (λ written. written given (g.D.Reader.told c.args.dev.now) (light_rest ps c.loop-to.from c.loop-to.to _ most ends all means) u)
    c.write_last.ensures.written
