use Rattle.std.proofs.Common.{arith}
use Rattle.xdb_script.proofs.Decimals.{number-in, number-out, number-not}
use Rattle.xdb_script.proofs.numbers.number_in.Goals as goal

pub returns-in-Some-clause-number : goal.returns-in-Some-clause-number
returns-in-Some-clause-number c =
    number-in c.args.least c.args.most c.in-Some.number c.args.word.now c.in-Some.ensures.0 c.in-Some.ensures.1 c.if-least-number.true c.if-number-most.true

pub returns-in_default-clause-number : goal.returns-in_default-clause-number
returns-in_default-clause-number c =
    number-out c.args.least c.args.most c.in-Some.number c.args.word.now (omega (arith, c.ranges.most.fits)) c.in-Some.ensures.0 c.in-Some.ensures.1 (λ low high. omega arith)

pub returns-in_default-2-clause-number : goal.returns-in_default-2-clause-number
returns-in_default-2-clause-number c =
    number-out c.args.least c.args.most c.in-Some.number c.args.word.now (omega (arith, c.ranges.most.fits)) c.in-Some.ensures.0 c.in-Some.ensures.1 (λ low high. omega arith)

pub returns-in_default-3-clause-number : goal.returns-in_default-3-clause-number
returns-in_default-3-clause-number c = number-not c.args.least c.args.most c.args.word.now (omega (arith, c.ranges.most.fits)) c.in_default.ensures
