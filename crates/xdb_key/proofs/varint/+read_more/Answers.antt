use Rattle.std.proofs.Common.{◌-◌, ◌<◌, ◌^◌, arith}
use Rattle.std.proofs.Math.Nat.{one-le-pow}
use Rattle.xdb_key.proofs.VarintLaws.{pow-small, low-and-more}
use Rattle.xdb_key.proofs.varint.+read_more.Goals as goal

pub overflow_mul-result : goal.overflow_mul-result
overflow_mul-result t c =
    let less : c.in_ok-high-in-len1-up-2.high < 128 ^ (c.args.most - 1) = c.in_ok-high-in-len1-up-2.ensures.small in
    let small = pow-small (c.args.most - 1) (omega arith) in
    omega arith

pub overflow_add-result : goal.overflow_add-result
overflow_add-result t c =
    let byte = c.type_inv.bytes 0 in
    let sum = low-and-more c.args.most c.from-in-len1-up-2.result c.in_ok-high-in-len1-up-2.high (omega arith) (omega arith) c.in_ok-high-in-len1-up-2.ensures.small in
    let small = pow-small c.args.most (omega arith) in
    omega arith

pub returns-in-len1-up-clause-small : goal.returns-in-len1-up-clause-small
returns-in-len1-up-clause-small t c =
    let some = one-le-pow (c.args.most - 1) 128 (omega arith) in
    let sum = low-and-more c.args.most c.from.result 0 (omega arith) (omega arith) (omega arith) in
    omega arith

pub returns-in_ok-high-in-len1-up-2-clause-small :
    goal.returns-in_ok-high-in-len1-up-2-clause-small
returns-in_ok-high-in-len1-up-2-clause-small t c =
    let byte = c.type_inv.bytes 0 in
    low-and-more c.args.most c.from-in-len1-up-2.result c.in_ok-high-in-len1-up-2.high (omega arith) (omega arith) c.in_ok-high-in-len1-up-2.ensures.small
