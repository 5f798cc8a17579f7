-- What is left to answer of `in_range`.
use Rattle.std.proofs.lemmas.List.{take_rest}
use Rattle.xdb_mem.proofs.InOrderLaws.{in_range-is}
use Rattle.xdb_mem.proofs.sorted.in_range.Goals as goal

pub returns : goal.returns
returns c =
    let lower = rw c.lo.ensures.lo at c.first_from-first.ensures.split in
    let upper = rw c.hi.ensures at c.near_from-end.ensures.split in
    in_range-is c.args.range.now c.args.entries.now _ c.first_from-first.result c.near_from-end.result (take_rest c.args.entries.now c.first_from-first.result) lower upper
