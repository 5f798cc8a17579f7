-- What is left to answer of `apart`.
use Rattle.std.proofs.Common.{◌<◌, ◌-◌, length, get_or, sym, ◌∙◌, arith}
use Rattle.std.proofs.lemmas.List.{get_or_default}
use Rattle.xdb_mem.proofs.BlockLaws.{block_apart}
use Rattle.xdb_mem.proofs.index.apart.Goals as goal

pub returns-clause-apart : goal.returns-clause-apart
returns-clause-apart c =
    let bs = c.args.blocks.now in
    let i = c.args.end - 1 in
    let b = get_or bs i (record { place = 0; from = 0; first = 0; last = 0 }) in
    let some : 0 < c.args.end = omega (arith, c.if-end-eq0.false) in
    let inside : i < length bs = omega (arith, some, c.requires.bound) in
    block_apart c.args.spans.now bs c.args.range.now c.args.end b c.requires.blocks
    (record { some = some; bound = c.requires.bound; is = get_or_default bs i (record { place = 0; from = 0; first = 0; last = 0 }) b inside })
    (sym c.reaches.ensures ∙ c.if-reaches.false)
