use Rattle.std.proofs.Common.{◌≡◌, ◌∙◌, ap, length, arith}
use Rattle.xdb_block.specs.Rows.{keys_len}
use Rattle.xdb_block.proofs.KeysLaws.{keys_in_block, size-of_rows}
use Rattle.xdb_block.proofs.block.Block.keys_len.Goals as goal

pub returns-clause-len : goal.returns-clause-len
returns-clause-len c =
    let b = c.self.inside in
    let len : c.len.result ≡ length b.keys.items = omega arith in
    len ∙ c.self.invariant.whole ∙ size-of_rows b.keys.items b.bytes.items b.places.items c.self.invariant.lie ∙ ap keys_len c.self.view_is

pub returns-clause-bound : goal.returns-clause-bound
returns-clause-bound c = omega (arith, returns-clause-len c, keys_in_block c.args.self.now)
