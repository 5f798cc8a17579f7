-- One level more.
use Rattle.std.proofs.Common.{◌+◌, ◌∙◌, ℕ, subst, sym, ap, length, arith}
use Rattle.std.specs.Option.{IsSome}
use Rattle.xdb_vset.specs.Counts.{named_in}
use Rattle.xdb_vset.specs.Backings.{count_in}
use Rattle.xdb_vset.proofs.VersionLaws.{named_more_le, named_whole, tables_more_le}
use Rattle.xdb_vset.proofs.files.Files.raise_version.Goals as goal

pub raise_all-requires-clause-named : goal.raise_all-requires-clause-named
raise_all-requires-clause-named g c = λ b some.
    let here = ap (named_in b) c.tables.ensures.tables in
    let top = named_more_le b c.args.version.now c.loop-level.level (omega arith) in
    subst IsSome (sym (c.loop-level.invariant.file b)) (c.requires.named b (omega arith))

pub raise_all-requires-clause-small : goal.raise_all-requires-clause-small
raise_all-requires-clause-small g c =
    let here = ap length c.tables.ensures.tables in
    let top = tables_more_le c.args.version.now c.loop-level.level (omega arith) in
    let before = c.loop-level.invariant.raised in
    let small = c.requires.small in
    omega arith

pub returns-clause-count : goal.returns-clause-count
returns-clause-count g c = λ b.
    let whole = named_whole b c.args.version.now c.loop-level.level (omega arith) in
    c.loop-level.invariant.count b ∙ ap (λ (n : ℕ). count_in b c.args.self.now.named + n) whole
