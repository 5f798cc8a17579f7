-- A word of plain bytes spells itself.
use Rattle.std.proofs.Common.{[], refl, sym, ◌∙◌, arith}
use Rattle.xdb_key.specs.Reading.{AreBytes}
use Rattle.xdb_script.proofs.Spelling.{plain_so_far, is_all, some_left}
use Rattle.xdb_script.proofs.strings.unspell.Goals as goal

pub returns-then-are_plain : goal.returns-then-are_plain
returns-then-are_plain c =
    let word = c.args.word.now in
    let small : AreBytes word = λ i. omega (arith, c.type_inv.word i) in
    let all = is_all word word [] (some_left word (sym c.is_empty.ensures ∙ c.if-is_empty.false)) refl (plain_so_far word small (sym c.are_plain.ensures ∙ c.if-are_plain.true)) in
    (all.0, c.in_ok-from_slice.ensures.items ∙ all.1)
