use Rattle.std.proofs.Common.{sym, ◌∙◌}
use Rattle.xdb_script.proofs.Spelling.{is_none, is_all, some_left, none_left}
use Rattle.xdb_script.proofs.strings.unspell_letters.Goals as goal

pub returns-in_default : goal.returns-in_default
returns-in_default c =
    is_none c.args.word.now c.loop-rest.bytes.items c.loop-rest.rest.now c.requires.letters (some_left c.loop-rest.rest.now (sym c.is_empty.ensures ∙ c.loop-rest-test.true)) c.in_default.ensures c.loop-rest.invariant

pub returns : goal.returns
returns c =
    is_all c.args.word.now c.loop-rest.bytes.items c.loop-rest.rest.now c.requires.some (none_left c.loop-rest.rest.now (sym c.is_empty.ensures ∙ c.loop-rest-test.false)) c.loop-rest.invariant
