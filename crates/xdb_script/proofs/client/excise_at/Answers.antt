use Rattle.std.proofs.Common.{sym, ◌∙◌, arith}
use Rattle.std.proofs.lemmas.List.Sums.{position_or_len_is}
use Rattle.xdb_script.proofs.Excise.{none_first}
use Rattle.xdb_script.specs.Reading.{is_excise}
use Rattle.xdb_script.proofs.client.excise_at.Goals as goal

pub returns-then-is_word-clause-first : goal.returns-then-is_word-clause-first
returns-then-is_word-clause-first c =
    sym (position_or_len_is (λ word. is_excise word.now) c.args.words.now c.loop-at.at _ (omega arith) (λ k below. c.loop-at.invariant k _ below) (λ below. sym c.is_word.ensures ∙ c.if-is_word.true))

pub returns-clause-first : goal.returns-clause-first
returns-clause-first c = sym (none_first (λ word. is_excise word.now) c.args.words.now (λ k d below. c.loop-at.invariant k d (omega arith)))
