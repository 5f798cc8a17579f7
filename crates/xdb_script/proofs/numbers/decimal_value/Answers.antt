use Rattle.std.proofs.Common.{sym, subst, ◌∙◌}
use Rattle.std.proofs.lemmas.Bool.{false≢true}
use Rattle.std.proofs.lemmas.Fmt.{IsAscii-decimal}
use Rattle.std.proofs.lemmas.Str.{IsUtf8-from_ascii}
use Rattle.std.specs.Str.{IsAscii}
use Rattle.std.specs.Str.Parse.{ParsesUnsigned}
use Rattle.xdb_script.proofs.Decimals.{decimal-begins, parsed}
use Rattle.xdb_script.proofs.numbers.decimal_value.Goals as goal

pub returns-then-not-begins_decimal : goal.returns-then-not-begins_decimal
returns-then-not-begins_decimal c = λ n small is. false≢true (sym c.if-not-begins_decimal.true ∙ c.begins_decimal.ensures ∙ decimal-begins c.args.word.now n small is)

pub returns-in_default : goal.returns-in_default
returns-in_default c = λ n small is. c.in_default.ensures.cases.0 (IsUtf8-from_ascii c.args.word.now (subst IsAscii (sym is) (IsAscii-decimal n small)))

pub returns : goal.returns
returns c =
    let begins = sym c.begins_decimal.ensures ∙ c.if-not-begins_decimal.false in
    rw c.ok.ensures.value (parsed c.args.word.now c.parse.result begins (subst (λ bs. ParsesUnsigned 64 10 bs c.parse.result) c.in-Ok.ensures.cases.0 c.parse.ensures.value.0))
