-- Lines as text, for worked scripts.
use Rattle.std.specs.Prelude.{ℕ, List, [], ◌++◌, map}
use Rattle.xdb_gen.specs.Rules.{by_rule, rule_of, seen}
use Rattle.xdb_gen.specs.Said.{Said, said_in}
use Rattle.xdb_plain.specs.Printed.{spaced}
use Rattle.xdb_plain.specs.Words.{who_word, cmd_words}
use Rattle.xdb_plain.specs.declared.script.Line.{Line}

abbrev pub text_of : Said → List ℕ
text_of s = who_word s.by ++ spaced (cmd_words s.cmd)

abbrev pub texts : List Line → List (List ℕ)
texts lines = map (λ l. text_of (said_in l)) lines

-- what an operation says, where the draws have come to a state
abbrev pub operation_texts : ℕ → ℕ → List (List ℕ)
operation_texts i state = map text_of (by_rule (rule_of i) i (seen [] state)).said
