-- The script that so many operations and a seed generate.
use Rattle.std.specs.Prelude.{ℕ, zero, suc, List, []}
use Rattle.xdb_gen.specs.Rules.{Progress, seen, by_rule, rule_of}
use Rattle.xdb_gen.specs.Said.{numbered_from}
use Rattle.xdb_plain.specs.declared.script.Line.{Line}

-- behind so many operations, which are numbered from 1
abbrev pub progress : ℕ → ℕ → Progress
progress zero seed = seen [] seed
progress (suc n) seed = by_rule (rule_of (suc n)) (suc n) (progress n seed)

-- each operation's lines one after another, numbered from 1
abbrev pub generated : ℕ → ℕ → List Line
generated ops seed = numbered_from 1 (progress ops seed).said
