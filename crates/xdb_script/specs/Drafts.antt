-- What drafts of operations and pairs of words stand for.
use Rattle.std.specs.Prelude.{ℕ, List}
use Rattle.std.specs.Borrow.{Bor}
use Rattle.xdb_key.specs.declared.op.Op.{Op}
use Rattle.xdb_key.specs.declared.op.Op.TheVariants as op
use Rattle.xdb_script.specs.declared.operations.Draft.{Draft}
use Rattle.xdb_script.specs.declared.operations.Draft.TheVariants.{Set, Del, DelSpan}

abbrev pub drafted : Draft → Op
drafted (Set key value) = op.Set key value
drafted (Del key) = op.Del key
drafted (DelSpan pair) = op.DelSpan pair

-- two words behind references
abbrev pub pair_texts : Bor (List ℕ) × Bor (List ℕ) → List ℕ × List ℕ
pair_texts pair = (pair.0.now, pair.1.now)
