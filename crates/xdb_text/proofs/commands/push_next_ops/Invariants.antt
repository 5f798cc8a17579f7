-- The first operations are printed.
use Rattle.std.proofs.Common.{◌≡◌, ◌++◌, ◌∷◌, take}
use Rattle.std.specs.Prelude.{codes}
use Rattle.std.specs.List.{flat_map}
use Rattle.xdb_plain.specs.Words.{op_words}
use Rattle.xdb_plain.specs.Printed.{spaced}
use Rattle.xdb_text.proofs.commands.push_next_ops.Given as goal

abbrev pub invariant-loop-op : goal.invariant-loop-op
invariant-loop-op l = l.out.items ≡ l.fn.out.items ++ spaced (flat_map (λ next. codes ";" ∷ op_words next) (take l.op-index l.ops))
