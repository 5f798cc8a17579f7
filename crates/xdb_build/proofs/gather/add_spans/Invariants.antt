-- The first spans are copied.
use Rattle.std.proofs.Common.{◌≡◌, ◌++◌, take}
use Rattle.xdb_build.proofs.gather.add_spans.Given as goal

abbrev pub invariant-loop-span : goal.invariant-loop-span
invariant-loop-span l = l.out.items ≡ l.initial.out.items ++ take l.span-index l.spans
