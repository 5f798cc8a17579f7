use Rattle.std.proofs.Common.{◌≡◌, map, take}
use Rattle.xdb_table_r.specs.Views.{span_for}
use Rattle.xdb_table_r.proofs.view.all_renumbered.Given as goal

abbrev pub invariant-loop-span : goal.invariant-loop-span
invariant-loop-span l = l.out.items ≡ map (span_for l.synthetic) (take l.span-index l.spans)
