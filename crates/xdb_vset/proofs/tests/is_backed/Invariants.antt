-- The first tables lie in files that are named or new.
use Rattle.std.proofs.Common.{◌≡◌, ◌||◌, not, eqb, take, true}
use Rattle.std.specs.List.{list_all}
use Rattle.xdb_lists.specs.Numbers.{is_among}
use Rattle.xdb_vset.specs.Seen.{named}
use Rattle.xdb_vset.proofs.tests.is_backed.Given as goal

abbrev pub invariant-loop-table : goal.invariant-loop-table
invariant-loop-table l = list_all (λ a. not (eqb (named l.set a.1.backing) 0) || is_among a.1.backing l.edit.new_backings) (take l.table-index l.edit.added) ≡ true
