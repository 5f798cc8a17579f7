-- The sort only moves the names.
use Rattle.std.proofs.Common.{sym, ◌&&◌, eqb}
use Rattle.std.proofs.lemmas.List.Sorted.{list_any-IsPermutation}
use Rattle.xdb_levels.proofs.names.Names.sorted.Goals as goal

pub returns : goal.returns
returns c = λ level num. sym (list_any-IsPermutation (λ r. eqb r.0 level && eqb r.1 num) c.args.names.items c.sort_unstable.new.self.items c.sort_unstable.ensures.permutation)
