-- Each level is made without tables.
use Rattle.std.proofs.Common.{◌≡◌, [], List, get_or, replicate, sym, subst, ◌∙◌, rules, arith}
use Rattle.std.proofs.lemmas.List.{ext_get_or, length-replicate, get_or-replicate}
use Rattle.xdb_meta.specs.Table.{Table}
use Rattle.xdb_levels.specs.Levels.{IsLevels}
use Rattle.xdb_levels.proofs.EditLaws.{empty_levels}
use Rattle.xdb_levels.proofs.levels.Levels.new.Given as given
use Rattle.xdb_levels.proofs.levels.Levels.new.Goals as goal
use Rattle.xdb_levels.proofs.levels.Levels.new.Goals.{After-from_fn}

made_empty : (g : given.Over) (c : After-from_fn g) → c.from_fn.result ≡ replicate g.row.N []
made_empty g c =
    let long = c.from_fn.ensures.items.long in
    let count = length-replicate {A = List Table} g.row.N [] in
    ext_get_or [] c.from_fn.result (replicate g.row.N []) (long ∙ sym count)
    (λ i l. let k = c.from_fn.ensures.items.at i [] (omega arith) in let empty : get_or c.from_fn.result i [] ≡ [] = search rules in empty ∙ sym (get_or-replicate g.row.N i [] [] (omega arith)))

pub returns : goal.returns
returns g c = made_empty g c

pub invariant_of-result : goal.invariant_of-result
invariant_of-result g c = subst (IsLevels g.row.N) (sym (made_empty g c)) (empty_levels g.row.N c.requires.some c.requires.few)
