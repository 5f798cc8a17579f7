-- The search finds a name just where it is among the names.
use Rattle.std.proofs.Common.{◌∙◌, sym, ap, subst}
use Rattle.std.specs.List.Sorted.{IsSorted}
use Rattle.xdb_levels.specs.Names.{name_cmp, is_named}
use Rattle.xdb_levels.proofs.NameLaws.{sought}
use Rattle.xdb_levels.proofs.names.Names.has.Goals as goal

pub returns : goal.returns
returns c =
    c.is_ok.ensures.value
    ∙ sought c.deref.result.now c.args.level c.args.num c.binary_search.result (subst (IsSorted name_cmp) (sym c.deref.ensures.value) c.self.invariant) c.binary_search.ensures.bound c.binary_search.ensures.position
    ∙ ap (λ xs. is_named xs c.args.level c.args.num) (c.deref.ensures.value ∙ c.self.view_is)
