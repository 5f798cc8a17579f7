-- The numbers rise, so the search finds the place.
use Rattle.std.proofs.Common.{◌≡◌, rules}
use Rattle.std.specs.Ordering.{nat_cmp}
use Rattle.std.proofs.lemmas.Fn.{always_returns_same}
use Rattle.xdb_lists.proofs.KeyLaws.{key_sought}
use Rattle.xdb_vset.proofs.holds.find.Goals as goal

pub returns : goal.returns
returns c =
    let by = always_returns_same _ (λ a r. r ≡ nat_cmp a.0.now.id c.args.id) _ (λ a r f' k. search rules) in
    key_sought (λ s. s.id) c.args.id c.args.slots.now c.binary_search_by.result c.requires c.binary_search_by.ensures.bound (c.binary_search_by.ensures.position (λ s. nat_cmp s.id c.args.id) by)
