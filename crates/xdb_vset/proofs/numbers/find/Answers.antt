-- The numbers rise, so the search finds the place.
use Rattle.std.proofs.Common.{◌≡◌, ℕ, subst, rules}
use Rattle.std.specs.List.Sorted.{IsSearchInRange}
use Rattle.std.specs.Ordering.{nat_cmp}
use Rattle.std.proofs.lemmas.Fn.{always_returns_same}
use Rattle.xdb_lists.proofs.KeyLaws.{key_sought}
use Rattle.xdb_vset.proofs.numbers.find.Goals as goal

pub returns : goal.returns
returns c =
    let by = always_returns_same _ (λ a r. r ≡ nat_cmp a.0.now c.args.num) _ (λ a r f' k. search rules) in
    key_sought (λ n. n) c.args.num c.args.nums.now.items c.binary_search_by.result c.requires (subst (λ (k : ℕ). IsSearchInRange c.binary_search_by.result k) c.args.nums.now.ok.0 c.binary_search_by.ensures.bound) (c.binary_search_by.ensures.position (λ y. nat_cmp y c.args.num) by)
