-- One stable sort, and what ties with the entry before it goes.
use Rattle.std.proofs.Common.{◌≡◌, rules}
use Rattle.std.proofs.lemmas.Fn.{always_returns_same, dedup_same}
use Rattle.std.proofs.lemmas.List.Sorted.{ranks_by}
use Rattle.std.specs.Ordering.{is_lt, eq_by_cmp}
use Rattle.xdb_key.specs.Entries.{Point}
use Rattle.xdb_key.specs.InOrder.{internal_order}
use Rattle.xdb_key.proofs.InOrderLaws.{internal_total}
use Rattle.xdb_build.proofs.GatherLaws.{sorted_once}
use Rattle.xdb_build.proofs.gather.in_order.Goals as goal

pub returns : goal.returns
returns c =
    let by = always_returns_same _ (λ a r. is_lt r ≡ is_lt (internal_order a.0.now a.1.0.now)) _ (λ a r f' k. search rules) in
    let up = c.in_ok-sort_by.ensures.sorted (λ a b. is_lt (internal_order a b)) (ranks_by internal_total (λ (p : Point). p)) by in
    sorted_once c.args.entries.items c.sort_by.new.self.items c.dedup_by.new.self.items c.sort_by.ensures.permutation up
    (dedup_same _ (eq_by_cmp internal_order) _ (λ x y b f' x' y' k. search rules) _ _ c.dedup_by.ensures.filtered)
