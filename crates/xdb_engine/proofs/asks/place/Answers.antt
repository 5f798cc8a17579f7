-- The numbers rise, so the search finds the place.
use Rattle.std.proofs.Common.{rules, ◌≡◌}
use Rattle.std.specs.Ordering.{nat_cmp}
use Rattle.std.proofs.lemmas.Fn.{always_returns_same}
use Rattle.xdb_lists.proofs.KeyLaws.{key_sought, key_missing}
use Rattle.xdb_engine.proofs.asks.place.Goals as goal

pub returns-in-Ok : goal.returns-in-Ok
returns-in-Ok g c =
    let by = always_returns_same _ (λ a r. r ≡ nat_cmp a.0.now.ask c.args.ask) _ (λ a r f' k. search rules) in
    let h = key_sought (λ q. q.ask) c.args.ask c.args.questions.now c.binary_search_by.result c.requires c.binary_search_by.ensures.bound (c.binary_search_by.ensures.position (λ q. nat_cmp q.ask c.args.ask) by) in
    rw c.in-Ok.is at h

pub returns-in-Err : goal.returns-in-Err
returns-in-Err g c =
    let by = always_returns_same _ (λ a r. r ≡ nat_cmp a.0.now.ask c.args.ask) _ (λ a r f' k. search rules) in
    let h = key_sought (λ q. q.ask) c.args.ask c.args.questions.now c.binary_search_by.result c.requires c.binary_search_by.ensures.bound (c.binary_search_by.ensures.position (λ q. nat_cmp q.ask c.args.ask) by) in
    key_missing (λ q. q.ask) c.args.ask c.args.questions.now c.in-Err.field-0 (rw c.in-Err.is at h)
