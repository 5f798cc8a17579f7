-- What is left to answer of `touches`.
use Rattle.std.proofs.Common.{ltb, ap, ◌∙◌}
use Rattle.std.specs.List.{filter, list_any}
use Rattle.xdb_key.specs.Bounds.{holds}
use Rattle.xdb_key.specs.Entries.{Point}
use Rattle.xdb_mem.proofs.TouchLaws.{by_entries, by_spans}
use Rattle.xdb_mem.proofs.mem.Mem.touches.Goals as goal

pub returns-then-any_below : goal.returns-then-any_below
returns-then-any_below c =
    let found = c.any_below.ensures ∙ ap (list_any (λ (p : Point). ltb p.seq c.args.below)) (c.in_range-keys.ensures ∙ ap (filter (λ (p : Point). holds c.args.range.now p.key)) c.deref.ensures.value) in
    by_entries c.args.range.now c.args.below c.args.self.now c.self.inside.entries.items c.self.inside.spans c.any_below.result c.self.invariant.0 c.self.view_is found c.if-any_below.true

pub returns-else-any_below : goal.returns-else-any_below
returns-else-any_below c =
    let found = c.any_below.ensures ∙ ap (list_any (λ (p : Point). ltb p.seq c.args.below)) (c.in_range-keys.ensures ∙ ap (filter (λ (p : Point). holds c.args.range.now p.key)) c.deref.ensures.value) in
    by_spans c.args.range.now c.args.below c.args.self.now c.self.inside.entries.items c.self.inside.spans c.any_below.result c.meets.result c.self.invariant.0 c.self.view_is found c.if-any_below.false c.meets.ensures
