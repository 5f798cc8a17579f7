-- The name is free, the ranges rise, and there is room.
use Rattle.std.proofs.Common.{◌++◌, ◌∷◌, [], sym, subst, ap, ◌∙◌, arith}
use Rattle.xdb_plain.specs.Snapshots.{are_rising}
use Rattle.xdb_snap.specs.Changes.{made}
use Rattle.xdb_snap.specs.Listed.{AreListed, named}
use Rattle.xdb_snap.proofs.ListedLaws.{listed-made, not-copied}
use Rattle.xdb_snap.proofs.snaps.Snaps.make.Goals as goal

pub invariant_of-self-2 : goal.invariant_of-self-2
invariant_of-self-2 g c =
    let items = c.self.inside.snaps.items in
    let pushed = c.in_ok-push.ensures.items ∙ ap (λ s. items ++ s ∷ []) c.new.ensures in
    let free = ap (named c.args.name) c.self.view_is ∙ not-copied c.get.result (named c.args.name c.args.self.now) c.get.ensures (sym c.is_some.ensures ∙ c.if-is_some.false) in
    let rising = ap are_rising (sym c.deref.ensures.value) ∙ sym c.are_rising.ensures ∙ c.if-not-are_rising.false in
    let len = c.len.ensures in
    let room = c.if-len-ge-MOST_SNAPS.false in
    let same = c.self.inside.snaps.ok.0 in
    subst AreListed (sym pushed) (listed-made items (made c.args.name c.args.ranges.items c.args.mark c.args.state c.args.ticket) c.self.invariant free rising (omega arith))
