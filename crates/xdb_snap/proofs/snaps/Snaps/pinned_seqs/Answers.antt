-- Sorted, each once, they are the marks of the pinned snapshots.
use Rattle.std.proofs.Common.{sym, subst, ap, ◌∙◌}
use Rattle.std.proofs.lemmas.List.Filters.{dedup_is}
use Rattle.xdb_lists.specs.Numbers.{is_among, NumbersRise}
use Rattle.xdb_snap.specs.Pinned.{pinned_marks}
use Rattle.xdb_snap.proofs.MarkLaws.{among-sorted, sorted-rise}
use Rattle.xdb_snap.proofs.snaps.Snaps.pinned_seqs.Goals as goal

pub returns-clause-rising : goal.returns-clause-rising
returns-clause-rising g c = subst NumbersRise (sym (dedup_is _ _ _ c.dedup.ensures.filtered)) (sorted-rise c.sort_unstable.new.self.items c.sort_unstable.ensures.sorted)

pub returns-clause-pinned : goal.returns-clause-pinned
returns-clause-pinned g c = λ n.
    ap (is_among n) (dedup_is _ _ _ c.dedup.ensures.filtered)
    ∙ among-sorted n c.in_ok-marks.marks.items c.sort_unstable.new.self.items c.sort_unstable.ensures.permutation
    ∙ ap (is_among n) (c.in_ok-marks.ensures ∙ ap pinned_marks c.deref.ensures.value ∙ ap pinned_marks c.self.view_is)
