-- What is left to answer of `gathered`.
use Rattle.std.proofs.Common.{subst}
use Rattle.xdb_device.proofs.Counts.{Counted-then, Counted-where}
use Rattle.xdb_merge.specs.Tables.{NamesDamage}
use Rattle.xdb_rangedel.specs.Members.{SameMembers}
use Rattle.xdb_rangedel.specs.Pieces.{pieces}
use Rattle.xdb_build.proofs.GatherLaws.{no_fault, lack_no_fault, fault_before, error_passed, damage_is, gathered_is}
use Rattle.xdb_build.proofs.gather.gathered.Goals as goal

pub returns-in_err-entries-clause-counted : goal.returns-in_err-entries-clause-counted
returns-in_err-entries-clause-counted g c =
    Counted-where _ _ (fault_before c.from_residual-in_err-entries.result c.in_err-entries.field-0.0 c.from_residual-in_err-entries.ensures)
    (Counted-then _ _ _ (Counted-where _ _ (λ never. absurd never) c.open_views.ensures.counted) c.in_err-entries.ensures.counted)

pub returns-in_err-entries-clause-damage : goal.returns-in_err-entries-clause-damage
returns-in_err-entries-clause-damage g c =
    error_passed (NamesDamage g.F.FileRef.bytes c.args.tables.now) c.from_residual-in_err-entries.result c.in_err-entries.field-0.0 c.from_residual-in_err-entries.ensures
    (damage_is g.F.FileRef.bytes c.damage_is_of_tables.ensures c.args.tables.now c.in_ok-views.views.items c.in_err-entries.field-0.0 c.in_ok-views.ensures.views c.in_err-entries.ensures.defect)

pub returns-in_err-sorted-clause-counted : goal.returns-in_err-sorted-clause-counted
returns-in_err-sorted-clause-counted g c =
    Counted-where _ _ (λ fault. absurd (lack_no_fault c.from_residual-in_err-sorted.result c.from_residual-in_err-sorted.ensures fault))
    (Counted-then _ _ _ (Counted-where _ _ (λ never. absurd never) c.open_views.ensures.counted) (Counted-where _ _ (λ never. absurd never) c.read_views.ensures.counted))

pub returns-in_err-fragments-clause-counted : goal.returns-in_err-fragments-clause-counted
returns-in_err-fragments-clause-counted g c =
    Counted-where _ _ (λ fault. absurd (lack_no_fault c.from_residual-in_err-fragments.result c.from_residual-in_err-fragments.ensures fault))
    (Counted-then _ _ _ (Counted-where _ _ (λ never. absurd never) c.open_views.ensures.counted) (Counted-where _ _ (λ never. absurd never) c.read_views.ensures.counted))

pub returns-clause-counted : goal.returns-clause-counted
returns-clause-counted g c =
    Counted-where _ _ (λ fault. absurd (no_fault fault))
    (Counted-then {Q = ⊥} _ _ _ (Counted-where {Q = ⊥} _ _ (λ never. absurd never) c.open_views.ensures.counted) (Counted-where _ _ (λ never. absurd never) c.read_views.ensures.counted))

pub returns-clause-gathered : goal.returns-clause-gathered
returns-clause-gathered g c =
    gathered_is g.F.FileRef.bytes c.args.tables.now c.in_ok-views.views.items c.in_ok-entries.entries.items c.in_ok-sorted.sorted.items c.in_ok-entries.spans.items c.in_ok-fragments.fragments
    c.in_ok-views.ensures.views c.in_ok-entries.ensures.read c.in_ok-sorted.ensures
    (subst (λ ts. SameMembers c.in_ok-fragments.fragments (pieces ts)) c.deref.ensures.value c.in_ok-fragments.ensures.pieces)
    c.content_is_of_tables.ensures c.in_ok-fragments.ensures.fragments
