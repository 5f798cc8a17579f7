-- What is left to answer of `load_all`.
use Rattle.std.proofs.Common.{◌≡◌, length, slice_set, refl, sym, ◌∙◌, subst, arith}
use Rattle.std.proofs.lemmas.List.{length-set}
use Rattle.std.specs.List.{AllByRecursion}
use Rattle.xdb_device.proofs.Counts.{Counted-refl, Counted-then, Counted-where}
use Rattle.xdb_merge.specs.Steps.{ArePaired, AreRead, IsLater, IsLoaded, views}
use Rattle.xdb_merge.proofs.LoadLaws.{written, no_fault, loads_length, loads_start, loads_later, loads_more, read_at, loads_all, loaded_read, loads_defect, passed_defect, never_err}
use Rattle.xdb_merge.proofs.source.load_all.Goals as goal

pub loop-source-init : goal.loop-source-init
loop-source-init g c = (
  Counted-refl c.args.dev.now,
  refl,
  λ h. refl,
  loads_start g.F.FileRef.bytes c.args.sources.now.items c.deref_mut-source-items.result.now c.deref_mut-source-items.ensures.value,
)

pub returns-in_err-load-clause-alone : goal.returns-in_err-load-clause-alone
returns-in_err-load-clause-alone g c = λ read.
    c.load.ensures.alone (read_at g.F.FileRef.bytes c.args.sources.now.items c.loop-source.source-items c.loop-source.source-index c.source-item.result c.loop-source.invariant.3 (omega arith) read)
    ∙ c.loop-source.invariant.2 read

pub returns-in_err-load-clause-later : goal.returns-in_err-load-clause-later
returns-in_err-load-clause-later g c =
    let old = c.args.sources.now in
    let now = slice_set c.loop-source.source-items c.loop-source.source-index c.load.new.self in
    let same : length now ≡ length old.items = length-set c.loop-source.source-items c.loop-source.source-index c.load.new.self ∙ loads_length g.F.FileRef.bytes old.items c.loop-source.source-items c.loop-source.source-index c.loop-source.invariant.3 in
    subst (ArePaired (IsLater g.F.FileRef.bytes) old.items) (sym (written old.len now old.items old.ok.0 same))
    (loads_later g.F.FileRef.bytes old.items c.loop-source.source-items c.loop-source.source-index c.source-item.result c.load.new.self c.loop-source.invariant.3 (omega arith) c.load.ensures.later)

pub returns-in_err-load-clause-defect : goal.returns-in_err-load-clause-defect
returns-in_err-load-clause-defect g c =
    passed_defect g.F.FileRef.bytes (views c.args.sources.now.items) c.from_residual.result c.in_err-load.field-0.0 c.from_residual.ensures
    (loads_defect g.F.FileRef.bytes c.args.sources.now.items c.loop-source.source-items c.loop-source.source-index c.source-item.result c.in_err-load.field-0.0 c.loop-source.invariant.3 (omega arith) c.in_err-load.ensures.defect)

pub loop-source-preserved : goal.loop-source-preserved
loop-source-preserved g c = (
  Counted-where _ _ (λ never. absurd never) (Counted-then _ _ _ c.loop-source.invariant.0 (Counted-where _ _ (λ never. absurd never) c.load.ensures.counted)),
  c.load.ensures.told ∙ c.loop-source.invariant.1,
  λ read. c.load.ensures.alone (read_at g.F.FileRef.bytes c.args.sources.now.items c.loop-source.source-items c.loop-source.source-index c.source-item.result c.loop-source.invariant.3 (omega arith) read) ∙ c.loop-source.invariant.2 read,
  loads_more g.F.FileRef.bytes c.args.sources.now.items c.loop-source.source-items c.loop-source.source-index c.source-item.result c.load.new.self c.loop-source.invariant.3 (omega arith) c.load.ensures.later c.in_ok-load.ensures.loaded,
)

pub returns-clause-counted : goal.returns-clause-counted
returns-clause-counted g c = Counted-where _ _ (λ fault. absurd (no_fault fault)) c.loop-source.invariant.0

pub returns-clause-alone : goal.returns-clause-alone
returns-clause-alone g c = c.loop-source.invariant.2

pub returns-clause-later : goal.returns-clause-later
returns-clause-later g c =
    let old = c.args.sources.now in
    subst (ArePaired (IsLater g.F.FileRef.bytes) old.items) (sym (written old.len c.loop-source.source-items old.items old.ok.0 (loads_length g.F.FileRef.bytes old.items c.loop-source.source-items c.loop-source.source-index c.loop-source.invariant.3))) c.loop-source.invariant.3.later

pub returns-clause-read : goal.returns-clause-read
returns-clause-read g c =
    let old = c.args.sources.now in
    subst AreRead (sym (written old.len c.loop-source.source-items old.items old.ok.0 (loads_length g.F.FileRef.bytes old.items c.loop-source.source-items c.loop-source.source-index c.loop-source.invariant.3)))
    (loaded_read g.F.FileRef.bytes c.loop-source.source-items (loads_all g.F.FileRef.bytes old.items c.loop-source.source-items c.loop-source.source-index c.loop-source.invariant.3 (omega arith)))

pub returns-clause-loaded : goal.returns-clause-loaded
returns-clause-loaded g c =
    let old = c.args.sources.now in
    subst (AllByRecursion (IsLoaded g.F.FileRef.bytes)) (sym (written old.len c.loop-source.source-items old.items old.ok.0 (loads_length g.F.FileRef.bytes old.items c.loop-source.source-items c.loop-source.source-index c.loop-source.invariant.3)))
    (loads_all g.F.FileRef.bytes old.items c.loop-source.source-items c.loop-source.source-index c.loop-source.invariant.3 (omega arith))

pub returns-in_err-load-clause-calm : goal.returns-in_err-load-clause-calm
returns-in_err-load-clause-calm g c = λ read.
    never_err c.load.result c.in_err-load.field-0.0 c.from_residual.result c.in_err-load.was
    (c.load.ensures.calm (read_at g.F.FileRef.bytes c.args.sources.now.items c.loop-source.source-items c.loop-source.source-index c.source-item.result c.loop-source.invariant.3 (omega arith) read))
