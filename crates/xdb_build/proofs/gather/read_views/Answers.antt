-- What is left to answer of `read_views`.
use Rattle.std.proofs.Common.{◌++◌, ap, ◌∙◌, length}
use Rattle.std.proofs.lemmas.Iterator.Adapters.{YieldsList-from_vec}
use Rattle.std.proofs.lemmas.Iterator.Consumers.{YieldsList-turn, YieldsList-end}
use Rattle.xdb_device.proofs.Counts.{Counted-then, Counted-where}
use Rattle.xdb_build.proofs.GatherLaws.{no_fault, lack_no_fault, fault_before, error_passed, read_more, read_all, defect_at}
use Rattle.xdb_build.specs.Gathering.{NamesOneDefect}
use Rattle.xdb_build.proofs.gather.read_views.Goals as goal

pub returns-in_err-cursor-clause-counted : goal.returns-in_err-cursor-clause-counted
returns-in_err-cursor-clause-counted g c =
    Counted-where _ _ (fault_before c.from_residual.result c.in_err-cursor.field-0.0 c.from_residual.ensures) (Counted-then _ _ _ c.loop-view.invariant.0 c.in_err-cursor.ensures.counted)

pub returns-in_err-cursor-clause-defect : goal.returns-in_err-cursor-clause-defect
returns-in_err-cursor-clause-defect g c =
    let turn = YieldsList-turn (YieldsList-from_vec c.args.views.items (cc) (cc)) c.loop-view.yielded _ c.loop-view.yielded_by c.next.result c.next.new.self c.in-Some.view c.in-Some.is c.next.ensures.steps in
    error_passed (NamesOneDefect g.F.FileRef.bytes c.args.views.items) c.from_residual.result c.in_err-cursor.field-0.0 c.from_residual.ensures
    (defect_at g.F.FileRef.bytes c.args.views.items (length c.loop-view.yielded) c.in-Some.view c.in_err-cursor.field-0.0 turn.0 turn.1 c.in_err-cursor.ensures.defect)

pub returns-in_err-add_entries-clause-counted : goal.returns-in_err-add_entries-clause-counted
returns-in_err-add_entries-clause-counted g c =
    Counted-where _ _ (λ fault. absurd (lack_no_fault c.from_residual-in_err-add_entries.result c.from_residual-in_err-add_entries.ensures fault))
    (Counted-then _ _ _ c.loop-view.invariant.0 (Counted-where _ _ (λ never. absurd never) c.read_view.ensures.counted))

pub returns-in_err-add_spans-clause-counted : goal.returns-in_err-add_spans-clause-counted
returns-in_err-add_spans-clause-counted g c =
    Counted-where _ _ (λ fault. absurd (lack_no_fault c.from_residual-in_err-add_spans.result c.from_residual-in_err-add_spans.ensures fault))
    (Counted-then _ _ _ c.loop-view.invariant.0 (Counted-where _ _ (λ never. absurd never) c.read_view.ensures.counted))

pub loop-view-preserved : goal.loop-view-preserved
loop-view-preserved g c = (
  Counted-where _ _ (λ never. absurd never) (Counted-then _ _ _ c.loop-view.invariant.0 (Counted-where _ _ (λ never. absurd never) c.read_view.ensures.counted)),
  c.read_view.ensures.told ∙ c.loop-view.invariant.1,
  read_more g.F.FileRef.bytes c.loop-view.yielded c.in-Some.view c.loop-view.entries.items c.add_entries.new.out.items c.loop-view.spans.items c.add_spans.new.out.items c.in_ok-cursor.cursor c.in_ok-cursor.fragments
      c.loop-view.invariant.2 c.in_ok-cursor.ensures.view c.in_ok-cursor.ensures.loaded c.in_ok-cursor.ensures.spans c.in_ok-cursor.ensures.fragments
      (c.in_ok-add_entries.ensures ∙ ap (λ ps. c.loop-view.entries.items ++ ps) c.points.ensures.points)
      (c.in_ok-add_spans.ensures ∙ ap (λ us. c.loop-view.spans.items ++ us) c.list.ensures.list),
)

pub returns-clause-counted : goal.returns-clause-counted
returns-clause-counted g c = Counted-where _ _ (λ fault. absurd (no_fault fault)) c.loop-view.invariant.0

pub returns-clause-read : goal.returns-clause-read
returns-clause-read g c =
    let end = YieldsList-end (YieldsList-from_vec c.args.views.items (cc) (cc)) c.loop-view.yielded _ c.loop-view.yielded_by c.next.result c.next.new.self c.in-None.is c.next.ensures.steps in
    read_all g.F.FileRef.bytes c.args.views.items c.loop-view.yielded c.loop-view.entries.items c.loop-view.spans.items end.0 c.loop-view.invariant.2
