-- The lines' blocks, an empty drain, and a book in which nothing is.
use Rattle.std.proofs.Common.{◌≡◌, true, [], sum, sym, ap, ◌∙◌, subst}
use Rattle.std.specs.List.{list_all}
use Rattle.xdb_plain.specs.Failures.{faults}
use Rattle.xdb_run.specs.Built.{is_run}
use Rattle.xdb_run.proofs.BuiltLaws.{lines-run}
use Rattle.xdb_run.proofs.OutsideLaws.{none-booked, rose-none}
use Rattle.xdb_run.proofs.LineLaws.{run-whole}
use Rattle.xdb_run.proofs.run.run_script_named.Goals as goal

pub take_all-requires-clause-run : goal.take_all-requires-clause-run
take_all-requires-clause-run g c κs within =
    subst (λ lines. list_all is_run lines ≡ true) (sym c.into_lines.ensures.lines) (lines-run 0 [] c.args.script c.into_lines.ensures.script c.requires.built)

pub returns-clause-run : goal.returns-clause-run
returns-clause-run g c =
    run-whole c.args.script c.into_lines.result.items c.take_all.new.engine c.into_history-history.result.0.notes c.into_lines.ensures.lines c.in_ok-take_all.ensures.taken c.into_history-history.ensures.notes c.into_history-history.ensures.clean

pub returns-clause-faults : goal.returns-clause-faults
returns-clause-faults g c =
    let end = c.into_history-history in
    let shares = c.in_ok-book.shares in
    let count = g.D.Reader.faults c.args.dev.now in
    rose-none (faults end.result.0.notes) end.result.1 (sum shares.items) count (g.D.Reader.faults c.take_all.new.dev) (end.ensures.booked ∙ ap faults (sym end.ensures.notes)) c.sum.ensures.sum
    (none-booked shares.items (sym shares.ok.0 ∙ c.in_ok-book.ensures.count) c.in_ok-book.ensures.shares) (ap g.D.Reader.faults c.take_all.ensures.alone)
