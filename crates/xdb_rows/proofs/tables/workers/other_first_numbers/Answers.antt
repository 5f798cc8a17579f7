use Rattle.std.proofs.Common.{rules, ◌++◌, ◌∷◌, []}
use Rattle.xdb_rows.proofs.WorkerLaws.{to-threads, from-threads, IsClosedThreads}
use Rattle.xdb_rows.specs.Tables.Runs.{from_7}
use Rattle.xdb_rows.specs.Tables.Workers.{took, ends_in_vain, puts_lines}
use Rattle.xdb_rows.proofs.tables.workers.other_first_numbers.Goals as goal

pub returns-clause-run : goal.returns-clause-run
returns-clause-run c = to-threads 1 7 puts_lines (from_7 ++ took 7 ∷ ends_in_vain ∷ []) (search rules)

never : IsClosedThreads 1 7 puts_lines (from_7 ++ ends_in_vain ∷ []) → ⊥
never = search rules

pub returns-clause-no_run : goal.returns-clause-no_run
returns-clause-no_run c = λ t. never (from-threads 1 7 puts_lines (from_7 ++ ends_in_vain ∷ []) t)
