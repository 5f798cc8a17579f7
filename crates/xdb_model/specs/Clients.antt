-- The line of a client that comes next, and how its block is looked at.
use Rattle.std.specs.Prelude.{ℕ, List, [], take, drop, Option}
use Rattle.xdb_plain.specs.Answers.{first_of}
use Rattle.xdb_plain.specs.Runs.{Run, run_at}
use Rattle.xdb_plain.specs.State.{opening}
use Rattle.xdb_plain.specs.Tables.{TableOps}
use Rattle.xdb_plain.specs.Workers.{tables_over}
use Rattle.xdb_plain.specs.declared.script.Line.{Line}

-- the line behind so many
abbrev pub next_line : List Line → ℕ → Option Line
next_line lines done = first_of (drop done lines)

-- the tables that so many lines define
abbrev pub tables_of_done : List Line → ℕ → List TableOps
tables_of_done lines done = tables_over [] (take done lines)

-- the run that a client's block is looked at in: it depends on the tables alone
abbrev pub client_run : List TableOps → Run
client_run tables = run_at (opening 1 1) [] [] tables
