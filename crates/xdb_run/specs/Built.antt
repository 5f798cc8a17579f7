-- Which commands are built.
use Rattle.std.specs.Prelude.{ℕ, Bool, true, false, not, ◌&&◌, List, Option, Some, None}
use Rattle.std.specs.List.{find}
use Rattle.std.specs.Option.{option_map}
use Rattle.xdb_plain.specs.Scripts.{are_batch}
use Rattle.xdb_plain.specs.Steps.{is_client, is_db}
use Rattle.xdb_plain.specs.declared.act.By.{By}
use Rattle.xdb_plain.specs.declared.question.Question.{Question}
use Rattle.xdb_plain.specs.declared.question.Question.TheVariants.{Get, Scan, RScan, Move}
use Rattle.xdb_plain.specs.declared.script.Cmd.{Cmd}
use Rattle.xdb_plain.specs.declared.script.Cmd.TheVariants as cmd
use Rattle.xdb_plain.specs.declared.script.Line.{Line}

-- a question for values, and no move of a cursor
abbrev pub is_read : Question → Bool
is_read (Get key at) = true
is_read (Scan range most at) = true
is_read (RScan range most at) = true
is_read (Move cursor step) = false

-- tables, commits, reads in parts and whole, and the sealing of groups
abbrev pub is_built : Cmd → Bool
is_built (cmd.Table table) = true
is_built (cmd.Commit form ops) = true
is_built (cmd.Ask question parted) = is_read question
is_built (cmd.Settle ask) = true
is_built cmd.Seal = true
is_built (cmd.Work ask) = true
is_built _ = false

-- the first line whose verb isn't built
abbrev pub first_unbuilt : List Line → Option ℕ
first_unbuilt lines = option_map (λ line. line.number) (find (λ line. not (is_built line.cmd)) lines)

-- the one who says such a command may say it, and a commit keeps the limits of a batch
abbrev pub may_run : Option By → Cmd → Bool
may_run None (cmd.Table table) = true
may_run (Some by) (cmd.Commit form ops) = is_client by && are_batch ops
may_run (Some by) (cmd.Ask question parted) = is_client by && is_read question
may_run (Some by) (cmd.Settle ask) = is_client by
may_run (Some by) cmd.Seal = is_db by
may_run (Some by) (cmd.Work ask) = is_db by
may_run _ _ = false

abbrev pub is_run : Line → Bool
is_run line = may_run line.by line.cmd
