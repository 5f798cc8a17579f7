-- Short ways to write the lines of a script.
use Rattle.std.specs.Prelude.{ℕ, ◌+◌, true, false, List, [], ◌∷◌, Option, Some, None, codes}
use Rattle.xdb_key.specs.Bounds.{Bounds}
use Rattle.xdb_key.specs.declared.op.Op.{Op}
use Rattle.xdb_key.specs.declared.op.Op.TheVariants.{Set, Del, DelSpan}
use Rattle.xdb_plain.specs.Tables.{TableOps}
use Rattle.xdb_plain.specs.declared.act.By.{By}
use Rattle.xdb_plain.specs.declared.act.By.TheVariants as by
use Rattle.xdb_plain.specs.declared.act.CommitForm.TheVariants as form
use Rattle.xdb_plain.specs.declared.act.Which.TheVariants.{At}
use Rattle.xdb_plain.specs.declared.question.Question.{Question}
use Rattle.xdb_plain.specs.declared.script.Cmd.{Cmd}
use Rattle.xdb_plain.specs.declared.script.Cmd.TheVariants as cmd
use Rattle.xdb_plain.specs.declared.script.Line.{Line}

-- who says a command, and the command
pub record Said : Type 0 where
  pub said_by : Option By
  pub cmd : Cmd

abbrev pub c1 : Cmd → Said
c1 c = record { said_by = Some (by.Client 1); cmd = c }

abbrev pub c2 : Cmd → Said
c2 c = record { said_by = Some (by.Client 2); cmd = c }

abbrev pub db : Cmd → Said
db c = record { said_by = Some by.Db; cmd = c }

-- the table is defined for the lines below
abbrev pub table : TableOps → Said
table t = record { said_by = None; cmd = cmd.Table t }

-- the lines of a script, with the numbers from one on
abbrev pub lines_from : ℕ → List Said → List Line
lines_from number [] = []
lines_from number (s ∷ ss) = record { number = number; by = s.said_by; cmd = s.cmd } ∷ lines_from (number + 1) ss

abbrev pub lines : List Said → List Line
lines said = lines_from 1 said

-- commands of one operation
abbrev pub put : List ℕ → List ℕ → Cmd
put key value = cmd.Commit form.Put (Set key value ∷ [])

abbrev pub del : List ℕ → Cmd
del key = cmd.Commit form.Del (Del key ∷ [])

abbrev pub delspan : Bounds → Cmd
delspan range = cmd.Commit form.DelSpan (DelSpan range ∷ [])

abbrev pub batch : List Op → Cmd
batch ops = cmd.Commit form.Batch ops

-- a load without tables, of a span
abbrev pub excise : List ℕ → Bounds → Cmd
excise load span = cmd.Load load [] (Some span)

-- a group is sealed, flushed as a job, and its table installed
abbrev pub flushed : ℕ → List Said
flushed job = db cmd.Seal ∷ db cmd.FlushTake ∷ db (cmd.Build job) ∷ db (cmd.Put job) ∷ []

-- what that prints of the first group
abbrev pub first_flushed : List (List ℕ)
first_flushed = codes "db seal -> group 1" ∷ codes "db flush-take -> job 1" ∷ codes "db put 1 -> installed" ∷ []

-- a question, and one in parts
abbrev pub ask : Question → Cmd
ask question = cmd.Ask question false

abbrev pub ask_in_parts : Question → Cmd
ask_in_parts question = cmd.Ask question true

abbrev pub compact_l0 : Bounds → Cmd
compact_l0 range = cmd.CompactTake (At 0 range)
