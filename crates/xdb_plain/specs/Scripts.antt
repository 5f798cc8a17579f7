-- Scripts: lines that are said by those who may say them, keep the limits, and name tables of lines above.
use Rattle.std.specs.Prelude.{ℕ, ◌^◌, Bool, true, false, not, ◌&&◌, ◌||◌, List, [], ◌∷◌, ◌++◌, length, Option, Some, None, nat_le, nat_lt, is_some, is_none}
use Rattle.std.specs.List.{find, list_all}
use Rattle.xdb_key.specs.Ops.{batch_len}
use Rattle.xdb_key.specs.declared.TheConstants.{MAX_VALUE}
use Rattle.xdb_key.specs.declared.op.Op.{Op}
use Rattle.xdb_key.specs.declared.op.Op.TheVariants as op
use Rattle.xdb_plain.specs.State.{same_name}
use Rattle.xdb_plain.specs.Steps.{is_client, is_db}
use Rattle.xdb_plain.specs.Tables.{TableOps}
use Rattle.xdb_plain.specs.declared.act.By.{By}
use Rattle.xdb_plain.specs.declared.act.CommitForm.{CommitForm}
use Rattle.xdb_plain.specs.declared.act.CommitForm.TheVariants as form
use Rattle.xdb_plain.specs.declared.act.Which.{Which}
use Rattle.xdb_plain.specs.declared.act.Which.TheVariants.{Auto, At}
use Rattle.xdb_plain.specs.declared.question.Question.{Question}
use Rattle.xdb_plain.specs.declared.question.Question.TheVariants.{Get, Scan, RScan, Move}
use Rattle.xdb_plain.specs.declared.script.Cmd.{Cmd}
use Rattle.xdb_plain.specs.declared.script.Cmd.TheVariants as cmd
use Rattle.xdb_plain.specs.declared.script.Line.{Line}

abbrev pub is_value_of : Op → Bool
is_value_of (op.Set key value) = nat_le (length value) MAX_VALUE
is_value_of (op.Del key) = true
is_value_of (op.DelSpan range) = true

-- 1 to 4,096 operations within 1 MiB as a batch
abbrev pub are_batch : List Op → Bool
are_batch ops = nat_le 1 (length ops) && nat_le (length ops) 4096 && nat_le (batch_len ops) 1048576 && list_all is_value_of ops

abbrev pub is_set : List Op → Bool
is_set (op.Set key value ∷ []) = true
is_set _ = false

abbrev pub is_del : List Op → Bool
is_del (op.Del key ∷ []) = true
is_del _ = false

abbrev pub is_del_span : List Op → Bool
is_del_span (op.DelSpan range ∷ []) = true
is_del_span _ = false

-- one operation of the form, or a batch
abbrev pub suits_form : CommitForm → List Op → Bool
suits_form form.Put ops = is_set ops && are_batch ops
suits_form form.Del ops = is_del ops && are_batch ops
suits_form form.DelSpan ops = is_del_span ops && are_batch ops
suits_form form.Batch ops = are_batch ops

-- a scan is for 1 to 1,000 pairs
abbrev pub is_limit : ℕ → Bool
is_limit most = nat_le 1 most && nat_le most 1000

abbrev pub suits_question : Question → Bool
suits_question (Get key at) = true
suits_question (Scan range most at) = is_limit most
suits_question (RScan range most at) = is_limit most
suits_question (Move cursor step) = true

-- jobs and questions have the numbers from 1 to 2^56 - 1
abbrev pub is_job_number : ℕ → Bool
is_job_number n = nat_le 1 n && nat_lt n (2 ^ 56)

abbrev pub suits_which : Which → Bool
suits_which Auto = true
suits_which (At level range) = nat_lt level 7

-- the table of a name
abbrev pub found_table : List ℕ → List TableOps → Option TableOps
found_table name tables = find (λ t. same_name t.name name) tables

abbrev pub are_defined : List (List ℕ) → List TableOps → Bool
are_defined names tables = list_all (λ name. is_some (found_table name tables)) names

abbrev pub by_client : Option By → Bool
by_client (Some by) = is_client by
by_client None = false

abbrev pub by_db : Option By → Bool
by_db (Some by) = is_db by
by_db None = false

-- the command may be said by this one where these tables are defined
abbrev pub suits : List TableOps → Option By → Cmd → Bool
suits tables by (cmd.Table table) = is_none by && is_none (found_table table.name tables) && list_all is_value_of table.ops
suits tables by (cmd.Commit form ops) = by_client by && suits_form form ops
suits tables by (cmd.Ask question parted) = by_client by && suits_question question
suits tables by (cmd.Settle ask) = by_client by && is_job_number ask
suits tables by (cmd.Snap name ranges) = by_client by && nat_le 1 (length ranges) && nat_le (length ranges) 8
suits tables by (cmd.Drop name) = by_client by
suits tables by (cmd.Status name form) = by_client by
suits tables by (cmd.Cursor name range at) = by_client by
suits tables by (cmd.Shut name) = by_client by
suits tables by (cmd.Load load names span) = by_client by && nat_le (length names) 16 && are_defined names tables
suits tables by (cmd.Install load) = by_client by
suits tables by cmd.Seal = by_db by
suits tables by cmd.FlushTake = by_db by
suits tables by (cmd.Put job) = by_db by && is_job_number job
suits tables by (cmd.CompactTake which) = by_db by && suits_which which
suits tables by (cmd.Build job) = by_db by && is_job_number job
suits tables by (cmd.Work ask) = by_db by && is_job_number ask
suits tables by cmd.Flush = by_db by
suits tables by (cmd.Compact which) = by_db by && suits_which which
suits tables by cmd.Reap = by_db by
suits tables by (cmd.Show what) = by_db by

-- the tables that are defined below a line
abbrev pub tables_below : List TableOps → Cmd → List TableOps
tables_below tables (cmd.Table table) = tables ++ table ∷ []
tables_below tables _ = tables

-- the lines rise by their numbers, from behind one on, and suit the tables above them
abbrev pub are_lines : ℕ → List TableOps → List Line → Bool
are_lines last tables [] = true
are_lines last tables (line ∷ lines) =
    nat_lt last line.number && suits tables line.by line.cmd && are_lines line.number (tables_below tables line.cmd) lines

abbrev pub is_script : List Line → Bool
is_script lines = are_lines 0 [] lines

-- a command that workers may be given: a client's, and no question in parts
abbrev pub is_for_workers : Cmd → Bool
is_for_workers (cmd.Ask question parted) = not parted
is_for_workers (cmd.Settle ask) = false
is_for_workers _ = true

abbrev pub is_threads_line : Line → Bool
is_threads_line line = (is_none line.by || by_client line.by) && is_for_workers line.cmd
