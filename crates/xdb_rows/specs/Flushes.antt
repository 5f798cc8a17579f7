-- Histories with flushes, removals and compactions.
use Rattle.std.specs.Prelude.{ℕ, false, List, [], ◌∷◌, ◌++◌, codes}
use Rattle.xdb_edit.specs.Changes.{changes}
use Rattle.xdb_edit.specs.Versions.{no_tables}
use Rattle.xdb_plain.specs.declared.act.Act.TheVariants.{Seal, FlushTake, Put, Build, Reap, Remove, Show}
use Rattle.xdb_plain.specs.declared.act.ShowWhat.TheVariants as show
use Rattle.xdb_plain.specs.declared.answer.Answer.TheVariants.{Value, Absent}
use Rattle.xdb_plain.specs.declared.note.HoldNote.TheVariants.{Hold, Release}
use Rattle.xdb_plain.specs.declared.note.Note.{Note}
use Rattle.xdb_plain.specs.declared.reply.Reply.TheVariants as reply
use Rattle.xdb_plain.specs.declared.script.Cmd.TheVariants as cmd
use Rattle.xdb_plain.specs.declared.script.Line.{Line}
use Rattle.xdb_rows.specs.Lines as line
use Rattle.xdb_rows.specs.Notes.{c1, db, holding, changing, trying, from_to, table_of_key, put, del, read, get, put_flush, flushed, levels_0, compact_l0, ask_held, ask_answered}

-- a change between the take of a flush and its put
abbrev pub change_between_take_and_put : List Note
change_between_take_and_put =
    c1 (put (codes "a") (codes "1")) reply.Done
    ∷ db Seal (reply.Group 1)
    ∷ db FlushTake (reply.Job 1)
    ∷ db FlushTake reply.Nothing
    ∷ c1 (put (codes "a") (codes "2")) reply.Done
    ∷ db (Put 1) reply.NotYet
    ∷ put_flush 1 (table_of_key 1 (codes "a") 1)
    ∷ read 1 (get (codes "a")) 1 1 (Value (codes "2"))
    ++ db (Show show.Levels) (reply.Levels (levels_0 (table_of_key 1 (codes "a") 1 ∷ [])))
    ∷ db (Show show.Counts) (reply.Counts ((1, 1) ∷ []))
    ∷ db (Put 1) reply.NoSuch
    ∷ []

abbrev pub change_between_take_and_put_script : List Line
change_between_take_and_put_script =
    line.lines (line.c1 (line.put (codes "a") (codes "1"))
    ∷ line.db cmd.Seal
    ∷ line.db cmd.FlushTake
    ∷ line.db cmd.FlushTake
    ∷ line.c1 (line.put (codes "a") (codes "2"))
    ∷ line.db (cmd.Put 1)
    ∷ line.db (cmd.Build 1)
    ∷ line.db (cmd.Put 1)
    ∷ line.c1 (line.ask (get (codes "a")))
    ∷ line.db (cmd.Show show.Levels)
    ∷ line.db (cmd.Show show.Counts)
    ∷ line.db (cmd.Put 1)
    ∷ [])

abbrev pub change_between_take_and_put_text : List (List ℕ)
change_between_take_and_put_text =
    codes "c1 put a 1 -> done"
    ∷ codes "db seal -> group 1"
    ∷ codes "db flush-take -> job 1"
    ∷ codes "db flush-take -> none"
    ∷ codes "c1 put a 2 -> done"
    ∷ codes "db put 1 -> not-yet"
    ∷ codes "db put 1 -> installed"
    ∷ codes "c1 get a -> value 2"
    ∷ codes "db show levels -> L0 1[a,a%00)"
    ∷ codes "db show counts -> 1=1"
    ∷ codes "db put 1 -> no-such"
    ∷ []

-- one fault of the device licenses one line
abbrev pub one_fault_one_line : List Note
one_fault_one_line =
    c1 (put (codes "a") (codes "1")) reply.Done
    ∷ db Seal (reply.Group 1)
    ∷ db FlushTake (reply.Job 1)
    ∷ trying (db (Build 1) reply.Fault) (1 ∷ [])
    ∷ read 1 (get (codes "a")) 1 0 (Value (codes "1"))
    ++ db FlushTake (reply.Job 2)
    ∷ put_flush 2 (table_of_key 2 (codes "a") 1)
    ∷ read 2 (get (codes "a")) 2 1 (Value (codes "1"))
    ++ db Reap (reply.Took 1)
    ∷ []

abbrev pub one_fault_one_line_script : List Line
one_fault_one_line_script =
    line.lines (line.c1 (line.put (codes "a") (codes "1"))
    ∷ line.db cmd.Seal
    ∷ line.db cmd.FlushTake
    ∷ line.db (cmd.Build 1)
    ∷ line.c1 (line.ask (get (codes "a")))
    ∷ line.db cmd.FlushTake
    ∷ line.db (cmd.Build 2)
    ∷ line.db (cmd.Put 2)
    ∷ line.c1 (line.ask (get (codes "a")))
    ∷ [])

abbrev pub one_fault_one_line_text : List (List ℕ)
one_fault_one_line_text =
    codes "c1 put a 1 -> done"
    ∷ codes "db seal -> group 1"
    ∷ codes "db flush-take -> job 1"
    ∷ codes "db build 1 -> fault"
    ∷ codes "c1 get a -> value 1"
    ∷ codes "db flush-take -> job 2"
    ∷ codes "db put 2 -> installed"
    ∷ codes "c1 get a -> value 1"
    ∷ codes "db reap -> 1"
    ∷ []

-- a read that fails
abbrev pub read_fails : List Note
read_fails =
    c1 (put (codes "a") (codes "1")) reply.Done
    ∷ flushed 1 1 (table_of_key 1 (codes "a") 1)
    ++ ask_held 1 (get (codes "a")) false (Hold 1 1)
    ∷ ask_answered 1 (get (codes "a")) 1 reply.Fault
    ∷ read 2 (get (codes "a")) 2 1 (Value (codes "1"))

abbrev pub read_fails_script : List Line
read_fails_script =
    line.lines (line.c1 (line.put (codes "a") (codes "1"))
    ∷ line.flushed 1
    ++ line.c1 (line.ask (get (codes "a")))
    ∷ line.c1 (line.ask (get (codes "a")))
    ∷ [])

abbrev pub read_fails_text : List (List ℕ)
read_fails_text =
    codes "c1 put a 1 -> done"
    ∷ line.first_flushed
    ++ codes "c1 get a -> fault"
    ∷ codes "c1 get a -> value 1"
    ∷ []

-- a flush whose file is begun in vain, and cannot be removed
abbrev pub flush_and_removal_fail : List Note
flush_and_removal_fail =
    c1 (put (codes "a") (codes "1")) reply.Done
    ∷ db Seal (reply.Group 1)
    ∷ db FlushTake (reply.Job 1)
    ∷ trying (db (Build 1) reply.Fault) (1 ∷ [])
    ∷ db Reap (reply.Took 1)
    ∷ db (Remove 1) reply.Stuck
    ∷ db Reap reply.Nothing
    ∷ read 1 (get (codes "a")) 1 0 (Value (codes "1"))

abbrev pub flush_and_removal_fail_script : List Line
flush_and_removal_fail_script =
    line.lines (line.c1 (line.put (codes "a") (codes "1"))
    ∷ line.db cmd.Seal
    ∷ line.db cmd.FlushTake
    ∷ line.db (cmd.Build 1)
    ∷ line.db cmd.Reap
    ∷ line.db cmd.Reap
    ∷ line.c1 (line.ask (get (codes "a")))
    ∷ [])

abbrev pub flush_and_removal_fail_text : List (List ℕ)
flush_and_removal_fail_text =
    codes "c1 put a 1 -> done"
    ∷ codes "db seal -> group 1"
    ∷ codes "db flush-take -> job 1"
    ∷ codes "db build 1 -> fault"
    ∷ codes "db reap -> 1"
    ∷ codes "db remove 1 -> stuck"
    ∷ codes "db reap -> none"
    ∷ codes "c1 get a -> value 1"
    ∷ []

-- a delete and what it deletes leave nothing
abbrev pub compaction_to_nothing : List Note
compaction_to_nothing =
    c1 (put (codes "a") (codes "1")) reply.Done
    ∷ flushed 1 1 (table_of_key 1 (codes "a") 1)
    ++ c1 (del (codes "a")) reply.Done
    ∷ flushed 2 2 (table_of_key 2 (codes "a") 2)
    ++ db (Show show.Levels) (reply.Levels (levels_0 (table_of_key 1 (codes "a") 1 ∷ table_of_key 2 (codes "a") 2 ∷ [])))
    ∷ holding (db (compact_l0 (from_to (codes "a") (codes "b"))) (reply.Job 3)) (Hold 1 2 ∷ [])
    ∷ db (compact_l0 (from_to (codes "a") (codes "b"))) reply.Nothing
    ∷ holding (changing (db (Put 3) reply.Installed) (changes ((0, 1) ∷ (0, 2) ∷ []) [] [])) (Release 1 ∷ [])
    ∷ db (Show show.Levels) (reply.Levels no_tables)
    ∷ read 1 (get (codes "a")) 2 3 Absent
    ++ db Reap (reply.Took 1)
    ∷ db Reap (reply.Took 2)
    ∷ []

abbrev pub compaction_to_nothing_script : List Line
compaction_to_nothing_script =
    line.lines (line.c1 (line.put (codes "a") (codes "1"))
    ∷ line.flushed 1
    ++ line.c1 (line.del (codes "a"))
    ∷ line.flushed 2
    ++ line.db (cmd.Show show.Levels)
    ∷ line.db (line.compact_l0 (from_to (codes "a") (codes "b")))
    ∷ line.db (line.compact_l0 (from_to (codes "a") (codes "b")))
    ∷ line.db (cmd.Build 3)
    ∷ line.db (cmd.Put 3)
    ∷ line.db (cmd.Show show.Levels)
    ∷ line.c1 (line.ask (get (codes "a")))
    ∷ [])

abbrev pub compaction_to_nothing_text : List (List ℕ)
compaction_to_nothing_text =
    codes "c1 put a 1 -> done"
    ∷ line.first_flushed
    ++ codes "c1 del a -> done"
    ∷ codes "db seal -> group 2"
    ∷ codes "db flush-take -> job 2"
    ∷ codes "db put 2 -> installed"
    ∷ codes "db show levels -> L0 1[a,a%00) 2[a,a%00)"
    ∷ codes "db compact-take 0 a b -> job 3"
    ∷ codes "db compact-take 0 a b -> none"
    ∷ codes "db put 3 -> installed"
    ∷ codes "db show levels -> none"
    ∷ codes "c1 get a -> none"
    ∷ codes "db reap -> 1"
    ∷ codes "db reap -> 2"
    ∷ []
