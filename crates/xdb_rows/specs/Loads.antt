-- Histories with loads of tables.
use Rattle.std.specs.Prelude.{ℕ, List, [], ◌∷◌, ◌++◌, None, codes}
use Rattle.xdb_key.specs.declared.op.Op.TheVariants.{Set}
use Rattle.xdb_edit.specs.Changes.{changes}
use Rattle.xdb_plain.specs.Tables.{TableOps, table_ops}
use Rattle.xdb_plain.specs.declared.act.Act.TheVariants.{FlushTake, LoadOpen, Install, Reap, Show}
use Rattle.xdb_plain.specs.declared.act.ShowWhat.TheVariants as show
use Rattle.xdb_plain.specs.declared.answer.Answer.TheVariants.{Value, Absent, Found}
use Rattle.xdb_plain.specs.declared.note.Note.{Note}
use Rattle.xdb_plain.specs.declared.reply.Reply.TheVariants as reply
use Rattle.xdb_plain.specs.declared.script.Cmd.TheVariants as cmd
use Rattle.xdb_plain.specs.declared.script.Line.{Line}
use Rattle.xdb_rows.specs.Lines as line
use Rattle.xdb_rows.specs.Notes.{c1, db, trying, from_to, from_upto, table_of_key, loaded_table, put, read, get, scan, put_flush, excise, install, load, levels_0, levels_0_6}

-- a fence, and a retry
abbrev pub fence_and_retry : List Note
fence_and_retry =
    c1 (put (codes "b") (codes "1")) reply.Done
    ∷ excise (codes "l1") (from_to (codes "a") (codes "m"))
    ∷ c1 (put (codes "c") (codes "2")) (reply.Fenced (codes "l1"))
    ∷ c1 (put (codes "x") (codes "3")) reply.Done
    ∷ c1 (Install (codes "l1")) (reply.Waits 1)
    ∷ db FlushTake (reply.Job 1)
    ∷ put_flush 1 (table_of_key 1 (codes "b") 1)
    ∷ install (codes "l1") (changes ((0, 1) ∷ []) [] [])
    ∷ c1 (put (codes "c") (codes "2")) reply.Done
    ∷ read 1 (get (codes "b")) 1 2 Absent
    ++ read 2 (get (codes "c")) 2 2 (Value (codes "2"))
    ++ db Reap (reply.Took 1)
    ∷ []

abbrev pub fence_and_retry_script : List Line
fence_and_retry_script =
    line.lines (line.c1 (line.put (codes "b") (codes "1"))
    ∷ line.c1 (line.excise (codes "l1") (from_to (codes "a") (codes "m")))
    ∷ line.c1 (line.put (codes "c") (codes "2"))
    ∷ line.c1 (line.put (codes "x") (codes "3"))
    ∷ line.c1 (cmd.Install (codes "l1"))
    ∷ line.db cmd.FlushTake
    ∷ line.db (cmd.Build 1)
    ∷ line.db (cmd.Put 1)
    ∷ line.c1 (cmd.Install (codes "l1"))
    ∷ line.c1 (line.put (codes "c") (codes "2"))
    ∷ line.c1 (line.ask (get (codes "b")))
    ∷ line.c1 (line.ask (get (codes "c")))
    ∷ [])

abbrev pub fence_and_retry_text : List (List ℕ)
fence_and_retry_text =
    codes "c1 put b 1 -> done"
    ∷ codes "c1 load l1 excise a m -> opened"
    ∷ codes "c1 put c 2 -> fenced l1"
    ∷ codes "c1 put x 3 -> done"
    ∷ codes "c1 install l1 -> waits 1"
    ∷ codes "db flush-take -> job 1"
    ∷ codes "db put 1 -> installed"
    ∷ codes "c1 install l1 -> installed"
    ∷ codes "c1 put c 2 -> done"
    ∷ codes "c1 get b -> none"
    ∷ codes "c1 get c -> value 2"
    ∷ codes "db reap -> 1"
    ∷ []

abbrev pub a_and_c : TableOps
a_and_c = table_ops (codes "t1") (Set (codes "a") (codes "1") ∷ Set (codes "c") (codes "2") ∷ [])

abbrev pub only_b : TableOps
only_b = table_ops (codes "t2") (Set (codes "b") (codes "3") ∷ [])

-- tables that meet, and a load of nothing
abbrev pub refused_tables : List Note
refused_tables =
    c1 (LoadOpen (codes "l1") (a_and_c ∷ only_b ∷ []) None) (reply.Overlap (codes "t1") (codes "t2"))
    ∷ c1 (LoadOpen (codes "l1") [] None) reply.Nothing
    ∷ c1 (Install (codes "l1")) reply.NoSuch
    ∷ read 1 (get (codes "a")) 1 0 Absent

abbrev pub refused_tables_script : List Line
refused_tables_script =
    line.lines (line.table a_and_c
    ∷ line.table only_b
    ∷ line.c1 (cmd.Load (codes "l1") (codes "t1" ∷ codes "t2" ∷ []) None)
    ∷ line.c1 (cmd.Load (codes "l1") [] None)
    ∷ line.c1 (cmd.Install (codes "l1"))
    ∷ line.c1 (line.ask (get (codes "a")))
    ∷ [])

abbrev pub refused_tables_text : List (List ℕ)
refused_tables_text =
    codes "c1 load l1 t1 t2 -> overlap t1 t2"
    ∷ codes "c1 load l1 -> nothing"
    ∷ codes "c1 install l1 -> no-such"
    ∷ codes "c1 get a -> none"
    ∷ []

abbrev pub a_to_c : TableOps
a_to_c = table_ops (codes "t") (Set (codes "a") (codes "1") ∷ Set (codes "c") (codes "3") ∷ [])

-- a load waits for what isn't in tables yet, and goes on top of it
abbrev pub load_waits : List Note
load_waits =
    c1 (put (codes "b") (codes "0")) reply.Done
    ∷ load (codes "l1") (a_to_c ∷ []) None
    ++ c1 (put (codes "c") (codes "2")) (reply.Fenced (codes "l1"))
    ∷ c1 (Install (codes "l1")) (reply.Waits 1)
    ∷ db FlushTake (reply.Job 1)
    ∷ put_flush 1 (table_of_key 2 (codes "b") 1)
    ∷ install (codes "l1") (changes [] (1 ∷ []) ((0, loaded_table 1 (from_upto (codes "a") (codes "c")) 2 90) ∷ []))
    ∷ read 1 (scan (from_to (codes "a") (codes "z"))) 1 2 (Found ((codes "a", codes "1") ∷ (codes "b", codes "0") ∷ (codes "c", codes "3") ∷ []))
    ++ db (Show show.Levels) (reply.Levels (levels_0 (table_of_key 2 (codes "b") 1 ∷ loaded_table 1 (from_upto (codes "a") (codes "c")) 2 90 ∷ [])))
    ∷ []

abbrev pub load_waits_script : List Line
load_waits_script =
    line.lines (line.c1 (line.put (codes "b") (codes "0"))
    ∷ line.table a_to_c
    ∷ line.c1 (cmd.Load (codes "l1") (codes "t" ∷ []) None)
    ∷ line.c1 (line.put (codes "c") (codes "2"))
    ∷ line.c1 (cmd.Install (codes "l1"))
    ∷ line.db cmd.FlushTake
    ∷ line.db (cmd.Build 1)
    ∷ line.db (cmd.Put 1)
    ∷ line.c1 (cmd.Install (codes "l1"))
    ∷ line.c1 (line.ask (scan (from_to (codes "a") (codes "z"))))
    ∷ line.db (cmd.Show show.Levels)
    ∷ [])

abbrev pub load_waits_text : List (List ℕ)
load_waits_text =
    codes "c1 put b 0 -> done"
    ∷ codes "c1 load l1 t -> opened"
    ∷ codes "c1 put c 2 -> fenced l1"
    ∷ codes "c1 install l1 -> waits 1"
    ∷ codes "db flush-take -> job 1"
    ∷ codes "db put 1 -> installed"
    ∷ codes "c1 install l1 -> installed"
    ∷ codes "c1 scan a z 10 -> found a=1 b=0 c=3"
    ∷ codes "db show levels -> L0 2[b,b%00) 1[a,c%00)"
    ∷ []

abbrev pub only_a : TableOps
only_a = table_ops (codes "t") (Set (codes "a") (codes "1") ∷ [])

-- a load whose table couldn't be written frees its name, and its number is tried
abbrev pub load_fails : List Note
load_fails =
    c1 (LoadOpen (codes "l1") (only_a ∷ []) None) reply.Opening
    ∷ trying (c1 (LoadOpen (codes "l1") (only_a ∷ []) None) reply.Fault) (1 ∷ [])
    ∷ load (codes "l1") (only_a ∷ []) None
    ++ install (codes "l1") (changes [] (2 ∷ []) ((6, loaded_table 2 (from_upto (codes "a") (codes "a")) 1 85) ∷ []))
    ∷ db (Show show.Levels) (reply.Levels (levels_0_6 [] (loaded_table 2 (from_upto (codes "a") (codes "a")) 1 85 ∷ [])))
    ∷ db Reap (reply.Took 1)
    ∷ []

abbrev pub load_fails_script : List Line
load_fails_script =
    line.lines (line.table only_a
    ∷ line.c1 (cmd.Load (codes "l1") (codes "t" ∷ []) None)
    ∷ line.c1 (cmd.Load (codes "l1") (codes "t" ∷ []) None)
    ∷ line.c1 (cmd.Install (codes "l1"))
    ∷ line.db (cmd.Show show.Levels)
    ∷ [])

abbrev pub load_fails_text : List (List ℕ)
load_fails_text =
    codes "c1 load l1 t -> fault"
    ∷ codes "c1 load l1 t -> opened"
    ∷ codes "c1 install l1 -> installed"
    ∷ codes "db show levels -> L6 2[a,a%00)"
    ∷ codes "db reap -> 1"
    ∷ []
