-- Histories with loads that cut out a span.
use Rattle.std.specs.Prelude.{ℕ, true, List, [], ◌∷◌, ◌++◌, replicate, Some, None, codes}
use Rattle.xdb_key.specs.Bounds.{successor}
use Rattle.xdb_key.specs.declared.op.Op.{Op}
use Rattle.xdb_key.specs.declared.op.Op.TheVariants.{Set, Del}
use Rattle.xdb_meta.specs.Table.{Table}
use Rattle.xdb_edit.specs.Changes.{changes}
use Rattle.xdb_edit.specs.Versions.{no_tables}
use Rattle.xdb_plain.specs.Tables.{TableOps, table_ops}
use Rattle.xdb_plain.specs.declared.act.Act.TheVariants.{FlushTake, CompactTake, Put, Install, Snap, Settle, Reap, Remove, Show}
use Rattle.xdb_plain.specs.declared.act.ShowWhat.TheVariants as show
use Rattle.xdb_plain.specs.declared.act.Which.TheVariants.{Auto}
use Rattle.xdb_plain.specs.declared.answer.Answer.TheVariants.{Value, Absent, Found}
use Rattle.xdb_plain.specs.declared.note.HoldNote.TheVariants.{Hold, Release}
use Rattle.xdb_plain.specs.declared.note.Note.{Note}
use Rattle.xdb_plain.specs.declared.question.Question.TheVariants.{Scan}
use Rattle.xdb_plain.specs.declared.reply.Reply.TheVariants as reply
use Rattle.xdb_plain.specs.declared.script.Cmd.TheVariants as cmd
use Rattle.xdb_plain.specs.declared.script.Line.{Line}
use Rattle.xdb_rows.specs.Lines as line
use Rattle.xdb_rows.specs.Notes.{c1, c2, db, holding, changing, trying, from_to, from_upto, file_table, table_of_key, loaded_table, half_of, put, delspan, batch, read, get, scan, put_flush, flushed, excise, install, load, levels_0, levels_0_6, compact_l0, let_go, ask_held}

abbrev pub five_keys : List Op
five_keys =
    Set (codes "a") (codes "1") ∷ Set (codes "b") (codes "2") ∷ Set (codes "c") (codes "3") ∷ Set (codes "d") (codes "4") ∷ Set (codes "e") (codes "5") ∷ []

abbrev pub a_to_e : Table
a_to_e = file_table 1 (from_upto (codes "a") (codes "e")) 1 5 120

abbrev pub left_of_five : Table
left_of_five = half_of a_to_e 2 (from_upto (codes "a") (codes "a"))

abbrev pub right_of_five : Table
right_of_five = half_of a_to_e 3 (from_to (codes "d") (successor (codes "e")))

-- two halves over one backing
abbrev pub two_halves : List Note
two_halves =
    c1 (batch five_keys) reply.Done
    ∷ flushed 1 1 a_to_e
    ++ excise (codes "l1") (from_to (codes "b") (codes "d"))
    ∷ install (codes "l1") (changes ((0, 1) ∷ []) [] ((0, left_of_five) ∷ (0, right_of_five) ∷ []))
    ∷ db (Show show.Levels) (reply.Levels (levels_0 (left_of_five ∷ right_of_five ∷ [])))
    ∷ db (Show show.Counts) (reply.Counts ((1, 2) ∷ []))
    ∷ read 1 (scan (from_to (codes "a") (codes "z"))) 1 2 (Found ((codes "a", codes "1") ∷ (codes "d", codes "4") ∷ (codes "e", codes "5") ∷ []))

abbrev pub two_halves_script : List Line
two_halves_script =
    line.lines (line.c1 (line.batch five_keys)
    ∷ line.flushed 1
    ++ line.c1 (line.excise (codes "l1") (from_to (codes "b") (codes "d")))
    ∷ line.c1 (cmd.Install (codes "l1"))
    ∷ line.db (cmd.Show show.Levels)
    ∷ line.db (cmd.Show show.Counts)
    ∷ line.c1 (line.ask (scan (from_to (codes "a") (codes "z"))))
    ∷ [])

abbrev pub two_halves_text : List (List ℕ)
two_halves_text =
    codes "c1 batch set a 1 ; set b 2 ; set c 3 ; set d 4 ; set e 5 -> done"
    ∷ line.first_flushed
    ++ codes "c1 load l1 excise b d -> opened"
    ∷ codes "c1 install l1 -> installed"
    ∷ codes "db show levels -> L0 2@1[a,a%00) 3@1[d,e%00)"
    ∷ codes "db show counts -> 1=2"
    ∷ codes "c1 scan a z 10 -> found a=1 d=4 e=5"
    ∷ []

-- a table wholly inside the span, and reaping twice
abbrev pub whole_table_reaped : List Note
whole_table_reaped =
    c1 (put (codes "b") (codes "1")) reply.Done
    ∷ flushed 1 1 (table_of_key 1 (codes "b") 1)
    ++ excise (codes "l1") (from_to (codes "a") (codes "z"))
    ∷ install (codes "l1") (changes ((0, 1) ∷ []) [] [])
    ∷ db (Show show.Levels) (reply.Levels no_tables)
    ∷ db Reap (reply.Took 1)
    ∷ db Reap reply.Nothing
    ∷ []

abbrev pub whole_table_reaped_script : List Line
whole_table_reaped_script =
    line.lines (line.c1 (line.put (codes "b") (codes "1"))
    ∷ line.flushed 1
    ++ line.c1 (line.excise (codes "l1") (from_to (codes "a") (codes "z")))
    ∷ line.c1 (cmd.Install (codes "l1"))
    ∷ line.db (cmd.Show show.Levels)
    ∷ line.db cmd.Reap
    ∷ line.db cmd.Reap
    ∷ [])

abbrev pub whole_table_reaped_text : List (List ℕ)
whole_table_reaped_text =
    codes "c1 put b 1 -> done"
    ∷ line.first_flushed
    ++ codes "c1 load l1 excise a z -> opened"
    ∷ codes "c1 install l1 -> installed"
    ∷ codes "db show levels -> none"
    ∷ codes "db reap -> 1"
    ∷ codes "db reap -> none"
    ∷ []

-- a removal that fails
abbrev pub removal_fails : List Note
removal_fails =
    c1 (put (codes "b") (codes "1")) reply.Done
    ∷ flushed 1 1 (table_of_key 1 (codes "b") 1)
    ++ excise (codes "l1") (from_to (codes "a") (codes "z"))
    ∷ install (codes "l1") (changes ((0, 1) ∷ []) [] [])
    ∷ db Reap (reply.Took 1)
    ∷ db (Remove 1) reply.Stuck
    ∷ db Reap reply.Nothing
    ∷ []

abbrev pub removal_fails_script : List Line
removal_fails_script =
    line.lines (line.c1 (line.put (codes "b") (codes "1"))
    ∷ line.flushed 1
    ++ line.c1 (line.excise (codes "l1") (from_to (codes "a") (codes "z")))
    ∷ line.c1 (cmd.Install (codes "l1"))
    ∷ line.db cmd.Reap
    ∷ line.db cmd.Reap
    ∷ [])

abbrev pub removal_fails_text : List (List ℕ)
removal_fails_text =
    codes "c1 put b 1 -> done"
    ∷ line.first_flushed
    ++ codes "c1 load l1 excise a z -> opened"
    ∷ codes "c1 install l1 -> installed"
    ∷ codes "db reap -> 1"
    ∷ codes "db remove 1 -> stuck"
    ∷ codes "db reap -> none"
    ∷ []

abbrev pub a_to_z : Table
a_to_z = file_table 1 (from_upto (codes "a") (codes "z")) 1 2 90

-- an excise that deletes no key: it begins behind the first and ends at the last
abbrev pub excise_of_nothing : List Note
excise_of_nothing =
    c1 (batch (Set (codes "a") (codes "1") ∷ Set (codes "z") (codes "2") ∷ [])) reply.Done
    ∷ flushed 1 1 a_to_z
    ++ excise (codes "l1") (from_to (successor (codes "a")) (codes "z"))
    ∷ install (codes "l1") (changes ((0, 1) ∷ []) [] ((0, half_of a_to_z 2 (from_upto (codes "a") (codes "a"))) ∷ (0, half_of a_to_z 3 (from_upto (codes "z") (codes "z"))) ∷ []))
    ∷ db (Show show.Levels) (reply.Levels (levels_0 (half_of a_to_z 2 (from_upto (codes "a") (codes "a")) ∷ half_of a_to_z 3 (from_upto (codes "z") (codes "z")) ∷ [])))
    ∷ []

abbrev pub excise_of_nothing_script : List Line
excise_of_nothing_script =
    line.lines (line.c1 (line.batch (Set (codes "a") (codes "1") ∷ Set (codes "z") (codes "2") ∷ []))
    ∷ line.flushed 1
    ++ line.c1 (line.excise (codes "l1") (from_to (successor (codes "a")) (codes "z")))
    ∷ line.c1 (cmd.Install (codes "l1"))
    ∷ line.db (cmd.Show show.Levels)
    ∷ [])

abbrev pub excise_of_nothing_text : List (List ℕ)
excise_of_nothing_text =
    codes "c1 batch set a 1 ; set z 2 -> done"
    ∷ line.first_flushed
    ++ codes "c1 load l1 excise a%00 z -> opened"
    ∷ codes "c1 install l1 -> installed"
    ∷ codes "db show levels -> L0 2@1[a,a%00) 3@1[z,z%00)"
    ∷ []

abbrev pub a_to_d : Table
a_to_d = file_table 1 (from_upto (codes "a") (codes "d")) 1 2 90

-- a compaction has the file numbers 2 to 65, so the halves have 66 and 67
abbrev pub cancelled_compaction : List Note
cancelled_compaction =
    c1 (batch (Set (codes "a") (codes "1") ∷ Set (codes "d") (codes "2") ∷ [])) reply.Done
    ∷ flushed 1 1 a_to_d
    ++ holding (db (compact_l0 (from_to (codes "a") (codes "z"))) (reply.Job 2)) (Hold 1 1 ∷ [])
    ∷ excise (codes "l1") (from_to (codes "b") (codes "c"))
    ∷ install (codes "l1") (changes ((0, 1) ∷ []) [] ((0, half_of a_to_d 66 (from_upto (codes "a") (codes "a"))) ∷ (0, half_of a_to_d 67 (from_upto (codes "d") (codes "d"))) ∷ []))
    ∷ holding (trying (db (Put 2) (reply.Cancelled (codes "l1"))) (2 ∷ [])) (Release 1 ∷ [])
    ∷ db (Show show.Levels) (reply.Levels (levels_0 (half_of a_to_d 66 (from_upto (codes "a") (codes "a")) ∷ half_of a_to_d 67 (from_upto (codes "d") (codes "d")) ∷ [])))
    ∷ db Reap (reply.Took 2)
    ∷ []

abbrev pub cancelled_compaction_script : List Line
cancelled_compaction_script =
    line.lines (line.c1 (line.batch (Set (codes "a") (codes "1") ∷ Set (codes "d") (codes "2") ∷ []))
    ∷ line.flushed 1
    ++ line.db (line.compact_l0 (from_to (codes "a") (codes "z")))
    ∷ line.c1 (line.excise (codes "l1") (from_to (codes "b") (codes "c")))
    ∷ line.c1 (cmd.Install (codes "l1"))
    ∷ line.db (cmd.Build 2)
    ∷ line.db (cmd.Put 2)
    ∷ line.db (cmd.Show show.Levels)
    ∷ line.db cmd.Reap
    ∷ [])

abbrev pub cancelled_compaction_text : List (List ℕ)
cancelled_compaction_text =
    codes "c1 batch set a 1 ; set d 2 -> done"
    ∷ line.first_flushed
    ++ codes "db compact-take 0 a z -> job 2"
    ∷ codes "c1 load l1 excise b c -> opened"
    ∷ codes "c1 install l1 -> installed"
    ∷ codes "db put 2 -> cancelled l1"
    ∷ codes "db show levels -> L0 66@1[a,a%00) 67@1[d,d%00)"
    ∷ codes "db reap -> 2"
    ∷ []

abbrev pub b_x_z : TableOps
b_x_z = table_ops (codes "t") (Set (codes "b") (codes "1") ∷ Set (codes "x") (codes "2") ∷ Set (codes "z") (codes "3") ∷ [])

abbrev pub b_to_z : Table
b_to_z = loaded_table 1 (from_upto (codes "b") (codes "z")) 1 100

abbrev pub a_to_b : ℕ → Table
a_to_b num = file_table num (from_upto (codes "a") (codes "b")) 2 3 90

-- an excise beside the hull of a compaction, with a table that reaches over both
abbrev pub excise_beside_hull : List Note
excise_beside_hull =
    load (codes "l1") (b_x_z ∷ []) None
    ++ install (codes "l1") (changes [] (1 ∷ []) ((6, b_to_z) ∷ []))
    ∷ c1 (batch (Set (codes "a") (codes "4") ∷ Del (codes "b") ∷ [])) reply.Done
    ∷ flushed 1 1 (a_to_b 2)
    ++ holding (db (compact_l0 (from_to (codes "a") (codes "z"))) (reply.Job 2)) (Hold 1 2 ∷ [])
    ∷ excise (codes "l2") (from_to (codes "x") (codes "y"))
    ∷ install (codes "l2") (changes ((6, 1) ∷ []) [] ((6, half_of b_to_z 67 (from_upto (codes "b") (codes "b"))) ∷ (6, half_of b_to_z 68 (from_upto (codes "z") (codes "z"))) ∷ []))
    ∷ holding (changing (db (Put 2) reply.Installed) (changes ((0, 2) ∷ []) (3 ∷ []) ((1, a_to_b 3) ∷ []))) (Release 1 ∷ [])
    ∷ db (Show show.Levels) (reply.Levels ([] ∷ (a_to_b 3 ∷ []) ∷ [] ∷ [] ∷ [] ∷ [] ∷ (half_of b_to_z 67 (from_upto (codes "b") (codes "b")) ∷ half_of b_to_z 68 (from_upto (codes "z") (codes "z")) ∷ []) ∷ []))
    ∷ db Reap (reply.Took 2)
    ∷ read 1 (scan (from_to (codes "a") (codes "zz"))) 2 4 (Found ((codes "a", codes "4") ∷ (codes "z", codes "3") ∷ []))

abbrev pub excise_beside_hull_script : List Line
excise_beside_hull_script =
    line.lines (line.table b_x_z
    ∷ line.c1 (cmd.Load (codes "l1") (codes "t" ∷ []) None)
    ∷ line.c1 (cmd.Install (codes "l1"))
    ∷ line.c1 (line.batch (Set (codes "a") (codes "4") ∷ Del (codes "b") ∷ []))
    ∷ line.flushed 1
    ++ line.db (line.compact_l0 (from_to (codes "a") (codes "z")))
    ∷ line.c1 (line.excise (codes "l2") (from_to (codes "x") (codes "y")))
    ∷ line.c1 (cmd.Install (codes "l2"))
    ∷ line.db (cmd.Build 2)
    ∷ line.db (cmd.Put 2)
    ∷ line.db (cmd.Show show.Levels)
    ∷ line.db cmd.Reap
    ∷ line.c1 (line.ask (scan (from_to (codes "a") (codes "zz"))))
    ∷ [])

abbrev pub excise_beside_hull_text : List (List ℕ)
excise_beside_hull_text =
    codes "c1 load l1 t -> opened"
    ∷ codes "c1 install l1 -> installed"
    ∷ codes "c1 batch set a 4 ; del b -> done"
    ∷ line.first_flushed
    ++ codes "db compact-take 0 a z -> job 2"
    ∷ codes "c1 load l2 excise x y -> opened"
    ∷ codes "c1 install l2 -> installed"
    ∷ codes "db put 2 -> installed"
    ∷ codes "db show levels -> L1 3[a,b%00) L6 67@1[b,b%00) 68@1[z,z%00)"
    ∷ codes "db reap -> 2"
    ∷ codes "c1 scan a zz 10 -> found a=4 z=3"
    ∷ []

-- the answer of the question's moment
abbrev pub answer_of_the_asking : List Note
answer_of_the_asking =
    c1 (put (codes "c") (codes "1")) reply.Done
    ∷ flushed 1 1 (table_of_key 1 (codes "c") 1)
    ++ ask_held 1 (get (codes "c")) true (Hold 1 1)
    ∷ excise (codes "l1") (from_to (codes "a") (codes "m"))
    ∷ install (codes "l1") (changes ((0, 1) ∷ []) [] [])
    ∷ c1 (Settle 1) reply.NotYet
    ∷ let_go (Settle 1) (reply.Answered (Value (codes "1"))) 1
    ∷ read 2 (get (codes "c")) 2 2 Absent
    ++ db Reap (reply.Took 1)
    ∷ []

abbrev pub answer_of_the_asking_script : List Line
answer_of_the_asking_script =
    line.lines (line.c1 (line.put (codes "c") (codes "1"))
    ∷ line.flushed 1
    ++ line.c1 (line.ask_in_parts (get (codes "c")))
    ∷ line.c1 (line.excise (codes "l1") (from_to (codes "a") (codes "m")))
    ∷ line.c1 (cmd.Install (codes "l1"))
    ∷ line.c1 (cmd.Settle 1)
    ∷ line.db (cmd.Work 1)
    ∷ line.c1 (cmd.Settle 1)
    ∷ line.c1 (line.ask (get (codes "c")))
    ∷ [])

abbrev pub answer_of_the_asking_text : List (List ℕ)
answer_of_the_asking_text =
    codes "c1 put c 1 -> done"
    ∷ line.first_flushed
    ++ codes "c1 begin get c -> asked 1"
    ∷ codes "c1 load l1 excise a m -> opened"
    ∷ codes "c1 install l1 -> installed"
    ∷ codes "c1 settle 1 -> not-yet"
    ∷ codes "c1 settle 1 -> value 1"
    ∷ codes "c1 get c -> none"
    ∷ codes "db reap -> 1"
    ∷ []

abbrev pub b_to_m : Table
b_to_m = file_table 1 (from_upto (codes "b") (codes "m")) 1 2 90

abbrev pub deleted_a_to_z : Table
deleted_a_to_z = file_table 2 (from_to (codes "a") (codes "z")) 3 3 80

abbrev pub only_m : TableOps
only_m = table_ops (codes "t1") (Set (codes "m") (codes "9") ∷ [])

abbrev pub loaded_m : Table
loaded_m = loaded_table 3 (from_upto (codes "m") (codes "m")) 4 85

abbrev pub half_b : Table
half_b = half_of b_to_m 4 (from_upto (codes "b") (codes "b"))

abbrev pub half_a_m : Table
half_a_m = half_of deleted_a_to_z 5 (from_to (codes "a") (codes "m"))

abbrev pub half_n_z : Table
half_n_z = half_of deleted_a_to_z 6 (from_to (codes "n") (codes "z"))

-- a range delete across the span is clipped in both halves
abbrev pub tombstone_clipped : List Note
tombstone_clipped =
    c1 (batch (Set (codes "b") (codes "1") ∷ Set (codes "m") (codes "2") ∷ [])) reply.Done
    ∷ flushed 1 1 b_to_m
    ++ c1 (delspan (from_to (codes "a") (codes "z"))) reply.Done
    ∷ flushed 2 2 deleted_a_to_z
    ++ load (codes "l1") (only_m ∷ []) (Some (from_to (codes "m") (codes "n")))
    ++ install (codes "l1") (changes ((0, 1) ∷ (0, 2) ∷ []) (3 ∷ []) ((0, half_b) ∷ (0, half_a_m) ∷ (0, half_n_z) ∷ (6, loaded_m) ∷ []))
    ∷ read 1 (get (codes "m")) 1 3 (Value (codes "9"))
    ++ read 2 (get (codes "b")) 2 3 Absent
    ++ db (Show show.Levels) (reply.Levels (levels_0_6 (half_b ∷ half_a_m ∷ half_n_z ∷ []) (loaded_m ∷ [])))
    ∷ []

abbrev pub tombstone_clipped_script : List Line
tombstone_clipped_script =
    line.lines (line.c1 (line.batch (Set (codes "b") (codes "1") ∷ Set (codes "m") (codes "2") ∷ []))
    ∷ line.flushed 1
    ++ line.c1 (line.delspan (from_to (codes "a") (codes "z")))
    ∷ line.flushed 2
    ++ line.table only_m
    ∷ line.c1 (cmd.Load (codes "l1") (codes "t1" ∷ []) (Some (from_to (codes "m") (codes "n"))))
    ∷ line.c1 (cmd.Install (codes "l1"))
    ∷ line.c1 (line.ask (get (codes "m")))
    ∷ line.c1 (line.ask (get (codes "b")))
    ∷ line.db (cmd.Show show.Levels)
    ∷ [])

abbrev pub tombstone_clipped_text : List (List ℕ)
tombstone_clipped_text =
    codes "c1 batch set b 1 ; set m 2 -> done"
    ∷ line.first_flushed
    ++ codes "c1 delspan a z -> done"
    ∷ codes "db seal -> group 2"
    ∷ codes "db flush-take -> job 2"
    ∷ codes "db put 2 -> installed"
    ∷ codes "c1 load l1 t1 excise m n -> opened"
    ∷ codes "c1 install l1 -> installed"
    ∷ codes "c1 get m -> value 9"
    ∷ codes "c1 get b -> none"
    ∷ codes "db show levels -> L0 4@1[b,b%00) 5@2[a,m) 6@2[n,z) L6 3[m,m%00)"
    ∷ []

-- the longest key
abbrev pub long_key : List ℕ
long_key = replicate 1024 107

abbrev pub longest_key : List Note
longest_key =
    c1 (put long_key (codes "1")) reply.Done
    ∷ flushed 1 1 (file_table 1 (from_upto long_key long_key) 1 1 2200)
    ++ excise (codes "l1") (from_upto long_key long_key)
    ∷ install (codes "l1") (changes ((0, 1) ∷ []) [] [])
    ∷ read 1 (get long_key) 1 2 Absent
    ++ db Reap (reply.Took 1)
    ∷ []

abbrev pub longest_key_script : List Line
longest_key_script =
    line.lines (line.c1 (line.put long_key (codes "1"))
    ∷ line.flushed 1
    ++ line.c1 (line.excise (codes "l1") (from_upto long_key long_key))
    ∷ line.c1 (cmd.Install (codes "l1"))
    ∷ line.c1 (line.ask (get long_key))
    ∷ [])

abbrev pub longest_key_text : List (List ℕ)
longest_key_text =
    (codes "c1 put " ++ long_key ++ codes " 1 -> done")
    ∷ line.first_flushed
    ++ (codes "c1 load l1 excise " ++ long_key ++ 32 ∷ long_key ++ codes "%00 -> opened")
    ∷ codes "c1 install l1 -> installed"
    ∷ (codes "c1 get " ++ long_key ++ codes " -> none")
    ∷ codes "db reap -> 1"
    ∷ []

abbrev pub old_range : TableOps
old_range = table_ops (codes "old") (Set (codes "r1") (codes "old1") ∷ Set (codes "r5") (codes "old5") ∷ Set (codes "w1") (codes "w") ∷ [])

abbrev pub new_range : TableOps
new_range = table_ops (codes "new") (Set (codes "r1") (codes "new1") ∷ Set (codes "r3") (codes "new3") ∷ [])

abbrev pub r1_to_w1 : Table
r1_to_w1 = loaded_table 1 (from_upto (codes "r1") (codes "w1")) 1 110

abbrev pub w1_alone : Table
w1_alone = half_of r1_to_w1 4 (from_upto (codes "w1") (codes "w1"))

abbrev pub r1_to_r3 : Table
r1_to_r3 = loaded_table 2 (from_upto (codes "r1") (codes "r3")) 3 100

-- a node receives a range
abbrev pub receive_range : List Note
receive_range =
    load (codes "l1") (old_range ∷ []) None
    ++ install (codes "l1") (changes [] (1 ∷ []) ((6, r1_to_w1) ∷ []))
    ∷ c2 (put (codes "r2") (codes "fresh")) reply.Done
    ∷ c1 (Snap (codes "s1") (from_to (codes "r") (codes "s") ∷ [])) (reply.Pinned 1)
    ∷ load (codes "l2") (new_range ∷ []) (Some (from_to (codes "r") (codes "s")))
    ++ c1 (Install (codes "l2")) (reply.Waits 1)
    ∷ db FlushTake (reply.Job 1)
    ∷ holding (put_flush 1 (table_of_key 3 (codes "r2") 2)) (Hold 1 2 ∷ [])
    ∷ install (codes "l2") (changes ((0, 3) ∷ (6, 1) ∷ []) (2 ∷ []) ((6, r1_to_r3) ∷ (6, w1_alone) ∷ []))
    ∷ read 1 (scan (from_to (codes "a") (codes "z"))) 2 3 (Found ((codes "r1", codes "new1") ∷ (codes "r3", codes "new3") ∷ (codes "w1", codes "w") ∷ []))
    ++ read 2 (Scan (from_to (codes "r") (codes "s")) 10 (Some (codes "s1"))) 3 2 (Found ((codes "r1", codes "old1") ∷ (codes "r2", codes "fresh") ∷ (codes "r5", codes "old5") ∷ []))
    ++ db (Show show.Levels) (reply.Levels (levels_0_6 [] (r1_to_r3 ∷ w1_alone ∷ [])))
    ∷ db (Show show.Counts) (reply.Counts ((1, 2) ∷ (2, 1) ∷ (3, 1) ∷ []))
    ∷ db (CompactTake Auto) reply.Nothing
    ∷ []

abbrev pub receive_range_script : List Line
receive_range_script =
    line.lines (line.table old_range
    ∷ line.c1 (cmd.Load (codes "l1") (codes "old" ∷ []) None)
    ∷ line.c1 (cmd.Install (codes "l1"))
    ∷ line.c2 (line.put (codes "r2") (codes "fresh"))
    ∷ line.c1 (cmd.Snap (codes "s1") (from_to (codes "r") (codes "s") ∷ []))
    ∷ line.table new_range
    ∷ line.c1 (cmd.Load (codes "l2") (codes "new" ∷ []) (Some (from_to (codes "r") (codes "s"))))
    ∷ line.c1 (cmd.Install (codes "l2"))
    ∷ line.db cmd.FlushTake
    ∷ line.db (cmd.Build 1)
    ∷ line.db (cmd.Put 1)
    ∷ line.c1 (cmd.Install (codes "l2"))
    ∷ line.c1 (line.ask (scan (from_to (codes "a") (codes "z"))))
    ∷ line.c1 (line.ask (Scan (from_to (codes "r") (codes "s")) 10 (Some (codes "s1"))))
    ∷ line.db (cmd.Show show.Levels)
    ∷ line.db (cmd.Show show.Counts)
    ∷ line.db (cmd.CompactTake Auto)
    ∷ [])

abbrev pub receive_range_text : List (List ℕ)
receive_range_text =
    codes "c1 load l1 old -> opened"
    ∷ codes "c1 install l1 -> installed"
    ∷ codes "c2 put r2 fresh -> done"
    ∷ codes "c1 snap s1 r s -> pinned 1"
    ∷ codes "c1 load l2 new excise r s -> opened"
    ∷ codes "c1 install l2 -> waits 1"
    ∷ codes "db flush-take -> job 1"
    ∷ codes "db put 1 -> installed"
    ∷ codes "c1 install l2 -> installed"
    ∷ codes "c1 scan a z 10 -> found r1=new1 r3=new3 w1=w"
    ∷ codes "c1 scan r s 10 at s1 -> found r1=old1 r2=fresh r5=old5"
    ∷ codes "db show levels -> L6 2[r1,r3%00) 4@1[w1,w1%00)"
    ∷ codes "db show counts -> 1=2 2=1 3=1"
    ∷ codes "db compact-take auto -> none"
    ∷ []
