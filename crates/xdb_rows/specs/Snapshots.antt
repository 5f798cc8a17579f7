-- Histories with snapshots and cursors.
use Rattle.std.specs.Prelude.{ℕ, ◌+◌, ◌/◌, ◌%◌, true, List, [], ◌∷◌, ◌++◌, map, None, codes}
use Rattle.std.specs.List.{range_with_len}
use Rattle.xdb_key.specs.declared.op.Op.TheVariants.{Set}
use Rattle.xdb_key.specs.declared.state.SnapState.TheVariants as state
use Rattle.xdb_meta.specs.Table.{Table}
use Rattle.xdb_edit.specs.Changes.{changes}
use Rattle.xdb_edit.specs.Versions.{no_tables}
use Rattle.xdb_plain.specs.declared.act.Act.TheVariants.{Seal, FlushTake, Install, Snap, Drop, Status, Cursor, Shut, Settle, Reap, Show}
use Rattle.xdb_plain.specs.declared.act.ShowWhat.TheVariants as show
use Rattle.xdb_plain.specs.declared.act.StatusForm.TheVariants as status_form
use Rattle.xdb_plain.specs.declared.answer.Answer.TheVariants.{Value, Absent, Pair, End}
use Rattle.xdb_plain.specs.declared.note.HoldNote.TheVariants.{Hold}
use Rattle.xdb_plain.specs.declared.note.Note.{Note}
use Rattle.xdb_plain.specs.declared.question.Question.TheVariants.{Move}
use Rattle.xdb_plain.specs.declared.question.Step.TheVariants.{First, Next, Prev, Seek, SeekLt}
use Rattle.xdb_plain.specs.declared.reply.Reply.TheVariants as reply
use Rattle.xdb_plain.specs.declared.script.Cmd.TheVariants as cmd
use Rattle.xdb_plain.specs.declared.script.Line.{Line}
use Rattle.xdb_rows.specs.Lines as line
use Rattle.xdb_rows.specs.Notes.{c1, db, holding, from_to, from_upto, file_table, table_of_key, half_of, put, del, batch, read, get, get_at, put_flush, flushed, excise, install, levels_0, let_go, ask_held, ask_refused}

-- a snapshot that is file-only at once outlives an excise
abbrev pub file_only_survives_excise : List Note
file_only_survives_excise =
    c1 (put (codes "b") (codes "1")) reply.Done
    ∷ flushed 1 1 (table_of_key 1 (codes "b") 1)
    ++ holding (c1 (Snap (codes "s1") (from_to (codes "a") (codes "m") ∷ [])) reply.FileOnly) (Hold 1 1 ∷ [])
    ∷ excise (codes "l1") (from_to (codes "a") (codes "m"))
    ∷ install (codes "l1") (changes ((0, 1) ∷ []) [] [])
    ∷ read 1 (get_at (codes "b") (codes "s1")) 2 1 (Value (codes "1"))
    ++ read 2 (get (codes "b")) 3 2 Absent
    ++ c1 (Status (codes "s1") status_form.Status) reply.FileOnly
    ∷ db (Show show.Levels) (reply.Levels no_tables)
    ∷ db (Show show.Counts) (reply.Counts ((1, 1) ∷ []))
    ∷ []

abbrev pub file_only_survives_excise_script : List Line
file_only_survives_excise_script =
    line.lines (line.c1 (line.put (codes "b") (codes "1"))
    ∷ line.flushed 1
    ++ line.c1 (cmd.Snap (codes "s1") (from_to (codes "a") (codes "m") ∷ []))
    ∷ line.c1 (line.excise (codes "l1") (from_to (codes "a") (codes "m")))
    ∷ line.c1 (cmd.Install (codes "l1"))
    ∷ line.c1 (line.ask (get_at (codes "b") (codes "s1")))
    ∷ line.c1 (line.ask (get (codes "b")))
    ∷ line.c1 (cmd.Status (codes "s1") status_form.Status)
    ∷ line.db (cmd.Show show.Levels)
    ∷ line.db (cmd.Show show.Counts)
    ∷ [])

abbrev pub file_only_survives_excise_text : List (List ℕ)
file_only_survives_excise_text =
    codes "c1 put b 1 -> done"
    ∷ line.first_flushed
    ++ codes "c1 snap s1 a m -> file-only"
    ∷ codes "c1 load l1 excise a m -> opened"
    ∷ codes "c1 install l1 -> installed"
    ∷ codes "c1 get b at s1 -> value 1"
    ∷ codes "c1 get b -> none"
    ∷ codes "c1 status s1 -> file-only"
    ∷ codes "db show levels -> none"
    ∷ codes "db show counts -> 1=1"
    ∷ []

-- a snapshot turns just before the install
abbrev pub turns_before_install : List Note
turns_before_install =
    c1 (put (codes "b") (codes "1")) reply.Done
    ∷ c1 (Snap (codes "s1") (from_to (codes "a") (codes "m") ∷ [])) (reply.Pinned 1)
    ∷ excise (codes "l1") (from_to (codes "a") (codes "m"))
    ∷ c1 (Install (codes "l1")) (reply.Waits 1)
    ∷ db FlushTake (reply.Job 1)
    ∷ holding (put_flush 1 (table_of_key 1 (codes "b") 1)) (Hold 1 1 ∷ [])
    ∷ c1 (Status (codes "s1") status_form.Await) reply.FileOnly
    ∷ install (codes "l1") (changes ((0, 1) ∷ []) [] [])
    ∷ read 1 (get_at (codes "b") (codes "s1")) 2 1 (Value (codes "1"))
    ++ read 2 (get (codes "b")) 3 2 Absent

abbrev pub turns_before_install_script : List Line
turns_before_install_script =
    line.lines (line.c1 (line.put (codes "b") (codes "1"))
    ∷ line.c1 (cmd.Snap (codes "s1") (from_to (codes "a") (codes "m") ∷ []))
    ∷ line.c1 (line.excise (codes "l1") (from_to (codes "a") (codes "m")))
    ∷ line.c1 (cmd.Install (codes "l1"))
    ∷ line.db cmd.FlushTake
    ∷ line.db (cmd.Build 1)
    ∷ line.db (cmd.Put 1)
    ∷ line.c1 (cmd.Status (codes "s1") status_form.Await)
    ∷ line.c1 (cmd.Install (codes "l1"))
    ∷ line.c1 (line.ask (get_at (codes "b") (codes "s1")))
    ∷ line.c1 (line.ask (get (codes "b")))
    ∷ [])

abbrev pub turns_before_install_text : List (List ℕ)
turns_before_install_text =
    codes "c1 put b 1 -> done"
    ∷ codes "c1 snap s1 a m -> pinned 1"
    ∷ codes "c1 load l1 excise a m -> opened"
    ∷ codes "c1 install l1 -> waits 1"
    ∷ codes "db flush-take -> job 1"
    ∷ codes "db put 1 -> installed"
    ∷ codes "c1 await s1 -> file-only"
    ∷ codes "c1 install l1 -> installed"
    ∷ codes "c1 get b at s1 -> value 1"
    ∷ codes "c1 get b -> none"
    ∷ []

abbrev pub a_to_q : Table
a_to_q = file_table 1 (from_upto (codes "a") (codes "q")) 1 2 90

-- the one refusal of a snapshot's read; the whole snapshot is refused, also in the range that the span misses
abbrev pub snapshot_refused : List Note
snapshot_refused =
    c1 (put (codes "a") (codes "1")) reply.Done
    ∷ c1 (put (codes "q") (codes "1")) reply.Done
    ∷ flushed 1 1 a_to_q
    ++ c1 (put (codes "q") (codes "2")) reply.Done
    ∷ c1 (Snap (codes "s1") (from_to (codes "a") (codes "c") ∷ from_to (codes "p") (codes "t") ∷ [])) (reply.Pinned 2)
    ∷ excise (codes "l1") (from_to (codes "a") (codes "c"))
    ∷ install (codes "l1") (changes ((0, 1) ∷ []) [] ((0, half_of a_to_q 2 (from_upto (codes "q") (codes "q"))) ∷ []))
    ∷ ask_refused (get_at (codes "a") (codes "s1")) (reply.Excised (codes "l1"))
    ∷ ask_refused (get_at (codes "q") (codes "s1")) (reply.Excised (codes "l1"))
    ∷ db (Show show.Snaps) (reply.Snaps ((codes "s1", state.Excised (codes "l1")) ∷ []))
    ∷ read 1 (get (codes "q")) 1 2 (Value (codes "2"))
    ++ db (Show show.Levels) (reply.Levels (levels_0 (half_of a_to_q 2 (from_upto (codes "q") (codes "q")) ∷ [])))
    ∷ []

abbrev pub snapshot_refused_script : List Line
snapshot_refused_script =
    line.lines (line.c1 (line.put (codes "a") (codes "1"))
    ∷ line.c1 (line.put (codes "q") (codes "1"))
    ∷ line.flushed 1
    ++ line.c1 (line.put (codes "q") (codes "2"))
    ∷ line.c1 (cmd.Snap (codes "s1") (from_to (codes "a") (codes "c") ∷ from_to (codes "p") (codes "t") ∷ []))
    ∷ line.c1 (line.excise (codes "l1") (from_to (codes "a") (codes "c")))
    ∷ line.c1 (cmd.Install (codes "l1"))
    ∷ line.c1 (line.ask (get_at (codes "a") (codes "s1")))
    ∷ line.c1 (line.ask (get_at (codes "q") (codes "s1")))
    ∷ line.db (cmd.Show show.Snaps)
    ∷ line.c1 (line.ask (get (codes "q")))
    ∷ line.db (cmd.Show show.Levels)
    ∷ [])

abbrev pub snapshot_refused_text : List (List ℕ)
snapshot_refused_text =
    codes "c1 put a 1 -> done"
    ∷ codes "c1 put q 1 -> done"
    ∷ line.first_flushed
    ++ codes "c1 put q 2 -> done"
    ∷ codes "c1 snap s1 a c p t -> pinned 2"
    ∷ codes "c1 load l1 excise a c -> opened"
    ∷ codes "c1 install l1 -> installed"
    ∷ codes "c1 get a at s1 -> excised l1"
    ∷ codes "c1 get q at s1 -> excised l1"
    ∷ codes "db show snaps -> s1=excised/l1"
    ∷ codes "c1 get q -> value 2"
    ∷ codes "db show levels -> L0 2@1[q,q%00)"
    ∷ []

abbrev pub snapshot_refusals : List Note
snapshot_refusals =
    holding (c1 (Snap (codes "s1") (from_to (codes "a") (codes "m") ∷ [])) reply.FileOnly) (Hold 1 0 ∷ [])
    ∷ c1 (Snap (codes "s1") (from_to (codes "a") (codes "m") ∷ [])) reply.NameInUse
    ∷ c1 (Snap (codes "s2") (from_to (codes "c") (codes "e") ∷ from_to (codes "a") (codes "b") ∷ [])) reply.BadRanges
    ∷ ask_refused (get_at (codes "z") (codes "s1")) reply.Outside
    ∷ ask_refused (get_at (codes "a") (codes "s9")) reply.NoSuch
    ∷ let_go (Drop (codes "s1")) reply.Dropped 1
    ∷ c1 (Drop (codes "s1")) reply.NoSuch
    ∷ []

abbrev pub snapshot_refusals_script : List Line
snapshot_refusals_script =
    line.lines (line.c1 (cmd.Snap (codes "s1") (from_to (codes "a") (codes "m") ∷ []))
    ∷ line.c1 (cmd.Snap (codes "s1") (from_to (codes "a") (codes "m") ∷ []))
    ∷ line.c1 (cmd.Snap (codes "s2") (from_to (codes "c") (codes "e") ∷ from_to (codes "a") (codes "b") ∷ []))
    ∷ line.c1 (line.ask (get_at (codes "z") (codes "s1")))
    ∷ line.c1 (line.ask (get_at (codes "a") (codes "s9")))
    ∷ line.c1 (cmd.Drop (codes "s1"))
    ∷ line.c1 (cmd.Drop (codes "s1"))
    ∷ [])

abbrev pub snapshot_refusals_text : List (List ℕ)
snapshot_refusals_text =
    codes "c1 snap s1 a m -> file-only"
    ∷ codes "c1 snap s1 a m -> name-in-use"
    ∷ codes "c1 snap s2 c e a b -> bad-ranges"
    ∷ codes "c1 get z at s1 -> outside"
    ∷ codes "c1 get a at s9 -> no-such"
    ∷ codes "c1 drop s1 -> dropped"
    ∷ codes "c1 drop s1 -> no-such"
    ∷ []

-- the name of the snapshot of a number
abbrev pub many_name : ℕ → List ℕ
many_name n = (97 + n / 8) ∷ (97 + n % 8) ∷ []

abbrev pub many_snap : ℕ → Note
many_snap n = holding (c1 (Snap (many_name n) (from_to (codes "a") (codes "m") ∷ [])) reply.FileOnly) (Hold n 0 ∷ [])

-- so many snapshots are made, and the next is one too many
abbrev pub too_many_snapshots : ℕ → List Note
too_many_snapshots count =
    map many_snap (range_with_len 1 count) ++ c1 (Snap (codes "last") (from_to (codes "a") (codes "m") ∷ [])) reply.TooMany ∷ []

abbrev pub too_many_snapshots_script : ℕ → List Line
too_many_snapshots_script count =
    line.lines (map (λ n. line.c1 (cmd.Snap (many_name n) (from_to (codes "a") (codes "m") ∷ []))) (range_with_len 1 count)
    ++ line.c1 (cmd.Snap (codes "last") (from_to (codes "a") (codes "m") ∷ [])) ∷ [])

abbrev pub too_many_snapshots_text : ℕ → List (List ℕ)
too_many_snapshots_text count =
    map (λ n. codes "c1 snap " ++ many_name n ++ codes " a m -> file-only") (range_with_len 1 count)
    ++ codes "c1 snap last a m -> too-many" ∷ []

-- a snapshot that is pinned, and turns at a flush
abbrev pub pinned_and_turned : List Note
pinned_and_turned =
    c1 (put (codes "b") (codes "1")) reply.Done
    ∷ c1 (Snap (codes "s1") (from_to (codes "a") (codes "m") ∷ [])) (reply.Pinned 1)
    ∷ c1 (put (codes "b") (codes "2")) reply.Done
    ∷ db Seal (reply.Group 1)
    ∷ db FlushTake (reply.Job 1)
    ∷ holding (put_flush 1 (file_table 1 (from_upto (codes "b") (codes "b")) 1 2 90)) (Hold 1 1 ∷ [])
    ∷ c1 (Status (codes "s1") status_form.Await) reply.FileOnly
    ∷ read 1 (get_at (codes "b") (codes "s1")) 2 1 (Value (codes "1"))
    ++ read 2 (get (codes "b")) 3 1 (Value (codes "2"))
    ++ let_go (Drop (codes "s1")) reply.Dropped 1
    ∷ db (Show show.Counts) (reply.Counts ((1, 1) ∷ []))
    ∷ []

abbrev pub pinned_and_turned_script : List Line
pinned_and_turned_script =
    line.lines (line.c1 (line.put (codes "b") (codes "1"))
    ∷ line.c1 (cmd.Snap (codes "s1") (from_to (codes "a") (codes "m") ∷ []))
    ∷ line.c1 (line.put (codes "b") (codes "2"))
    ∷ line.flushed 1
    ++ line.c1 (cmd.Status (codes "s1") status_form.Await)
    ∷ line.c1 (line.ask (get_at (codes "b") (codes "s1")))
    ∷ line.c1 (line.ask (get (codes "b")))
    ∷ line.c1 (cmd.Drop (codes "s1"))
    ∷ line.db (cmd.Show show.Counts)
    ∷ [])

abbrev pub pinned_and_turned_text : List (List ℕ)
pinned_and_turned_text =
    codes "c1 put b 1 -> done"
    ∷ codes "c1 snap s1 a m -> pinned 1"
    ∷ codes "c1 put b 2 -> done"
    ∷ line.first_flushed
    ++ codes "c1 await s1 -> file-only"
    ∷ codes "c1 get b at s1 -> value 1"
    ∷ codes "c1 get b -> value 2"
    ∷ codes "c1 drop s1 -> dropped"
    ∷ codes "db show counts -> 1=1"
    ∷ []

-- a cursor looks at what there was when it was opened
abbrev pub cursor_moves : List Note
cursor_moves =
    c1 (batch (Set (codes "a") (codes "1") ∷ Set (codes "c") (codes "3") ∷ [])) reply.Done
    ∷ holding (c1 (Cursor (codes "k") (from_to (codes "a") (codes "z")) None) reply.CursorOn) (Hold 1 0 ∷ [])
    ∷ c1 (del (codes "a")) reply.Done
    ∷ read 1 (Move (codes "k") Prev) 2 0 End
    ++ read 2 (Move (codes "k") Next) 3 0 (Pair (codes "a") (codes "1"))
    ++ read 3 (Move (codes "k") (Seek (codes "b"))) 4 0 (Pair (codes "c") (codes "3"))
    ++ read 4 (Move (codes "k") Next) 5 0 End
    ++ read 5 (Move (codes "k") Prev) 6 0 (Pair (codes "c") (codes "3"))
    ++ read 6 (Move (codes "k") (SeekLt (codes "a"))) 7 0 End
    ++ let_go (Shut (codes "k")) reply.Shut 1
    ∷ []

abbrev pub cursor_moves_script : List Line
cursor_moves_script =
    line.lines (line.c1 (line.batch (Set (codes "a") (codes "1") ∷ Set (codes "c") (codes "3") ∷ []))
    ∷ line.c1 (cmd.Cursor (codes "k") (from_to (codes "a") (codes "z")) None)
    ∷ line.c1 (line.del (codes "a"))
    ∷ line.c1 (line.ask (Move (codes "k") Prev))
    ∷ line.c1 (line.ask (Move (codes "k") Next))
    ∷ line.c1 (line.ask (Move (codes "k") (Seek (codes "b"))))
    ∷ line.c1 (line.ask (Move (codes "k") Next))
    ∷ line.c1 (line.ask (Move (codes "k") Prev))
    ∷ line.c1 (line.ask (Move (codes "k") (SeekLt (codes "a"))))
    ∷ line.c1 (cmd.Shut (codes "k"))
    ∷ [])

abbrev pub cursor_moves_text : List (List ℕ)
cursor_moves_text =
    codes "c1 batch set a 1 ; set c 3 -> done"
    ∷ codes "c1 cursor k a z -> open"
    ∷ codes "c1 del a -> done"
    ∷ codes "c1 prev k -> end"
    ∷ codes "c1 next k -> at a=1"
    ∷ codes "c1 seek k b -> at c=3"
    ∷ codes "c1 next k -> end"
    ∷ codes "c1 prev k -> at c=3"
    ∷ codes "c1 seeklt k a -> end"
    ∷ codes "c1 shut k -> shut"
    ∷ []

-- a cursor over an excise, and a busy cursor
abbrev pub cursor_over_excise : List Note
cursor_over_excise =
    c1 (put (codes "b") (codes "1")) reply.Done
    ∷ flushed 1 1 (table_of_key 1 (codes "b") 1)
    ++ holding (c1 (Cursor (codes "k") (from_to (codes "a") (codes "z")) None) reply.CursorOn) (Hold 1 1 ∷ [])
    ∷ excise (codes "l1") (from_to (codes "a") (codes "z"))
    ∷ install (codes "l1") (changes ((0, 1) ∷ []) [] [])
    ∷ ask_held 1 (Move (codes "k") First) true (Hold 2 1)
    ∷ ask_refused (Move (codes "k") Next) (reply.Busy 1)
    ∷ let_go (Settle 1) (reply.Answered (Pair (codes "b") (codes "1"))) 2
    ∷ read 2 (Move (codes "k") Next) 3 1 End
    ++ db Reap reply.Nothing
    ∷ let_go (Shut (codes "k")) reply.Shut 1
    ∷ db Reap (reply.Took 1)
    ∷ []

abbrev pub cursor_over_excise_script : List Line
cursor_over_excise_script =
    line.lines (line.c1 (line.put (codes "b") (codes "1"))
    ∷ line.flushed 1
    ++ line.c1 (cmd.Cursor (codes "k") (from_to (codes "a") (codes "z")) None)
    ∷ line.c1 (line.excise (codes "l1") (from_to (codes "a") (codes "z")))
    ∷ line.c1 (cmd.Install (codes "l1"))
    ∷ line.c1 (line.ask_in_parts (Move (codes "k") First))
    ∷ line.c1 (line.ask (Move (codes "k") Next))
    ∷ line.db (cmd.Work 1)
    ∷ line.c1 (cmd.Settle 1)
    ∷ line.c1 (line.ask (Move (codes "k") Next))
    ∷ line.db cmd.Reap
    ∷ line.c1 (cmd.Shut (codes "k"))
    ∷ line.db cmd.Reap
    ∷ [])

abbrev pub cursor_over_excise_text : List (List ℕ)
cursor_over_excise_text =
    codes "c1 put b 1 -> done"
    ∷ line.first_flushed
    ++ codes "c1 cursor k a z -> open"
    ∷ codes "c1 load l1 excise a z -> opened"
    ∷ codes "c1 install l1 -> installed"
    ∷ codes "c1 begin first k -> asked 1"
    ∷ codes "c1 next k -> busy 1"
    ∷ codes "c1 settle 1 -> at b=1"
    ∷ codes "c1 next k -> end"
    ∷ codes "db reap -> none"
    ∷ codes "c1 shut k -> shut"
    ∷ codes "db reap -> 1"
    ∷ []
