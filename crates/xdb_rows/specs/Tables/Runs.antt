-- Runs of scripts on one thread: which notes are the blocks of which lines, and the drain.
use Rattle.std.specs.Prelude.{ℕ, true, false, List, [], ◌∷◌, ◌++◌, None, Some, codes}
use Rattle.xdb_key.specs.declared.op.Op.TheVariants.{Set}
use Rattle.xdb_edit.specs.Changes.{changes}
use Rattle.xdb_plain.specs.Tables.{TableOps, table_ops}
use Rattle.xdb_plain.specs.declared.act.Act.TheVariants as act
use Rattle.xdb_plain.specs.declared.act.CommitForm.TheVariants as form
use Rattle.xdb_plain.specs.declared.act.ShowWhat.TheVariants as show
use Rattle.xdb_plain.specs.declared.act.StatusForm.TheVariants as status_form
use Rattle.xdb_plain.specs.declared.act.Which.TheVariants.{Auto, At}
use Rattle.xdb_plain.specs.declared.answer.Answer.TheVariants.{Absent}
use Rattle.xdb_plain.specs.declared.note.HoldNote.TheVariants.{Hold, Release}
use Rattle.xdb_plain.specs.declared.note.Note.{Note}
use Rattle.xdb_plain.specs.declared.reply.Reply.TheVariants as reply
use Rattle.xdb_plain.specs.declared.script.Cmd.TheVariants as cmd
use Rattle.xdb_plain.specs.declared.script.Line.{Line}
use Rattle.xdb_rows.specs.Judged.{RunCase, run, no_run}
use Rattle.xdb_rows.specs.Lines as line
use Rattle.xdb_rows.specs.Lines.{Said, lines}
use Rattle.xdb_rows.specs.Loads.{only_a}
use Rattle.xdb_rows.specs.Notes.{c1, c2, db, holding, changing, trying, from_to, table_of_key, put, put_flush, flushed, get, get_at, ask_held, ask_answered, ask_refused, let_go, excise, compact_l0}

-- a flush has begun
abbrev pub flush_taken_lines : List Said
flush_taken_lines = line.c1 (line.put (codes "a") (codes "1")) ∷ line.db cmd.Seal ∷ line.db cmd.FlushTake ∷ []

abbrev pub flush_taken : List Note
flush_taken =
    c1 (put (codes "a") (codes "1")) reply.Done
    ∷ db act.Seal (reply.Group 1)
    ∷ db act.FlushTake (reply.Job 1)
    ∷ []

abbrev pub put_1 : Note
put_1 = put_flush 1 (table_of_key 1 (codes "a") 1)

-- a note that changes nothing
abbrev pub no_seal : Note
no_seal = db act.Seal reply.Nothing

-- work that is put has been built
abbrev pub puts : List RunCase
puts =
    -- the put waits until it is built
    run (lines (flush_taken_lines ++ line.db (cmd.Put 1) ∷ line.db (cmd.Build 1) ∷ line.db (cmd.Put 1) ∷ []))
    (flush_taken ++ db (act.Put 1) reply.NotYet ∷ put_1 ∷ [])
    -- it isn't built
    ∷ no_run (lines (flush_taken_lines ++ line.db (cmd.Put 1) ∷ [])) (flush_taken ++ put_1 ∷ [])
    -- it is built
    ∷ no_run (lines (flush_taken_lines ++ line.db (cmd.Build 1) ∷ line.db (cmd.Put 1) ∷ []))
    (flush_taken ++ db (act.Put 1) reply.NotYet ∷ [])
    -- a put that fails leaves what was built
    ∷ run (lines (flush_taken_lines ++ line.db (cmd.Build 1) ∷ line.db (cmd.Put 1)
    ∷ line.db (cmd.Put 1) ∷ []))
    (flush_taken ++ db (act.Put 1) reply.Memory ∷ put_1 ∷ [])
    ∷ no_run (lines (flush_taken_lines ++ line.db (cmd.Build 1) ∷ line.db (cmd.Put 1)
    ∷ line.db (cmd.Put 1) ∷ []))
    (flush_taken ++ db (act.Put 1) reply.Memory ∷ db (act.Put 1) reply.NotYet ∷ [])
    -- a job that is over doesn't wait, built or not
    ∷ run (lines (flush_taken_lines ++ line.db (cmd.Build 1) ∷ line.db (cmd.Put 1)
    ∷ line.db (cmd.Put 1) ∷ []))
    (flush_taken ++ put_1 ∷ db (act.Put 1) reply.NoSuch ∷ [])
    ∷ run (lines (flush_taken_lines ++ line.db (cmd.Build 1) ∷ line.db (cmd.Put 1) ∷ []))
    (flush_taken ++ db (act.Build 1) reply.Memory ∷ db (act.Put 1) reply.NoSuch ∷ [])
    ∷ []

-- a table stands in L0, and beside a flush as job 2 a compaction runs as job 3
abbrev pub two_jobs_lines : List Said
two_jobs_lines =
    line.c1 (line.put (codes "a") (codes "1"))
    ∷ line.db cmd.Seal
    ∷ line.db cmd.Flush
    ∷ line.c1 (line.put (codes "b") (codes "1"))
    ∷ line.db cmd.Seal
    ∷ line.db cmd.FlushTake
    ∷ line.db (line.compact_l0 (from_to (codes "a") (codes "b")))
    ∷ []

abbrev pub compaction_taken : Note
compaction_taken = holding (db (compact_l0 (from_to (codes "a") (codes "b"))) (reply.Job 3)) (Hold 1 1 ∷ [])

abbrev pub flush_taken_again : List Note
flush_taken_again =
    c1 (put (codes "a") (codes "1")) reply.Done
    ∷ flushed 1 1 (table_of_key 1 (codes "a") 1)
    ++ c1 (put (codes "b") (codes "1")) reply.Done
    ∷ db act.Seal (reply.Group 2)
    ∷ db act.FlushTake (reply.Job 2)
    ∷ []

abbrev pub two_jobs : List Note
two_jobs = flush_taken_again ++ compaction_taken ∷ []

abbrev pub put_2 : Note
put_2 = put_flush 2 (table_of_key 2 (codes "b") 2)

abbrev pub build_3_fails : Note
build_3_fails = holding (db (act.Build 3) reply.Fault) (Release 1 ∷ [])

-- what a build prints
abbrev pub builds : List RunCase
builds =
    -- a failure
    run (lines (flush_taken_lines ++ line.db (cmd.Build 1) ∷ []))
    (flush_taken ++ db (act.Build 1) reply.Fault ∷ [])
    -- it says so where there is no such job
    ∷ run (lines (line.db (cmd.Build 1) ∷ [])) (db (act.Build 1) reply.NoSuch ∷ [])
    ∷ no_run (lines (line.db (cmd.Build 1) ∷ [])) []
    -- it doesn't where the work is waited for
    ∷ no_run (lines (flush_taken_lines ++ line.db (cmd.Build 1) ∷ []))
    (flush_taken ++ db (act.Build 1) reply.NoSuch ∷ [])
    -- built twice
    ∷ run (lines (flush_taken_lines ++ line.db (cmd.Build 1) ∷ line.db (cmd.Build 1) ∷ []))
    (flush_taken ++ db (act.Build 1) reply.NoSuch ∷ [])
    ∷ no_run (lines (flush_taken_lines ++ line.db (cmd.Build 1) ∷ line.db (cmd.Build 1) ∷ [])) flush_taken
    -- what was built doesn't fail
    ∷ no_run (lines (flush_taken_lines ++ line.db (cmd.Build 1) ∷ line.db cmd.Seal
    ∷ line.db (cmd.Build 1) ∷ []))
    (flush_taken ++ no_seal ∷ db (act.Build 1) reply.Fault ∷ [])
    -- one job is built, and another fails
    ∷ run (lines (two_jobs_lines ++ line.db (cmd.Build 2) ∷ line.db (cmd.Build 3) ∷ line.db (cmd.Put 2) ∷ []))
    (two_jobs ++ build_3_fails ∷ put_2 ∷ [])
    -- one job is built, and another waits
    ∷ run (lines (two_jobs_lines ++ line.db (cmd.Build 2) ∷ line.db (cmd.Put 3) ∷ line.db (cmd.Put 2) ∷ []))
    (two_jobs ++ db (act.Put 3) reply.NotYet ∷ put_2 ∷ [])
    ∷ []

-- a group is sealed
abbrev pub sealed_lines : List Said
sealed_lines = line.c1 (line.put (codes "a") (codes "1")) ∷ line.db cmd.Seal ∷ []

abbrev pub sealed : List Note
sealed = c1 (put (codes "a") (codes "1")) reply.Done ∷ db act.Seal (reply.Group 1) ∷ []

-- a flush has a beginning and an end
abbrev pub whole_flushes : List RunCase
whole_flushes =
    run (lines (sealed_lines ++ line.db cmd.Flush ∷ []))
    (sealed ++ db act.FlushTake (reply.Job 1) ∷ put_1 ∷ [])
    ∷ run (lines (sealed_lines ++ line.db cmd.Flush ∷ []))
    (sealed ++ db act.FlushTake (reply.Job 1) ∷ db (act.Build 1) reply.Fault ∷ [])
    ∷ run (lines (line.db cmd.Flush ∷ [])) (db act.FlushTake reply.Nothing ∷ [])
    -- it is left open
    ∷ no_run (lines (sealed_lines ++ line.db cmd.Flush ∷ [])) (sealed ++ db act.FlushTake (reply.Job 1) ∷ [])
    -- it waits for nothing
    ∷ no_run (lines (sealed_lines ++ line.db cmd.Flush ∷ []))
    (sealed ++ db act.FlushTake (reply.Job 1) ∷ db (act.Put 1) reply.NotYet ∷ [])
    ∷ no_run (lines (sealed_lines ++ line.db cmd.Flush ∷ []))
    (sealed ++ db act.FlushTake (reply.Job 1) ∷ db (act.Build 1) reply.NoSuch ∷ [])
    -- what follows its beginning is another's
    ∷ no_run (lines (sealed_lines ++ line.db cmd.Flush ∷ []))
    (sealed ++ db act.FlushTake (reply.Job 1) ∷ no_seal ∷ [])
    -- where its put fails, it was built
    ∷ run (lines (sealed_lines ++ line.db cmd.Flush ∷ line.db (cmd.Put 1) ∷ []))
    (sealed ++ db act.FlushTake (reply.Job 1) ∷ db (act.Put 1) reply.Memory ∷ put_1 ∷ [])
    ∷ no_run (lines (sealed_lines ++ line.db cmd.Flush ∷ line.db (cmd.Put 1) ∷ []))
    (sealed ++ db act.FlushTake (reply.Job 1) ∷ db (act.Put 1) reply.Memory
    ∷ db (act.Put 1) reply.NotYet ∷ [])
    ∷ []

-- a flush as job 2 runs, and a compaction is made
abbrev pub compacted_lines : List Said
compacted_lines =
    line.c1 (line.put (codes "a") (codes "1"))
    ∷ line.db cmd.Seal
    ∷ line.db cmd.Flush
    ∷ line.c1 (line.put (codes "b") (codes "1"))
    ∷ line.db cmd.Seal
    ∷ line.db cmd.FlushTake
    ∷ line.db (cmd.Build 2)
    ∷ line.db (cmd.Compact (At 0 (from_to (codes "a") (codes "b"))))
    ∷ []

abbrev pub put_3 : Note
put_3 =
    holding (changing (db (act.Put 3) reply.Installed)
    (changes ((0, 1) ∷ []) (3 ∷ []) ((1, table_of_key 3 (codes "a") 1) ∷ []))) (Release 1 ∷ [])

-- so has a compaction
abbrev pub whole_compactions : List RunCase
whole_compactions =
    run (lines compacted_lines) (two_jobs ++ put_3 ∷ db act.Reap (reply.Took 1) ∷ [])
    ∷ run (lines compacted_lines) (two_jobs ++ build_3_fails ∷ [])
    -- it is left open
    ∷ no_run (lines compacted_lines) two_jobs
    -- what follows its beginning is another job's
    ∷ no_run (lines compacted_lines) (two_jobs ++ put_2 ∷ [])
    ∷ no_run (lines compacted_lines) (two_jobs ++ db (act.Build 2) reply.Fault ∷ [])
    -- where its put fails, it was built
    ∷ run (lines (compacted_lines ++ line.db (cmd.Put 3) ∷ []))
    (two_jobs ++ db (act.Put 3) reply.Memory ∷ put_3 ∷ db act.Reap (reply.Took 1) ∷ [])
    ∷ no_run (lines (compacted_lines ++ line.db (cmd.Put 3) ∷ []))
    (two_jobs ++ db (act.Put 3) reply.Memory ∷ db (act.Put 3) reply.NotYet ∷ [])
    ∷ []

-- flushes begin files in vain
abbrev pub one_tried_lines : List Said
one_tried_lines = sealed_lines ++ line.db cmd.Flush ∷ []

abbrev pub one_tried : List Note
one_tried = sealed ++ db act.FlushTake (reply.Job 1) ∷ trying (db (act.Build 1) reply.Fault) (1 ∷ []) ∷ []

abbrev pub again : List Note
again = db act.FlushTake (reply.Job 2) ∷ trying (db (act.Build 2) reply.Fault) (2 ∷ []) ∷ []

abbrev pub two_tried_lines : List Said
two_tried_lines = one_tried_lines ++ line.db cmd.Flush ∷ []

abbrev pub two_tried : List Note
two_tried = one_tried ++ again

abbrev pub took : ℕ → Note
took num = db act.Reap (reply.Took num)

abbrev pub stuck : ℕ → Note
stuck num = db (act.Remove num) reply.Stuck

abbrev pub no_reap : Note
no_reap = db act.Reap reply.Nothing

-- a reap takes all that is dead
abbrev pub reaps : List RunCase
reaps =
    -- each number may be followed by its removal
    run (lines (two_tried_lines ++ line.db cmd.Reap ∷ [])) (two_tried ++ took 1 ∷ stuck 1 ∷ took 2 ∷ [])
    ∷ run (lines (two_tried_lines ++ line.db cmd.Reap ∷ []))
    (two_tried ++ took 1 ∷ took 2 ∷ db (act.Remove 2) reply.Memory ∷ [])
    -- a removal is told once
    ∷ no_run (lines (two_tried_lines ++ line.db cmd.Reap ∷ []))
    (two_tried ++ took 1 ∷ stuck 1 ∷ stuck 1 ∷ took 2 ∷ [])
    -- it follows its own number
    ∷ no_run (lines (two_tried_lines ++ line.db cmd.Reap ∷ [])) (two_tried ++ took 1 ∷ took 2 ∷ stuck 1 ∷ [])
    -- it belongs to the reap that took the number
    ∷ no_run (lines (one_tried_lines ++ line.db cmd.Reap ∷ line.db cmd.Flush ∷ line.db cmd.Reap ∷ []))
    (one_tried ++ took 1 ∷ again ++ stuck 1 ∷ took 2 ∷ [])
    ∷ no_run (lines (one_tried_lines ++ line.db cmd.Reap ∷ line.db cmd.Reap ∷ []))
    (one_tried ++ took 1 ∷ no_reap ∷ stuck 1 ∷ [])
    ∷ []

-- it says that there is none only where there was none at first
abbrev pub reaps_of_nothing : List RunCase
reaps_of_nothing =
    run (lines (one_tried_lines ++ line.db cmd.Reap ∷ line.db cmd.Reap ∷ []))
    (one_tried ++ took 1 ∷ no_reap ∷ [])
    ∷ no_run (lines (one_tried_lines ++ line.db cmd.Reap ∷ [])) (one_tried ++ took 1 ∷ no_reap ∷ [])
    ∷ no_run (lines (line.db cmd.Reap ∷ [])) []
    ∷ no_run (lines (line.db cmd.Reap ∷ [])) (no_reap ∷ no_reap ∷ [])
    -- it leaves nothing for a later one
    ∷ no_run (lines (two_tried_lines ++ line.db cmd.Reap ∷ line.db cmd.Seal ∷ []))
    (two_tried ++ took 1 ∷ no_seal ∷ took 2 ∷ [])
    ∷ []

-- the end of a run takes all that is dead
abbrev pub drains : List RunCase
drains =
    run (lines one_tried_lines) (one_tried ++ took 1 ∷ stuck 1 ∷ [])
    ∷ run (lines two_tried_lines) (two_tried ++ took 1 ∷ took 2 ∷ [])
    -- nothing or not all is taken
    ∷ no_run (lines one_tried_lines) one_tried
    ∷ no_run (lines two_tried_lines) (two_tried ++ took 1 ∷ [])
    -- it doesn't say that there is none
    ∷ no_run (lines one_tried_lines) (one_tried ++ took 1 ∷ no_reap ∷ [])
    ∷ no_run [] (no_reap ∷ [])
    -- a removal is told once, and behind its number
    ∷ no_run (lines one_tried_lines) (one_tried ++ took 1 ∷ stuck 1 ∷ stuck 1 ∷ [])
    ∷ no_run (lines two_tried_lines) (two_tried ++ took 1 ∷ took 2 ∷ stuck 1 ∷ [])
    -- a removal of what a line took
    ∷ no_run (lines (one_tried_lines ++ line.db cmd.Reap ∷ line.db cmd.Seal ∷ []))
    (one_tried ++ took 1 ∷ no_seal ∷ stuck 1 ∷ [])
    -- nothing else follows
    ∷ no_run (lines one_tried_lines) (one_tried ++ took 1 ∷ no_seal ∷ [])
    ∷ []

-- a read of a key
abbrev pub get_a_line : Said
get_a_line = line.c1 (line.ask (get (codes "a")))

abbrev pub asked_a : Note
asked_a = ask_held 1 (get (codes "a")) false (Hold 1 0)

abbrev pub answered_a : Note
answered_a = ask_answered 1 (get (codes "a")) 1 (reply.Answered Absent)

-- the same question in parts
abbrev pub begun_a : Note
begun_a = ask_held 1 (get (codes "a")) true (Hold 1 0)

abbrev pub settled_a : Note
settled_a = let_go (act.Settle 1) (reply.Answered Absent) 1

-- a read has its answer, its failure or its refusal
abbrev pub reads : List RunCase
reads =
    run (lines (get_a_line ∷ [])) (asked_a ∷ answered_a ∷ [])
    ∷ run (lines (get_a_line ∷ [])) (asked_a ∷ ask_answered 1 (get (codes "a")) 1 reply.Fault ∷ [])
    ∷ run (lines (line.c1 (line.ask (get_at (codes "a") (codes "s1"))) ∷ []))
    (ask_refused (get_at (codes "a") (codes "s1")) reply.NoSuch ∷ [])
    -- it isn't asked, or isn't answered
    ∷ no_run (lines (get_a_line ∷ [])) []
    ∷ no_run (lines (get_a_line ∷ [])) (asked_a ∷ [])
    -- what follows is the refusal of another
    ∷ no_run (lines (get_a_line ∷ [])) (asked_a ∷ ask_refused (get (codes "a")) reply.Memory ∷ [])
    -- the answer is given to another client
    ∷ no_run (lines (get_a_line ∷ [])) (asked_a
    ∷ holding (c2 (act.Ask 1 (get (codes "a")) false) (reply.Answered Absent)) (Release 1 ∷ []) ∷ [])
    -- another client or another question
    ∷ no_run (lines (line.c2 (line.ask (get (codes "a"))) ∷ [])) (asked_a ∷ answered_a ∷ [])
    ∷ no_run (lines (line.c1 (line.ask (get (codes "b"))) ∷ [])) (asked_a ∷ answered_a ∷ [])
    -- it is asked in parts
    ∷ no_run (lines (get_a_line ∷ [])) (begun_a ∷ settled_a ∷ [])
    -- the next one is asked before it is answered
    ∷ no_run (lines (get_a_line ∷ line.c1 (line.ask (get (codes "b"))) ∷ []))
    (asked_a ∷ ask_held 2 (get (codes "b")) false (Hold 2 0) ∷ answered_a
    ∷ ask_answered 2 (get (codes "b")) 2 (reply.Answered Absent) ∷ [])
    ∷ []

abbrev pub begin_a_line : Said
begin_a_line = line.c1 (line.ask_in_parts (get (codes "a")))

abbrev pub settle_line : Said
settle_line = line.c1 (cmd.Settle 1)

abbrev pub work_line : Said
work_line = line.db (cmd.Work 1)

abbrev pub begun_b : Note
begun_b = ask_held 2 (get (codes "b")) true (Hold 2 0)

abbrev pub settled_b : Note
settled_b = let_go (act.Settle 2) (reply.Answered Absent) 2

abbrev pub begin_both : List Said
begin_both = begin_a_line ∷ line.c1 (line.ask_in_parts (get (codes "b"))) ∷ []

-- a question in parts is settled once it was worked at
abbrev pub settles : List RunCase
settles =
    run (lines (begin_a_line ∷ settle_line ∷ work_line ∷ settle_line ∷ []))
    (begun_a ∷ c1 (act.Settle 1) reply.NotYet ∷ settled_a ∷ [])
    -- before the work
    ∷ no_run (lines (begin_a_line ∷ settle_line ∷ [])) (begun_a ∷ settled_a ∷ [])
    -- behind it
    ∷ no_run (lines (begin_a_line ∷ work_line ∷ settle_line ∷ []))
    (begun_a ∷ c1 (act.Settle 1) reply.NotYet ∷ [])
    -- behind its failure
    ∷ run (lines (begin_a_line ∷ work_line ∷ settle_line ∷ []))
    (begun_a ∷ holding (db (act.Work 1) reply.Fault) (Release 1 ∷ [])
    ∷ c1 (act.Settle 1) reply.NoSuch ∷ [])
    -- the work of another question
    ∷ run (lines (begin_both ++ line.db (cmd.Work 2) ∷ settle_line ∷ line.c1 (cmd.Settle 2) ∷ []))
    (begun_a ∷ begun_b ∷ c1 (act.Settle 1) reply.NotYet ∷ settled_b ∷ [])
    -- by another client
    ∷ no_run (lines (begin_a_line ∷ work_line ∷ line.c2 (cmd.Settle 1) ∷ [])) (begun_a ∷ settled_a ∷ [])
    -- it isn't asked in parts
    ∷ no_run (lines (begin_a_line ∷ [])) (asked_a ∷ answered_a ∷ [])
    -- another question
    ∷ no_run (lines (line.c1 (line.ask_in_parts (get (codes "b"))) ∷ [])) (begun_a ∷ [])
    ∷ []

-- what the work at a question prints
abbrev pub works : List RunCase
works =
    run (lines (work_line ∷ [])) (db (act.Work 1) reply.NoSuch ∷ [])
    ∷ no_run (lines (work_line ∷ [])) []
    -- it is waited for
    ∷ no_run (lines (begin_a_line ∷ work_line ∷ [])) (begun_a ∷ db (act.Work 1) reply.NoSuch ∷ [])
    -- worked at twice
    ∷ run (lines (begin_a_line ∷ work_line ∷ work_line ∷ [])) (begun_a ∷ db (act.Work 1) reply.NoSuch ∷ [])
    ∷ no_run (lines (begin_a_line ∷ work_line ∷ work_line ∷ [])) (begun_a ∷ [])
    ∷ no_run (lines (begin_a_line ∷ work_line ∷ line.db cmd.Seal ∷ work_line ∷ []))
    (begun_a ∷ no_seal ∷ holding (db (act.Work 1) reply.Fault) (Release 1 ∷ []) ∷ [])
    -- one is worked at, and another fails
    ∷ run (lines (begin_both ++ work_line ∷ line.db (cmd.Work 2) ∷ settle_line ∷ []))
    (begun_a ∷ begun_b ∷ holding (db (act.Work 2) reply.Fault) (Release 2 ∷ []) ∷ settled_a ∷ [])
    ∷ []

abbrev pub only_c : TableOps
only_c = table_ops (codes "u") (Set (codes "c") (codes "1") ∷ [])

abbrev pub table_line : Said
table_line = line.table only_a

abbrev pub load_line : Said
load_line = line.c1 (cmd.Load (codes "l1") (codes "t" ∷ []) None)

abbrev pub opens : Note → List Note
opens end = c1 (act.LoadOpen (codes "l1") (only_a ∷ []) None) reply.Opening ∷ end ∷ []

abbrev pub opened : Note
opened = c1 (act.LoadOpen (codes "l1") (only_a ∷ []) None) reply.Opened

abbrev pub in_use : Note
in_use = c1 (act.LoadOpen (codes "l1") (only_a ∷ []) None) reply.NameInUse

-- a load's opening ends
abbrev pub openings : List RunCase
openings =
    run (lines (table_line ∷ load_line ∷ [])) (opens opened)
    ∷ run (lines (table_line ∷ load_line ∷ []))
    (opens (c1 (act.LoadOpen (codes "l1") (only_a ∷ []) None) reply.Fault))
    ∷ run (lines (table_line ∷ load_line ∷ []))
    (opens (c1 (act.LoadOpen (codes "l1") (only_a ∷ []) None) reply.Memory))
    ∷ run (lines (line.c1 (cmd.Load (codes "l1") [] None) ∷ []))
    (c1 (act.LoadOpen (codes "l1") [] None) reply.Nothing ∷ [])
    -- it is left opening
    ∷ no_run (lines (table_line ∷ load_line ∷ []))
    (c1 (act.LoadOpen (codes "l1") (only_a ∷ []) None) reply.Opening ∷ [])
    -- the name is in use behind its end, and that isn't its end
    ∷ run (lines (table_line ∷ load_line ∷ load_line ∷ [])) (opens opened ++ in_use ∷ [])
    ∷ no_run (lines (table_line ∷ load_line ∷ [])) (opens in_use)
    -- it is found opening still
    ∷ no_run (lines (table_line ∷ load_line ∷ [])) (opens (c1 (act.LoadKept (codes "l1")) reply.NotYet))
    -- another load is opened
    ∷ no_run (lines (table_line ∷ load_line ∷ []))
    (opens (excise (codes "l2") (from_to (codes "m") (codes "z"))))
    ∷ []

-- a load has the tables of its names
abbrev pub named_tables : List RunCase
named_tables =
    -- in the order of the names
    run (lines (table_line ∷ line.table only_c
    ∷ line.c1 (cmd.Load (codes "l1") (codes "u" ∷ codes "t" ∷ []) None) ∷ []))
    (c1 (act.LoadOpen (codes "l1") (only_c ∷ only_a ∷ []) None) reply.Opening
    ∷ c1 (act.LoadOpen (codes "l1") (only_c ∷ only_a ∷ []) None) reply.Opened ∷ [])
    -- in the order of the definitions
    ∷ no_run (lines (table_line ∷ line.table only_c
    ∷ line.c1 (cmd.Load (codes "l1") (codes "u" ∷ codes "t" ∷ []) None) ∷ []))
    (c1 (act.LoadOpen (codes "l1") (only_a ∷ only_c ∷ []) None) reply.Opening
    ∷ c1 (act.LoadOpen (codes "l1") (only_a ∷ only_c ∷ []) None) reply.Opened ∷ [])
    -- defined later, for a later load
    ∷ run (lines (table_line ∷ load_line ∷ line.table only_c
    ∷ line.c1 (cmd.Load (codes "l2") (codes "u" ∷ []) None) ∷ []))
    (opens opened
    ++ c1 (act.LoadOpen (codes "l2") (only_c ∷ []) None) reply.Opening
    ∷ c1 (act.LoadOpen (codes "l2") (only_c ∷ []) None) reply.Opened ∷ [])
    -- another table, and no table
    ∷ no_run (lines (table_line ∷ line.table only_c
    ∷ line.c1 (cmd.Load (codes "l1") (codes "u" ∷ []) None) ∷ [])) (opens opened)
    ∷ no_run (lines (table_line ∷ line.c1 (cmd.Load (codes "l1") (codes "t" ∷ [])
    (Some (from_to (codes "a") (codes "m")))) ∷ []))
    (excise (codes "l1") (from_to (codes "a") (codes "m")) ∷ [])
    -- a definition has no note
    ∷ no_run (lines (table_line ∷ [])) (no_seal ∷ [])
    ∷ []

abbrev pub puts_lines : List Said
puts_lines = line.c1 (line.put (codes "a") (codes "1")) ∷ line.c2 (line.put (codes "b") (codes "1")) ∷ []

abbrev pub put_a : Note
put_a = c1 (put (codes "a") (codes "1")) reply.Done

abbrev pub put_b : Note
put_b = c2 (put (codes "b") (codes "1")) reply.Done

-- each line has its note, in order
abbrev pub lines_in_order : List RunCase
lines_in_order =
    run (lines puts_lines) (put_a ∷ put_b ∷ [])
    ∷ run [] []
    ∷ no_run (lines puts_lines) (put_b ∷ put_a ∷ [])
    ∷ no_run (lines puts_lines) (put_a ∷ [])
    ∷ no_run (lines puts_lines) (put_b ∷ [])
    ∷ no_run (lines puts_lines) (put_a ∷ put_a ∷ put_b ∷ [])
    ∷ no_run (lines puts_lines) (put_a ∷ put_b ∷ put_b ∷ [])
    ∷ no_run (lines puts_lines) []
    ∷ no_run [] (put_a ∷ [])
    ∷ []

-- commands of a client, as they are said
abbrev pub clients_notes : List RunCase
clients_notes =
    no_run (lines (line.c1 (line.put (codes "a") (codes "1")) ∷ []))
    (c1 (act.Commit form.Batch (Set (codes "a") (codes "1") ∷ [])) reply.Done ∷ [])
    ∷ no_run (lines (line.c1 (line.put (codes "a") (codes "1")) ∷ []))
    (c1 (put (codes "a") (codes "2")) reply.Done ∷ [])
    ∷ no_run (lines (line.c1 (line.put (codes "a") (codes "1")) ∷ []))
    (c2 (put (codes "a") (codes "1")) reply.Done ∷ [])
    ∷ no_run (lines (line.c1 (cmd.Settle 1) ∷ [])) (c1 (act.Settle 2) reply.NoSuch ∷ [])
    ∷ no_run (lines (line.c1 (cmd.Snap (codes "s1") (from_to (codes "a") (codes "m") ∷ [])) ∷ []))
    (holding (c1 (act.Snap (codes "s1") (from_to (codes "a") (codes "n") ∷ [])) reply.FileOnly)
    (Hold 1 0 ∷ []) ∷ [])
    ∷ no_run (lines (line.c1 (cmd.Drop (codes "s1")) ∷ [])) (c1 (act.Drop (codes "s2")) reply.NoSuch ∷ [])
    ∷ no_run (lines (line.c1 (cmd.Status (codes "s1") status_form.Status) ∷ []))
    (c1 (act.Status (codes "s1") status_form.Await) reply.NoSuch ∷ [])
    ∷ no_run (lines (line.c1 (cmd.Cursor (codes "k") (from_to (codes "a") (codes "m")) None) ∷ []))
    (holding (c1 (act.Cursor (codes "k") (from_to (codes "a") (codes "n")) None) reply.CursorOn)
    (Hold 1 0 ∷ []) ∷ [])
    ∷ no_run (lines (line.c1 (cmd.Shut (codes "k")) ∷ [])) (c1 (act.Shut (codes "j")) reply.NoSuch ∷ [])
    ∷ no_run (lines (line.c1 (cmd.Load (codes "l1") [] (Some (from_to (codes "a") (codes "m")))) ∷ []))
    (excise (codes "l1") (from_to (codes "a") (codes "n")) ∷ [])
    ∷ no_run (lines (line.c1 (cmd.Install (codes "l1")) ∷ []))
    (c1 (act.Install (codes "l2")) reply.NoSuch ∷ [])
    ∷ []

-- commands of the owner, as they are said
abbrev pub owners_notes : List RunCase
owners_notes =
    no_run (lines (line.db cmd.Seal ∷ [])) (db act.FlushTake reply.Nothing ∷ [])
    ∷ no_run (lines (line.db cmd.FlushTake ∷ [])) (no_seal ∷ [])
    ∷ no_run (lines (line.db cmd.Flush ∷ [])) (db (act.CompactTake Auto) reply.Nothing ∷ [])
    ∷ no_run (lines (line.db (cmd.CompactTake Auto) ∷ []))
    (db (compact_l0 (from_to (codes "a") (codes "m"))) reply.Nothing ∷ [])
    ∷ no_run (lines (line.db (cmd.Compact Auto) ∷ []))
    (db (compact_l0 (from_to (codes "a") (codes "m"))) reply.Nothing ∷ [])
    ∷ no_run (lines (line.db (cmd.Put 1) ∷ [])) (db (act.Put 2) reply.NoSuch ∷ [])
    ∷ no_run (lines (line.db (cmd.Build 1) ∷ [])) (db (act.Build 2) reply.NoSuch ∷ [])
    ∷ no_run (lines (line.db (cmd.Work 1) ∷ [])) (db (act.Work 2) reply.NoSuch ∷ [])
    ∷ no_run (lines (line.db cmd.Reap ∷ [])) (no_seal ∷ [])
    ∷ no_run (lines (line.db (cmd.Show show.Counts) ∷ [])) (db (act.Show show.Snaps) (reply.Snaps []) ∷ [])
    ∷ []

-- each command with a note of its own
abbrev pub every_command : List RunCase
every_command =
    run (lines (line.c1 (line.put (codes "a") (codes "1"))
    ∷ line.c1 (cmd.Settle 1)
    ∷ line.c1 (cmd.Snap (codes "s1") (from_to (codes "m") (codes "z") ∷ []))
    ∷ line.c1 (cmd.Drop (codes "s2"))
    ∷ line.c1 (cmd.Status (codes "s1") status_form.Await)
    ∷ line.c1 (cmd.Cursor (codes "k") (from_to (codes "a") (codes "m")) (Some (codes "s2")))
    ∷ line.c1 (cmd.Shut (codes "k"))
    ∷ line.c1 (cmd.Load (codes "l1") [] (Some (from_to (codes "m") (codes "z"))))
    ∷ line.c1 (cmd.Install (codes "l2"))
    ∷ line.db cmd.FlushTake
    ∷ line.db (cmd.CompactTake Auto)
    ∷ line.db (cmd.Compact Auto)
    ∷ line.db (cmd.Put 1)
    ∷ line.db (cmd.Show show.Counts)
    ∷ line.db cmd.Seal
    ∷ []))
    (put_a
    ∷ c1 (act.Settle 1) reply.NoSuch
    ∷ holding (c1 (act.Snap (codes "s1") (from_to (codes "m") (codes "z") ∷ [])) reply.FileOnly)
    (Hold 1 0 ∷ [])
    ∷ c1 (act.Drop (codes "s2")) reply.NoSuch
    ∷ c1 (act.Status (codes "s1") status_form.Await) reply.FileOnly
    ∷ c1 (act.Cursor (codes "k") (from_to (codes "a") (codes "m")) (Some (codes "s2"))) reply.NoSuch
    ∷ c1 (act.Shut (codes "k")) reply.NoSuch
    ∷ excise (codes "l1") (from_to (codes "m") (codes "z"))
    ∷ c1 (act.Install (codes "l2")) reply.NoSuch
    ∷ db act.FlushTake reply.Nothing
    ∷ db (act.CompactTake Auto) reply.Nothing
    ∷ db (act.CompactTake Auto) reply.Nothing
    ∷ db (act.Put 1) reply.NoSuch
    ∷ db (act.Show show.Counts) (reply.Counts [])
    ∷ db act.Seal (reply.Group 1)
    ∷ [])
    ∷ []

-- a run from another first file number on: a number that a compaction would have if the numbers began with 1 is dead
abbrev pub from_7_lines : List Line
from_7_lines =
    lines (one_tried_lines ++ line.db cmd.Flush
    ∷ line.db (line.compact_l0 (from_to (codes "a") (codes "b"))) ∷ [])

abbrev pub from_7 : List Note
from_7 =
    sealed
    ++ db act.FlushTake (reply.Job 1)
    ∷ trying (db (act.Build 1) reply.Fault) (7 ∷ [])
    ∷ db act.FlushTake (reply.Job 2)
    ∷ put_flush 2 (table_of_key 8 (codes "a") 1)
    ∷ compaction_taken
    ∷ []
