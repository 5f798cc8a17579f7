-- What reads and moves find.
use Rattle.std.specs.Prelude.{◌≡◌, ℕ, ◌+◌, true, false, List, [], ◌∷◌, ◌++◌, Option, None, Some, codes}
use Rattle.std.specs.FinMap as map
use Rattle.xdb_key.specs.declared.op.Op.{Op}
use Rattle.xdb_key.specs.declared.op.Op.TheVariants.{Set, Del, DelSpan}
use Rattle.xdb_edit.specs.Changes.{changes}
use Rattle.xdb_meta.specs.Table.{Table}
use Rattle.xdb_plain.specs.PlainMap.{loaded}
use Rattle.xdb_plain.specs.Tables.{TableOps, table_ops, ops_bounds}
use Rattle.xdb_plain.specs.declared.act.Act.TheVariants.{Ask, Work, Settle, Snap, Drop, Cursor, Shut, Install}
use Rattle.xdb_plain.specs.declared.answer.Answer.{Answer}
use Rattle.xdb_plain.specs.declared.answer.Answer.TheVariants.{Value, Absent, Found, Pair, End}
use Rattle.xdb_plain.specs.declared.note.HoldNote.TheVariants.{Hold, Release}
use Rattle.xdb_plain.specs.declared.note.Note.{Note}
use Rattle.xdb_plain.specs.declared.question.Question.{Question}
use Rattle.xdb_plain.specs.declared.question.Question.TheVariants.{Scan, RScan, Move}
use Rattle.xdb_plain.specs.declared.question.Step.{Step}
use Rattle.xdb_plain.specs.declared.question.Step.TheVariants.{First, Last, Next, Prev, Seek, SeekLt}
use Rattle.xdb_plain.specs.declared.reply.Reply.TheVariants as reply
use Rattle.xdb_rows.specs.Judged.{Case, case, step, wrong_answer}
use Rattle.xdb_rows.specs.Notes.{c1, c2, db, holding, from_to, from_upto, loaded_table, put, del, delspan, batch, read, get, get_at, scan, let_go, ask_held, ask_answered, excise, load, install, half_of}

-- The question is asked behind the history, of the version, and has the answer.
abbrev pub told_of : ℕ → List Note → ℕ → Question → Answer → Case
told_of version history ask question answer =
    case (history ++ ask_held ask question false (Hold 50 version) ∷ []) (
    step (ask_answered ask question 50 (reply.Answered answer)) ∷ [])

abbrev pub told : List Note → ℕ → Question → Answer → Case
told history ask question answer = told_of 0 history ask question answer

-- the same, and not the answer
abbrev pub not_told : List Note → ℕ → Question → Answer → Case
not_told history ask question answer =
    case (history ++ ask_held ask question false (Hold 50 0) ∷ []) (
    wrong_answer (ask_answered ask question 50 (reply.Answered answer)) ∷ [])

-- a commit of sets
abbrev pub batch_done : List Op → Note
batch_done ops = c1 (batch ops) reply.Done

abbrev pub put_done : List ℕ → List ℕ → Note
put_done key value = c1 (put key value) reply.Done

abbrev pub a_b_c_d : List Note
a_b_c_d =
    batch_done (Set (codes "a") (codes "1") ∷ Set (codes "b") (codes "2") ∷ Set (codes "c") (codes "3") ∷ Set (codes "d") (codes "4") ∷ []) ∷ []

abbrev pub all : Question
all = scan (from_to (codes "a") (codes "z"))

-- what a get finds
abbrev pub gets_told : List Case
gets_told =
    -- the value of its key, and not of the first or the last one
    told a_b_c_d 1 (get (codes "b")) (Value (codes "2"))
    -- nothing at a key that isn't there
    ∷ told a_b_c_d 1 (get (codes "bb")) Absent
    -- no value is also one
    ∷ told (put_done (codes "a") [] ∷ []) 1 (get (codes "a")) (Value [])
    -- an answer of another value, of none, of another kind
    ∷ not_told a_b_c_d 1 (get (codes "b")) (Value (codes "3"))
    ∷ not_told a_b_c_d 1 (get (codes "b")) Absent
    ∷ not_told a_b_c_d 1 (get (codes "bb")) (Value [])
    ∷ not_told a_b_c_d 1 (get (codes "bb")) End
    ∷ []

-- which pairs a scan finds, and in which direction
abbrev pub scans_told : List Case
scans_told =
    -- the range's first key belongs to it, and its last bound doesn't
    told a_b_c_d 1 (scan (from_to (codes "b") (codes "d"))) (Found ((codes "b", codes "2") ∷ (codes "c", codes "3") ∷ []))
    ∷ told a_b_c_d 1 (RScan (from_to (codes "b") (codes "d")) 10 None) (Found ((codes "c", codes "3") ∷ (codes "b", codes "2") ∷ []))
    -- the first pairs, and the last ones from the last down
    ∷ told a_b_c_d 1 (Scan (from_to (codes "a") (codes "z")) 3 None) (Found ((codes "a", codes "1") ∷ (codes "b", codes "2") ∷ (codes "c", codes "3") ∷ []))
    ∷ told a_b_c_d 1 (RScan (from_to (codes "a") (codes "z")) 3 None) (Found ((codes "d", codes "4") ∷ (codes "c", codes "3") ∷ (codes "b", codes "2") ∷ []))
    -- pairs outside the range don't count for the limit
    ∷ told a_b_c_d 1 (Scan (from_to (codes "c") (codes "z")) 1 None) (Found ((codes "c", codes "3") ∷ []))
    ∷ told a_b_c_d 1 (RScan (from_to (codes "a") (codes "c")) 1 None) (Found ((codes "b", codes "2") ∷ []))
    -- the keys rise, in whichever order they came
    ∷ told (put_done (codes "b") (codes "2") ∷ put_done (codes "a") (codes "1") ∷ put_done (codes "ab") (codes "3") ∷ []) 1 all
    (Found ((codes "a", codes "1") ∷ (codes "ab", codes "3") ∷ (codes "b", codes "2") ∷ []))
    -- a range without keys
    ∷ told a_b_c_d 1 (scan (from_to (codes "e") (codes "z"))) (Found [])
    ∷ []

-- answers of a scan that aren't its own
abbrev pub scans_not_told : List Case
scans_not_told =
    -- one pair too many, one too few, another order, no pairs
    not_told a_b_c_d 1 (Scan (from_to (codes "a") (codes "z")) 1 None) (Found ((codes "a", codes "1") ∷ (codes "b", codes "2") ∷ []))
    ∷ not_told a_b_c_d 1 (scan (from_to (codes "a") (codes "c"))) (Found ((codes "a", codes "1") ∷ []))
    ∷ not_told a_b_c_d 1 (scan (from_to (codes "a") (codes "c"))) (Found ((codes "b", codes "2") ∷ (codes "a", codes "1") ∷ []))
    ∷ not_told a_b_c_d 1 (scan (from_to (codes "e") (codes "z"))) Absent
    ∷ []

-- how commits act on the map
abbrev pub commits_told : List Case
commits_told =
    -- a later put hides an earlier one
    told (put_done (codes "a") (codes "1") ∷ put_done (codes "a") (codes "2") ∷ []) 1 (get (codes "a")) (Value (codes "2"))
    -- a delete takes its key away and no other, and a key that isn't there may be deleted
    ∷ told (a_b_c_d ++ c1 (del (codes "c")) reply.Done ∷ c1 (del (codes "bb")) reply.Done ∷ []) 1 all
    (Found ((codes "a", codes "1") ∷ (codes "b", codes "2") ∷ (codes "d", codes "4") ∷ []))
    -- a range delete takes its first key, and leaves the key at its last bound
    ∷ told (a_b_c_d ++ c1 (delspan (from_to (codes "b") (codes "d"))) reply.Done ∷ []) 1 all
    (Found ((codes "a", codes "1") ∷ (codes "d", codes "4") ∷ []))
    -- operations act from left to right
    ∷ told (batch_done (Set (codes "a") (codes "1") ∷ Set (codes "a") (codes "2") ∷ []) ∷ []) 1 all (Found ((codes "a", codes "2") ∷ []))
    ∷ told (batch_done (Set (codes "a") (codes "1") ∷ Del (codes "a") ∷ Del (codes "b") ∷ Set (codes "b") (codes "2") ∷ []) ∷ []) 1 all
    (Found ((codes "b", codes "2") ∷ []))
    -- also a range delete acts in its place
    ∷ told (batch_done (Set (codes "a") (codes "1") ∷ DelSpan (from_to (codes "a") (codes "c")) ∷ Set (codes "b") (codes "2") ∷ []) ∷ []) 1 all
    (Found ((codes "b", codes "2") ∷ []))
    ∷ []

-- a commit that is refused doesn't act
abbrev pub refused_commits_told : List Case
refused_commits_told =
    told (put_done (codes "a") (codes "1") ∷ c1 (del (codes "a")) reply.Memory ∷ []) 1 (get (codes "a")) (Value (codes "1"))
    ∷ told (excise (codes "l1") (from_to (codes "a") (codes "m")) ∷ c1 (put (codes "a") (codes "1")) (reply.Fenced (codes "l1")) ∷ []) 1
    (get (codes "a")) Absent
    ∷ []

-- a snapshot of the keys below m, which stands on the first group
abbrev pub snap_made : List ℕ → Note
snap_made name = c1 (Snap name (from_to (codes "a") (codes "m") ∷ [])) (reply.Pinned 1)

abbrev pub scan_at : List ℕ → Question
scan_at snap = Scan (from_to (codes "a") (codes "m")) 10 (Some snap)

abbrev pub rscan_at : List ℕ → Question
rscan_at snap = RScan (from_to (codes "a") (codes "m")) 10 (Some snap)

-- two snapshots, and changes behind each
abbrev pub two_snaps : List Note
two_snaps =
    batch_done (Set (codes "a") (codes "1") ∷ Set (codes "b") (codes "1") ∷ []) ∷ snap_made (codes "s1")
    ∷ put_done (codes "a") (codes "2") ∷ snap_made (codes "s2")
    ∷ batch_done (Set (codes "a") (codes "3") ∷ Del (codes "b") ∷ Set (codes "c") (codes "3") ∷ []) ∷ []

-- a read at a snapshot finds what was there at its making
abbrev pub snapshots_told : List Case
snapshots_told =
    -- not what came after it, and not what another snapshot has
    told two_snaps 1 (get_at (codes "a") (codes "s1")) (Value (codes "1"))
    ∷ told two_snaps 1 (get_at (codes "a") (codes "s2")) (Value (codes "2"))
    ∷ told two_snaps 1 (get (codes "a")) (Value (codes "3"))
    -- what was deleted since, and not what was put since
    ∷ told two_snaps 1 (scan_at (codes "s1")) (Found ((codes "a", codes "1") ∷ (codes "b", codes "1") ∷ []))
    ∷ told two_snaps 1 (rscan_at (codes "s2")) (Found ((codes "b", codes "1") ∷ (codes "a", codes "2") ∷ []))
    ∷ told two_snaps 1 (get_at (codes "c") (codes "s2")) Absent
    -- a name that was let go and is used again is that of the new one
    ∷ told (two_snaps ++ c1 (Drop (codes "s1")) reply.Dropped ∷ snap_made (codes "s1") ∷ []) 1 (get_at (codes "a") (codes "s1")) (Value (codes "3"))
    -- and the other one stays
    ∷ told (two_snaps ++ c1 (Drop (codes "s1")) reply.Dropped ∷ []) 1 (get_at (codes "a") (codes "s2")) (Value (codes "2"))
    ∷ []

-- a cursor over the keys below m, of what stands now or of a snapshot
abbrev pub cursor_on : ℕ → List ℕ → Option (List ℕ) → Note
cursor_on hold name at = holding (c1 (Cursor name (from_to (codes "a") (codes "m")) at) reply.CursorOn) (Hold hold 0 ∷ [])

abbrev pub first : List ℕ → Question
first cursor = Move cursor First

-- a cursor looks at its own copy
abbrev pub cursors_told : List Case
cursors_told =
    -- of what stood at its opening, whatever comes behind it
    told (put_done (codes "a") (codes "1") ∷ cursor_on 1 (codes "k") None ∷ put_done (codes "a") (codes "2") ∷ []) 1
    (first (codes "k")) (Pair (codes "a") (codes "1"))
    -- not of a snapshot that there is
    ∷ told (two_snaps ++ cursor_on 1 (codes "k") None ∷ []) 1 (first (codes "k")) (Pair (codes "a") (codes "3"))
    -- of a snapshot, also once this one is let go
    ∷ told (two_snaps ++ cursor_on 1 (codes "k") (Some (codes "s2")) ∷ []) 1 (first (codes "k")) (Pair (codes "a") (codes "2"))
    ∷ told (two_snaps ++ cursor_on 1 (codes "k") (Some (codes "s2")) ∷ c1 (Drop (codes "s2")) reply.Dropped ∷ []) 1
    (first (codes "k")) (Pair (codes "a") (codes "2"))
    -- a move asks the cursor of its name
    ∷ told (two_snaps ++ cursor_on 1 (codes "k1") (Some (codes "s1")) ∷ cursor_on 2 (codes "k2") (Some (codes "s2")) ∷ []) 1
    (first (codes "k2")) (Pair (codes "a") (codes "2"))
    -- an answer of another copy
    ∷ not_told (two_snaps ++ cursor_on 1 (codes "k") (Some (codes "s2")) ∷ []) 1 (first (codes "k")) (Pair (codes "a") (codes "1"))
    ∷ not_told (two_snaps ++ cursor_on 1 (codes "k") (Some (codes "s2")) ∷ []) 1 (first (codes "k")) (Value (codes "2"))
    ∷ []

-- pairs at b, d and f, and one on each side of the cursor's range
abbrev pub on_b_d_f : List Note
on_b_d_f =
    batch_done (Set (codes "a") (codes "0") ∷ Set (codes "b") (codes "1") ∷ Set (codes "d") (codes "2") ∷ Set (codes "f") (codes "3") ∷ Set (codes "m") (codes "4") ∷ [])
    ∷ holding (c1 (Cursor (codes "k") (from_to (codes "b") (codes "m")) None) reply.CursorOn) (Hold 1 0 ∷ []) ∷ []

abbrev pub at_b : Answer
at_b = Pair (codes "b") (codes "1")

abbrev pub at_d : Answer
at_d = Pair (codes "d") (codes "2")

abbrev pub at_f : Answer
at_f = Pair (codes "f") (codes "3")

-- moves of the cursor, from one number on, and what each finds
abbrev pub moves : ℕ → List (Step × Answer) → List Note
moves ask [] = []
moves ask (m ∷ ms) = read ask (Move (codes "k") m.0) 2 0 m.1 ++ moves (ask + 1) ms

-- a cursor that was just opened makes the moves
abbrev pub walk : List (Step × Answer) → Case
walk ms = case (on_b_d_f ++ moves 1 ms) []

-- pair by pair
abbrev pub steps_walked : List Case
steps_walked =
    -- a cursor begins before the first pair; the moves go over all pairs of the range and stay behind the last
    walk ((Next, at_b) ∷ (Next, at_d) ∷ (Next, at_f) ∷ (Next, End) ∷ (Next, End) ∷ (Prev, at_f) ∷ [])
    -- the same downwards
    ∷ walk ((Prev, End) ∷ (Next, at_b) ∷ (Prev, End) ∷ (Prev, End) ∷ (Next, at_b) ∷ [])
    -- to the first and the last pair, from everywhere
    ∷ walk ((Last, at_f) ∷ (Prev, at_d) ∷ (Prev, at_b) ∷ (Last, at_f) ∷ (Next, End) ∷ (Last, at_f) ∷ [])
    ∷ walk ((First, at_b) ∷ (Next, at_d) ∷ (First, at_b) ∷ (First, at_b) ∷ (Prev, End) ∷ (First, at_b) ∷ [])
    ∷ []

-- to a key
abbrev pub seeks_walked : List Case
seeks_walked =
    -- to the first pair whose key isn't below, and on from there
    walk ((Seek (codes "d"), at_d) ∷ (Prev, at_b) ∷ (Seek (codes "c"), at_d) ∷ (Next, at_f) ∷ (Seek (codes "a"), at_b) ∷ [])
    -- where there is none, behind the last one
    ∷ walk ((Seek (codes "g"), End) ∷ (Next, End) ∷ (Prev, at_f) ∷ (Seek (codes "f"), at_f) ∷ [])
    -- to the last pair whose key is below, and on from there
    ∷ walk ((SeekLt (codes "f"), at_d) ∷ (Next, at_f) ∷ (SeekLt (codes "e"), at_d) ∷ (Prev, at_b) ∷ (SeekLt (codes "z"), at_f) ∷ [])
    -- where there is none, before the first one
    ∷ walk ((Last, at_f) ∷ (SeekLt (codes "b"), End) ∷ (Prev, End) ∷ (SeekLt (codes "b"), End) ∷ (Next, at_b) ∷ [])
    ∷ []

-- a cursor over a range without pairs
abbrev pub nothing_walked : List Case
nothing_walked =
    case (a_b_c_d ++ holding (c1 (Cursor (codes "k") (from_to (codes "e") (codes "m")) None) reply.CursorOn) (Hold 1 0 ∷ [])
    ∷ moves 1 ((First, End) ∷ (Last, End) ∷ (Next, End) ∷ (Prev, End) ∷ (Seek (codes "a"), End) ∷ (SeekLt (codes "z"), End) ∷ [])) []
    ∷ []

-- a cursor at b, whose next move ends so, and the move behind that
abbrev pub walk_on : List Note → ℕ → Answer → Case
walk_on ended ask answer = told (on_b_d_f ++ moves 1 ((First, at_b) ∷ []) ++ ended) ask (Move (codes "k") Next) answer

-- what moves a cursor, and what doesn't
abbrev pub places_kept : List Case
places_kept =
    -- a move that fails leaves the place
    walk_on (ask_held 2 (Move (codes "k") Next) false (Hold 2 0) ∷ ask_answered 2 (Move (codes "k") Next) 2 reply.Fault ∷ []) 3 at_d
    ∷ walk_on (ask_held 2 (Move (codes "k") Next) false (Hold 2 0) ∷ ask_answered 2 (Move (codes "k") Next) 2 reply.Memory ∷ []) 3 at_d
    ∷ walk_on (ask_held 2 (Move (codes "k") Last) false (Hold 2 0) ∷ ask_answered 2 (Move (codes "k") Last) 2 (reply.Damaged 1 0) ∷ []) 3 at_d
    ∷ walk_on (ask_held 2 (Move (codes "k") Last) true (Hold 2 0) ∷ holding (db (Work 2) reply.Fault) (Release 2 ∷ []) ∷ []) 3 at_d
    -- a move in parts leads on once it is answered
    ∷ walk_on (ask_held 2 (Move (codes "k") Next) true (Hold 2 0) ∷ c1 (Settle 2) reply.NotYet
    ∷ holding (c2 (Settle 2) (reply.Answered at_d)) (Release 2 ∷ []) ∷ []) 3 at_f
    -- a move that is refused leaves the place, and so does any other question
    ∷ walk_on (c1 (Ask 0 (Move (codes "j") Next) false) reply.NoSuch ∷ []) 2 at_d
    ∷ walk_on (read 2 (get (codes "f")) 2 0 (Value (codes "3"))) 3 at_d
    -- and so does the move of another cursor
    ∷ walk_on (holding (c1 (Cursor (codes "j") (from_to (codes "c") (codes "m")) None) reply.CursorOn) (Hold 3 0 ∷ [])
    ∷ read 2 (Move (codes "j") Last) 2 0 at_f) 3 at_d
    -- a cursor that is opened again begins again
    ∷ walk_on (let_go (Shut (codes "k")) reply.Shut 1 ∷ cursor_on 1 (codes "k") None ∷ []) 2 (Pair (codes "a") (codes "0"))
    ∷ []

-- two questions, and a change behind each
abbrev pub two_open : List Note
two_open =
    put_done (codes "a") (codes "1")
    ∷ ask_held 1 (get (codes "a")) true (Hold 1 0)
    ∷ put_done (codes "a") (codes "2")
    ∷ ask_held 2 all true (Hold 2 0)
    ∷ c1 (del (codes "a")) reply.Done
    ∷ []

-- an answer is that of the question's asking
abbrev pub answers_kept : List Case
answers_kept =
    -- each question has its own, whoever takes it
    case two_open (
    step (let_go (Settle 1) (reply.Answered (Value (codes "1"))) 1)
    ∷ step (holding (c2 (Settle 2) (reply.Answered (Found ((codes "a", codes "2") ∷ [])))) (Release 2 ∷ []))
    ∷ wrong_answer (let_go (Settle 1) (reply.Answered (Value (codes "2"))) 1)
    ∷ wrong_answer (let_go (Settle 1) (reply.Answered Absent) 1)
    ∷ wrong_answer (let_go (Settle 1) (reply.Answered (Found ((codes "a", codes "2") ∷ []))) 1)
    ∷ wrong_answer (let_go (Settle 2) (reply.Answered (Value (codes "1"))) 2)
    ∷ wrong_answer (let_go (Settle 2) (reply.Answered (Found [])) 2)
    ∷ [])
    -- also once the one before it has its answer
    ∷ case (two_open ++ let_go (Settle 1) (reply.Answered (Value (codes "1"))) 1 ∷ []) (
    step (let_go (Settle 2) (reply.Answered (Found ((codes "a", codes "2") ∷ []))) 2) ∷ [])
    -- also where it isn't asked in parts, and another client commits meanwhile
    ∷ case (ask_held 1 (get (codes "a")) false (Hold 1 0) ∷ c2 (put (codes "a") (codes "1")) reply.Done ∷ []) (
    step (ask_answered 1 (get (codes "a")) 1 (reply.Answered Absent))
    ∷ wrong_answer (ask_answered 1 (get (codes "a")) 1 (reply.Answered (Value (codes "1")))) ∷ [])
    ∷ []

-- pairs at b, d and f come in by a load
abbrev pub first_ops : TableOps
first_ops = table_ops (codes "t1") (Set (codes "b") (codes "1") ∷ Set (codes "d") (codes "2") ∷ Set (codes "f") (codes "3") ∷ [])

abbrev pub b_d_f_loaded : List Note
b_d_f_loaded =
    load (codes "l1") (first_ops ∷ []) None
    ++ install (codes "l1") (changes [] (1 ∷ []) ((6, loaded_table 1 (from_upto (codes "b") (codes "f")) 1 100) ∷ [])) ∷ []

-- another load of one table is opened on top of it, and installed as the table 2 in level 5
abbrev pub opened_on : List Op → List Note
opened_on ops = b_d_f_loaded ++ load (codes "l2") (table_ops (codes "t2") ops ∷ []) None

abbrev pub installed_on : List Op → ℕ → List Note
installed_on ops size =
    opened_on ops ++ install (codes "l2") (changes [] (2 ∷ []) ((5, loaded_table 2 (ops_bounds ops) 2 size) ∷ [])) ∷ []

abbrev pub before_load : Answer
before_load = Found ((codes "b", codes "1") ∷ (codes "d", codes "2") ∷ (codes "f", codes "3") ∷ [])

-- how a load's tables act on the map
abbrev pub loads_told : List Case
loads_told =
    -- not before the install
    told_of 1 (opened_on (Set (codes "c") (codes "9") ∷ [])) 1 all before_load
    -- and not where it fails
    ∷ told_of 1 (opened_on (Set (codes "c") (codes "9") ∷ []) ++ c1 (Install (codes "l2")) reply.Fault ∷ []) 1 all before_load
    -- points are set and deleted, and the keys between them stay
    ∷ told_of 2 (installed_on (Del (codes "b") ∷ Set (codes "c") (codes "9") ∷ Set (codes "f") (codes "8") ∷ []) 100) 1 all
    (Found ((codes "c", codes "9") ∷ (codes "d", codes "2") ∷ (codes "f", codes "8") ∷ []))
    -- range deletes act before the points, wherever they stand; the first key goes, and the one at the last bound stays
    ∷ told_of 2 (installed_on (Set (codes "c") (codes "9") ∷ DelSpan (from_to (codes "b") (codes "f")) ∷ []) 100) 1 all
    (Found ((codes "c", codes "9") ∷ (codes "f", codes "3") ∷ []))
    ∷ []

-- the table of the first load, and what a span from d to f leaves of it
abbrev pub b_to_f : Table
b_to_f = loaded_table 1 (from_upto (codes "b") (codes "f")) 1 100

abbrev pub left_half : ℕ → ℕ × Table
left_half num = (6, half_of b_to_f num (from_upto (codes "b") (codes "b")))

abbrev pub right_half : ℕ → ℕ × Table
right_half num = (6, half_of b_to_f num (from_upto (codes "f") (codes "f")))

abbrev pub only_e : TableOps
only_e = table_ops (codes "t2") (Set (codes "e") (codes "9") ∷ [])

abbrev pub only_g : TableOps
only_g = table_ops (codes "t3") (Set (codes "g") (codes "8") ∷ [])

abbrev pub without_b : TableOps
without_b = table_ops (codes "t2") (Del (codes "b") ∷ [])

-- the table of one key that a load brought
abbrev pub key_loaded : ℕ → List ℕ → Table
key_loaded num key = loaded_table num (from_upto key key) 2 85

-- how spans, and several tables and loads, act on the map
abbrev pub spans_told : List Case
spans_told =
    -- the span's first key goes, and the one at its last bound stays
    told_of 2 (b_d_f_loaded ++ excise (codes "l2") (from_to (codes "d") (codes "f"))
    ∷ install (codes "l2") (changes ((6, 1) ∷ []) [] (left_half 2 ∷ right_half 3 ∷ [])) ∷ []) 1 all
    (Found ((codes "b", codes "1") ∷ (codes "f", codes "3") ∷ []))
    -- the span's keys go before the load's tables come
    ∷ told_of 2 (b_d_f_loaded ++ load (codes "l2") (only_e ∷ []) (Some (from_to (codes "d") (codes "f")))
    ++ install (codes "l2") (changes ((6, 1) ∷ []) (2 ∷ []) ((6, key_loaded 2 (codes "e")) ∷ left_half 3 ∷ right_half 4 ∷ [])) ∷ []) 1 all
    (Found ((codes "b", codes "1") ∷ (codes "e", codes "9") ∷ (codes "f", codes "3") ∷ []))
    -- all tables of a load act
    ∷ told_of 2 (b_d_f_loaded ++ load (codes "l2") (without_b ∷ only_g ∷ []) None
    ++ install (codes "l2") (changes [] (2 ∷ 3 ∷ []) ((5, key_loaded 2 (codes "b")) ∷ (6, key_loaded 3 (codes "g")) ∷ [])) ∷ []) 1 all
    (Found ((codes "d", codes "2") ∷ (codes "f", codes "3") ∷ (codes "g", codes "8") ∷ []))
    -- and none of a load that isn't installed
    ∷ told_of 2 (b_d_f_loaded ++ load (codes "l2") (without_b ∷ []) None ++ load (codes "l3") (only_g ∷ []) None
    ++ install (codes "l3") (changes [] (3 ∷ []) ((6, key_loaded 3 (codes "g")) ∷ [])) ∷ []) 1 all
    (Found ((codes "b", codes "1") ∷ (codes "d", codes "2") ∷ (codes "f", codes "3") ∷ (codes "g", codes "8") ∷ []))
    ∷ []

-- Tables act one after the other, each with its range deletes first. No history tells, since tables of a load that
-- meet are refused; the map does.
abbrev pub TablesInTurn : Type 0
TablesInTurn =
    map.entries (loaded (map.insert map.empty (codes "a") (codes "0"))
    (table_ops (codes "t1") (Set (codes "b") (codes "1") ∷ Set (codes "c") (codes "1") ∷ [])
    ∷ table_ops (codes "t2") (Set (codes "c") (codes "2") ∷ DelSpan (from_to (codes "a") (codes "c")) ∷ []) ∷ []) None)
    ≡ (codes "c", codes "2") ∷ []
