-- Whom the fence of an open load keeps out, whom it names, and what its opening seals.
use Rattle.std.specs.Prelude.{ℕ, List, [], ◌∷◌, ◌++◌, None, Some, codes}
use Rattle.xdb_key.specs.declared.op.Op.TheVariants.{DelSpan}
use Rattle.xdb_edit.specs.Changes.{changes}
use Rattle.xdb_plain.specs.Tables.{TableOps, table_ops}
use Rattle.xdb_plain.specs.declared.act.Act.TheVariants.{Seal, FlushTake, Build, LoadKept, Install}
use Rattle.xdb_plain.specs.declared.note.Note.{Note}
use Rattle.xdb_plain.specs.declared.reply.Reply.TheVariants as reply
use Rattle.xdb_rows.specs.Judged.{Case, case, step, no_step}
use Rattle.xdb_rows.specs.Notes.{c1, c2, db, trying, from_to, from_upto, file_table, table_of_key, put, put_flush, del, delspan, excise, install, load, flushed}
use Rattle.xdb_rows.specs.Tables.Small.{a_to_c, a_to_m, c_to_e, m_to_t, a_to_z, sets, stored, table_with, opens, opens_span, loaded_key}

-- l2 is opened before l1
abbrev pub two_fences : List Note
two_fences = excise (codes "l2") c_to_e ∷ excise (codes "l1") m_to_t ∷ []

-- which load a command names
abbrev pub fences_in_order : List Case
fences_in_order =
    -- the first in order of opening, and not of names or of operations
    case two_fences (
    step (c1 (sets (codes "n" ∷ codes "d" ∷ [])) (reply.Fenced (codes "l2")))
    ∷ no_step (c1 (sets (codes "n" ∷ codes "d" ∷ [])) (reply.Fenced (codes "l1")))
    ∷ step (c1 (delspan a_to_z) (reply.Fenced (codes "l2")))
    ∷ no_step (c1 (delspan a_to_z) (reply.Fenced (codes "l1")))
    ∷ step (c1 (put (codes "n") (codes "1")) (reply.Fenced (codes "l1")))
    ∷ step (c1 (opens_span (codes "l3") a_to_z) (reply.Fenced (codes "l2")))
    ∷ no_step (c1 (opens_span (codes "l3") a_to_z) (reply.Fenced (codes "l1")))
    ∷ [])
    -- an open load, and not one that is installed
    ∷ case (excise (codes "l2") a_to_z ∷ install (codes "l2") (changes [] [] []) ∷ excise (codes "l1") m_to_t
    ∷ []) (
    step (c1 (put (codes "n") (codes "1")) (reply.Fenced (codes "l1")))
    ∷ no_step (c1 (put (codes "n") (codes "1")) (reply.Fenced (codes "l2")))
    ∷ step (c1 (put (codes "b") (codes "1")) reply.Done)
    ∷ no_step (c1 (put (codes "b") (codes "1")) (reply.Fenced (codes "l2")))
    ∷ [])
    ∷ []

-- which operations touch a span
abbrev pub fences_of_spans : List Case
fences_of_spans =
    case (excise (codes "l1") c_to_e ∷ []) (
    -- every operation is asked
    step (c1 (sets (codes "x" ∷ codes "c" ∷ [])) (reply.Fenced (codes "l1")))
    ∷ no_step (c1 (sets (codes "x" ∷ codes "c" ∷ [])) reply.Done)
    ∷ step (c1 (sets (codes "c" ∷ codes "x" ∷ [])) (reply.Fenced (codes "l1")))
    ∷ no_step (c1 (sets (codes "x" ∷ codes "y" ∷ [])) (reply.Fenced (codes "l1")))
    -- the span's first key is fenced, and that of its end isn't
    ∷ step (c1 (del (codes "c")) (reply.Fenced (codes "l1")))
    ∷ no_step (c1 (del (codes "c")) reply.Done)
    ∷ step (c1 (del (codes "e")) reply.Done)
    ∷ no_step (c1 (del (codes "e")) (reply.Fenced (codes "l1")))
    ∷ step (c1 (del (codes "b")) reply.Done)
    -- a range that only touches the span is beside it
    ∷ step (c1 (delspan a_to_c) reply.Done)
    ∷ no_step (c1 (delspan a_to_c) (reply.Fenced (codes "l1")))
    ∷ step (c1 (delspan (from_to (codes "e") (codes "g"))) reply.Done)
    ∷ no_step (c1 (delspan (from_to (codes "e") (codes "g"))) (reply.Fenced (codes "l1")))
    -- one that goes a key further, one inside the span, and one around it
    ∷ step (c1 (delspan (from_upto (codes "a") (codes "c"))) (reply.Fenced (codes "l1")))
    ∷ step (c1 (delspan (from_to (codes "d") (codes "dd"))) (reply.Fenced (codes "l1")))
    ∷ step (c1 (delspan a_to_z) (reply.Fenced (codes "l1")))
    -- other clients are kept out as well
    ∷ no_step (c2 (put (codes "d") (codes "1")) reply.Done)
    ∷ step (c2 (put (codes "d") (codes "1")) (reply.Fenced (codes "l1")))
    ∷ [])
    ∷ []

-- a table of b and d, and one of p
abbrev pub b_to_d_and_p : List TableOps
b_to_d_and_p =
    table_with (codes "t") (codes "b" ∷ codes "d" ∷ []) ∷ table_with (codes "u") (codes "p" ∷ []) ∷ []

-- the bounds of each table are fenced
abbrev pub fences_of_tables : List Case
fences_of_tables =
    case (load (codes "l1") b_to_d_and_p None) (
    step (c1 (put (codes "c") (codes "1")) (reply.Fenced (codes "l1")))
    ∷ no_step (c1 (put (codes "c") (codes "1")) reply.Done)
    ∷ step (c1 (put (codes "d") (codes "1")) (reply.Fenced (codes "l1")))
    ∷ no_step (c1 (put (codes "d") (codes "1")) reply.Done)
    ∷ step (c1 (put (codes "p") (codes "1")) (reply.Fenced (codes "l1")))
    ∷ no_step (c1 (put (codes "p") (codes "1")) reply.Done)
    -- what lies between two tables isn't
    ∷ step (c1 (sets (codes "a" ∷ codes "e" ∷ codes "q" ∷ [])) reply.Done)
    ∷ no_step (c1 (put (codes "e") (codes "1")) (reply.Fenced (codes "l1")))
    ∷ [])
    -- they are fenced from the beginning of the opening on, and no longer once it failed
    ∷ case (c1 (opens (codes "l1") b_to_d_and_p None) reply.Opening ∷ []) (
    step (c1 (put (codes "c") (codes "1")) (reply.Fenced (codes "l1")))
    ∷ no_step (c1 (put (codes "c") (codes "1")) reply.Done)
    ∷ [])
    ∷ case (c1 (opens (codes "l1") b_to_d_and_p None) reply.Opening
    ∷ trying (c1 (opens (codes "l1") b_to_d_and_p None) reply.Fault) (1 ∷ []) ∷ []) (
    step (c1 (put (codes "c") (codes "1")) reply.Done)
    ∷ no_step (c1 (put (codes "c") (codes "1")) (reply.Fenced (codes "l1")))
    ∷ [])
    -- beside them the span
    ∷ case (load (codes "l1") b_to_d_and_p (Some (from_to (codes "t") (codes "v")))) (
    step (c1 (put (codes "c") (codes "1")) (reply.Fenced (codes "l1")))
    ∷ step (c1 (put (codes "u") (codes "1")) (reply.Fenced (codes "l1")))
    ∷ no_step (c1 (put (codes "u") (codes "1")) reply.Done)
    ∷ step (c1 (put (codes "r") (codes "1")) reply.Done)
    ∷ [])
    -- the range deletes of a table belong to its bounds
    ∷ case (load (codes "l1") (table_ops (codes "t") (DelSpan (from_to (codes "h") (codes "k"))
    ∷ DelSpan c_to_e ∷ []) ∷ []) None) (
    step (c1 (put (codes "c") (codes "1")) (reply.Fenced (codes "l1")))
    ∷ step (c1 (put (codes "f") (codes "1")) (reply.Fenced (codes "l1")))
    ∷ no_step (c1 (put (codes "f") (codes "1")) reply.Done)
    ∷ step (c1 (put (codes "k") (codes "1")) reply.Done)
    ∷ [])
    ∷ []

-- a table alone, and two
abbrev pub only_u : List (List ℕ) → List TableOps
only_u keys = table_with (codes "u") keys ∷ []

abbrev pub u_and_v : List TableOps
u_and_v = table_with (codes "u") (codes "p" ∷ []) ∷ table_with (codes "v") (codes "d" ∷ []) ∷ []

-- a load meets the fence of another
abbrev pub fences_of_loads : List Case
fences_of_loads =
    case (load (codes "l1") (table_with (codes "t") (codes "x" ∷ []) ∷ []) (Some c_to_e)) (
    -- span and span
    step (c1 (opens_span (codes "l2") (from_to (codes "d") (codes "f"))) (reply.Fenced (codes "l1")))
    ∷ no_step (c1 (opens_span (codes "l2") (from_to (codes "d") (codes "f"))) reply.Opened)
    ∷ step (c1 (opens_span (codes "l2") a_to_c) reply.Opened)
    ∷ step (c1 (opens_span (codes "l2") (from_to (codes "e") (codes "g"))) reply.Opened)
    ∷ no_step (c1 (opens_span (codes "l2") a_to_c) (reply.Fenced (codes "l1")))
    -- span and table
    ∷ step (c1 (opens_span (codes "l2") (from_to (codes "w") (codes "y"))) (reply.Fenced (codes "l1")))
    ∷ no_step (c1 (opens_span (codes "l2") (from_to (codes "w") (codes "y"))) reply.Opened)
    -- table and span, also where it is the second table
    ∷ step (c1 (opens (codes "l2") (only_u (codes "d" ∷ [])) None) (reply.Fenced (codes "l1")))
    ∷ no_step (c1 (opens (codes "l2") (only_u (codes "d" ∷ [])) None) reply.Opening)
    ∷ no_step (c1 (opens (codes "l2") u_and_v (Some m_to_t)) reply.Opening)
    -- table and table
    ∷ step (c1 (opens (codes "l2") (only_u (codes "w" ∷ codes "y" ∷ [])) None) (reply.Fenced (codes "l1")))
    ∷ no_step (c1 (opens (codes "l2") (only_u (codes "w" ∷ codes "y" ∷ [])) None) reply.Opening)
    ∷ step (c1 (opens (codes "l2") (only_u (codes "y" ∷ [])) None) reply.Opening)
    ∷ [])
    ∷ []

-- tables that meet: t and w, and u and v
abbrev pub t_to_w : List TableOps
t_to_w =
    table_with (codes "t") (codes "a" ∷ codes "c" ∷ [])
    ∷ table_with (codes "u") (codes "m" ∷ [])
    ∷ table_with (codes "v") (codes "m" ∷ [])
    ∷ table_with (codes "w") (codes "b" ∷ [])
    ∷ []

-- t and each of the others
abbrev pub t_to_v : List TableOps
t_to_v =
    table_with (codes "t") (codes "a" ∷ codes "c" ∷ [])
    ∷ table_with (codes "u") (codes "c" ∷ [])
    ∷ table_with (codes "v") (codes "a" ∷ [])
    ∷ []

abbrev pub t_and_u : List TableOps
t_and_u = table_with (codes "t") (codes "a" ∷ codes "c" ∷ []) ∷ table_with (codes "u") (codes "b" ∷ []) ∷ []

-- and tables that only touch
abbrev pub touching : List TableOps
touching = table_ops (codes "t") (DelSpan a_to_c ∷ []) ∷ table_ops (codes "u") (DelSpan c_to_e ∷ []) ∷ []

-- which pair of tables is named
abbrev pub overlaps_in_order : List Case
overlaps_in_order =
    case [] (
    -- the pair whose first is first, though another pair ends before it
    step (c1 (opens (codes "l") t_to_w None) (reply.Overlap (codes "t") (codes "w")))
    ∷ no_step (c1 (opens (codes "l") t_to_w None) (reply.Overlap (codes "u") (codes "v")))
    ∷ no_step (c1 (opens (codes "l") t_and_u None) (reply.Overlap (codes "v") (codes "u")))
    -- of those the pair whose second is first
    ∷ step (c1 (opens (codes "l") t_to_v None) (reply.Overlap (codes "t") (codes "u")))
    ∷ no_step (c1 (opens (codes "l") t_to_v None) (reply.Overlap (codes "t") (codes "v")))
    -- tables that only touch don't meet, and a table may meet the load's own span
    ∷ step (c1 (opens (codes "l") touching None) reply.Opening)
    ∷ no_step (c1 (opens (codes "l") touching None) (reply.Overlap (codes "t") (codes "u")))
    ∷ step (c1 (opens (codes "l") (table_ops (codes "t") (DelSpan a_to_c ∷ []) ∷ [])
    (Some a_to_z)) reply.Opening)
    ∷ [])
    ∷ []

-- an opening seals the active group where an operation of it touches the fence
abbrev pub seals_at_openings : List Case
seals_at_openings =
    -- for the span
    case (stored (codes "x" ∷ codes "b" ∷ []) ∷ excise (codes "l1") a_to_m ∷ []) (
    step (db Seal reply.Nothing)
    ∷ no_step (db Seal (reply.Group 1))
    ∷ step (db FlushTake (reply.Job 1))
    ∷ no_step (db FlushTake reply.Nothing)
    ∷ [])
    -- what comes then is in the next group
    ∷ case (stored (codes "b" ∷ []) ∷ excise (codes "l1") a_to_m ∷ stored (codes "x" ∷ []) ∷ []) (
    step (db Seal (reply.Group 2)) ∷ no_step (db Seal (reply.Group 1)) ∷ [])
    -- for the bounds of a table, as the opening begins
    ∷ case (stored (codes "c" ∷ []) ∷ c1 (opens (codes "l1") b_to_d_and_p None) reply.Opening ∷ []) (
    step (db Seal reply.Nothing) ∷ no_step (db Seal (reply.Group 1)) ∷ [])
    -- its end seals nothing
    ∷ case (stored (codes "c" ∷ []) ∷ c1 (opens (codes "l1") b_to_d_and_p None) reply.Opening
    ∷ stored (codes "x" ∷ []) ∷ c1 (opens (codes "l1") b_to_d_and_p None) reply.Opened ∷ []) (
    step (db Seal (reply.Group 2)) ∷ no_step (db Seal reply.Nothing) ∷ [])
    -- not for operations beside the fence
    ∷ case (stored (codes "m" ∷ []) ∷ excise (codes "l1") a_to_m ∷ []) (
    step (db Seal (reply.Group 1))
    ∷ no_step (db Seal reply.Nothing)
    ∷ step (db FlushTake reply.Nothing)
    ∷ no_step (db FlushTake (reply.Job 1))
    ∷ [])
    -- not for those of groups that are sealed already
    ∷ case (stored (codes "b" ∷ []) ∷ db Seal (reply.Group 1) ∷ stored (codes "x" ∷ [])
    ∷ excise (codes "l1") a_to_m ∷ []) (
    step (db Seal (reply.Group 2)) ∷ no_step (db Seal reply.Nothing) ∷ [])
    -- not where the opening is refused
    ∷ case (stored (codes "b" ∷ []) ∷ c1 (opens_span (codes "l1") a_to_m) reply.Memory ∷ []) (
    step (db Seal (reply.Group 1)) ∷ no_step (db Seal reply.Nothing) ∷ [])
    ∷ case (excise (codes "l1") c_to_e ∷ stored (codes "b" ∷ [])
    ∷ c1 (opens_span (codes "l2") a_to_m) (reply.Fenced (codes "l1")) ∷ []) (
    step (db Seal (reply.Group 1)) ∷ no_step (db Seal reply.Nothing) ∷ [])
    ∷ []

-- for which group an install waits
abbrev pub waits_for_groups : List Case
waits_for_groups =
    -- the first that touches the fence
    case (stored (codes "x" ∷ []) ∷ db Seal (reply.Group 1) ∷ stored (codes "y" ∷ codes "b" ∷ [])
    ∷ db Seal (reply.Group 2) ∷ stored (codes "b" ∷ []) ∷ excise (codes "l1") a_to_m ∷ []) (
    step (c1 (Install (codes "l1")) (reply.Waits 2))
    ∷ no_step (c1 (Install (codes "l1")) (reply.Waits 1))
    ∷ no_step (c1 (Install (codes "l1")) (reply.Waits 3))
    ∷ no_step (install (codes "l1") (changes [] [] []))
    ∷ [])
    -- for none where no group does
    ∷ case (stored (codes "m" ∷ []) ∷ excise (codes "l1") a_to_m ∷ []) (
    step (install (codes "l1") (changes [] [] [])) ∷ no_step (c1 (Install (codes "l1")) (reply.Waits 1)) ∷ [])
    -- a table's bounds are asked as well
    ∷ case (stored (codes "c" ∷ []) ∷ load (codes "l1") b_to_d_and_p (Some m_to_t)) (
    step (c1 (Install (codes "l1")) (reply.Waits 1)) ∷ no_step (c1 (Install (codes "l1")) reply.Fault) ∷ [])
    -- a group waits no longer once it is flushed
    ∷ case (stored (codes "b" ∷ []) ∷ flushed 1 1 (file_table 1 (from_upto (codes "b") (codes "b")) 1 1 85)
    ++ excise (codes "l1") (from_to (codes "A") (codes "z")) ∷ []) (
    step (install (codes "l1") (changes ((0, 1) ∷ []) [] []))
    ∷ no_step (c1 (Install (codes "l1")) (reply.Waits 1)) ∷ [])
    -- the oldest is flushed, and the others wait on
    ∷ case (stored (codes "b" ∷ []) ∷ db Seal (reply.Group 1) ∷ stored (codes "b" ∷ [])
    ∷ excise (codes "l1") a_to_m
    ∷ db FlushTake (reply.Job 1) ∷ put_flush 1 (table_of_key 1 (codes "b") 1) ∷ []) (
    step (c1 (Install (codes "l1")) (reply.Waits 2))
    ∷ no_step (install (codes "l1") (changes ((0, 1) ∷ []) [] [])) ∷ [])
    ∷ case (stored (codes "b" ∷ []) ∷ db Seal (reply.Group 1) ∷ stored (codes "x" ∷ [])
    ∷ db Seal (reply.Group 2) ∷ excise (codes "l1") a_to_m
    ∷ db FlushTake (reply.Job 1) ∷ put_flush 1 (table_of_key 1 (codes "b") 1) ∷ []) (
    step (install (codes "l1") (changes ((0, 1) ∷ []) [] []))
    ∷ no_step (c1 (Install (codes "l1")) (reply.Waits 1))
    ∷ no_step (c1 (Install (codes "l1")) (reply.Waits 2))
    ∷ [])
    -- one whose flush failed does so too
    ∷ case (stored (codes "b" ∷ []) ∷ excise (codes "l1") a_to_m ∷ db FlushTake (reply.Job 1)
    ∷ db (Build 1) reply.Fault ∷ []) (
    step (c1 (Install (codes "l1")) (reply.Waits 1)) ∷ no_step (install (codes "l1") (changes [] [] [])) ∷ [])
    ∷ []

-- how long a name is in use
abbrev pub names_of_loads : List Case
names_of_loads =
    -- while it waits, also for other clients
    case (excise (codes "l1") a_to_m ∷ []) (
    step (c1 (opens_span (codes "l1") m_to_t) reply.NameInUse)
    ∷ no_step (c1 (opens_span (codes "l1") m_to_t) reply.Opened)
    ∷ no_step (c1 (opens_span (codes "l1") a_to_m) reply.Opened)
    ∷ step (c2 (opens_span (codes "l1") m_to_t) reply.NameInUse)
    ∷ step (c1 (opens_span (codes "l") m_to_t) reply.Opened)
    ∷ no_step (c1 (opens_span (codes "l") m_to_t) reply.NameInUse)
    ∷ [])
    -- after its install
    ∷ case (excise (codes "l1") a_to_m ∷ install (codes "l1") (changes [] [] []) ∷ []) (
    step (c1 (opens_span (codes "l1") m_to_t) reply.NameInUse)
    ∷ no_step (c1 (opens_span (codes "l1") m_to_t) reply.Opened)
    ∷ step (c1 (Install (codes "l1")) reply.NoSuch)
    ∷ no_step (install (codes "l1") (changes [] [] []))
    ∷ [])
    -- while it is being opened, which ends with the same tables and the same span, until that fails
    ∷ case (c1 (opens (codes "l1") b_to_d_and_p None) reply.Opening ∷ []) (
    step (c1 (opens_span (codes "l1") m_to_t) reply.NameInUse)
    ∷ step (c1 (LoadKept (codes "l1")) reply.NotYet)
    ∷ no_step (c1 (LoadKept (codes "l1")) reply.NoSuch)
    ∷ step (c2 (LoadKept (codes "l1")) reply.NoSuch)
    ∷ no_step (c2 (LoadKept (codes "l1")) reply.NotYet)
    ∷ step (c1 (opens (codes "l1") b_to_d_and_p None) reply.Opened)
    ∷ no_step (c1 (opens (codes "l1") b_to_d_and_p (Some m_to_t)) reply.Opened)
    ∷ no_step (c1 (opens (codes "l1") [] None) reply.Opened)
    ∷ [])
    ∷ case (c1 (opens (codes "l1") b_to_d_and_p None) reply.Opening
    ∷ c1 (opens (codes "l1") b_to_d_and_p None) reply.Memory ∷ []) (
    step (c1 (opens_span (codes "l1") m_to_t) reply.Opened)
    ∷ no_step (c1 (opens_span (codes "l1") m_to_t) reply.NameInUse)
    ∷ step (c1 (Install (codes "l1")) reply.NoSuch)
    ∷ step (c1 (LoadKept (codes "l1")) reply.NoSuch)
    ∷ [])
    -- one load comes on, and not another
    ∷ case (c1 (opens (codes "l1") b_to_d_and_p None) reply.Opening
    ∷ c1 (opens (codes "l2") (table_with (codes "v") (codes "x" ∷ []) ∷ []) None) reply.Opening
    ∷ c1 (opens (codes "l1") b_to_d_and_p None) reply.Opened ∷ []) (
    step (c1 (Install (codes "l2")) reply.NotYet)
    ∷ no_step (install (codes "l2") (changes [] (3 ∷ []) ((6, loaded_key 3 (codes "x") 1) ∷ [])))
    ∷ step (c1 (LoadKept (codes "l2")) reply.NotYet)
    ∷ step (c1 (LoadKept (codes "l1")) reply.NoSuch)
    ∷ no_step (c1 (LoadKept (codes "l1")) reply.NotYet)
    ∷ no_step (c1 (Install (codes "l1")) reply.NotYet)
    ∷ [])
    ∷ case (excise (codes "l1") a_to_c ∷ excise (codes "l2") m_to_t ∷ install (codes "l1") (changes [] [] [])
    ∷ []) (
    step (c1 (put (codes "b") (codes "1")) reply.Done)
    ∷ step (c1 (put (codes "n") (codes "1")) (reply.Fenced (codes "l2")))
    ∷ no_step (c1 (put (codes "n") (codes "1")) reply.Done)
    ∷ [])
    -- a failed opening takes no other load with it
    ∷ case (excise (codes "l2") (from_to (codes "t") (codes "v"))
    ∷ c1 (opens (codes "l1") b_to_d_and_p None) reply.Opening
    ∷ c1 (opens (codes "l1") b_to_d_and_p None) reply.Memory ∷ []) (
    step (c1 (opens_span (codes "l2") a_to_m) reply.NameInUse)
    ∷ no_step (c1 (opens_span (codes "l2") a_to_m) reply.Opened)
    ∷ step (c1 (put (codes "u") (codes "1")) (reply.Fenced (codes "l2")))
    ∷ [])
    ∷ []
