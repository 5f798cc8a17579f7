-- Who may make an act: 16 clients, or the owner.
use Rattle.std.specs.Prelude.{true, false, List, [], ◌∷◌, ◌++◌, None, Some, codes}
use Rattle.xdb_edit.specs.Changes.{changes}
use Rattle.xdb_plain.specs.declared.act.Act.{Act}
use Rattle.xdb_plain.specs.declared.act.Act.TheVariants.{Seal, FlushTake, CompactTake, Put, Build, Work, LoadKept, Install, Snap, Drop, Status, Cursor, Shut, Ask, Settle, Reap, Remove, Show}
use Rattle.xdb_plain.specs.declared.act.By.TheVariants.{Client, Db}
use Rattle.xdb_plain.specs.declared.act.ShowWhat.TheVariants as show
use Rattle.xdb_plain.specs.declared.act.StatusForm.TheVariants as status_form
use Rattle.xdb_plain.specs.declared.act.Which.TheVariants.{Auto}
use Rattle.xdb_plain.specs.declared.note.HoldNote.TheVariants.{Hold, Release}
use Rattle.xdb_plain.specs.declared.reply.Reply.{Reply}
use Rattle.xdb_plain.specs.declared.reply.Reply.TheVariants as reply
use Rattle.xdb_rows.specs.Judged.{Case, Next, case, step, no_step}
use Rattle.xdb_rows.specs.Notes.{note, db, get_at, excise, install, flushed, table_of_key}
use Rattle.xdb_rows.specs.Tables.Small.{a_to_c, a_to_m, m_to_t, sets, stored, opens_span}

-- a client's act is no other's, and the owner's act is no client's
abbrev pub by_client : Act → Reply → List Next
by_client a r =
    step (note (Client 2) a r)
    ∷ no_step (note Db a r)
    ∷ no_step (note (Client 0) a r)
    ∷ no_step (note (Client 17) a r)
    ∷ []

abbrev pub by_owner : Act → Reply → List Next
by_owner a r = step (note Db a r) ∷ no_step (note (Client 1) a r) ∷ []

-- the acts of clients
abbrev pub makers_of_clients : List Case
makers_of_clients =
    case [] (
    by_client (sets (codes "a" ∷ [])) reply.Done
    ++ by_client (opens_span (codes "l") a_to_m) reply.Opened
    ++ by_client (LoadKept (codes "l")) reply.NoSuch
    ++ by_client (Install (codes "l")) reply.NoSuch
    ++ by_client (Snap (codes "s") (m_to_t ∷ a_to_c ∷ [])) reply.BadRanges
    ++ by_client (Drop (codes "s")) reply.NoSuch
    ++ by_client (Status (codes "s") status_form.Status) reply.NoSuch
    ++ by_client (Cursor (codes "k") a_to_m (Some (codes "s"))) reply.NoSuch)
    ∷ case [] (
    by_client (Shut (codes "k")) reply.NoSuch
    ++ by_client (Ask 0 (get_at (codes "a") (codes "s")) false) reply.NoSuch
    ++ by_client (Settle 1) reply.NoSuch
    -- the first and the last client
    ++ step (note (Client 1) (sets (codes "a" ∷ [])) reply.Done)
    ∷ step (note (Client 16) (sets (codes "a" ∷ [])) reply.Done)
    ∷ [])
    ∷ []

-- the acts of the owner
abbrev pub makers_by_the_owner : List Case
makers_by_the_owner =
    case [] (
    by_owner Seal reply.Nothing
    ++ by_owner FlushTake reply.Nothing
    ++ by_owner (CompactTake Auto) reply.Nothing
    ++ by_owner (Put 1) reply.NoSuch
    ++ by_owner (Build 1) reply.NoSuch
    ++ by_owner (Work 1) reply.NoSuch
    ++ by_owner Reap reply.Nothing
    ++ by_owner (Show show.Snaps) (reply.Snaps []))
    ∷ case (stored (codes "b" ∷ []) ∷ flushed 1 1 (table_of_key 1 (codes "b") 1) ++ excise (codes "l1") a_to_m
    ∷ install (codes "l1") (changes ((0, 1) ∷ []) [] []) ∷ db Reap (reply.Took 1) ∷ []) (
    by_owner (Remove 1) reply.Stuck ++ no_step (db (Remove 2) reply.Stuck) ∷ [])
    ∷ []

-- what one client made may serve another
abbrev pub makers_of_names : List Case
makers_of_names =
    case (
    note (Client 1) (opens_span (codes "l") a_to_c) reply.Opened
    ∷ record (note (Client 1) (Snap (codes "s") (a_to_m ∷ [])) reply.FileOnly) { holds = Hold 1 0 ∷ [] }
    ∷ record (note (Client 1) (Cursor (codes "k") a_to_m None) reply.CursorOn) { holds = Hold 2 0 ∷ [] } ∷ []) (
    step (record (note (Client 2) (Install (codes "l")) reply.Installed) { edit = Some (changes [] [] []) })
    ∷ step (note (Client 2) (Status (codes "s") status_form.Await) reply.FileOnly)
    ∷ step (record (note (Client 2) (Drop (codes "s")) reply.Dropped) { holds = Release 1 ∷ [] })
    ∷ step (record (note (Client 2) (Shut (codes "k")) reply.Shut) { holds = Release 2 ∷ [] })
    ∷ step (record (note (Client 2) (Ask 1 (get_at (codes "a") (codes "s")) true)
    (reply.Asked 1)) { holds = Hold 3 0 ∷ [] })
    ∷ [])
    ∷ []
