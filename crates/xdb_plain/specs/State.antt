-- The plain state: what a history has come to.
use Rattle.std.specs.Prelude.{ℕ, Bool, true, false, List, [], ◌∷◌, ◌++◌, Option, ◌==◌, not, filter}
use Rattle.std.specs.List.{find}
use Rattle.std.specs.Ordering.{eq_by_cmp}
use Rattle.std.specs.FinMap as map
use Rattle.xdb_key.specs.Bounds.{Bounds}
use Rattle.xdb_key.specs.Groups.{Group}
use Rattle.xdb_key.specs.Order.{key_cmp}
use Rattle.xdb_key.specs.declared.op.Op.{Op}
use Rattle.xdb_key.specs.declared.state.SnapState.{SnapState}
use Rattle.xdb_edit.specs.Versions.{LevelLists, no_tables}
use Rattle.xdb_plain.specs.PlainMap.{PlainMap}
use Rattle.xdb_plain.specs.Tables.{TableOps}
use Rattle.xdb_plain.specs.declared.act.By.{By}
use Rattle.xdb_plain.specs.declared.answer.Answer.{Answer}
use Rattle.xdb_plain.specs.declared.question.Place.{Place}
use Rattle.xdb_plain.specs.declared.question.Question.{Question}

-- a snapshot: the next sequence number at its making, and the whole map as it was then
pub record Snapshot : Type 0 where
  pub name : List ℕ
  pub ranges : List Bounds
  pub mark : ℕ
  pub copy : PlainMap
  -- a pinned one has the group of its making
  pub state : SnapState

-- a cursor: a copy of the map that it looks at, and where it stands in its range
pub record Cursor : Type 0 where
  pub name : List ℕ
  pub range : Bounds
  pub copy : PlainMap
  pub place : Place

-- how far a load has come: its tables are being written, it waits for its install, or it is installed
pub data Phase : Type 0 where
  being_opened : Phase
  waiting : Phase
  is_in : Phase

-- a load, with the first of the file numbers that its tables have
pub record Load : Type 0 where
  pub name : List ℕ
  pub by : By
  pub tables : List TableOps
  pub span : Option Bounds
  pub first : ℕ
  pub phase : Phase

-- a question that was asked and has no reply yet: its answer is that of the step at which it was asked, and
-- a move has the place that it leads to
pub record OpenQuestion : Type 0 where
  pub ask : ℕ
  pub by : By
  pub question : Question
  pub parted : Bool
  pub answer : Answer
  pub place : Place

-- a running compaction: its level, its inputs by level and number, its hull, and the first load whose span met it
pub record Compaction : Type 0 where
  pub level : ℕ
  pub inputs : List (ℕ × ℕ)
  pub hull : Bounds
  pub cancelled : Option (List ℕ)

pub data JobKind : Type 0 where
  flush_of : ℕ → JobKind
  compaction_of : Compaction → JobKind

-- a running flush or compaction, with the first of its file numbers
pub record Job : Type 0 where
  pub num : ℕ
  pub first : ℕ
  pub kind : JobKind

-- a version: how many edits led to it, and its tables
pub record Version : Type 0 where
  pub num : ℕ
  pub levels : LevelLists

-- who holds a version
pub data Holder : Type 0 where
  for_snap : List ℕ → Holder
  for_cursor : List ℕ → Holder
  for_ask : ℕ → Holder
  for_job : ℕ → Holder

pub record Hold : Type 0 where
  pub id : ℕ
  pub holder : Holder
  pub version : Version

pub record Plain : Type 0 where
  pub map : PlainMap
  -- the next sequence number, and the next file number
  pub next : ℕ
  pub file : ℕ
  -- the groups of operations that aren't in tables yet: the sealed ones, the oldest first, and the active one
  pub sealed : List Group
  pub active : Group
  -- the open ones, in the order of their making
  pub snaps : List Snapshot
  pub cursors : List Cursor
  -- in the order of their opening, and those that were installed too
  pub loads : List Load
  -- how many questions have been asked, and the open ones in that order
  pub asked : ℕ
  pub questions : List OpenQuestion
  -- how many jobs have been started, and the running ones in that order
  pub started : ℕ
  pub jobs : List Job
  -- the current version, and the holds of versions
  pub current : Version
  pub holds : List Hold
  -- the numbers of files that were made or tried, rising, and of them those that were taken for removal
  pub known : List ℕ
  pub taken : List ℕ

abbrev pub group_of : ℕ → List (ℕ × Op) → Group
group_of num ops = record { num = num; ops = ops }

-- before the first step; given are the first sequence number and the first file number
abbrev pub opening : ℕ → ℕ → Plain
opening first_seq first_file = record {
  map = map.empty;
  next = first_seq;
  file = first_file;
  sealed = [];
  active = group_of 1 [];
  snaps = [];
  cursors = [];
  loads = [];
  asked = 0;
  questions = [];
  started = 0;
  jobs = [];
  current = record { num = 0; levels = no_tables };
  holds = [];
  known = [];
  taken = [];
}

-- the groups that aren't in tables yet, the oldest first
abbrev pub groups : Plain → List Group
groups p = p.sealed ++ p.active ∷ []

abbrev pub same_name : List ℕ → List ℕ → Bool
same_name a b = eq_by_cmp key_cmp a b

-- the open snapshot of a name
abbrev pub found_snap : List ℕ → List Snapshot → Option Snapshot
found_snap name snaps = find (λ s. same_name s.name name) snaps

abbrev pub without_snap : List ℕ → List Snapshot → List Snapshot
without_snap name snaps = filter (λ s. not (same_name s.name name)) snaps

-- the open cursor of a name
abbrev pub found_cursor : List ℕ → List Cursor → Option Cursor
found_cursor name cursors = find (λ c. same_name c.name name) cursors

abbrev pub without_cursor : List ℕ → List Cursor → List Cursor
without_cursor name cursors = filter (λ c. not (same_name c.name name)) cursors

-- the load of a name, be it installed or not
abbrev pub found_load : List ℕ → List Load → Option Load
found_load name loads = find (λ l. same_name l.name name) loads

abbrev pub without_load : List ℕ → List Load → List Load
without_load name loads = filter (λ l. not (same_name l.name name)) loads

-- a load is open until it is installed
abbrev pub is_open : Load → Bool
is_open l = is_open_in l.phase
  where
    is_open_in : Phase → Bool
    is_open_in being_opened = true
    is_open_in waiting = true
    is_open_in is_in = false

abbrev pub open_loads : List Load → List Load
open_loads loads = filter is_open loads

-- the open question of a number
abbrev pub found_question : ℕ → List OpenQuestion → Option OpenQuestion
found_question ask questions = find (λ q. q.ask == ask) questions

-- the open questions but for that of a number
abbrev pub without_question : ℕ → List OpenQuestion → List OpenQuestion
without_question ask questions = filter (λ q. not (q.ask == ask)) questions

-- the running job of a number
abbrev pub found_job : ℕ → List Job → Option Job
found_job num jobs = find (λ j. j.num == num) jobs

abbrev pub without_job : ℕ → List Job → List Job
without_job num jobs = filter (λ j. not (j.num == num)) jobs
