-- What holds between the topics of an engine's parts.
use Rattle.std.specs.Prelude.{◌≡◌, ℕ, ◌+◌, ◌≤◌, false, List, ◌∷◌, ◌++◌, map, filter, IsTrue}
use Rattle.std.specs.List.{AllByRecursion}
use Rattle.xdb_edit.specs.Versions.{LevelLists, tables_of}
use Rattle.xdb_key.specs.Groups.{Group}
use Rattle.xdb_laws.specs.Ordered.{Ordered, places}
use Rattle.xdb_laws.specs.Rewrite.{AreLimits}
use Rattle.xdb_lists.specs.Numbers.{is_among}
use Rattle.xdb_mem.specs.Parts.{items}
use Rattle.xdb_mem.specs.Queue.{Queue, groups, all_ops}
use Rattle.xdb_model.specs.Apart.{Pairwise}
use Rattle.xdb_plain.specs.Counts.{job_numbers, job_owns, same_holder}
use Rattle.xdb_plain.specs.PlainMap.{PlainMap}
use Rattle.xdb_plain.specs.Snapshots.{is_pinned}
use Rattle.xdb_plain.specs.State.{Hold, Holder, Job, JobKind, flush_of, compaction_of, Snapshot}
use Rattle.xdb_rangedel.specs.Content.{Item, IsImage, in_pieces}
use Rattle.xdb_rangedel.specs.Members.{Has, SameMembers}
use Rattle.xdb_steps.specs.Core.{RunningJob, table_items}
use Rattle.xdb_steps.specs.Tables.{Contents, StandInL0, l0_of}

-- ---- files and their owners

-- none of the job's file numbers is known
abbrev pub IsUnknown : List ℕ → Job → Type 0
IsUnknown known j = (n : ℕ) → IsTrue (job_owns n j) → is_among n known ≡ false

-- no file number is both jobs'
abbrev pub OwnApart : Job → Job → Type 0
OwnApart i j = (n : ℕ) → IsTrue (job_owns n i) → job_owns n j ≡ false

-- The file numbers that jobs reserved lie below the next one. None is known, and each is of one job.
pub record Owned (file : ℕ) (known : List ℕ) (jobs : List RunningJob) : Type 0 where
  pub below : AllByRecursion (λ r. r.job.first + job_numbers r.job.kind ≤ file) jobs
  pub unknown : AllByRecursion (λ r. IsUnknown known r.job) jobs
  pub apart : Pairwise (λ r s. OwnApart r.job s.job) jobs

-- ---- versions and who holds them

abbrev pub AreOneHold : Hold → Hold → Type 0
AreOneHold h k = IsTrue (same_holder h.holder k.holder) → h ≡ k

-- Each holder has one hold, and each hold one holder. No two holds have one number.
pub record Held (holds : List Hold) (holders : List Holder) : Type 0 where
  pub whose : SameMembers (map (λ h. h.holder) holds) holders
  pub one_each : (h k : Hold) → Has holds h → Has holds k → AreOneHold h k
  pub one_number : (h k : Hold) → Has holds h → Has holds k → h.id ≡ k.id → h ≡ k

-- ---- jobs and what they were given

-- the group is the oldest sealed one, and this is what it has
pub record HasOldest (sealed : List Group) (group : ℕ) (content : List Item) : Type 0 where
  pub first : Group
  pub behind : List Group
  pub oldest : sealed ≡ first ∷ behind
  pub num : first.num ≡ group
  pub whole : SameMembers content (in_pieces (items first.ops))

abbrev pub FitsGiven : List Group → List Item → JobKind → Type 0
FitsGiven sealed content (flush_of group) = HasOldest sealed group content
FitsGiven sealed content (compaction_of c) = Unit {0}

-- A running flush was given all of the oldest sealed group.
abbrev pub UnderWay : List Group → List RunningJob → Type 0
UnderWay sealed jobs = AllByRecursion (λ r. FitsGiven sealed r.content r.job.kind) jobs

-- ---- memtables and tables

-- what each group has, the oldest first
abbrev pub group_items : Queue → List (List Item)
group_items mem = map (λ g. items g.ops) (groups mem)

-- all that tables and memtables have
abbrev pub all_items : Contents → Queue → List Item
all_items contents mem = table_items contents ++ items (all_ops (groups mem))

-- The image of tables and memtables at the next number is the map.
pub record ImageIs (contents : Contents) (mem : Queue) (next : ℕ) (m : PlainMap) : Type 0 where
  pub image : IsImage (all_items contents mem) next m

-- From the active group down to the last level each place is clear, and newer at each key than all that stands below
-- it. In L0 tables stand by the greatest number that is kept with each.
pub record InLevelOrder (levels : LevelLists) (contents : Contents) (mem : Queue) (next : ℕ)
    : Type 0 where
  pub places : Ordered (places (group_items mem) contents)
  pub l0 : StandInL0 (items (all_ops (groups mem))) next (tables_of levels 0) (l0_of contents)

-- ---- snapshots, and all that stands at their marks

-- the marks of those that are pinned
abbrev pub pinned_marks : List Snapshot → List ℕ
pinned_marks snaps = map (λ s. s.mark) (filter (λ s. is_pinned s.state) snaps)

-- Each mark is a stripe of each running job, or lies above all numbers that the job was given.
abbrev pub Striped : List ℕ → List RunningJob → Type 0
Striped marks jobs = AllByRecursion (λ r. AreLimits r.content r.stripes marks) jobs
