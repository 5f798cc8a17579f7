-- The replies that may stand, by the act, in the order in which they are tested. What the plain state doesn't
-- show, what work finds and want of memory, keeps no later reply out.
use Rattle.std.specs.Prelude.{ℕ, ◌+◌, ◌^◌, Bool, true, false, not, ◌&&◌, ◌||◌, List, [], ◌∷◌, ◌++◌, length, filter, Option, Some, None, ◌==◌, nat_lt, nat_le, is_some, is_none, if◌then◌else◌}
use Rattle.std.specs.List.{find, list_any}
use Rattle.xdb_key.specs.Bounds.{Bounds, holds, covers}
use Rattle.xdb_key.specs.Groups.{first_touching}
use Rattle.xdb_key.specs.Order.{is_below}
use Rattle.xdb_key.specs.declared.state.SnapState.{SnapState}
use Rattle.xdb_key.specs.declared.state.SnapState.TheVariants as state
use Rattle.xdb_meta.specs.Table.{Table}
use Rattle.xdb_edit.specs.Plans.{Planned, plan_for, pick}
use Rattle.xdb_plain.specs.Counts.{dead, counts, is_among}
use Rattle.xdb_plain.specs.Edits.{running_hulls, crossed, is_empty}
use Rattle.xdb_plain.specs.Fences.{fence, fence_of, fence_touched, fence_met, first_overlap}
use Rattle.xdb_plain.specs.Snapshots.{first_state, are_rising, snap_states}
use Rattle.xdb_plain.specs.State.{Plain, Snapshot, Cursor, Load, Phase, being_opened, waiting, is_in, OpenQuestion, Job, JobKind, flush_of, compaction_of, groups, same_name, found_snap, found_cursor, found_load, open_loads, found_question, found_job}
use Rattle.xdb_plain.specs.Tables.{TableOps}
use Rattle.xdb_plain.specs.declared.act.Act.{Act}
use Rattle.xdb_plain.specs.declared.act.Act.TheVariants as act
use Rattle.xdb_plain.specs.declared.act.By.{By}
use Rattle.xdb_plain.specs.declared.act.By.TheVariants.{Client, Db}
use Rattle.xdb_plain.specs.declared.act.ShowWhat.{ShowWhat}
use Rattle.xdb_plain.specs.declared.act.ShowWhat.TheVariants as show
use Rattle.xdb_plain.specs.declared.act.Which.{Which}
use Rattle.xdb_plain.specs.declared.act.Which.TheVariants.{Auto, At}
use Rattle.xdb_plain.specs.declared.answer.Answer.TheVariants.{Absent}
use Rattle.xdb_plain.specs.declared.question.Question.{Question}
use Rattle.xdb_plain.specs.declared.question.Question.TheVariants.{Get, Scan, RScan, Move}
use Rattle.xdb_plain.specs.declared.reply.Reply.{Reply}
use Rattle.xdb_plain.specs.declared.reply.Reply.TheVariants.{Done, Installed, Opened, Opening, Dropped, Shut, CursorOn, Answered, Asked, Group, Job as Started, Took, FileOnly, Pinned, Excised, Fenced, Waits, Cancelled, Busy, Overlap, Nothing, NoSuch, Outside, NameInUse, TooMany, BadRanges, Spent, NotYet, Fault, Stuck, Memory, Damaged, Levels, Counts, Snaps}

-- the sequence numbers that are kept back: one for each open load with tables
abbrev pub kept_back : List Load → ℕ
kept_back loads = length (filter (λ l. not (is_empty l.tables)) (open_loads loads))

-- so many sequence numbers, or file numbers, are no longer there
abbrev pub lacks_numbers : Plain → ℕ → Bool
lacks_numbers p n = nat_lt (2 ^ 56) (p.next + kept_back p.loads + n)

abbrev pub lacks_files : Plain → ℕ → Bool
lacks_files p n = nat_lt (2 ^ 56) (p.file + n)

-- a reply where there is something to name, and else the others
abbrev pub or_reply : {A : Type 0} → (A → Reply) → Option A → List Reply → List Reply
or_reply reply (Some x) others = reply x ∷ []
or_reply reply None others = others

-- a commit
abbrev pub commit_replies : Plain → ℕ → Option (List ℕ) → List Reply
commit_replies p len fenced = or_reply Fenced fenced (if lacks_numbers p len then Spent ∷ [] else Memory ∷ Done ∷ [])

abbrev pub seal_replies : Plain → List Reply
seal_replies p = if is_empty p.active.ops then Nothing ∷ [] else Group p.active.num ∷ []

abbrev pub is_flush : JobKind → Bool
is_flush (flush_of group) = true
is_flush (compaction_of c) = false

abbrev pub flush_take_replies : Plain → List Reply
flush_take_replies p =
    if is_empty p.sealed || list_any (λ j. is_flush j.kind) p.jobs then Nothing ∷ [] else (
    if lacks_files p 1 then Spent ∷ [] else Memory ∷ Started (p.started + 1) ∷ [])

-- the plan of a compaction of the current version, beside the running ones
abbrev pub plan_now : Plain → Which → Option Planned
plan_now p Auto = pick p.current.levels (running_hulls p.jobs)
plan_now p (At level range) = plan_for p.current.levels (running_hulls p.jobs) level range

abbrev pub compact_take_replies : Plain → Option Planned → List Reply
compact_take_replies p plan =
    Memory ∷ (if nat_le 4 (length (running_hulls p.jobs)) || is_none plan then Nothing ∷ [] else (
    if lacks_files p 64 then Spent ∷ [] else Started (p.started + 1) ∷ []))

abbrev pub put_replies : Option Job → List Reply
put_replies None = NoSuch ∷ []
put_replies (Some job) = NotYet ∷ by_kind job.kind
  where
    by_kind : JobKind → List Reply
    by_kind (flush_of group) = Memory ∷ Installed ∷ []
    by_kind (compaction_of c) = or_reply Cancelled c.cancelled (Memory ∷ Installed ∷ [])

-- a failure of a running job, and what a script hears where there is nothing to build
abbrev pub build_replies : Option Job → List Reply
build_replies None = NoSuch ∷ []
build_replies (Some job) = NoSuch ∷ Fault ∷ Damaged 0 0 ∷ Memory ∷ []

-- the same of a question; one that isn't parted fails as it is asked
abbrev pub work_replies : Option OpenQuestion → List Reply
work_replies None = NoSuch ∷ []
work_replies (Some q) = NoSuch ∷ (if q.parted then Fault ∷ Damaged 0 0 ∷ Memory ∷ [] else [])

abbrev pub is_being_opened : Load → Bool
is_being_opened l = is_first l.phase
  where
    is_first : Phase → Bool
    is_first being_opened = true
    is_first waiting = false
    is_first is_in = false

abbrev pub overlap_reply : List ℕ × List ℕ → Reply
overlap_reply names = Overlap names.0 names.1

-- a load under a new name
abbrev pub new_load_replies : Plain → List TableOps → Option Bounds → List Reply
new_load_replies p tables span =
    if is_empty tables && is_none span then Nothing ∷ [] else (
    if nat_le 16 (length (open_loads p.loads)) then TooMany ∷ [] else
    Memory ∷ or_reply overlap_reply (first_overlap tables) (or_reply Fenced (fence_met (fence tables span) p.loads) (
    if is_empty tables then Opened ∷ [] else (
    if lacks_numbers p 1 || lacks_files p (length tables) then Spent ∷ [] else Opening ∷ []))))

-- the opening of a load begins, or ends
abbrev pub load_open_replies : Plain → List TableOps → Option Bounds → Option Load → List Reply
load_open_replies p tables span None = new_load_replies p tables span
load_open_replies p tables span (Some l) = NameInUse ∷ (if is_being_opened l then Opened ∷ Fault ∷ Memory ∷ [] else [])

abbrev pub same_by : By → By → Bool
same_by (Client a) (Client b) = a == b
same_by Db Db = true
same_by _ _ = false

abbrev pub load_kept_replies : By → Option Load → List Reply
load_kept_replies by None = NoSuch ∷ []
load_kept_replies by (Some l) = if is_being_opened l && same_by l.by by then NotYet ∷ [] else NoSuch ∷ []

-- how many halves a span may leave of a table: one on each side where the table reaches beyond it
abbrev pub most_halves_of : Bounds → Table → ℕ
most_halves_of span t = (if is_below t.lo span.lo then 1 else 0) + (if is_below span.hi t.hi then 1 else 0)

abbrev pub most_halves : List (ℕ × Table) → Option Bounds → ℕ
most_halves olds None = 0
most_halves [] (Some span) = 0
most_halves (old ∷ olds) (Some span) = most_halves_of span old.1 + most_halves olds (Some span)

abbrev pub install_work_replies : Plain → Load → List Reply
install_work_replies p l =
    (if lacks_files p (most_halves (crossed p.current.levels l.span) l.span) then Spent ∷ [] else [])
    ++ Memory ∷ Fault ∷ Damaged 0 0 ∷ Installed ∷ []

abbrev pub install_replies : Plain → Option Load → List Reply
install_replies p None = NoSuch ∷ []
install_replies p (Some l) = by_phase l.phase
  where
    by_phase : Phase → List Reply
    by_phase being_opened = NotYet ∷ []
    by_phase waiting = or_reply Waits (first_touching (fence_of l) (groups p)) (install_work_replies p l)
    by_phase is_in = NoSuch ∷ []

abbrev pub state_reply : SnapState → Reply
state_reply (state.Pinned group) = Pinned group
state_reply state.FileOnly = FileOnly
state_reply (state.Excised load) = Excised load

abbrev pub snap_replies : Plain → List ℕ → List Bounds → List Reply
snap_replies p name ranges =
    if is_some (found_snap name p.snaps) then NameInUse ∷ [] else (
    if not (are_rising ranges) then BadRanges ∷ [] else (
    if nat_le 64 (length p.snaps) then TooMany ∷ [] else
    Memory ∷ state_reply (first_state ranges p.next (groups p)) ∷ []))

abbrev pub drop_replies : Option Snapshot → List Reply
drop_replies None = NoSuch ∷ []
drop_replies (Some s) = Dropped ∷ []

abbrev pub status_replies : Option Snapshot → List Reply
status_replies None = NoSuch ∷ []
status_replies (Some s) = state_reply s.state ∷ []

abbrev pub excised_or : SnapState → List Reply → List Reply
excised_or (state.Pinned group) others = others
excised_or state.FileOnly others = others
excised_or (state.Excised load) others = Excised load ∷ []

-- what looks at a snapshot has to lie inside one of its ranges, and finds it refused where it was excised
abbrev pub through_replies : (Bounds → Bool) → Option Snapshot → List Reply → List Reply
through_replies is_inside None others = NoSuch ∷ []
through_replies is_inside (Some s) others = if list_any is_inside s.ranges then excised_or s.state others else Outside ∷ []

abbrev pub at_replies : Plain → (Bounds → Bool) → Option (List ℕ) → List Reply → List Reply
at_replies p is_inside None others = others
at_replies p is_inside (Some name) others = through_replies is_inside (found_snap name p.snaps) others

abbrev pub cursor_replies : Plain → List ℕ → Bounds → Option (List ℕ) → List Reply
cursor_replies p name range at =
    if is_some (found_cursor name p.cursors) then NameInUse ∷ [] else
    at_replies p (λ r. covers r range) at (if nat_le 64 (length p.cursors) then TooMany ∷ [] else Memory ∷ CursorOn ∷ [])

abbrev pub is_move_of : List ℕ → Question → Bool
is_move_of name (Move cursor step) = same_name cursor name
is_move_of name _ = false

-- the number of the question that is open on a cursor
abbrev pub busy_on : List ℕ → List OpenQuestion → Option OpenQuestion
busy_on name questions = find (λ q. is_move_of name q.question) questions

abbrev pub busy_reply : OpenQuestion → Reply
busy_reply q = Busy q.ask

-- what needs a cursor that no question is open on
abbrev pub on_cursor_replies : Plain → Option Cursor → List Reply → List Reply
on_cursor_replies p None others = NoSuch ∷ []
on_cursor_replies p (Some c) others = or_reply busy_reply (busy_on c.name p.questions) others

abbrev pub room_replies : Plain → List Reply
room_replies p = if nat_le 64 (length p.questions) then TooMany ∷ [] else Memory ∷ Asked (p.asked + 1) ∷ []

-- a new question
abbrev pub new_ask_replies : Plain → Question → List Reply
new_ask_replies p (Get key at) = at_replies p (λ r. holds r key) at (room_replies p)
new_ask_replies p (Scan range most at) = at_replies p (λ r. covers r range) at (room_replies p)
new_ask_replies p (RScan range most at) = at_replies p (λ r. covers r range) at (room_replies p)
new_ask_replies p (Move cursor step) = on_cursor_replies p (found_cursor cursor p.cursors) (room_replies p)

-- a question that isn't parted gets its reply as an act of its own kind
abbrev pub ask_replies : Plain → Question → Option OpenQuestion → List Reply
ask_replies p question None = new_ask_replies p question
ask_replies p question (Some q) = if q.parted then [] else Answered Absent ∷ Fault ∷ Damaged 0 0 ∷ Memory ∷ []

abbrev pub settle_replies : Option OpenQuestion → List Reply
settle_replies None = NoSuch ∷ []
settle_replies (Some q) = NotYet ∷ (if q.parted then Answered Absent ∷ [] else [])

abbrev pub reap_replies : List ℕ → List Reply
reap_replies [] = Nothing ∷ []
reap_replies (n ∷ ns) = Took n ∷ []

abbrev pub shown : Plain → ShowWhat → Reply
shown p show.Levels = Levels p.current.levels
shown p show.Counts = Counts (counts p)
shown p show.Snaps = Snaps (snap_states p.snaps)

-- An answer stands for any answer, and damage for damage at any place.
abbrev pub may_reply : Plain → By → Act → List Reply
may_reply p by (act.Commit form ops) = commit_replies p (length ops) (fence_touched ops p.loads)
may_reply p by act.Seal = seal_replies p
may_reply p by act.FlushTake = flush_take_replies p
may_reply p by (act.CompactTake which) = compact_take_replies p (plan_now p which)
may_reply p by (act.Put job) = put_replies (found_job job p.jobs)
may_reply p by (act.Build job) = build_replies (found_job job p.jobs)
may_reply p by (act.Work ask) = work_replies (found_question ask p.questions)
may_reply p by (act.LoadOpen load tables span) = load_open_replies p tables span (found_load load p.loads)
may_reply p by (act.LoadKept load) = load_kept_replies by (found_load load p.loads)
may_reply p by (act.Install load) = install_replies p (found_load load p.loads)
may_reply p by (act.Snap name ranges) = snap_replies p name ranges
may_reply p by (act.Drop name) = drop_replies (found_snap name p.snaps)
may_reply p by (act.Status name form) = status_replies (found_snap name p.snaps)
may_reply p by (act.Cursor name range at) = cursor_replies p name range at
may_reply p by (act.Shut name) = on_cursor_replies p (found_cursor name p.cursors) (Shut ∷ [])
may_reply p by (act.Ask ask question parted) = ask_replies p question (found_question ask p.questions)
may_reply p by (act.Settle ask) = settle_replies (found_question ask p.questions)
may_reply p by act.Reap = reap_replies (dead p)
may_reply p by (act.Remove num) = if is_among num p.taken then Stuck ∷ Memory ∷ [] else []
may_reply p by (act.Show what) = Memory ∷ shown p what ∷ []

-- two replies are of one kind, and have the same numbers and names; what is shown, is compared apart
abbrev pub same_reply : Reply → Reply → Bool
same_reply Done Done = true
same_reply Installed Installed = true
same_reply Opened Opened = true
same_reply Opening Opening = true
same_reply Dropped Dropped = true
same_reply Shut Shut = true
same_reply CursorOn CursorOn = true
same_reply (Answered a) (Answered b) = true
same_reply (Asked a) (Asked b) = a == b
same_reply (Group a) (Group b) = a == b
same_reply (Started a) (Started b) = a == b
same_reply (Took a) (Took b) = a == b
same_reply FileOnly FileOnly = true
same_reply (Pinned a) (Pinned b) = a == b
same_reply (Excised a) (Excised b) = same_name a b
same_reply (Fenced a) (Fenced b) = same_name a b
same_reply (Waits a) (Waits b) = a == b
same_reply (Cancelled a) (Cancelled b) = same_name a b
same_reply (Busy a) (Busy b) = a == b
same_reply (Overlap a b) (Overlap c d) = same_name a c && same_name b d
same_reply Nothing Nothing = true
same_reply NoSuch NoSuch = true
same_reply Outside Outside = true
same_reply NameInUse NameInUse = true
same_reply TooMany TooMany = true
same_reply BadRanges BadRanges = true
same_reply Spent Spent = true
same_reply NotYet NotYet = true
same_reply Fault Fault = true
same_reply Stuck Stuck = true
same_reply Memory Memory = true
same_reply (Damaged a b) (Damaged c d) = true
same_reply (Levels a) (Levels b) = true
same_reply (Counts a) (Counts b) = true
same_reply (Snaps a) (Snaps b) = true
same_reply _ _ = false
