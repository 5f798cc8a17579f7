-- What each part of the state is after a step, by the act and how it ended.
use Rattle.std.specs.Prelude.{ℕ, ◌+◌, Bool, true, false, ◌&&◌, List, [], ◌∷◌, ◌++◌, length, map, drop, Option, Some, None, is_some, is_none, if◌then◌else◌}
use Rattle.std.specs.List.{enumerate_from}
use Rattle.xdb_key.specs.Bounds.{Bounds, meets}
use Rattle.xdb_key.specs.Groups.{Group, group_touches}
use Rattle.xdb_key.specs.declared.op.Op.{Op}
use Rattle.xdb_edit.specs.Changes.{Changes}
use Rattle.xdb_edit.specs.Plans.{Planned}
use Rattle.xdb_plain.specs.Answers.{answer_now, copy_at}
use Rattle.xdb_plain.specs.Counts.{with_numbers}
use Rattle.xdb_plain.specs.Edits.{virtual_in, is_empty}
use Rattle.xdb_plain.specs.Fences.{fence}
use Rattle.xdb_plain.specs.Holds.{version_after, holds_after}
use Rattle.xdb_plain.specs.Outcomes.{Outcome, succeeds, begins, fails, cancels, outcome, groups_after, is_put_of_flush}
use Rattle.xdb_plain.specs.PlainMap.{PlainMap, acted_all, loaded}
use Rattle.xdb_plain.specs.Replies.{plan_now}
use Rattle.xdb_plain.specs.Snapshots.{first_state, turned, excised}
use Rattle.xdb_plain.specs.State.{Plain, Snapshot, Cursor, Load, Phase, being_opened, waiting, is_in, OpenQuestion, Job, JobKind, flush_of, compaction_of, group_of, groups, same_name, found_load, without_snap, without_cursor, without_load, found_question, without_question, without_job}
use Rattle.xdb_plain.specs.Tables.{TableOps}
use Rattle.xdb_plain.specs.declared.act.Act.{Act}
use Rattle.xdb_plain.specs.declared.act.Act.TheVariants as act
use Rattle.xdb_plain.specs.declared.act.By.{By}
use Rattle.xdb_plain.specs.declared.note.Note.{Note}
use Rattle.xdb_plain.specs.declared.question.Place.{Place}
use Rattle.xdb_plain.specs.declared.question.Place.TheVariants.{Before}
use Rattle.xdb_plain.specs.declared.question.Question.{Question}
use Rattle.xdb_plain.specs.declared.question.Question.TheVariants.{Get, Scan, RScan, Move}
use Rattle.xdb_plain.specs.declared.reply.Reply.{Reply}
use Rattle.xdb_plain.specs.declared.reply.Reply.TheVariants.{Took}

abbrev pub load_tables : Option Load → List TableOps
load_tables None = []
load_tables (Some l) = l.tables

abbrev pub load_span : Option Load → Option Bounds
load_span None = None
load_span (Some l) = l.span

abbrev pub tables_of_load : Plain → List ℕ → List TableOps
tables_of_load p load = load_tables (found_load load p.loads)

abbrev pub span_of_load : Plain → List ℕ → Option Bounds
span_of_load p load = load_span (found_load load p.loads)

-- the map: commits act on it, and loads at their install
abbrev pub map_after : Plain → Act → Outcome → PlainMap
map_after p (act.Commit form ops) succeeds = acted_all p.map ops
map_after p (act.Install load) succeeds = loaded p.map (tables_of_load p load) (span_of_load p load)
map_after p _ _ = p.map

-- a load with tables has one sequence number
abbrev pub one_for : List TableOps → ℕ
one_for tables = if is_empty tables then 0 else 1

-- the next sequence number: one for each operation, and one for the tables of a load
abbrev pub next_after : Plain → Act → Outcome → ℕ
next_after p (act.Commit form ops) succeeds = p.next + length ops
next_after p (act.Install load) succeeds = p.next + one_for (tables_of_load p load)
next_after p _ _ = p.next

abbrev pub halves_in : Option Changes → ℕ
halves_in None = 0
halves_in (Some e) = length (virtual_in e)

-- the next file number: one for a flush, 64 for a compaction, one for each table of a load, and one for each half
abbrev pub file_after : Plain → Act → Outcome → Option Changes → ℕ
file_after p act.FlushTake succeeds edit = p.file + 1
file_after p (act.CompactTake which) succeeds edit = p.file + 64
file_after p (act.LoadOpen load tables span) begins edit = p.file + length tables
file_after p (act.Install load) succeeds edit = p.file + halves_in edit
file_after p _ _ edit = p.file

-- a load is opened under a new name, and an operation of the active group touches its fence
abbrev pub seals_for : Plain → List ℕ → List TableOps → Option Bounds → Bool
seals_for p load tables span = is_none (found_load load p.loads) && group_touches (fence tables span) p.active

-- the active group is sealed
abbrev pub is_sealed : Plain → Act → Outcome → Bool
is_sealed p act.Seal succeeds = true
is_sealed p (act.LoadOpen load tables span) begins = seals_for p load tables span
is_sealed p (act.LoadOpen load tables span) succeeds = seals_for p load tables span
is_sealed p _ _ = false

-- a flush was put, so the oldest group has gone
abbrev pub is_flushed : Plain → Act → Outcome → Bool
is_flushed p (act.Put job) succeeds = is_put_of_flush p job
is_flushed p _ _ = false

-- the sealed groups that a step leaves, and with them the active one where it is sealed
abbrev pub sealed_left : Plain → Act → Outcome → List Group
sealed_left p a o = if is_flushed p a o then drop 1 p.sealed else p.sealed

abbrev pub sealed_after : Plain → Act → Outcome → List Group
sealed_after p a o = if is_sealed p a o then sealed_left p a o ++ p.active ∷ [] else sealed_left p a o

-- the operations with their numbers, from one on
abbrev pub active_ops_after : Plain → Act → Outcome → List (ℕ × Op)
active_ops_after p (act.Commit form ops) succeeds = p.active.ops ++ enumerate_from p.next ops
active_ops_after p _ _ = p.active.ops

abbrev pub active_after : Plain → Act → Outcome → Group
active_after p a o =
    if is_sealed p a o then group_of (p.active.num + 1) [] else group_of p.active.num (active_ops_after p a o)

abbrev pub new_snap : Plain → List ℕ → List Bounds → Snapshot
new_snap p name ranges = record {
  name = name;
  ranges = ranges;
  mark = p.next;
  copy = p.map;
  state = first_state ranges p.next (groups p);
}

-- the snapshots: a flush turns them, and the install of a load excises them
abbrev pub snaps_after : Plain → Act → Outcome → List Snapshot
snaps_after p (act.Snap name ranges) succeeds = p.snaps ++ new_snap p name ranges ∷ []
snaps_after p (act.Drop name) succeeds = without_snap name p.snaps
snaps_after p (act.Put job) succeeds = if is_put_of_flush p job then map (turned (groups_after p)) p.snaps else p.snaps
snaps_after p (act.Install load) succeeds = map (excised load (span_of_load p load)) p.snaps
snaps_after p _ _ = p.snaps

abbrev pub new_cursor : Plain → List ℕ → Bounds → Option (List ℕ) → Cursor
new_cursor p name range at = record { name = name; range = range; copy = copy_at p at; place = Before }

-- the cursor of a move is at the place that the move led to
abbrev pub put_at : Question → Place → Cursor → Cursor
put_at (Move cursor step) place c = record c { place = if same_name c.name cursor then place else c.place }
put_at (Get key at) place c = c
put_at (Scan range most at) place c = c
put_at (RScan range most at) place c = c

abbrev pub settled : Option OpenQuestion → List Cursor → List Cursor
settled None cursors = cursors
settled (Some q) cursors = map (put_at q.question q.place) cursors

-- the cursors: an answer moves the cursor of its question
abbrev pub cursors_after : Plain → Act → Outcome → List Cursor
cursors_after p (act.Cursor name range at) succeeds = p.cursors ++ new_cursor p name range at ∷ []
cursors_after p (act.Shut name) succeeds = without_cursor name p.cursors
cursors_after p (act.Ask ask question parted) succeeds = settled (found_question ask p.questions) p.cursors
cursors_after p (act.Settle ask) succeeds = settled (found_question ask p.questions) p.cursors
cursors_after p _ _ = p.cursors

abbrev pub new_load : Plain → By → List ℕ → List TableOps → Option Bounds → Phase → Load
new_load p by load tables span phase =
    record { name = load; by = by; tables = tables; span = span; first = p.file; phase = phase }

abbrev pub at_phase : List ℕ → Phase → Load → Load
at_phase name phase l = record l { phase = if same_name l.name name then phase else l.phase }

-- the load of a name has come to a phase
abbrev pub in_phase : List ℕ → Phase → List Load → List Load
in_phase name phase loads = map (at_phase name phase) loads

-- the loads: a failed opening takes a load away
abbrev pub loads_after : Plain → By → Act → Outcome → List Load
loads_after p by (act.LoadOpen load tables span) begins = p.loads ++ new_load p by load tables span being_opened ∷ []
loads_after p by (act.LoadOpen load tables span) succeeds =
    if is_some (found_load load p.loads) then in_phase load waiting p.loads else p.loads ++ new_load p by load tables span waiting ∷ []
loads_after p by (act.LoadOpen load tables span) fails = without_load load p.loads
loads_after p by (act.Install load) succeeds = in_phase load is_in p.loads
loads_after p by _ _ = p.loads

abbrev pub asked_after : Plain → Act → Outcome → ℕ
asked_after p (act.Ask ask question parted) begins = p.asked + 1
asked_after p _ _ = p.asked

abbrev pub new_question : Plain → By → ℕ → Question → Bool → OpenQuestion
new_question p by ask question parted = record {
  ask = ask;
  by = by;
  question = question;
  parted = parted;
  answer = (answer_now p question).answer;
  place = (answer_now p question).place;
}

-- the open questions: each ends with its answer, or in vain
abbrev pub questions_after : Plain → By → Act → Outcome → List OpenQuestion
questions_after p by (act.Ask ask question parted) begins = p.questions ++ new_question p by ask question parted ∷ []
questions_after p by (act.Ask ask question parted) succeeds = without_question ask p.questions
questions_after p by (act.Ask ask question parted) fails = without_question ask p.questions
questions_after p by (act.Settle ask) succeeds = without_question ask p.questions
questions_after p by (act.Work ask) fails = without_question ask p.questions
questions_after p by _ _ = p.questions

abbrev pub started_after : Plain → Act → Outcome → ℕ
started_after p act.FlushTake succeeds = p.started + 1
started_after p (act.CompactTake which) succeeds = p.started + 1
started_after p _ _ = p.started

abbrev pub new_job : Plain → JobKind → Job
new_job p kind = record { num = p.started + 1; first = p.file; kind = kind }

-- a flush of the oldest sealed group
abbrev pub new_flush : Plain → List Group → List Job
new_flush p [] = []
new_flush p (g ∷ gs) = new_job p (flush_of g.num) ∷ []

abbrev pub new_compaction : Plain → Option Planned → List Job
new_compaction p None = []
new_compaction p (Some plan) =
    new_job p (compaction_of (record { level = plan.level; inputs = plan.inputs; hull = plan.hull; cancelled = None })) ∷ []

abbrev pub cancelled_kind : List ℕ → Bounds → JobKind → JobKind
cancelled_kind load span (flush_of group) = flush_of group
cancelled_kind load span (compaction_of c) =
    compaction_of (record c { cancelled = if is_none c.cancelled && meets c.hull span then Some load else c.cancelled })

abbrev pub cancelled_job : List ℕ → Bounds → Job → Job
cancelled_job load span j = record j { kind = cancelled_kind load span j.kind }

-- a running compaction whose hull meets the span is cancelled by the load, unless an earlier one did it
abbrev pub cancelled_by : List ℕ → Option Bounds → List Job → List Job
cancelled_by load None jobs = jobs
cancelled_by load (Some span) jobs = map (cancelled_job load span) jobs

abbrev pub jobs_after : Plain → Act → Outcome → List Job
jobs_after p act.FlushTake succeeds = p.jobs ++ new_flush p p.sealed
jobs_after p (act.CompactTake which) succeeds = p.jobs ++ new_compaction p (plan_now p which)
jobs_after p (act.Put job) succeeds = without_job job p.jobs
jobs_after p (act.Put job) cancels = without_job job p.jobs
jobs_after p (act.Build job) fails = without_job job p.jobs
jobs_after p (act.Install load) succeeds = cancelled_by load (span_of_load p load) p.jobs
jobs_after p _ _ = p.jobs

abbrev pub new_files : Option Changes → List ℕ
new_files None = []
new_files (Some e) = e.new_backings

-- the numbers of files that an edit names first, or that were tried in vain
abbrev pub known_after : Plain → Note → List ℕ
known_after p note = with_numbers (new_files note.edit ++ note.tried) p.known

abbrev pub taken_after : List ℕ → Reply → List ℕ
taken_after taken (Took num) = taken ++ num ∷ []
taken_after taken _ = taken

-- the state after a note
abbrev pub after : Plain → Note → Plain
after p note = record {
  map = map_after p note.act (outcome note.reply);
  next = next_after p note.act (outcome note.reply);
  file = file_after p note.act (outcome note.reply) note.edit;
  sealed = sealed_after p note.act (outcome note.reply);
  active = active_after p note.act (outcome note.reply);
  snaps = snaps_after p note.act (outcome note.reply);
  cursors = cursors_after p note.act (outcome note.reply);
  loads = loads_after p note.by note.act (outcome note.reply);
  asked = asked_after p note.act (outcome note.reply);
  questions = questions_after p note.by note.act (outcome note.reply);
  started = started_after p note.act (outcome note.reply);
  jobs = jobs_after p note.act (outcome note.reply);
  current = version_after p.current note.edit;
  holds = holds_after p note;
  known = known_after p note;
  taken = taken_after p.taken note.reply;
}
