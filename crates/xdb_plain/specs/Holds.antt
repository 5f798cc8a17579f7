-- The holds of versions that a step takes and lets go.
use Rattle.std.specs.Prelude.{◌≡◌, ℕ, ◌+◌, Bool, true, not, ◌&&◌, List, [], ◌∷◌, ◌++◌, length, map, filter, Option, Some, None, IsTrue, ◌==◌, if◌then◌else◌}
use Rattle.std.specs.Option.{option_map}
use Rattle.std.specs.List.{list_any, filter_map}
use Rattle.xdb_key.specs.declared.state.SnapState.{SnapState}
use Rattle.xdb_edit.specs.Changes.{Changes}
use Rattle.xdb_edit.specs.Versions.{edited}
use Rattle.xdb_plain.specs.Counts.{is_among, found_hold}
use Rattle.xdb_plain.specs.Outcomes.{Outcome, succeeds, begins, fails, cancels, outcome, groups_after, is_put_of_flush}
use Rattle.xdb_plain.specs.Snapshots.{is_file_only, turns, first_state}
use Rattle.xdb_plain.specs.State.{Plain, Snapshot, Version, Hold, Holder, for_snap, for_cursor, for_ask, for_job, found_snap, groups}
use Rattle.xdb_plain.specs.declared.act.Act.{Act}
use Rattle.xdb_plain.specs.declared.act.Act.TheVariants as act
use Rattle.xdb_plain.specs.declared.note.HoldNote.{HoldNote}
use Rattle.xdb_plain.specs.declared.note.HoldNote.TheVariants as hold_note
use Rattle.xdb_plain.specs.declared.note.Note.{Note}
use Rattle.xdb_plain.specs.declared.question.Question.{Question}
use Rattle.xdb_plain.specs.declared.question.Question.TheVariants.{Get, Scan, RScan, Move}

-- the version that an edit leads to
abbrev pub version_after : Version → Option Changes → Version
version_after v None = v
version_after v (Some e) = record { num = v.num + 1; levels = edited v.levels e }

-- what a holder holds, and the current version where it holds none
abbrev pub held_by : Plain → Holder → Version
held_by p holder = held (found_hold holder p.holds)
  where
    held : Option Hold → Version
    held None = p.current
    held (Some h) = h.version

abbrev pub snap_version : Plain → Option Snapshot → Version
snap_version p None = p.current
snap_version p (Some s) = if is_file_only s.state then held_by p (for_snap s.name) else p.current

-- the version that a look at a snapshot, or at what stands now, is given
abbrev pub version_at : Plain → Option (List ℕ) → Version
version_at p None = p.current
version_at p (Some name) = snap_version p (found_snap name p.snaps)

-- the version that a question is given
abbrev pub question_version : Plain → Question → Version
question_version p (Get key at) = version_at p at
question_version p (Scan range most at) = version_at p at
question_version p (RScan range most at) = version_at p at
question_version p (Move cursor step) = held_by p (for_cursor cursor)

-- a hold that a step takes: whose it is, and of which version
pub record Due : Type 0 where
  pub holder : Holder
  pub version : Version

abbrev pub due : Holder → Version → Due
due holder version = record { holder = holder; version = version }

-- the snapshots that turn at a flush hold the version that it leads to
abbrev pub turning : Plain → Option Changes → List Due
turning p edit = filter_map (λ s. if turns (groups_after p) s then Some (due (for_snap s.name) (version_after p.current edit)) else None) p.snaps

abbrev pub put_holds : Plain → ℕ → Option Changes → List Due
put_holds p job edit = if is_put_of_flush p job then turning p edit else []

abbrev pub snap_holds : Plain → List ℕ → SnapState → List Due
snap_holds p name state = if is_file_only state then due (for_snap name) p.current ∷ [] else []

-- the holds that a step takes
abbrev pub holds_due : Plain → Act → Outcome → Option Changes → List Due
holds_due p (act.CompactTake which) succeeds edit = due (for_job (p.started + 1)) p.current ∷ []
holds_due p (act.Put job) succeeds edit = put_holds p job edit
holds_due p (act.Snap name ranges) succeeds edit = snap_holds p name (first_state ranges p.next (groups p))
holds_due p (act.Cursor name range at) succeeds edit = due (for_cursor name) (version_at p at) ∷ []
holds_due p (act.Ask ask question parted) begins edit = due (for_ask ask) (question_version p question) ∷ []
holds_due p _ _ edit = []

-- those who let go of what they hold
abbrev pub releasing : Act → Outcome → List Holder
releasing (act.Put job) succeeds = for_job job ∷ []
releasing (act.Put job) cancels = for_job job ∷ []
releasing (act.Build job) fails = for_job job ∷ []
releasing (act.Drop name) succeeds = for_snap name ∷ []
releasing (act.Shut name) succeeds = for_cursor name ∷ []
releasing (act.Ask ask question parted) succeeds = for_ask ask ∷ []
releasing (act.Ask ask question parted) fails = for_ask ask ∷ []
releasing (act.Settle ask) succeeds = for_ask ask ∷ []
releasing (act.Work ask) fails = for_ask ask ∷ []
releasing _ _ = []

-- the holds that a step lets go; a flush and a pinned or an excised snapshot have none
abbrev pub releases : Plain → Act → Outcome → List ℕ
releases p a o = filter_map (λ holder. option_map (λ h. h.id) (found_hold holder p.holds)) (releasing a o)

-- the numbers of the holds that a note takes, and of those that it lets go
abbrev pub taken_id : HoldNote → Option ℕ
taken_id (hold_note.Hold id version) = Some id
taken_id (hold_note.Release id) = None

abbrev pub taken_ids : List HoldNote → List ℕ
taken_ids notes = filter_map taken_id notes

abbrev pub released_id : HoldNote → Option ℕ
released_id (hold_note.Hold id version) = None
released_id (hold_note.Release id) = Some id

abbrev pub released_ids : List HoldNote → List ℕ
released_ids notes = filter_map released_id notes

-- holds under these numbers
abbrev pub numbered : List ℕ → List Due → List Hold
numbered [] dues = []
numbered (id ∷ ids) [] = []
numbered (id ∷ ids) (d ∷ dues) = record { id = id; holder = d.holder; version = d.version } ∷ numbered ids dues

-- the note of a hold
abbrev pub hold_told : Hold → HoldNote
hold_told h = hold_note.Hold h.id h.version.num

-- no number stands twice, and none is that of an open hold
abbrev pub are_new : List Hold → List ℕ → Bool
are_new holds [] = true
are_new holds (id ∷ ids) = not (is_among id ids) && not (list_any (λ h. h.id == id) holds) && are_new holds ids

-- A note tells the holds that its step lets go, and then those that it takes, under new numbers.
pub record HoldsFit (p : Plain) (note : Note) : Type 0 where
  pub told : note.holds ≡ map hold_note.Release (releases p note.act (outcome note.reply))
      ++ map hold_told (numbered (taken_ids note.holds) (holds_due p note.act (outcome note.reply) note.edit))
  pub all : length (taken_ids note.holds) ≡ length (holds_due p note.act (outcome note.reply) note.edit)
  pub new : IsTrue (are_new p.holds (taken_ids note.holds))

-- the open holds without those that are told to be let go, and with those that are told to be taken
abbrev pub holds_told : List Hold → List HoldNote → List Due → List Hold
holds_told holds [] dues = holds
holds_told holds told dues =
    filter (λ h. not (is_among h.id (released_ids told))) holds ++ numbered (taken_ids told) dues

-- the open holds after a note, as it tells them
abbrev pub holds_after : Plain → Note → List Hold
holds_after p note = holds_told p.holds note.holds (holds_due p note.act (outcome note.reply) note.edit)
