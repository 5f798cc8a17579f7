-- How a read through a snapshot is refused, and where a refusal comes from.
use Rattle.std.specs.Prelude.{◌≡◌, ℕ, ◌≤◌, Bool, true, false, List, ◌∷◌, ◌++◌, length, Option, None, is_some, IsTrue}
use Rattle.std.specs.List.{AllByRecursion}
use Rattle.xdb_key.specs.Bounds.{Bounds, holds, covers}
use Rattle.xdb_key.specs.declared.state.SnapState.{SnapState}
use Rattle.xdb_key.specs.declared.state.SnapState.TheVariants as state
use Rattle.xdb_rangedel.specs.Members.{Has}
use Rattle.xdb_plain.specs.Changes.{span_of_load}
use Rattle.xdb_plain.specs.Fences.{any_meet, span_list}
use Rattle.xdb_plain.specs.Legal.{after_all}
use Rattle.xdb_plain.specs.Outcomes.{Outcome, succeeds, outcome}
use Rattle.xdb_plain.specs.Snapshots.{is_pinned}
use Rattle.xdb_plain.specs.State.{Plain, Snapshot, same_name, found_cursor}
use Rattle.xdb_plain.specs.declared.act.Act.{Act}
use Rattle.xdb_plain.specs.declared.act.Act.TheVariants as act
use Rattle.xdb_plain.specs.declared.note.Note.{Note}
use Rattle.xdb_plain.specs.declared.question.Question.{Question}
use Rattle.xdb_plain.specs.declared.question.Question.TheVariants.{Get, Scan, RScan, Move}
use Rattle.xdb_plain.specs.declared.reply.Reply.{Reply}
use Rattle.xdb_plain.specs.declared.reply.Reply.TheVariants as reply

-- the snapshot that a question looks through
abbrev pub snap_of : Question → Option (List ℕ)
snap_of (Get key at) = at
snap_of (Scan range most at) = at
snap_of (RScan range most at) = at
snap_of (Move cursor step) = None

-- what a question is about lies in the range
abbrev pub lies_in : Question → Bounds → Bool
lies_in (Get key at) r = holds r key
lies_in (Scan range most at) r = covers r range
lies_in (RScan range most at) r = covers r range
lies_in (Move cursor step) r = false

-- the replies to a read through an open snapshot, inside one of its ranges
abbrev pub IsReadReply : Plain → SnapState → Reply → Type 0
IsReadReply p s (reply.Asked ask) = Unit {0}
IsReadReply p s reply.Memory = Unit {0}
IsReadReply p s reply.TooMany = 64 ≤ length p.questions
IsReadReply p s (reply.Excised load) = s ≡ state.Excised load
IsReadReply p s _ = ⊥

-- the replies to the opening of a cursor there
abbrev pub IsCursorReply : Plain → List ℕ → SnapState → Reply → Type 0
IsCursorReply p name s reply.CursorOn = Unit {0}
IsCursorReply p name s reply.Memory = Unit {0}
IsCursorReply p name s reply.NameInUse = IsTrue (is_some (found_cursor name p.cursors))
IsCursorReply p name s reply.TooMany = 64 ≤ length p.cursors
IsCursorReply p name s (reply.Excised load) = s ≡ state.Excised load
IsCursorReply p name s _ = ⊥

-- the snapshot of the name is dropped
abbrev pub drops : List ℕ → Act → Outcome → Bool
drops name (act.Drop other) succeeds = same_name name other
drops name _ _ = false

abbrev pub Keeps : List ℕ → Note → Type 0
Keeps name note = drops name note.act (outcome note.reply) ≡ false

-- a snapshot as it was before: it was pinned
pub record WasPinned (p : Plain) (name : List ℕ) (ranges : List Bounds) (mark : ℕ) : Type 0 where
  pub snap : Snapshot
  pub open_then : Has p.snaps snap
  pub same_name : snap.name ≡ name
  pub same_ranges : snap.ranges ≡ ranges
  pub same_mark : snap.mark ≡ mark
  pub pinned : is_pinned snap.state ≡ true

-- A snapshot that was pinned when a load was installed whose span meets one of its ranges. It was open from then on.
pub record WasExcised (p : Plain) (notes : List Note) (name : List ℕ) (ranges : List Bounds) (mark : ℕ) (load : List ℕ) : Type 0 where
  pub before : List Note
  pub install : Note
  pub behind : List Note
  pub split : notes ≡ before ++ install ∷ behind
  pub was_pinned : WasPinned (after_all p before) name ranges mark
  pub same_act : install.act ≡ act.Install load
  pub installed : install.reply ≡ reply.Installed
  pub meets : IsTrue (any_meet (span_list (span_of_load (after_all p before) load)) ranges)
  pub kept : AllByRecursion (Keeps name) behind

-- a snapshot that is excised has such a load
abbrev pub IsExplained : Plain → List Note → List ℕ → List Bounds → ℕ → SnapState → Type 0
IsExplained p notes name ranges mark (state.Excised load) = WasExcised p notes name ranges mark load
IsExplained p notes name ranges mark _ = Unit {0}

abbrev pub Explained : Plain → List Note → Snapshot → Type 0
Explained p notes s = IsExplained p notes s.name s.ranges s.mark s.state
