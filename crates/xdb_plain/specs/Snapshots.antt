-- The states of snapshots: pinned while a group that isn't in tables yet has an operation of the snapshot's
-- time in its ranges, file-only from then on, or excised where a span met its ranges first.
use Rattle.std.specs.Prelude.{ℕ, Bool, true, false, ◌&&◌, List, [], ◌∷◌, map, Option, Some, None, if◌then◌else◌, is_none}
use Rattle.std.specs.Ordering.{is_lt}
use Rattle.xdb_key.specs.Bounds.{Bounds}
use Rattle.xdb_key.specs.Groups.{Group, last_touching}
use Rattle.xdb_key.specs.Order.{key_cmp, is_upto}
use Rattle.xdb_key.specs.declared.state.SnapState.{SnapState}
use Rattle.xdb_key.specs.declared.state.SnapState.TheVariants.{Pinned, FileOnly, Excised}
use Rattle.xdb_plain.specs.Fences.{any_meet, span_list}
use Rattle.xdb_plain.specs.State.{Snapshot}

-- pinned by the last group that touches the ranges below the mark, file-only where there is none
abbrev pub state_by : Option ℕ → SnapState
state_by (Some group) = Pinned group
state_by None = FileOnly

-- the state at the making
abbrev pub first_state : List Bounds → ℕ → List Group → SnapState
first_state ranges mark gs = state_by (last_touching ranges mark gs)

abbrev pub is_pinned : SnapState → Bool
is_pinned (Pinned group) = true
is_pinned FileOnly = false
is_pinned (Excised load) = false

abbrev pub is_file_only : SnapState → Bool
is_file_only (Pinned group) = false
is_file_only FileOnly = true
is_file_only (Excised load) = false

-- a pinned snapshot that none of the groups touches below its mark
abbrev pub turns : List Group → Snapshot → Bool
turns gs s = is_pinned s.state && is_none (last_touching s.ranges s.mark gs)

-- at a flush, with the groups that it leaves: such a snapshot is file-only from now on
abbrev pub turned : List Group → Snapshot → Snapshot
turned gs s = record s { state = if turns gs s then FileOnly else s.state }

-- at the install of a load: a pinned snapshot with a range that meets the span is excised from now on
abbrev pub excised : List ℕ → Option Bounds → Snapshot → Snapshot
excised load span s = record s { state = if is_pinned s.state && any_meet (span_list span) s.ranges then Excised load else s.state }

-- each range ends before the next begins, or where it begins
abbrev pub are_rising : List Bounds → Bool
are_rising [] = true
are_rising (r ∷ []) = true
are_rising (r ∷ s ∷ rs) = is_upto r.hi s.lo && are_rising (s ∷ rs)

-- the snapshots with one more, before the first whose name is greater
abbrev pub put_by_name : Snapshot → List Snapshot → List Snapshot
put_by_name s [] = s ∷ []
put_by_name s (t ∷ ts) = if is_lt (key_cmp t.name s.name) then t ∷ put_by_name s ts else s ∷ t ∷ ts

abbrev pub by_name : List Snapshot → List Snapshot
by_name [] = []
by_name (s ∷ ss) = put_by_name s (by_name ss)

-- the names of the open snapshots and their states, by name
abbrev pub snap_states : List Snapshot → List (List ℕ × SnapState)
snap_states snaps = map (λ s. (s.name, s.state)) (by_name snaps)
