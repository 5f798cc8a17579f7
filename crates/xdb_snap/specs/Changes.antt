-- What becomes of snapshots.
use Rattle.std.specs.Prelude.{ℕ, Bool, true, false, ◌&&◌, not, List, length, Option, Some, None, is_some, is_none, nat_le, if◌then◌else◌}
use Rattle.std.specs.FinMap as map
use Rattle.xdb_key.specs.Bounds.{Bounds}
use Rattle.xdb_key.specs.declared.state.SnapState.{SnapState}
use Rattle.xdb_key.specs.declared.state.SnapState.TheVariants.{Pinned, FileOnly, Excised}
use Rattle.xdb_plain.specs.Snapshots as plain
use Rattle.xdb_plain.specs.Snapshots.{are_rising}
use Rattle.xdb_snap.specs.declared.error.SnapNo.{SnapNo}
use Rattle.xdb_snap.specs.declared.error.SnapNo.TheVariants.{NameInUse, BadRanges, TooMany, Memory}
use Rattle.xdb_snap.specs.declared.snap.Snap.{Snap}
use Rattle.xdb_snap.specs.Bare.{with_copy}
use Rattle.xdb_snap.specs.Listed.{named}

-- ---- the making

-- the group that it is pinned by at its making, or 0
abbrev pub making_group : SnapState → ℕ
making_group (Pinned group) = group
making_group FileOnly = 0
making_group (Excised load) = 0

abbrev pub made : {H T : Type 0} → List ℕ → List Bounds → ℕ → SnapState → T → Snap H T
made name ranges mark state ticket =
    record { name = name; ranges = ranges; mark = mark; state = state; group = making_group state; hold = None; ticket = Some ticket }

-- the first reason not to make a snapshot of the name and the ranges beside these
abbrev pub refusal : {H T : Type 0} → List ℕ → List Bounds → List (Snap H T) → Option SnapNo
refusal name ranges snaps =
    if is_some (named name snaps) then Some NameInUse else (
    if not (are_rising ranges) then Some BadRanges else (
    if nat_le 64 (length snaps) then Some TooMany else None))

-- what an answer says of the reasons: want of memory comes where there is none
abbrev pub cause : SnapNo → Option SnapNo
cause NameInUse = Some NameInUse
cause BadRanges = Some BadRanges
cause TooMany = Some TooMany
cause Memory = None

-- ---- the turn

abbrev pub is_excised : SnapState → Bool
is_excised (Pinned group) = false
is_excised FileOnly = false
is_excised (Excised load) = true

abbrev pub ticket_of : {H T : Type 0} → Option (Snap H T) → Option T
ticket_of None = None
ticket_of (Some s) = s.ticket

-- it is open, isn't excised and has its ticket
abbrev pub may_give : {H T : Type 0} → Option (Snap H T) → Bool
may_give None = false
may_give (Some s) = not (is_excised s.state) && is_some s.ticket

-- it is open, isn't excised, and has neither ticket nor hold
abbrev pub may_turn : {H T : Type 0} → Option (Snap H T) → Bool
may_turn None = false
may_turn (Some s) = not (is_excised s.state) && (is_none s.ticket && is_none s.hold)

abbrev pub without_ticket : {H T : Type 0} → Snap H T → Snap H T
without_ticket s = record s { ticket = None }

abbrev pub turned : {H T : Type 0} → H → Snap H T → Snap H T
turned hold s = record s { state = FileOnly; hold = Some hold }

-- ---- the install of a load

-- the state is the one that the plain model gives it
abbrev pub excised : {H T : Type 0} → List ℕ → Bounds → Snap H T → Snap H T
excised load span s = record s { state = (plain.excised load (Some span) (with_copy map.empty s)).state }
