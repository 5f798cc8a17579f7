-- Snapshots beside those of the plain model, which have a copy of the map.
use Rattle.std.specs.Prelude.{◌≡◌, ℕ, List, map, if◌then◌else◌}
use Rattle.std.specs.FinMap as fin
use Rattle.xdb_plain.specs.PlainMap.{PlainMap}
use Rattle.xdb_key.specs.declared.state.SnapState.TheVariants.{FileOnly}
use Rattle.xdb_plain.specs.State.{Snapshot, same_name}
use Rattle.xdb_snap.specs.declared.snap.Snap.{Snap}

-- the plain snapshot with this copy
abbrev pub with_copy : {H T : Type 0} → PlainMap → Snap H T → Snapshot
with_copy copy s = record { name = s.name; ranges = s.ranges; mark = s.mark; copy = copy; state = s.state }

-- a plain snapshot but for its copy
abbrev pub bare : Snapshot → Snapshot
bare s = record s { copy = fin.empty }

-- the snapshots are those of the model, but for the copies
abbrev pub ArePlain : {H T : Type 0} → List (Snap H T) → List Snapshot → Type 0
ArePlain snaps plains = map (with_copy fin.empty) snaps ≡ map bare plains

-- a plain snapshot, which is file-only from now on if it has the name
abbrev pub file_only_at : List ℕ → Snapshot → Snapshot
file_only_at name p = if same_name p.name name then record p { state = FileOnly } else p
