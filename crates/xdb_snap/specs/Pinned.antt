-- The marks that pinned snapshots still need: what a flush or a compaction keeps apart.
use Rattle.std.specs.Prelude.{ℕ, List, map, filter}
use Rattle.xdb_plain.specs.Snapshots.{is_pinned}
use Rattle.xdb_snap.specs.declared.snap.Snap.{Snap}

-- in the order of their making
abbrev pub pinned_marks : {H T : Type 0} → List (Snap H T) → List ℕ
pinned_marks snaps = map (λ s. s.mark) (filter (λ s. is_pinned s.state) snaps)
