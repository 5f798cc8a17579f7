-- The open snapshots as a list, in the order of their making.
use Rattle.std.specs.Prelude.{ℕ, ◌≤◌, Bool, not, List, length, map, filter, Option, IsTrue, if◌then◌else◌}
use Rattle.std.specs.List.{find, list_all, AllPairs}
use Rattle.xdb_plain.specs.Snapshots.{are_rising}
use Rattle.xdb_plain.specs.State.{same_name}
use Rattle.xdb_snap.specs.declared.snap.Snap.{Snap}

abbrev pub has_name : {H T : Type 0} → List ℕ → Snap H T → Bool
has_name name s = same_name s.name name

-- the snapshot of the name
abbrev pub named : {H T : Type 0} → List ℕ → List (Snap H T) → Option (Snap H T)
named name snaps = find (has_name name) snaps

-- the others
abbrev pub without : {H T : Type 0} → List ℕ → List (Snap H T) → List (Snap H T)
without name snaps = filter (λ s. not (has_name name s)) snaps

-- the same with a change of the snapshot of the name
abbrev pub changed : {H T : Type 0} → List ℕ → (Snap H T → Snap H T) → List (Snap H T) → List (Snap H T)
changed name change snaps = map (λ s. if has_name name s then change s else s) snaps

-- what holds of the open snapshots at any time
pub record AreListed {H T : Type 0} (snaps : List (Snap H T)) : Type 0 where
  -- no two have one name
  pub names : AllPairs (λ a b. IsTrue (not (same_name a.name b.name))) snaps
  -- the ranges of each rise
  pub ranges : IsTrue (list_all (λ s. are_rising s.ranges) snaps)
  pub few : length snaps ≤ 64
