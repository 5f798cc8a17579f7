-- Memtables.
use Rattle.std.specs.Prelude.{◌≡◌, ℕ, ◌<◌, List}
use Rattle.xdb_key.specs.Groups.{Group}
use Rattle.xdb_mem.specs.Numbered.{RisesWithin}
use Rattle.xdb_mem.specs.Queue.{Queue, groups, all_ops}

-- The groups are the plain ones, and the numbers of all operations rise below the next one.
pub record MemAgrees (mem : Queue) (next : ℕ) (groups_sealed : List Group) (group_active : Group) : Type 0 where
  pub sealed : groups_sealed ≡ mem.sealed
  pub active : group_active ≡ mem.active
  pub rising : RisesWithin 1 next (all_ops (groups mem))
  pub above : mem.greatest < next
