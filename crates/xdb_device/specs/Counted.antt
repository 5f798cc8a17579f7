-- What a call on a reader or a device does to its counts and its frame.
use Rattle.std.specs.Prelude.{◌≡◌, ℕ, ◌+◌, ◌-◌, ◌^◌, ◌<◌, ◌≤◌, List}
use Rattle.xdb_device.specs.Faults.{Rose}

-- The misses rose by no more than the faults, unless these stand at their end.
abbrev pub RoseWithin : ℕ → ℕ → ℕ → ℕ → Type 0
RoseWithin before now misses later = now < 2 ^ 64 - 1 → later + before ≤ misses + now

-- No count falls, the misses rise within the faults, and the frame stays. Where the call answers a fault, both rose.
pub record Counted {D : Type 0} (faults misses : D → ℕ) (frame : D → List ℕ) (old new : D) (fault : Type 0) : Type 0 where
  pub later : faults old ≤ faults new
  pub misses_later : misses old ≤ misses new
  pub within : RoseWithin (faults old) (faults new) (misses old) (misses new)
  pub same_frame : frame new ≡ frame old
  pub failed : fault → Rose (faults old) (faults new)
  pub missed : fault → Rose (misses old) (misses new)
