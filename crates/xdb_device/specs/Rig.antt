-- What is seen of a rig.
use Rattle.std.specs.Prelude.{ℕ, ◌-◌, ◌^◌, min, Option, List, ◌∷◌, Result}
use Rattle.std.specs.Borrow.{MutBor}
use Rattle.xdb_device.specs.declared.fault.DevNo.{DevNo}
use Rattle.xdb_device.specs.declared.device.Reader as reader
use Rattle.xdb_device.specs.declared.device.FileRef as file
use Rattle.xdb_device.specs.declared.rig.Rig.{Rig}
use Rattle.xdb_device.specs.Told.{Told}

module _ {R L F : Type 0} {r : reader.Ghosts R F} {f : file.Ghosts F} where
  -- the reference to its device: with the same name it is the same device
  abbrev pub device_of : Rig R L F r f → MutBor R
  device_of rig = rig.dev

  -- the amount of its share
  abbrev pub amount_of : Rig R L F r f → ℕ
  amount_of rig = rig.share

  -- how many of its failures were booked, as far as a u64 goes
  abbrev pub spent_of : Rig R L F r f → ℕ
  spent_of rig = min (amount_of rig) (2 ^ 64 - 1)

  -- how many calls through it failed, as far as a u64 goes
  abbrev pub risen_of : Rig R L F r f → ℕ
  risen_of rig = rig.risen

  -- the last removal through it, and its answer
  abbrev pub removal_of : Rig R L F r f → Option (ℕ × Result (Unit {0}) DevNo)
  removal_of rig = rig.removal

  -- how often its device failed
  abbrev pub faults_of : Rig R L F r f → ℕ
  faults_of rig = r.faults (device_of rig).now

  -- With the name of the reference, generic code keeps the device that the rig has.
  abbrev pub frame_of : Rig R L F r f → List ℕ
  frame_of rig = (device_of rig).ghost_name ∷ amount_of rig ∷ r.frame (device_of rig).now

  abbrev pub rig_told : Rig R L F r f → Told
  rig_told rig = r.told (device_of rig).now
