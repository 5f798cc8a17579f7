-- What a booked failure does to the rig that met it.
use Rattle.std.specs.Prelude.{◌≡◌, ◌+◌, Bool, true, false}
use Rattle.xdb_device.specs.Rig.{amount_of, device_of, removal_of, risen_of}
use Rattle.xdb_device.specs.declared.device.FileRef as file
use Rattle.xdb_device.specs.declared.device.Reader as reader
use Rattle.xdb_device.specs.declared.rig.Rig.{Rig}

-- Its share is greater by one. Its device and all else that is seen of it stay.
pub record Charges {R L F : Type 0} {r : reader.Ghosts R F} {f : file.Ghosts F} (old new : Rig R L F r f) : Type 0 where
  pub amount : amount_of new ≡ amount_of old + 1
  pub risen : risen_of new ≡ risen_of old
  pub removal : removal_of new ≡ removal_of old
  pub same_reference : (device_of new).ghost_name ≡ (device_of old).ghost_name
  pub device : (device_of new).now ≡ (device_of old).now

-- where it was booked; else nothing changes
abbrev pub ChargesIf : {R L F : Type 0} {r : reader.Ghosts R F} {f : file.Ghosts F} → Bool → Rig R L F r f → Rig R L F r f → Type 0
ChargesIf true old new = Charges old new
ChargesIf false old new = new ≡ old
