-- What is seen of the devices that files are kept on.
use Rattle.std.specs.Prelude.{ℕ, List, [], ◌∷◌, map, Result, Ok, Err, Vec}
use Rattle.std.specs.declared.alloc.AllocError.{AllocError}
use Rattle.std.specs.declared.alloc.Global.{Global}
use Rattle.xdb_device.specs.Told.{Told, nothing_told}

-- a device's count of faults, and what it tells of its files
pub record DeviceSeen : Type 0 where
  pub faults : ℕ
  pub told : Told

-- The first device, on which `run` keeps its files.
abbrev pub first : List DeviceSeen → DeviceSeen
first [] = record { faults = 0; told = nothing_told }
first (dev ∷ devs) = dev

module _ {D : Type 0} (faults : D → ℕ) (told : D → Told) where
  abbrev pub device_seen : D → DeviceSeen
  device_seen dev = record { faults = faults dev; told = told dev }

  abbrev pub devices_seen : List D → List DeviceSeen
  devices_seen devs = map device_seen devs

  -- where there was no memory for them, there are none
  abbrev pub devices_of : Result (Vec D Global) AllocError → List DeviceSeen
  devices_of (Ok devs) = devices_seen devs.items
  devices_of (Err error) = []
