-- Calls of the program that have ended, and the statuses that a cause may end with.
use Rattle.std.specs.Prelude.{◌≡◌, ◌⊎◌, ℕ, ◌+◌, Option, List, take}
use Rattle.xdb_script.specs.Grammar.{most_bytes}
use Rattle.excisedb.specs.Devices.{DeviceSeen}
use Rattle.excisedb.specs.Ends.{Ends}
use Rattle.excisedb.specs.declared.status.Status.{Status}
use Rattle.excisedb.specs.declared.status.Status.TheVariants.{ReadFault, WriteFault, Memory}

-- what the source had left before and after it, what the sink had, and the devices, whose files tell their bytes or not
pub record Call (told : Type 0) : Type 0 where
  pub status : Status
  pub words : List (List ℕ)
  pub left : Option (List ℕ)
  pub left' : Option (List ℕ)
  pub old : Option (List ℕ)
  pub new : Option (List ℕ)
  pub devs : List DeviceSeen
  pub devs' : List DeviceSeen
  pub ends : Ends status words left left' old new told devs devs'

-- the cause's own status, or that of a failed write or of want of memory
abbrev pub OrFails : Status → Status → Type 0
OrFails own status = (status ≡ own) ⊎ ((status ≡ WriteFault) ⊎ (status ≡ Memory))

-- or that of a failed read
abbrev pub OrReadFails : Status → Status → Type 0
OrReadFails own status = (status ≡ ReadFault) ⊎ OrFails own status

-- what a call reads of the bytes that a source has left
abbrev pub bytes_read : List ℕ → List ℕ
bytes_read left = take (most_bytes + 1) left
