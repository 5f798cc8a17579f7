-- What a call of the program has read and written when it ends, by its exit code.
use Rattle.std.specs.Prelude.{◌≡◌, ℕ, Option, List}
use Rattle.excisedb.specs.Codes.{code_of}
use Rattle.excisedb.specs.Devices.{DeviceSeen}
use Rattle.excisedb.specs.Ends.{Ends}
use Rattle.excisedb.specs.declared.status.Status.{Status}

-- The code is that of a status, and the call ended as that status says.
pub record Exits (code : ℕ) (words : List (List ℕ)) (left left' old new : Option (List ℕ)) (told : Type 0) (devs devs' : List DeviceSeen) : Type 0 where
  pub status : Status
  pub is : code ≡ code_of status
  pub ends : Ends status words left left' old new told devs devs'
