-- What is seen of a source and of a sink in memory.
use Rattle.std.specs.Prelude.{ℕ, List}
use Rattle.xdb_device.specs.Schedule.{Calls}

-- the bytes that are left
pub record Feed : Type 0 where
  pub left : List ℕ
  pub calls : Calls

-- the bytes that were written, and how many one push takes at most
pub record Intake : Type 0 where
  pub written : List ℕ
  pub most : ℕ
  pub calls : Calls
