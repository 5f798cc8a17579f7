-- Lines without their numbers.
use Rattle.std.specs.Prelude.{◌≡◌, ℕ, ◌+◌, List, [], ◌∷◌, map, Option, Some}
use Rattle.xdb_plain.specs.declared.act.By.{By}
use Rattle.xdb_plain.specs.declared.act.By.TheVariants.{Client, Db}
use Rattle.xdb_plain.specs.declared.script.Cmd.{Cmd}
use Rattle.xdb_plain.specs.declared.script.Line.{Line}

-- a command, and who says it
pub record Said : Type 0 where
  pub by : Option By
  pub cmd : Cmd

abbrev pub said : By → Cmd → Said
said by cmd = record { by = Some by; cmd = cmd }

-- what the first client says, and what the engine's owner says
abbrev pub client : Cmd → Said
client cmd = said (Client 1) cmd

abbrev pub owner : Cmd → Said
owner cmd = said Db cmd

abbrev pub line : ℕ → Said → Line
line number s = record { number = number; by = s.by; cmd = s.cmd }

-- the lines are numbered one after another, from a number on
abbrev pub numbered_from : ℕ → List Said → List Line
numbered_from number [] = []
numbered_from number (s ∷ ss) = line number s ∷ numbered_from (number + 1) ss

-- what is said in a line, whatever its number
abbrev pub said_in : Line → Said
said_in l = record { by = l.by; cmd = l.cmd }

abbrev pub AreNumbered : List Line → Type 0
AreNumbered lines = lines ≡ numbered_from 1 (map said_in lines)
