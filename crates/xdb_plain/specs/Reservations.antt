-- File numbers that flushes, compactions and loads reserve as they begin. Only under such a number a file is made.
use Rattle.std.specs.Prelude.{ℕ, List, [], ◌∷◌, ◌++◌, length}
use Rattle.std.specs.List.{range_with_len}
use Rattle.xdb_plain.specs.Changes.{after}
use Rattle.xdb_plain.specs.Outcomes.{Outcome, succeeds, begins, outcome}
use Rattle.xdb_plain.specs.State.{Plain}
use Rattle.xdb_plain.specs.declared.act.Act.{Act}
use Rattle.xdb_plain.specs.declared.act.Act.TheVariants as act
use Rattle.xdb_plain.specs.declared.note.Note.{Note}

-- how many numbers a step reserves
abbrev pub reserved_len : Act → Outcome → ℕ
reserved_len act.FlushTake succeeds = 1
reserved_len (act.CompactTake which) succeeds = 64
reserved_len (act.LoadOpen load tables span) begins = length tables
reserved_len _ _ = 0

-- they are the next ones
abbrev pub reserved_by : Plain → Note → List ℕ
reserved_by p note = range_with_len p.file (reserved_len note.act (outcome note.reply))

-- the numbers that notes reserve, in order
abbrev pub reserved_in : Plain → List Note → List ℕ
reserved_in p [] = []
reserved_in p (note ∷ notes) = reserved_by p note ++ reserved_in (after p note) notes
