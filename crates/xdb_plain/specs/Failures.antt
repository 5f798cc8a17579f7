-- What notes tell of devices that failed, and of files whose bytes were damaged.
use Rattle.std.specs.Prelude.{ℕ, ◌+◌, Bool, true, false, not, ◌||◌, List, [], ◌∷◌, if◌then◌else◌}
use Rattle.std.specs.List.{list_any, list_all}
use Rattle.xdb_plain.specs.declared.reply.Reply.{Reply}
use Rattle.xdb_plain.specs.declared.reply.Reply.TheVariants.{Fault, Stuck, Damaged}
use Rattle.xdb_plain.specs.declared.note.Note.{Note}

-- a device failed: at a piece of work, or at the removal of a file
abbrev pub is_fault : Reply → Bool
is_fault Fault = true
is_fault Stuck = true
is_fault _ = false

-- the bytes of a file aren't a table's
abbrev pub is_damage : Reply → Bool
is_damage (Damaged backing at) = true
is_damage _ = false

abbrev pub is_failure_outside : Reply → Bool
is_failure_outside r = is_fault r || is_damage r

-- how many notes tell that a device failed
abbrev pub faults : List Note → ℕ
faults [] = 0
faults (note ∷ notes) = (if is_fault note.reply then 1 else 0) + faults notes

-- a note tells of damage
abbrev pub has_damage : List Note → Bool
has_damage notes = list_any (λ note. is_damage note.reply) notes

-- no device failed, and nothing was damaged
abbrev pub is_faultless : List Note → Bool
is_faultless notes = list_all (λ note. not (is_failure_outside note.reply)) notes
