-- Tickets, of which each becomes a hold of a version.
use Rattle.std.specs.Prelude.{ℕ, Bool, false, ◌==◌, List, Option, Some, None, count_by}
use Rattle.std.specs.List.{list_any}
use Rattle.std.specs.Option.{option_map}
use Rattle.xdb_lists.specs.Keyed.{at_key}
use Rattle.xdb_vset.specs.declared.holds.Slot.{Slot}

-- what stands under a number: nothing, a ticket, or a hold of a version
abbrev pub slot_of : ℕ → List Slot → Option (Option ℕ)
slot_of id ss = option_map (λ s. s.version) (at_key (λ s. s.id) id ss)

abbrev pub holds_version : ℕ → Option ℕ → Bool
holds_version v None = false
holds_version v (Some w) = w == v

-- some open hold is of the version
abbrev pub is_held : ℕ → List Slot → Bool
is_held v ss = list_any (λ s. holds_version v s.version) ss

-- how many open holds are of the version
abbrev pub held_by : ℕ → List Slot → ℕ
held_by v ss = count_by (λ s. holds_version v s.version) ss
