-- The fences of open loads, in the order of opening.
use Rattle.std.specs.Prelude.{◌≡◌, ℕ, false, not, List, Option, filter}
use Rattle.std.specs.List.{AllPairs, find, list_any}
use Rattle.std.specs.Option.{option_map}
use Rattle.xdb_key.specs.Bounds.{Bounds}
use Rattle.xdb_key.specs.Ops.{touches}
use Rattle.xdb_key.specs.declared.op.Op.{Op}
use Rattle.xdb_plain.specs.Fences.{any_meet}
use Rattle.xdb_plain.specs.State.{same_name}
use Rattle.xdb_jobs.specs.declared.fences.Fence.{Fence}

abbrev pub fence : List ℕ → List Bounds → Fence
fence load ranges = record { load = load; ranges = ranges }

-- the first fence that meets one of the ranges
abbrev pub first_meeting : List Bounds → List Fence → Option (List ℕ)
first_meeting ranges fences = option_map (λ f. f.load) (find (λ f. any_meet f.ranges ranges) fences)

-- the first fence that one of the operations touches
abbrev pub first_touched : List Op → List Fence → Option (List ℕ)
first_touched ops fences = option_map (λ f. f.load) (find (λ f. list_any (λ op. touches op f.ranges) ops) fences)

-- the fence of a load
abbrev pub found_fence : List ℕ → List Fence → Option Fence
found_fence load fences = find (λ f. same_name f.load load) fences

-- the others
abbrev pub without_fence : List ℕ → List Fence → List Fence
without_fence load fences = filter (λ f. not (same_name f.load load)) fences

-- no two are of one load
abbrev pub LoadsDiffer : List Fence → Type 0
LoadsDiffer fences = AllPairs (λ f g. same_name f.load g.load ≡ false) fences
