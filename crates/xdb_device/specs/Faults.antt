-- Counts of faults, as numbers that stand still at the greatest value of a u64.
use Rattle.std.specs.Prelude.{ℕ, ◌+◌, ◌-◌, ◌^◌, ◌≤◌, min, nat_lt, if◌then◌else◌, Result, Ok, Err}
use Rattle.xdb_device.specs.declared.fault.DevNo.{DevNo}
use Rattle.xdb_device.specs.declared.fault.DevNo.TheVariants.{Failed, Memory}

-- The count rose by one at least, or stands at its end.
abbrev pub Rose : ℕ → ℕ → Type 0
Rose before now = min (before + 1) (2 ^ 64 - 1) ≤ now

-- one more, but a count at its end stands still
abbrev pub one_more : ℕ → ℕ
one_more n = if nat_lt n (2 ^ 64 - 1) then n + 1 else n

-- the count after this answer
abbrev pub raised_by : DevNo → ℕ → ℕ
raised_by Failed n = one_more n
raised_by Memory n = n

-- the count after a call that raises it where it fails, and nowhere else
abbrev pub raised : {A : Type 0} → Result A DevNo → ℕ → ℕ
raised (Ok x) n = n
raised (Err cause) n = raised_by cause n
