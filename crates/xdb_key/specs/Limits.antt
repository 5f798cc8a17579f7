-- How long keys, bounds and values are, in bytes.
use Rattle.std.specs.Prelude.{ℕ, ◌≤◌, List, length}
use Rattle.xdb_key.specs.declared.TheConstants.{MAX_KEY, MAX_BOUND, MAX_VALUE}

-- 1 to 1,024 bytes
abbrev pub IsKey : List ℕ → Type 0
IsKey bytes = (1 ≤ length bytes) × (length bytes ≤ MAX_KEY)

-- 1 to 1,025 bytes: one more than a key, so that each key has a bound just after it
abbrev pub IsBound : List ℕ → Type 0
IsBound bytes = (1 ≤ length bytes) × (length bytes ≤ MAX_BOUND)

-- 0 to 65,536 bytes
abbrev pub IsValue : List ℕ → Type 0
IsValue bytes = length bytes ≤ MAX_VALUE
