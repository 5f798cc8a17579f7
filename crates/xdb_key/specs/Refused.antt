-- Why bytes are no key or bound.
use Rattle.std.specs.Prelude.{◌≡◌, ℕ, ◌<◌, List, [], length}
use Rattle.xdb_key.specs.declared.error.KeyNo.{KeyNo}
use Rattle.xdb_key.specs.declared.error.KeyNo.TheVariants.{Empty, TooLong}

-- `Empty` of no bytes, and `TooLong` of more than the most, with their number
abbrev pub IsRefused : ℕ → List ℕ → KeyNo → Type 0
IsRefused most bytes Empty = bytes ≡ []
IsRefused most bytes (TooLong len) = (most < length bytes) × (len ≡ length bytes)
