-- Numbers in groups of 7 bits, the least first; every byte but the last has its high bit set.
-- At most nine bytes are used, so the numbers are below 2^63.
use Rattle.std.specs.Prelude.{ℕ, zero, suc, ◌+◌, ◌-◌, ◌*◌, ◌/◌, ◌%◌, ◌^◌, List, [], ◌∷◌, nat_lt, ◌==◌, if◌then◌else◌, Result, Ok, Err}
use Rattle.xdb_key.specs.Reading.{◌>>=◌}
use Rattle.xdb_key.specs.declared.error.VarintNo.{VarintNo}
use Rattle.xdb_key.specs.declared.error.VarintNo.TheVariants.{TooLarge, Short, Overlong}

-- the groups of a number that takes at most so many bytes
abbrev pub groups_of : ℕ → ℕ → List ℕ
groups_of zero n = []
groups_of (suc most) n = if nat_lt n 128 then n ∷ [] else (128 + n % 128) ∷ groups_of most (n / 128)

-- the one spelling of a number
unfoldable pub varint : ℕ → List ℕ
varint n = groups_of 9 n

-- a number from its lowest group, with the high bit set, and the number that the groups behind it make
abbrev pub with_low : {A : Type 0} → ℕ → ℕ × A → ℕ × A
with_low b (high, rest) = (b - 128 + 128 * high, rest)

-- the groups behind a byte with the high bit, of which there may be so many
abbrev pub more_at : ℕ → List ℕ → Result (ℕ × List ℕ) VarintNo
more_at zero bytes = Err TooLarge
more_at (suc most) [] = Err Short
more_at (suc most) (b ∷ bs) =
    if nat_lt b 128 then (if b == 0 then Err Overlong else Ok (b, bs)) else (more_at most bs >>= λ x. Ok (with_low b x))

-- The number at the front: `TooLarge` where nine bytes are there and all have the high bit, else `Short`
-- where the input ends before a byte without it, else `Overlong` where the last byte is 0 and not the only one.
unfoldable pub varint_at : List ℕ → Result (ℕ × List ℕ) VarintNo
varint_at [] = Err Short
varint_at (b ∷ bs) = if nat_lt b 128 then Ok (b, bs) else (more_at 8 bs >>= λ x. Ok (with_low b x))

-- how many bytes a number takes
abbrev pub varint_len : ℕ → ℕ
varint_len n =
    if nat_lt n (2 ^ 7) then 1 else (if nat_lt n (2 ^ 14) then 2 else (if nat_lt n (2 ^ 21) then 3 else (
    if nat_lt n (2 ^ 28) then 4 else (if nat_lt n (2 ^ 35) then 5 else (if nat_lt n (2 ^ 42) then 6 else (
    if nat_lt n (2 ^ 49) then 7 else (if nat_lt n (2 ^ 56) then 8 else 9)))))))
