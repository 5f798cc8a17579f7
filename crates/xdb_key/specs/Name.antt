-- Names of snapshots, cursors, loads and tables.
use Rattle.std.specs.Prelude.{ℕ, Bool, false, ◌&&◌, ◌||◌, not, List, [], ◌∷◌, length, nat_le}
use Rattle.std.specs.List.{list_all}
use Rattle.std.specs.Ordering.{eq_by_cmp}
use Rattle.xdb_key.specs.Order.{key_cmp}

abbrev pub is_lower : ℕ → Bool
is_lower b = nat_le 97 b && nat_le b 122

abbrev pub is_digit : ℕ → Bool
is_digit b = nat_le 48 b && nat_le b 57

abbrev pub is_name_byte : ℕ → Bool
is_name_byte b = is_lower b || is_digit b

-- the fixed words `at` and `excise`, which are no names
abbrev pub is_fixed_word : List ℕ → Bool
is_fixed_word bytes =
    eq_by_cmp key_cmp bytes (97 ∷ 116 ∷ []) || eq_by_cmp key_cmp bytes (101 ∷ 120 ∷ 99 ∷ 105 ∷ 115 ∷ 101 ∷ [])

abbrev pub starts_lower : List ℕ → Bool
starts_lower [] = false
starts_lower (b ∷ bs) = is_lower b

-- 1 to 16 lower-case letters and digits, a letter first, and no fixed word
abbrev pub is_name : List ℕ → Bool
is_name bytes = starts_lower bytes && list_all is_name_byte bytes && nat_le (length bytes) 16 && not (is_fixed_word bytes)
