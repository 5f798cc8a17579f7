-- Single words read: what they stand for, or the defect that they have.
use Rattle.std.specs.Prelude.{ℕ, ◌+◌, ◌-◌, ◌*◌, Bool, false, ◌&&◌, ◌||◌, List, [], ◌∷◌, length, Option, Some, None, Result, Ok, Err, nat_lt, nat_le, ◌==◌, if◌then◌else◌, codes}
use Rattle.std.specs.Fmt.{decimal}
use Rattle.std.specs.Ordering.{eq_by_cmp}
use Rattle.std.specs.Str.Parse.{digits_value}
use Rattle.xdb_key.specs.Name.{is_name}
use Rattle.xdb_key.specs.Order.{key_cmp}
use Rattle.xdb_key.specs.Reading.{◌>>=◌}
use Rattle.xdb_key.specs.declared.TheConstants.{MAX_KEY, MAX_BOUND, MAX_VALUE}
use Rattle.xdb_plain.specs.Words.{string_word}
use Rattle.xdb_script.specs.Rules.{are_bytes, has_length}
use Rattle.xdb_script.specs.declared.error.Why.{Why}
use Rattle.xdb_script.specs.declared.error.Why.TheVariants as why

abbrev pub same_word : List ℕ → List ℕ → Bool
same_word a b = eq_by_cmp key_cmp a b

abbrev pub digit_of : ℕ → ℕ
digit_of letter = if nat_lt letter 97 then letter - 48 else letter - 87

-- what `%` and two digits stand for
abbrev pub escaped : List ℕ → List ℕ
escaped (high ∷ low ∷ bytes) = (16 * digit_of high + digit_of low) ∷ bytes
escaped bytes = bytes

-- what letters stand for, from the last one on
abbrev pub letters : List ℕ → List ℕ
letters [] = []
letters (b ∷ word) = if b == 37 then escaped (letters word) else b ∷ letters word

-- the only bytes that a word can spell
abbrev pub unspelled : List ℕ → List ℕ
unspelled word = if same_word word (codes "\"\"") then [] else letters word

-- the word is the one spelling of bytes
abbrev pub is_spelling : List ℕ → Bool
is_spelling word = are_bytes (unspelled word) && same_word (string_word (unspelled word)) word

-- a spelling of at least and at most so many bytes
abbrev pub string_read : ℕ → ℕ → List ℕ → Result (List ℕ) Why
string_read least most word =
    if is_spelling word then (if has_length least most (unspelled word) then Ok (unspelled word) else Err why.Length) else Err why.Token

abbrev pub key_read : List ℕ → Result (List ℕ) Why
key_read word = string_read 1 MAX_KEY word

abbrev pub bound_read : List ℕ → Result (List ℕ) Why
bound_read word = string_read 1 MAX_BOUND word

abbrev pub value_read : List ℕ → Result (List ℕ) Why
value_read word = string_read 0 MAX_VALUE word

abbrev pub name_read : List ℕ → Result (List ℕ) Why
name_read word = if is_name word then Ok word else Err why.Name

-- the decimal of a number from the least to the most
abbrev pub number_read : ℕ → ℕ → List ℕ → Result ℕ Why
number_read least most word =
    let n = digits_value 10 word in
    if same_word (decimal n) word && (nat_le least n && nat_le n most) then Ok n else Err why.Number

-- a decimal without leading zeros begins so
abbrev pub begins_decimal : List ℕ → Bool
begins_decimal [] = false
begins_decimal (b ∷ bs) = (nat_le 49 b && nat_le b 57) || ((b == 48) && (length bs == 0))

-- each of a list, from the left
abbrev pub all_read : {X A : Type 0} → (X → Result A Why) → List X → Result (List A) Why
all_read read [] = Ok []
all_read read (x ∷ xs) = do
  a ← read x
  others ← all_read read xs
  Ok (a ∷ others)

-- one that may be missing
abbrev pub some_read : {X A : Type 0} → (X → Result A Why) → Option X → Result (Option A) Why
some_read read None = Ok None
some_read read (Some x) = do
  a ← read x
  Ok (Some a)
