-- Offsets, one after the other.
use Rattle.std.proofs.Common.{◌≡◌, ℕ, suc, ◌/◌, ◌<◌, ◌≤◌, List, [], ◌∷◌, length, take, drop, sym, ap, ◌∙◌, arith}
use Rattle.std.proofs.lemmas.List.{length-drop}
use Rattle.byteorder.specs.Endian.{little_number}
use Rattle.byteorder.specs.Numbers.{little_from-take}
use Rattle.xdb_block.specs.Reading.{some_numbers, numbers}

pub numbers_none : (bytes : List ℕ) → length bytes < 4 → numbers bytes ≡ []
unfolding numbers
numbers_none bytes few =
    let none : length bytes / 4 ≡ 0 = omega arith in
    ap (λ n. some_numbers n bytes) none

pub numbers_more : (bytes : List ℕ) → 4 ≤ length bytes → numbers bytes ≡ little_number 4 (take 4 bytes) ∷ numbers (drop 4 bytes)
unfolding numbers
numbers_more bytes some =
    let one : length bytes / 4 ≡ suc (length (drop 4 bytes) / 4) = omega (arith, length-drop 4 bytes) in
    ap (λ n. some_numbers n bytes) one ∙ ap (λ n. n ∷ some_numbers (length (drop 4 bytes) / 4) (drop 4 bytes)) (sym (little_from-take 0 4 4 bytes (omega arith)))
