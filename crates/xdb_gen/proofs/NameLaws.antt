-- A letter and a decimal are a name.
use Rattle.std.proofs.Common.{◌≡◌, ℕ, suc, ◌+◌, ◌%◌, ◌^◌, ◌<◌, true, leb, [], ◌∷◌, length, refl, ◌∙◌, arith}
use Rattle.std.specs.Fmt.{decimal}
use Rattle.std.specs.List.{list_all}
use Rattle.std.proofs.lemmas.Bool.{and_from, le-leb}
use Rattle.std.proofs.lemmas.Fmt.{decimal_by_steps, length-decimal-le}
use Rattle.std.proofs.lemmas.List.Folds.{list_all-append}
use Rattle.xdb_key.specs.Name.{is_name, is_name_byte}
use Rattle.xdb_gen.specs.Commands.{load_name, snap_name}

digit-name_byte : (d : ℕ) → d < 10 → is_name_byte (48 + d) ≡ true
digit-name_byte d h = grind arith

decimal-name_bytes : (n : ℕ) → n < 2 ^ 64 → list_all is_name_byte (decimal n) ≡ true
decimal-name_bytes n h = decimal_by_steps (λ m ds. list_all is_name_byte ds ≡ true)
    (λ m low. and_from (is_name_byte (48 + m)) true (digit-name_byte m low) refl)
    (λ m ds high before. list_all-append is_name_byte ds ((48 + m % 10) ∷ [])
    ∙ and_from (list_all is_name_byte ds) _ before (and_from (is_name_byte (48 + m % 10)) true (digit-name_byte (m % 10) (omega arith)) refl))
    n h

short-decimal : (n : ℕ) → n < 2 ^ 32 → leb (suc (length (decimal n))) 16 ≡ true
short-decimal n h = let short = length-decimal-le 10 n (omega arith) (omega arith) (omega arith) in le-leb (suc (length (decimal n))) 16 (omega arith)

pub load_name-is_name : (n : ℕ) → n < 2 ^ 32 → is_name (load_name n) ≡ true
load_name-is_name n h =
    and_from _ true (and_from (list_all is_name_byte (decimal n)) (leb (suc (length (decimal n))) 16) (decimal-name_bytes n (omega arith)) (short-decimal n h)) refl

pub snap_name-is_name : (n : ℕ) → n < 2 ^ 32 → is_name (snap_name n) ≡ true
snap_name-is_name n h =
    and_from _ true (and_from (list_all is_name_byte (decimal n)) (leb (suc (length (decimal n))) 16) (decimal-name_bytes n (omega arith)) (short-decimal n h)) refl
