-- Parts of lists, and how long two lists are the same.
use Rattle.std.proofs.Common.{◌≡◌, ℕ, ◌+◌, ◌-◌, ◌≤◌, List, ◌++◌, length, take, drop, slice_range, refl, sym, ap, ◌∙◌, arith, Option, Some, None, IfSome}
use Rattle.std.proofs.lemmas.List.{length-drop, take-append-le, drop-append-le, take-append-drop, take-take, take_rest}
use Rattle.std.proofs.Math.Seq.{drop-append_seam}
use Rattle.std.specs.List.{common_prefix_len}
use Rattle.std.specs.Option.{option_map}
use Rattle.std.specs.Prelude.{nat_eq}
use Rattle.std.proofs.lemmas.List.Sums.{common_prefix_len-le}
use Rattle.xdb_block.specs.declared.place.Place.{Place}
use Rattle.xdb_block.specs.Kept.{row_of, Lies}
use Rattle.xdb_block.specs.Rows.{row}

-- nothing is left of the second list
pub common_ends : (a b : List ℕ) (len : ℕ) → length b ≤ len → common_prefix_len nat_eq (drop len a) (drop len b) ≡ 0
common_ends a b len h = omega (arith, (common_prefix_len-le nat_eq (drop len a) (drop len b)).1, length-drop len b)

-- a part of a list's front
pub range_front : (xs ys : List ℕ) (i j : ℕ) → i ≤ j → j ≤ length xs → slice_range (xs ++ ys) i j ≡ slice_range xs i j
range_front xs ys i j order within =
    ap (take (j - i)) (drop-append-le i xs ys (omega arith)) ∙ take-append-le (j - i) (drop i xs) ys (omega (arith, length-drop i xs))

pub range_kept : (old new : List ℕ) (i j : ℕ) → i ≤ j → j ≤ length old → take (length old) new ≡ old → slice_range new i j ≡ slice_range old i j
range_kept old new i j order within grows =
    let parts : new ≡ old ++ drop (length old) new = sym (take-append-drop (length old) new) ∙ ap (λ x. x ++ drop (length old) new) grows in
    ap (λ x. slice_range x i j) parts ∙ range_front old (drop (length old) new) i j order within

-- a row stays as keys are put behind the others
pub row_kept : (old new bytes : List ℕ) (n : ℕ) (p : Place) → Lies (length old) n p → take (length old) new ≡ old → row_of new bytes p ≡ row_of old bytes p
row_kept old new bytes n p lies grows = ap (λ k. row k (slice_range bytes p.value p.end)) (range_kept old new p.key p.key_end lies.key_order lies.in_keys grows)

pub last_kept : (old new bytes : List ℕ) (n : ℕ) (last : Option Place) → IfSome last (Lies (length old) n) → take (length old) new ≡ old → option_map (row_of new bytes) last ≡ option_map (row_of old bytes) last
last_kept old new bytes n None lies grows = refl
last_kept old new bytes n (Some p) lies grows = ap Some (row_kept old new bytes n p lies grows)

-- the front of a part
pub range_take : (xs : List ℕ) (from to s : ℕ) → s ≤ to - from → slice_range xs from (from + s) ≡ take s (slice_range xs from to)
range_take xs from to s within =
    let len : from + s - from ≡ s = omega arith in
    ap (λ n. take n (drop from xs)) len ∙ sym (take-take s (to - from) (drop from xs) within)

-- all behind the front
pub range_back : (xs ys : List ℕ) → slice_range (xs ++ ys) (length xs) (length (xs ++ ys)) ≡ ys
range_back xs ys = take_rest (xs ++ ys) (length xs) ∙ drop-append_seam xs ys
