-- The restart part that is read is the one that was spelled, and one that is spelled is read again.
use Rattle.std.proofs.Common.{◌≡◌, ℕ, zero, suc, ◌+◌, ◌-◌, ◌*◌, ◌/◌, ◌^◌, ◌<◌, ◌≤◌, Bool, true, false, ◌||◌, cond, ltb, List, [], ◌∷◌, ◌++◌, length, take, drop, slice_range, append_assoc, subst, Result, Ok, Err, refl, sym, ap, ◌∙◌, arith, inl, inr}
use Rattle.std.specs.List.{flat_map, AllByRecursion}
use Rattle.std.specs.Int.{w32, from_le_bytes}
use Rattle.std.proofs.lemmas.Bool.{le-ltb, ltb-false, or_parts, or_from, cases_lt}
use Rattle.std.proofs.lemmas.List.{append-nil, length-append, length-drop, length-take, length-take-le, drop_at, take-append-drop, drop-drop, nil_from_length, get_or-take, get_or_past}
use Rattle.std.proofs.lemmas.List.Concat.{flat_map-cons}
use Rattle.std.proofs.lemmas.Nat.{le_bytes_4}
use Rattle.std.proofs.Math.Seq.{take-length, take-append_seam, drop-append_seam}
use Rattle.byteorder.specs.Endian.{little_bytes, little_number}
use Rattle.byteorder.specs.Numbers.{little_from-take, little_from-lt, little_number-reads_back}
use Rattle.xdb_key.proofs.ReadingLaws.{guard_ok, AreBytes-drop}
use Rattle.xdb_key.specs.Reading.{AreBytes}
use Rattle.xdb_block.specs.declared.kind.BlockNo.{BlockNo}
use Rattle.xdb_block.specs.declared.kind.BlockNo.TheVariants.{Damaged}
use Rattle.xdb_block.specs.Reading.{some_numbers, numbers, are_offsets, restarts_at}
use Rattle.xdb_block.specs.Spelling.{restart_bytes}

-- ---- numbers of 4 bytes

pub AreBytes-take : (n : ℕ) (bytes : List ℕ) → AreBytes bytes → AreBytes (take n bytes)
AreBytes-take n bytes fits i = elim (cases_lt i n) [
  | inl low ↦ rw (get_or-take n bytes i 0 low) (fits i)
  | inr high ↦ rw (get_or_past (take n bytes) i 0 (omega (arith, length-take n bytes))) (omega arith)
]

same_number : (bytes : List ℕ) → little_number 4 bytes ≡ from_le_bytes w32 bytes
same_number bytes = omega arith

number_takes : (bytes : List ℕ) → 4 ≤ length bytes → AreBytes bytes → little_bytes 4 (little_number 4 bytes) ≡ take 4 bytes
number_takes bytes long fits =
    le_bytes_4 (take 4 bytes) (little_number 4 bytes) (length-take-le 4 bytes long) (AreBytes-take 4 bytes fits)
    (sym (little_from-take 0 4 4 bytes (omega arith)) ∙ same_number (take 4 bytes))

number_small : (bytes : List ℕ) → AreBytes bytes → little_number 4 bytes < 2 ^ 32
number_small bytes fits = little_from-lt 0 4 bytes fits

record ReadsNumbers (bytes : List ℕ) (n : ℕ) (os : List ℕ) : Type 0 where
  spelled : bytes ≡ flat_map (little_bytes 4) os
  counted : length os ≡ n
  small : AllByRecursion (λ o. o < 2 ^ 32) os

numbers_take : (n : ℕ) (bytes : List ℕ) → AreBytes bytes → length bytes ≡ 4 * n → ReadsNumbers bytes n (some_numbers n bytes)
numbers_take zero bytes fits len = record { spelled = nil_from_length bytes (omega arith); counted = refl; small = tt }
numbers_take (suc n) bytes fits len =
    let others = numbers_take n (drop 4 bytes) (AreBytes-drop 4 bytes fits) (omega (arith, length-drop 4 bytes)) in
    let first : take 4 bytes ≡ little_bytes 4 (little_number 4 bytes) = sym (number_takes bytes (omega arith) fits) in
    record {
      spelled = sym (take-append-drop 4 bytes) ∙ (λ i. first i ++ others.spelled i) ∙ sym (flat_map-cons (little_bytes 4) (little_number 4 bytes) (some_numbers n (drop 4 bytes)));
      counted = ap suc others.counted;
      small = (number_small bytes fits, others.small);
    }

pub length-numbers : (os : List ℕ) → length (flat_map (little_bytes 4) os) ≡ 4 * length os
length-numbers [] = refl
length-numbers (o ∷ os) =
    let rest = length-numbers os in
    let step = ap length (flat_map-cons (little_bytes 4) o os) ∙ length-append (little_bytes 4 o) (flat_map (little_bytes 4) os) in
    omega arith

numbers_again : (os : List ℕ) → AllByRecursion (λ o. o < 2 ^ 32) os → some_numbers (length os) (flat_map (little_bytes 4) os) ≡ os
numbers_again [] small = refl
numbers_again (o ∷ os) small =
    let is = flat_map-cons (little_bytes 4) o os in
    let first : little_number 4 (little_bytes 4 o ++ flat_map (little_bytes 4) os) ≡ o = little_number-reads_back 4 o (flat_map (little_bytes 4) os) small.0 in
    let rest : drop 4 (little_bytes 4 o ++ flat_map (little_bytes 4) os) ≡ flat_map (little_bytes 4) os = drop_at (little_bytes 4 o) (flat_map (little_bytes 4) os) 4 refl in
    ap (some_numbers (suc (length os))) is ∙ (λ i. first i ∷ some_numbers (length os) (rest i)) ∙ ap (λ xs. o ∷ xs) (numbers_again os small.1)

-- ---- the restart part

ended : {A : Type 0} (b : Bool) (d : BlockNo) (x y : A) → ◌≡◌ {A = Result A BlockNo} (cond b (Ok x) (Err d)) (Ok y) → (b ≡ true) × (x ≡ y)
ended true d x y e = (refl, cc)
ended false d x y e = absurd cc

pub record ReadsRestarts (bytes : List ℕ) (end : ℕ) (os : List ℕ) : Type 0 where
  pub within : end ≤ length bytes
  pub spelled : bytes ≡ take end bytes ++ restart_bytes os
  pub small : AllByRecursion (λ o. o < 2 ^ 32) os
  pub counted : length os < 2 ^ 32
  pub fit : are_offsets end os ≡ true

reads_restarts : (bytes : List ℕ) (count end : ℕ) (os : List ℕ) → AreBytes bytes → little_number 4 (drop (length bytes - 4) bytes) ≡ count → end ≡ length bytes - 4 - 4 * count → 4 ≤ length bytes → 4 + 4 * count ≤ length bytes
    → os ≡ numbers (slice_range bytes end (length bytes - 4)) → are_offsets end os ≡ true → ReadsRestarts bytes end os
unfolding numbers
reads_restarts bytes count end os fits count_is end_is long there os_is fit =
    let n = length bytes in
    let part = slice_range bytes end (n - 4) in
    let len_part : length part ≡ 4 * count = length-take-le (n - 4 - end) (drop end bytes) (omega (arith, length-drop end bytes)) ∙ omega arith in
    let quarter : length part / 4 ≡ count = omega arith in
    let read = numbers_take count part (AreBytes-take (n - 4 - end) (drop end bytes) (AreBytes-drop end bytes fits)) len_part in
    let os' : os ≡ some_numbers count part = os_is ∙ ap (λ k. some_numbers k part) quarter in
    let last = drop (n - 4) bytes in
    let len_last : length last ≡ 4 = length-drop (n - 4) bytes ∙ omega arith in
    let counted : length os ≡ count = ap length os' ∙ read.counted in
    let tail : last ≡ little_bytes 4 (length os) =
    sym (sym (ap (λ k. take k last) len_last) ∙ take-length last) ∙ sym (number_takes last (omega arith) (AreBytes-drop (n - 4) bytes fits)) ∙ ap (little_bytes 4) (count_is ∙ sym counted) in
    let middle : part ≡ flat_map (little_bytes 4) os = read.spelled ∙ ap (flat_map (little_bytes 4)) (sym os') in
    let behind : drop (n - 4 - end) (drop end bytes) ≡ last = drop-drop (n - 4 - end) end bytes ∙ ap (λ k. drop k bytes) (omega arith) in
    let back : drop end bytes ≡ restart_bytes os = sym (take-append-drop (n - 4 - end) (drop end bytes)) ∙ (λ i. middle i ++ behind i) ∙ ap (λ x. flat_map (little_bytes 4) os ++ x) tail in
    record {
      within = omega arith;
      spelled = sym (take-append-drop end bytes) ∙ ap (λ x. take end bytes ++ x) back;
      small = subst (λ xs. AllByRecursion (λ o. o < 2 ^ 32) xs) (sym os') read.small;
      counted = omega (arith, number_small last (AreBytes-drop (n - 4) bytes fits));
      fit = fit;
    }

pub restarts_take : (bytes : List ℕ) (x : ℕ × List ℕ) → AreBytes bytes → restarts_at bytes ≡ Ok x → ReadsRestarts bytes x.0 x.1
unfolding restarts_at
restarts_take bytes x fits e =
    let len = length bytes in
    let count = little_number 4 (drop (len - 4) bytes) in
    let end = len - 4 - 4 * count in
    let os = numbers (slice_range bytes end (len - 4)) in
    let g = guard_ok (ltb len 4 || ltb len (4 + 4 * count)) (Damaged 0) _ e in
    let tests = or_parts (ltb len 4) (ltb len (4 + 4 * count)) g.0 in
    let found : ℕ × List ℕ = (end, os) in
    let h = ended (are_offsets end os) (Damaged end) found x g.1 in
    subst (λ (y : ℕ × List ℕ). ReadsRestarts bytes y.0 y.1) h.1 (reads_restarts bytes count end os fits refl refl (ltb-false len 4 tests.0) (ltb-false len (4 + 4 * count) tests.1) refl h.0)

pub length-restarts : (os : List ℕ) → length (restart_bytes os) ≡ 4 * length os + 4
length-restarts os = length-append (flat_map (little_bytes 4) os) (little_bytes 4 (length os)) ∙ omega (arith, length-numbers os)

restarts_as : (bytes : List ℕ) (count end : ℕ) (os : List ℕ) → little_number 4 (drop (length bytes - 4) bytes) ≡ count → length bytes - 4 - 4 * count ≡ end → numbers (slice_range bytes end (length bytes - 4)) ≡ os
    → (ltb (length bytes) 4 || ltb (length bytes) (4 + 4 * count)) ≡ false → are_offsets end os ≡ true → restarts_at bytes ≡ Ok (end, os)
unfolding restarts_at
restarts_as bytes count end os count_is end_is os_are tests fit = rw (count_is, end_is, os_are, tests, fit) refl

pub restarts_again : (front os : List ℕ) → AllByRecursion (λ o. o < 2 ^ 32) os → length os < 2 ^ 32 → are_offsets (length front) os ≡ true → restarts_at (front ++ restart_bytes os) ≡ Ok (length front, os)
unfolding restarts_at numbers
restarts_again front os small counted fit =
    let bytes = front ++ restart_bytes os in
    let part = flat_map (little_bytes 4) os in
    let len = length bytes in
    let len_part = length-numbers os in
    let len_is : len ≡ length front + (4 * length os + 4) = length-append front (restart_bytes os) ∙ ap (λ n. length front + n) (length-restarts os) in
    let last : drop (len - 4) bytes ≡ little_bytes 4 (length os) =
    ap (drop (len - 4)) (sym (append_assoc front part (little_bytes 4 (length os)))) ∙ drop_at (front ++ part) (little_bytes 4 (length os)) (len - 4) (omega (arith, length-append front part)) in
    let count : little_number 4 (drop (len - 4) bytes) ≡ length os =
    ap (little_number 4) (last ∙ sym (append-nil (little_bytes 4 (length os)))) ∙ little_number-reads_back 4 (length os) [] counted in
    let end : len - 4 - 4 * length os ≡ length front = omega arith in
    let size : len - 4 - length front ≡ length part = omega arith in
    let part_is : slice_range bytes (length front) (len - 4) ≡ part =
    (λ i. take (size i) (drop-append_seam front (restart_bytes os) i)) ∙ take-append_seam part (little_bytes 4 (length os)) in
    let quarter : length part / 4 ≡ length os = omega arith in
    let numbers_are : numbers (slice_range bytes (length front) (len - 4)) ≡ os = ap numbers part_is ∙ ap (λ n. some_numbers n part) quarter ∙ numbers_again os small in
    let tests : (ltb len 4 || ltb len (4 + 4 * length os)) ≡ false = or_from _ _ (le-ltb len 4 (omega arith)) (le-ltb len (4 + 4 * length os) (omega arith)) in
    restarts_as bytes (length os) (length front) os count end numbers_are tests fit
