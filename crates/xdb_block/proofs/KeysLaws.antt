-- How many bytes whole keys are: at most 16 times as many as the entries, with a restart at each 16th one.
use Rattle.std.proofs.Common.{◌≡◌, ℕ, suc, ◌+◌, ◌-◌, ◌*◌, ◌%◌, ◌≤◌, true, false, cond, eqb, List, [], ◌∷◌, ◌++◌, length, drop, slice_range, All, ap, refl, subst, inl, inr, arith}
use Rattle.std.proofs.Math.Nat.{mul-le-mul_right, mul-le-mul_left}
use Rattle.std.proofs.lemmas.Bool.{cases_Bool, eqb-true, eqb-false}
use Rattle.std.proofs.lemmas.List.{length-append, length-drop, length-take}
use Rattle.std.proofs.lemmas.List.Elements.{All-tail}
use Rattle.xdb_key.specs.Varint.{varint}
use Rattle.xdb_block.specs.declared.place.Place.{Place}
use Rattle.xdb_block.specs.Kept.{rows_of, Lies, keys_size}
use Rattle.xdb_block.specs.Rows.{Row, keys_len}
use Rattle.xdb_block.specs.Spelling.{is_restart, left_out, entry_bytes, entries_from, entries, offsets, restart_bytes, block_bytes}
use Rattle.xdb_block.proofs.EntryLaws.{leaves}

-- ---- in a block

-- how many entries there are from this one to the next restart; none where it is one
abbrev room : ℕ → ℕ
room i = cond (eqb (i % 16) 0) 0 (16 - i % 16)

room-restart : (i : ℕ) → eqb (i % 16) 0 ≡ true → room (i + 1) ≡ 15
room-restart i h =
    let here : i % 16 ≡ 0 = eqb-true (i % 16) 0 h in
    let next : (i + 1) % 16 ≡ 1 = omega (arith, here) in
    ap (λ k. cond (eqb k 0) 0 (16 - k)) next

room-is : (i : ℕ) → eqb (i % 16) 0 ≡ false → room i ≡ 16 - i % 16
room-is i h = ap (λ b. cond b 0 (16 - i % 16)) h

room-behind : (i : ℕ) → eqb (i % 16) 0 ≡ false → suc (room (i + 1)) ≡ room i
room-behind i h =
    let some : i % 16 ≡ 0 → ⊥ = eqb-false (i % 16) 0 h in
    let here = room-is i h in
    elim (cases_Bool (eqb ((i + 1) % 16) 0)) [
      | inl last ↦
          let none : (i + 1) % 16 ≡ 0 = eqb-true ((i + 1) % 16) 0 last in
          let is : room (i + 1) ≡ 0 = ap (λ b. cond b 0 (16 - (i + 1) % 16)) last in
          omega (arith, is, here, none)
      | inr more ↦
          let next = room-is (i + 1) more in
          let some_more : (i + 1) % 16 ≡ 0 → ⊥ = eqb-false ((i + 1) % 16) 0 more in
          omega (arith, next, here)
    ]

-- an entry has the bytes of its key that it doesn't leave out
entry-holds : (n : ℕ) (r : Row) → length r.key ≤ n + length (entry_bytes n r)
entry-holds n r =
    let lengths = varint n ++ varint (length r.key - n) ++ varint (length r.value) in
    let with_key = length-append lengths (drop n r.key) in
    let whole : length (entry_bytes n r) ≡ length (lengths ++ drop n r.key) + length r.value = length-append (lengths ++ drop n r.key) r.value in
    omega (arith, whole, with_key, length-drop n r.key)

at-restart : (k e rest m : ℕ) → k ≤ e → rest ≤ k * 15 + 16 * m → k + rest ≤ 16 * (e + m)
at-restart k e rest m h g = omega arith

behind-restart : (k l e rest m r : ℕ) → k ≤ l + e → suc r ≤ 16 → rest ≤ k * r + 16 * m → k + rest ≤ l * suc r + 16 * (e + m)
behind-restart k l e rest m r h few g =
    let more : k * suc r ≤ (l + e) * suc r = mul-le-mul_right (suc r) h in
    let most : e * suc r ≤ e * 16 = mul-le-mul_left e few in
    let whole : k * suc r ≡ k + k * r = grind arith in
    let parts : (l + e) * suc r ≡ l * suc r + e * suc r = grind arith in
    omega (arith, more, most, whole, parts, g)

keys_from : (i : ℕ) (last : List ℕ) (rows : List Row) → keys_len rows ≤ length last * room i + 16 * length (entries_from 16 i last rows)
keys_from i last [] = omega arith
keys_from i last (r ∷ rs) =
    let restart = is_restart 16 i in
    let n = left_out restart last r.key in
    let entry = entry_bytes n r in
    let rest = entries_from 16 (i + 1) r.key rs in
    let whole : length (entry ++ rest) ≡ length entry + length rest = length-append entry rest in
    let holds = entry-holds n r in
    let others = keys_from (i + 1) r.key rs in
    elim (cases_Bool (eqb (i % 16) 0)) [
      | inl first ↦
          let none : n ≡ 0 = ap (λ b. left_out b last r.key) first in
          let next : keys_len rs ≤ length r.key * 15 + 16 * length rest = subst (λ k. keys_len rs ≤ length r.key * k + 16 * length rest) (room-restart i first) others in
          let sum = at-restart (length r.key) (length entry) (keys_len rs) (length rest) (omega (arith, holds, none)) next in
          omega (arith, sum, whole)
      | inr later ↦
          let shared = (leaves restart last r.key).of_last in
          let step = room-behind i later in
          let here = room-is i later in
          let sum = behind-restart (length r.key) (length last) (length entry) (keys_len rs) (length rest) (room (i + 1)) (omega (arith, holds, shared)) (omega (arith, step, here)) others in
          let sum' = subst (λ k. length r.key + keys_len rs ≤ length last * k + 16 * (length entry + length rest)) step sum in
          omega (arith, sum', whole)
    ]

pub keys_in_block : (rows : List Row) → keys_len rows ≤ 16 * length (block_bytes 16 rows)
keys_in_block rows = omega (arith, keys_from 0 [] rows, length-append (entries 16 rows) (restart_bytes (offsets 16 rows)))

-- ---- at places

pub size-more : (places : List Place) (p : Place) → keys_size (places ++ p ∷ []) ≡ keys_size places + (p.key_end - p.key)
size-more [] p = omega arith
size-more (q ∷ places) p = omega (arith, size-more places p)

pub size-of_rows : (keys bytes : List ℕ) (places : List Place) → All (Lies (length keys) (length bytes)) places → keys_size places ≡ keys_len (rows_of keys bytes places)
size-of_rows keys bytes [] lie = refl
size-of_rows keys bytes (p ∷ places) lie =
    let lies = lie 0 p (omega arith) in
    let order = lies.key_order in
    let within = lies.in_keys in
    let one : p.key_end - p.key ≡ length (slice_range keys p.key p.key_end) = omega (arith, length-take (p.key_end - p.key) (drop p.key keys), length-drop p.key keys, order, within) in
    let others = size-of_rows keys bytes places (All-tail (Lies (length keys) (length bytes)) p places lie) in
    omega (arith, one, others)
