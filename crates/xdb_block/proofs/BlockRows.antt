-- Rows that are read are those that were spelled, and rows that are spelled are read again.
use Rattle.std.proofs.Common.{◌≡◌, ℕ, zero, suc, ◌+◌, ◌-◌, ◌^◌, ◌<◌, ◌≤◌, Bool, true, false, cond, eqb, List, [], ◌∷◌, ◌++◌, length, subst, Option, Some, None, Ok, Err, refl, sym, ap, ◌∙◌, arith, inl, inr}
use Rattle.std.specs.List.{AllByRecursion}
use Rattle.std.proofs.lemmas.Bool.{eqb-true, eq-eqb, and_parts, leb-true, cases_lt}
use Rattle.std.proofs.lemmas.List.{length-append, length-take-le, nil_from_length}
use Rattle.xdb_key.proofs.ReadingLaws.{bind_ok}
use Rattle.xdb_key.specs.Reading.{◌>>=◌, AreBytes}
use Rattle.xdb_block.specs.declared.kind.BlockKind.{BlockKind}
use Rattle.xdb_block.specs.declared.kind.BlockKind.TheVariants.{Point, Spans, Index}
use Rattle.xdb_block.specs.declared.kind.BlockNo.{BlockNo}
use Rattle.xdb_block.specs.declared.kind.BlockNo.TheVariants.{Damaged}
use Rattle.xdb_block.specs.Reading.{row_at, next_at, offsets_at, rows_at}
use Rattle.xdb_block.specs.Rows.{Row, user_part, is_point_key, follows, suits, Follow}
use Rattle.xdb_block.specs.Spelling.{is_restart, left_out, entry_bytes, entries_from, offset_of, offsets_from, key_of}
use Rattle.xdb_block.proofs.EntryLaws.{ok_is, row_takes, row_again, entry-some}
use Rattle.xdb_block.proofs.Loop.{nothing_left}
use Rattle.xdb_block.proofs.RowLaws.{next-fits}

-- ---- read

ended : {A : Type 0} (b : Bool) (d : BlockNo) (x y : A) → cond b (Ok x) (Err d) ≡ Ok y → (b ≡ true) × (x ≡ y)
ended true d x y e = (refl, cc)
ended false d x y e = absurd cc

next_takes : (at : ℕ) (kind : BlockKind) (restart : Bool) (last : Option Row) (bytes : List ℕ) (x : Row × List ℕ) → next_at at kind restart last bytes ≡ Ok x → (row_at at restart (key_of last) bytes ≡ Ok x) × (follows kind last x.0 ≡ true)
unfolding next_at
next_takes at kind restart last bytes x e =
    let a = bind_ok (row_at at restart (key_of last) bytes) (λ r. cond (follows kind last r.0) (Ok r) (Err (Damaged at))) e in
    let h = ended (follows kind last a.0.0) (Damaged at) a.0 x a.2 in
    (a.1 ∙ ap Ok h.1, ap (λ (y : Row × List ℕ). follows kind last y.0) (sym h.1) ∙ h.0)

offsets_take : (at : ℕ) (restart : Bool) (os left : List ℕ) → offsets_at at restart os ≡ Ok left → os ≡ offset_of restart at ++ left
unfolding offsets_at
offsets_take at false os left e = ok_is os left e
offsets_take at true [] left e = absurd cc
offsets_take at true (o ∷ os) left e =
    let h = ended (eqb o at) (Damaged at) os left e in
    λ i. eqb-true o at h.0 i ∷ h.1 i

pub record ReadsRows (interval : ℕ) (kind : BlockKind) (at i : ℕ) (last : Option Row) (os bytes : List ℕ) (rows : List Row) : Type 0 where
  pub parts : bytes ≡ entries_from interval i (key_of last) rows
  pub each : Follow kind last rows
  pub short : AllByRecursion (λ r. length r.value < 2 ^ 63) rows
  pub placed : os ≡ offsets_from interval at i (key_of last) rows

reads_none : (interval : ℕ) (kind : BlockKind) (at i : ℕ) (last : Option Row) (os : List ℕ) (rows : List Row) → length os ≡ 0 → [] ≡ rows → ReadsRows interval kind at i last os [] rows
reads_none interval kind at i last os rows none is =
    subst (λ rs. ReadsRows interval kind at i last os [] rs) is (record { parts = refl; each = tt; short = tt; placed = nil_from_length os none })

pub rows_take : (most interval : ℕ) (kind : BlockKind) (end i : ℕ) (last : Option Row) (os bytes : List ℕ) (rows : List Row) → AreBytes bytes → length bytes ≤ end → rows_at most interval kind end i last os bytes ≡ Ok rows → ReadsRows interval kind (end - length bytes) i last os bytes rows
unfolding rows_at
rows_take most interval kind end i last os [] rows fits within e =
    let h = ended (eqb (length os) 0) (Damaged end) [] rows (sym (nothing_left most interval kind end i last os) ∙ e) in
    reads_none interval kind (end - 0) i last os rows (eqb-true (length os) 0 h.0) h.1
rows_take zero interval kind end i last os (b ∷ bs) rows fits within e = absurd cc
rows_take (suc most) interval kind end i last os (b ∷ bs) rows fits within e =
    let bytes = b ∷ bs in
    let at = end - length bytes in
    let restart = is_restart interval i in
    let a = bind_ok (offsets_at at restart os) (λ left. next_at at kind restart last bytes >>= λ r. rows_at most interval kind end (i + 1) (Some r.0) left r.1 >>= λ rs. Ok (r.0 ∷ rs)) e in
    let c = bind_ok (next_at at kind restart last bytes) (λ r. rows_at most interval kind end (i + 1) (Some r.0) a.0 r.1 >>= λ rs. Ok (r.0 ∷ rs)) a.2 in
    let r = c.0.0 in
    let rest = c.0.1 in
    let d = bind_ok (rows_at most interval kind end (i + 1) (Some r) a.0 rest) (λ rs. Ok (r ∷ rs)) c.2 in
    let n = next_takes at kind restart last bytes c.0 c.1 in
    let one = row_takes at restart (key_of last) bytes c.0 fits n.0 in
    let entry = entry_bytes (left_out restart (key_of last) r.key) r in
    let parts : bytes ≡ entry ++ rest = one.taken.parts in
    let len = length-append entry rest in
    let total = ap length parts in
    let others = rows_take most interval kind end (i + 1) (Some r) a.0 rest d.0 one.taken.bytes_left (omega arith) d.1 in
    let place : end - length rest ≡ at + length entry = omega arith in
    let placed : os ≡ offset_of restart at ++ offsets_from interval (at + length entry) (i + 1) r.key d.0 =
    offsets_take at restart os a.0 a.1 ∙ ap (λ x. offset_of restart at ++ x) (others.placed ∙ ap (λ p. offsets_from interval p (i + 1) r.key d.0) place) in
    subst (λ rs. ReadsRows interval kind at i last os bytes rs) (ok_is (r ∷ d.0) rows d.2) (record {
      parts = parts ∙ ap (λ x. entry ++ x) others.parts;
      each = (n.1, others.each);
      short = (one.short, others.short);
      placed = placed;
    })

-- ---- read again

-- a row that suits a block has a key of at most 1,033 bytes
key-short : (key : List ℕ) → length (user_part key) ≤ 1025 → length key < 2 ^ 63
key-short key h = elim (cases_lt (length key) 8) [
  | inl low ↦ omega arith
  | inr high ↦ omega (arith, length-take-le (length key - 8) key (omega arith))
]

point-short : (key : List ℕ) → is_point_key key ≡ true → length (user_part key) ≤ 1025
point-short key e =
    let within : length (user_part key) ≤ 1024 = leb-true (length (user_part key)) 1024 (and_parts _ _ (and_parts _ _ e).0).1 in
    omega arith

suits-short : (kind : BlockKind) (r : Row) → suits kind r ≡ true → length r.key < 2 ^ 63
suits-short Point r e = key-short r.key (point-short r.key (and_parts _ _ e).0)
suits-short Spans r e = key-short r.key (leb-true _ _ (and_parts _ _ (and_parts _ _ (and_parts _ _ (and_parts _ _ e).0).0).0).1)
suits-short Index r e = key-short r.key (point-short r.key (and_parts _ _ e).0)

follows-short : (kind : BlockKind) (last : Option Row) (r : Row) → follows kind last r ≡ true → length r.key < 2 ^ 63
follows-short kind None r e = suits-short kind r e
follows-short kind (Some last) r e = suits-short kind r (and_parts _ _ (and_parts _ _ e).0).0

offsets_again : (at : ℕ) (restart : Bool) (left : List ℕ) → offsets_at at restart (offset_of restart at ++ left) ≡ Ok left
unfolding offsets_at
offsets_again at false left = refl
offsets_again at true left = ap (λ b. cond b (Ok left) (Err (Damaged at))) (eq-eqb at at refl)

next_again : (at : ℕ) (kind : BlockKind) (restart : Bool) (last : Option Row) (r : Row) (rest : List ℕ) → follows kind last r ≡ true → length r.value < 2 ^ 63 → next_at at kind restart last (entry_bytes (left_out restart (key_of last) r.key) r ++ rest) ≡ Ok (r, rest)
next_again at kind restart last r rest fits small = next-fits at kind restart last _ r rest (row_again at restart (key_of last) r rest (follows-short kind last r fits) small) fits

step_again : (most interval : ℕ) (kind : BlockKind) (end i : ℕ) (last : Option Row) (os left bytes : List ℕ) (r : Row) (rest : List ℕ) (rs : List Row) → 1 ≤ length bytes
    → offsets_at (end - length bytes) (is_restart interval i) os ≡ Ok left → next_at (end - length bytes) kind (is_restart interval i) last bytes ≡ Ok (r, rest)
    → rows_at most interval kind end (i + 1) (Some r) left rest ≡ Ok rs → rows_at (suc most) interval kind end i last os bytes ≡ Ok (r ∷ rs)
unfolding rows_at
step_again most interval kind end i last os left [] r rest rs some offsets read others = absurd (omega arith)
step_again most interval kind end i last os left (b ∷ bs) r rest rs some offsets read others = rw (offsets, read, others) refl

pub rows_again : (most interval : ℕ) (kind : BlockKind) (end at i : ℕ) (last : Option Row) (rows : List Row) → Follow kind last rows → AllByRecursion (λ r. length r.value < 2 ^ 63) rows → length (entries_from interval i (key_of last) rows) ≤ most
    → at + length (entries_from interval i (key_of last) rows) ≡ end → rows_at most interval kind end i last (offsets_from interval at i (key_of last) rows) (entries_from interval i (key_of last) rows) ≡ Ok rows
rows_again most interval kind end at i last [] each short enough ends = nothing_left most interval kind end i last []
rows_again zero interval kind end at i last (r ∷ rs) each short enough ends =
    let entry = entry_bytes (left_out (is_restart interval i) (key_of last) r.key) r in
    absurd (omega (arith, entry-some (left_out (is_restart interval i) (key_of last) r.key) r, length-append entry (entries_from interval (i + 1) r.key rs)))
rows_again (suc most) interval kind end at i last (r ∷ rs) each short enough ends =
    let n = left_out (is_restart interval i) (key_of last) r.key in
    let entry = entry_bytes n r in
    let rest = entries_from interval (i + 1) r.key rs in
    let bytes = entry ++ rest in
    let left = offsets_from interval (at + length entry) (i + 1) r.key rs in
    let some = entry-some n r in
    let len = length-append entry rest in
    let here : end - length bytes ≡ at = omega arith in
    let others = rows_again most interval kind end (at + length entry) (i + 1) (Some r) rs each.1 short.1 (omega arith) (omega arith) in
    let offsets : offsets_at (end - length bytes) (is_restart interval i) (offset_of (is_restart interval i) at ++ left) ≡ Ok left =
    ap (λ p. offsets_at p (is_restart interval i) (offset_of (is_restart interval i) at ++ left)) here ∙ offsets_again at (is_restart interval i) left in
    step_again most interval kind end i last _ left bytes r rest rs (omega arith) offsets (next_again (end - length bytes) kind (is_restart interval i) last r rest each.0 short.0) others
