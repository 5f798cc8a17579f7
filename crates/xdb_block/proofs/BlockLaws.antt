-- The two laws of blocks: what is read is spelled so, and what is spelled so is read.
use Rattle.std.proofs.Common.{◌≡◌, ℕ, ◌+◌, ◌-◌, ◌%◌, ◌^◌, ◌<◌, ◌≤◌, Bool, true, false, List, [], ◌∷◌, ◌++◌, length, take, subst, None, Ok, refl, sym, ap, ◌∙◌, arith}
use Rattle.std.specs.List.{AllByRecursion}
use Rattle.std.proofs.lemmas.Bool.{eq-eqb, lt-ltb, le-leb}
use Rattle.std.proofs.lemmas.List.{length-append, length-take-le}
use Rattle.std.proofs.Math.Seq.{take-append_seam}
use Rattle.xdb_key.proofs.ReadingLaws.{bind_ok}
use Rattle.xdb_key.specs.Reading.{◌>>=◌, AreBytes}
use Rattle.xdb_block.specs.declared.kind.BlockKind.{BlockKind}
use Rattle.xdb_block.specs.Reading.{rise, are_offsets, restarts_at, rows_at, block_at}
use Rattle.xdb_block.specs.Rows.{Row}
use Rattle.xdb_block.specs.Spelling.{is_restart, left_out, entry_bytes, entries_from, offset_of, offsets_from, entries, offsets, restart_bytes, block_bytes, IsBlock}
use Rattle.xdb_block.proofs.BlockRows.{rows_take, rows_again}
use Rattle.xdb_block.proofs.EntryLaws.{entry-some}
use Rattle.xdb_block.proofs.OffsetLaws.{restarts_take, restarts_again, AreBytes-take}

-- a block was read from its spelling
pub record ReadsBlock (interval : ℕ) (kind : BlockKind) (bytes : List ℕ) (rows : List Row) : Type 0 where
  pub within : IsBlock interval kind rows
  pub is : bytes ≡ block_bytes interval rows

-- offsets of no rows are none, and those of a block are some
some_rows : (end : ℕ) (rows : List Row) (interval : ℕ) → are_offsets end (offsets interval rows) ≡ true → 1 ≤ length rows
some_rows end [] interval fit = cc
some_rows end (r ∷ rs) interval fit = omega arith

pub block_takes : (interval : ℕ) (kind : BlockKind) (bytes : List ℕ) (rows : List Row) → AreBytes bytes → block_at interval kind bytes ≡ Ok rows → ReadsBlock interval kind bytes rows
unfolding block_at
block_takes interval kind bytes rows fits e =
    let a = bind_ok (restarts_at bytes) (λ part. rows_at part.0 interval kind part.0 0 None part.1 (take part.0 bytes)) e in
    let end = a.0.0 in
    let os = a.0.1 in
    let part = restarts_take bytes a.0 fits a.1 in
    let within = part.within in
    let len = length-take-le end bytes within in
    let read = rows_take end interval kind end 0 None os (take end bytes) rows (AreBytes-take end bytes fits) (omega arith) a.2 in
    let place : end - length (take end bytes) ≡ 0 = omega arith in
    let placed : os ≡ offsets interval rows = read.placed ∙ ap (λ p. offsets_from interval p 0 [] rows) place in
    record {
      within = record {
        some = some_rows end rows interval (ap (are_offsets end) (sym placed) ∙ part.fit);
        each = read.each;
        short = read.short;
        placed = subst (λ xs. AllByRecursion (λ o. o < 2 ^ 32) xs) placed part.small;
        counted = subst (λ (xs : List ℕ). length xs < 2 ^ 32) placed part.counted;
      };
      is = part.spelled ∙ (λ i. read.parts i ++ restart_bytes (placed i));
    }

-- ---- offsets of rows

rise-one : (least end o : ℕ) (os : List ℕ) → least ≤ o → o < end → rise (o + 1) end os ≡ true → rise least end (o ∷ os) ≡ true
rise-one least end o os from below others = rw (le-leb least o from, lt-ltb o end below, others) refl

offset_rises : (restart : Bool) (least end at : ℕ) (os : List ℕ) → least ≤ at → at < end → rise (at + 1) end os ≡ true → rise least end os ≡ true → rise least end (offset_of restart at ++ os) ≡ true
offset_rises true least end at os from below behind others = rise-one least end at os from below behind
offset_rises false least end at os from below behind others = others

pub offsets_rise : (interval least end at i : ℕ) (last : List ℕ) (rows : List Row) → least ≤ at → at + length (entries_from interval i last rows) ≡ end → rise least end (offsets_from interval at i last rows) ≡ true
offsets_rise interval least end at i last [] from ends = refl
offsets_rise interval least end at i last (r ∷ rs) from ends =
    let n = left_out (is_restart interval i) last r.key in
    let entry = entry_bytes n r in
    let some = entry-some n r in
    let len = length-append entry (entries_from interval (i + 1) r.key rs) in
    offset_rises (is_restart interval i) least end at (offsets_from interval (at + length entry) (i + 1) r.key rs) from (omega arith)
    (offsets_rise interval (at + 1) end (at + length entry) (i + 1) r.key rs (omega arith) (omega arith))
    (offsets_rise interval least end (at + length entry) (i + 1) r.key rs (omega arith) (omega arith))

are_offsets-some : (interval : ℕ) (rows : List Row) → 1 ≤ interval → 1 ≤ length rows → are_offsets (length (entries interval rows)) (offsets interval rows) ≡ true
are_offsets-some interval [] positive some = absurd (omega arith)
are_offsets-some interval (r ∷ rs) positive some =
    let end = length (entries interval (r ∷ rs)) in
    let entry = entry_bytes (left_out (is_restart interval 0) [] r.key) r in
    let others = offsets_from interval (0 + length entry) 1 r.key rs in
    let none : 0 % interval ≡ 0 = omega arith in
    let first : is_restart interval 0 ≡ true = eq-eqb (0 % interval) 0 none in
    let rises : rise 0 end (0 ∷ others) ≡ true = sym (ap (λ b. rise 0 end (offset_of b 0 ++ others)) first) ∙ offsets_rise interval 0 end 0 0 [] (r ∷ rs) (omega arith) (omega arith) in
    ap (λ b. are_offsets end (offset_of b 0 ++ others)) first ∙ rises

pub block_again : (interval : ℕ) (kind : BlockKind) (rows : List Row) → 1 ≤ interval → IsBlock interval kind rows → block_at interval kind (block_bytes interval rows) ≡ Ok rows
unfolding block_at
block_again interval kind rows positive h =
    let front = entries interval rows in
    let os = offsets interval rows in
    let part = restarts_again front os h.placed h.counted (are_offsets-some interval rows positive h.some) in
    let read : rows_at (length front) interval kind (length front) 0 None os front ≡ Ok rows = rows_again (length front) interval kind (length front) 0 0 None rows h.each h.short (omega arith) (omega arith) in
    let front_is : take (length front) (block_bytes interval rows) ≡ front = take-append_seam front (restart_bytes os) in
    ap (λ r. r >>= λ part. rows_at part.0 interval kind part.0 0 None part.1 (take part.0 (block_bytes interval rows))) part
    ∙ ap (rows_at (length front) interval kind (length front) 0 None os) front_is ∙ read
