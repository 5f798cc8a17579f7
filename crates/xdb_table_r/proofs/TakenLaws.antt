-- Blocks, handles and footers that are read are those that were spelled.
use Rattle.std.proofs.Common.{◌≡◌, ℕ, zero, suc, ◌+◌, ◌-◌, ◌^◌, ◌<◌, ◌≤◌, Bool, true, false, ◌&&◌, cond, eqb, ltb, List, [], ◌∷◌, ◌++◌, length, take, drop, get_or, Some, None, Result, Ok, Err, refl, sym, ap, ◌∙◌, subst, arith}
use Rattle.std.specs.List.{AllByRecursion, slice_range}
use Rattle.std.specs.Int.{w64, w32, from_le_bytes}
use Rattle.std.proofs.lemmas.Bool.{and_parts, eqb-true, ltb-false, false≢true}
use Rattle.std.proofs.lemmas.List.{append-nil, length-drop, length-take-le, take-append-drop, drop-drop, nil_from_length}
use Rattle.std.proofs.lemmas.Nat.{le_bytes_4, le_bytes_8}
use Rattle.std.proofs.Math.Seq.{take-append_seam}
use Rattle.byteorder.specs.Endian.{little_bytes, little_number}
use Rattle.byteorder.specs.Numbers.{little_from-take, little_from-lt}
use Rattle.xdb_key.proofs.ReadingLaws.{bind_ok, guard_ok, AreBytes-tail, AreBytes-drop}
use Rattle.xdb_key.proofs.VarintLaws.{varint_at-takes}
use Rattle.xdb_key.specs.Reading.{◌>>=◌, AreBytes}
use Rattle.xdb_key.specs.Varint.{varint, varint_at}
use Rattle.xdb_key.specs.declared.error.VarintNo.{VarintNo}
use Rattle.xdb_block.proofs.BlockLaws.{block_takes}
use Rattle.xdb_block.proofs.OffsetLaws.{AreBytes-take}
use Rattle.xdb_block.specs.declared.kind.BlockKind.{BlockKind}
use Rattle.xdb_block.specs.declared.kind.BlockNo.{BlockNo}
use Rattle.xdb_block.specs.Reading.{block_at}
use Rattle.xdb_block.specs.Rows.{Row, row, is_handle, is_whole}
use Rattle.xdb_block.specs.Spelling.{is_restart, left_out, entry_bytes, entries_from, entries, offsets, restart_bytes, block_bytes, IsBlock}
use Rattle.xdb_table_w.specs.Files.{part as part_bytes, handle as handle_bytes, name, ending, footer}
use Rattle.xdb_table_r.specs.declared.part.Part.{Part}
use Rattle.xdb_table_r.specs.declared.part.Layout.{Layout}
use Rattle.xdb_table_r.specs.Parts.{part, behind, in_block, part_at, handle}
use Rattle.xdb_table_r.specs.Opening.{is_laid, number_at, parts_at, is_ending, layout_at, laid_out, footer_at}
use Rattle.xdb_table_r.proofs.AgainLaws.{handle_reads}
use Rattle.xdb_table_r.proofs.RowLaws.{same-tells}

-- ---- bytes

front_fits : (xs ys : List ℕ) → AreBytes (xs ++ ys) → AreBytes xs
front_fits xs ys fits = subst AreBytes (take-append_seam xs ys) (AreBytes-take (length xs) (xs ++ ys) fits)

rest_fits : (xs ys : List ℕ) → AreBytes (xs ++ ys) → AreBytes ys
rest_fits [] ys fits = fits
rest_fits (x ∷ xs) ys fits = rest_fits xs ys (AreBytes-tail x (xs ++ ys) fits)

entry_fits : (n : ℕ) (r : Row) → AreBytes (entry_bytes n r) → AreBytes r.value
entry_fits n r fits = rest_fits (((varint n ++ varint (length r.key - n)) ++ varint (length r.value)) ++ drop n r.key) r.value fits

values_fit : (i : ℕ) (last : List ℕ) (rows : List Row) → AreBytes (entries_from 16 i last rows) → AllByRecursion (λ r. AreBytes r.value) rows
values_fit i last [] fits = tt
values_fit i last (r ∷ rs) fits =
    let n = left_out (is_restart 16 i) last r.key in
    let rest = entries_from 16 (i + 1) r.key rs in
    (entry_fits n r (front_fits (entry_bytes n r) rest fits), values_fit (i + 1) r.key rs (rest_fits (entry_bytes n r) rest fits))

-- ---- a block at its place

pub record TakesPart (kind : BlockKind) (p : Part) (file : List ℕ) (rows : List Row) : Type 0 where
  pub block : IsBlock 16 kind rows
  pub len : p.len ≡ length (block_bytes 16 rows)
  pub spelled : slice_range file p.at (behind p) ≡ part_bytes 16 rows
  pub values : AllByRecursion (λ r. AreBytes r.value) rows

in_block_ok : {A : Type 0} {x : A} (at : ℕ) (r : Result A BlockNo) → in_block at r ≡ Ok x → r ≡ Ok x
in_block_ok at (Ok y) e = cc
in_block_ok at (Err b) e = absurd cc

chosen_ok : {A : Type 0} {x : A} (b : Bool) (r : Result A ℕ) (at : ℕ) → cond b r (Err at) ≡ Ok x → (b ≡ true) × (r ≡ Ok x)
chosen_ok true r at e = (refl, e)
chosen_ok false r at e = absurd cc

typed : (bytes : List ℕ) (n : ℕ) → length bytes ≤ n + 1 → get_or bytes n 1 ≡ 0 → (length (take n bytes) ≡ n) × (bytes ≡ take n bytes ++ 0 ∷ [])
typed [] n short is_zero = absurd (omega arith)
typed (b ∷ bs) zero short is_zero = (refl, λ i. is_zero i ∷ nil_from_length bs (omega arith) i)
typed (b ∷ bs) (suc n) short is_zero =
    let rest = typed bs n (omega arith) is_zero in
    (ap suc rest.0, ap (λ xs. b ∷ xs) rest.1)

range_fits : (file : List ℕ) (from to : ℕ) → AreBytes file → AreBytes (slice_range file from to)
range_fits file from to fits = AreBytes-take (to - from) (drop from file) (AreBytes-drop from file fits)

short_range : (bytes : List ℕ) (n : ℕ) → length (take n bytes) ≤ n
short_range [] zero = omega arith
short_range [] (suc n) = omega arith
short_range (x ∷ xs) zero = omega arith
short_range (x ∷ xs) (suc n) = let rest = short_range xs n in omega arith

pub part_takes : (kind : BlockKind) (p : Part) (file : List ℕ) (rows : List Row) → AreBytes file → part_at kind p file ≡ Ok rows → TakesPart kind p file rows
part_takes kind p file rows fits e =
    let bytes = slice_range file p.at (behind p) in
    let front = take p.len bytes in
    let c = chosen_ok (eqb (get_or bytes p.len 1) 0) (in_block p.at (block_at 16 kind front)) p.at e in
    let few = short_range (drop p.at file) (behind p - p.at) in
    let t = typed bytes p.len (omega arith) (eqb-true (get_or bytes p.len 1) 0 c.0) in
    let whole = range_fits file p.at (behind p) fits in
    let front_bytes = AreBytes-take p.len bytes whole in
    let read = block_takes 16 kind front rows front_bytes (in_block_ok p.at (block_at 16 kind front) c.1) in
    record {
      block = read.within;
      len = sym t.0 ∙ ap length read.is;
      spelled = t.1 ∙ ap (λ xs. xs ++ 0 ∷ []) read.is;
      values = values_fit 0 [] rows (front_fits (entries 16 rows) (restart_bytes (offsets 16 rows)) (subst AreBytes read.is front_bytes));
    }

-- ---- handles

whole_ok : {A : Type 0} (r : Result (A × List ℕ) VarintNo) → is_whole r ≡ true → (x : A × List ℕ) × (r ≡ Ok x) × (x.1 ≡ [])
whole_ok (Ok x) h = (x, refl, nil_from_length x.1 (eqb-true (length x.1) 0 h))
whole_ok (Err e) h = absurd (false≢true h)

-- the value of an index row is where its point block lies
pub handle_takes : (i : Row) → AreBytes i.value → is_handle i.value ≡ true → i.value ≡ handle_bytes (handle i).at (handle i).len
handle_takes i fits h =
    let w = whole_ok (varint_at i.value >>= λ offset. varint_at offset.1) h in
    let b = bind_ok (varint_at i.value) (λ offset. varint_at offset.1) w.1 in
    let first = varint_at-takes i.value b.0.1 b.0.0 fits b.1 in
    let second = varint_at-takes b.0.1 w.0.1 w.0.0 (rest_fits (varint b.0.0) b.0.1 (subst AreBytes first.1 fits)) b.2 in
    let value : i.value ≡ handle_bytes b.0.0 w.0.0 = first.1 ∙ ap (λ x. varint b.0.0 ++ x) (second.1 ∙ ap (λ x. varint w.0.0 ++ x) w.2 ∙ append-nil (varint w.0.0)) in
    let place : handle i ≡ part b.0.0 w.0.0 = (λ j. handle (row i.key (value j))) ∙ handle_reads i.key b.0.0 w.0.0 first.0 second.0 in
    value ∙ (λ j. handle_bytes (sym place j).at (sym place j).len)

-- ---- the footer

same_8 : (bytes : List ℕ) → little_number 8 bytes ≡ from_le_bytes w64 bytes
same_8 bytes = omega arith

same_4 : (bytes : List ℕ) → little_number 4 bytes ≡ from_le_bytes w32 bytes
same_4 bytes = omega arith

takes_8 : (bytes : List ℕ) → 8 ≤ length bytes → AreBytes bytes → little_bytes 8 (little_number 8 bytes) ≡ take 8 bytes
takes_8 bytes long fits =
    le_bytes_8 (take 8 bytes) (little_number 8 bytes) (length-take-le 8 bytes long) (AreBytes-take 8 bytes fits)
    (sym (little_from-take 0 8 8 bytes (omega arith)) ∙ same_8 (take 8 bytes))

takes_4 : (bytes : List ℕ) → 4 ≤ length bytes → AreBytes bytes → little_bytes 4 (little_number 4 bytes) ≡ take 4 bytes
takes_4 bytes long fits =
    le_bytes_4 (take 4 bytes) (little_number 4 bytes) (length-take-le 4 bytes long) (AreBytes-take 4 bytes fits)
    (sym (little_from-take 0 4 4 bytes (omega arith)) ∙ same_4 (take 4 bytes))

field_8 : (f : List ℕ) (k : ℕ) → AreBytes f → k + 8 ≤ length f → drop k f ≡ little_bytes 8 (number_at 8 k f) ++ drop (k + 8) f
unfolding number_at
field_8 f k fits there =
    let rest = drop k f in
    let taken = sym (takes_8 rest (omega (arith, length-drop k f)) (AreBytes-drop k f fits)) in
    sym (take-append-drop 8 rest) ∙ (λ i. taken i ++ drop-drop 8 k f i)

field_4 : (f : List ℕ) (k : ℕ) → AreBytes f → k + 4 ≤ length f → drop k f ≡ little_bytes 4 (number_at 4 k f) ++ drop (k + 4) f
unfolding number_at
field_4 f k fits there =
    let rest = drop k f in
    let taken = sym (takes_4 rest (omega (arith, length-drop k f)) (AreBytes-drop k f fits)) in
    sym (take-append-drop 4 rest) ∙ (λ i. taken i ++ drop-drop 4 k f i)

small_4 : (f : List ℕ) (k : ℕ) → AreBytes f → number_at 4 k f < 2 ^ 32
unfolding number_at
small_4 f k fits = little_from-lt 0 4 (drop k f) (AreBytes-drop k f fits)

footer_spelled : (f : List ℕ) → AreBytes f → length f ≡ 40 → number_at 8 24 f ≡ 1 → drop 32 f ≡ name → f ≡ footer (number_at 8 0 f) (number_at 4 8 f) (number_at 8 12 f) (number_at 4 20 f)
footer_spelled f fits size format named =
    let a = little_bytes 8 (number_at 8 0 f) in
    let b = little_bytes 4 (number_at 4 8 f) in
    let c = little_bytes 8 (number_at 8 12 f) in
    let d = little_bytes 4 (number_at 4 20 f) in
    let end : drop 24 f ≡ ending 1 = field_8 f 24 fits (omega arith) ∙ (λ i. little_bytes 8 (format i) ++ named i) in
    field_8 f 0 fits (omega arith)
    ∙ ap (λ x. a ++ x) (field_4 f 8 fits (omega arith) ∙ ap (λ x. b ++ x) (field_8 f 12 fits (omega arith) ∙ ap (λ x. c ++ x) (field_4 f 20 fits (omega arith) ∙ ap (λ x. d ++ x) end)))

pub record TakesFooter (file : List ℕ) (l : Layout) : Type 0 where
  pub long : 40 ≤ length file
  pub spelled : drop (length file - 40) file ≡ footer l.spans.at l.spans.len l.index.at l.index.len
  pub laid : is_laid (length file - 40) l ≡ true
  pub spans : l.spans.len < 2 ^ 32
  pub index : l.index.len < 2 ^ 32

laid_ok : (end : ℕ) (b : Bool) (l m : Layout) → laid_out end (cond b (Some l) None) ≡ Ok m → (b ≡ true) × (l ≡ m)
laid_ok end true l m e = (refl, cc)
laid_ok end false l m e = absurd cc

pub footer_takes : (file : List ℕ) (l : Layout) → AreBytes file → footer_at file ≡ Ok l → TakesFooter file l
unfolding footer_at
footer_takes file l fits e =
    let end = length file - 40 in
    let f = drop end file in
    let g = guard_ok (ltb (length file) 40) 0 (laid_out end (layout_at end f)) e in
    let long : 40 ≤ length file = ltb-false (length file) 40 g.0 in
    let h = laid_ok end (is_ending f && is_laid end (parts_at f)) (parts_at f) l g.1 in
    let tests = and_parts _ _ h.0 in
    let last = and_parts _ _ tests.0 in
    let bytes = AreBytes-drop end file fits in
    let spelled = footer_spelled f bytes (length-drop end file ∙ omega arith) (eqb-true _ 1 last.0) (same-tells _ _ last.1) in
    subst (TakesFooter file) h.1 (record { long = long; spelled = spelled; laid = tests.1; spans = small_4 f 8 bytes; index = small_4 f 20 bytes })
