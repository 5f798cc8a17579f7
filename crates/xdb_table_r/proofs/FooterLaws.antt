-- What a spelled table file opens as.
use Rattle.std.proofs.Common.{◌≡◌, ℕ, ◌+◌, ◌-◌, ◌^◌, ◌<◌, ◌≤◌, Bool, true, false, not, ◌&&◌, cond, eqb, List, [], ◌∷◌, ◌++◌, length, drop, Some, None, Ok, Err, refl, sym, ap, ◌∙◌, subst, arith, append_assoc}
use Rattle.std.specs.List.{slice_range}
use Rattle.std.proofs.lemmas.Bool.{and_from, eq-eqb}
use Rattle.std.proofs.lemmas.List.{length-append, drop_at}
use Rattle.byteorder.specs.Endian.{little_bytes, little_number}
use Rattle.byteorder.specs.Numbers.{little_number-reads_back, length-bytes_low_first}
use Rattle.std.specs.Cmp.{tied_itself}
use Rattle.std.specs.Ordering.{is_eq}
use Rattle.xdb_key.proofs.OrderLaws.{key_total}
use Rattle.xdb_key.specs.Order.{key_cmp}
use Rattle.xdb_key.specs.Reading.{◌>>=◌}
use Rattle.xdb_block.specs.declared.kind.BlockKind.{BlockKind}
use Rattle.xdb_block.specs.declared.kind.BlockKind.TheVariants as kinds
use Rattle.xdb_block.specs.Rows.{Row, Follow}
use Rattle.xdb_block.specs.Spelling.{block_bytes, IsBlock}
use Rattle.xdb_table_w.specs.Content.{Content}
use Rattle.xdb_table_w.specs.Files.{joined, part as part_bytes, part_of, place_of, len_of, parts, index, name, ending, footer, IsTable}
use Rattle.xdb_table_r.specs.declared.part.Layout.{Layout}
use Rattle.xdb_table_r.specs.declared.part.Part.{Part}
use Rattle.xdb_table_r.specs.Parts.{part, behind, rows_at, follow_on}
use Rattle.xdb_table_r.specs.Opening.{layout, points_end, is_laid, number_at, parts_at, is_ending, layout_at, footer_at, tiled, index_at, tombstones, spans_at, opened, opened_at}
use Rattle.xdb_table_r.specs.Points.{points_at}
use Rattle.xdb_table_r.proofs.AgainLaws.{range_mid, part_reads, some_bytes, length-part, tiles, points_again}
use Rattle.xdb_table_w.proofs.FollowLaws.{length-index}
use Rattle.xdb_table_r.proofs.Lists.{range_to_end}
use Rattle.xdb_table_r.proofs.OpeningLaws.{not_zero, footer_is, rows_none, rows_some, opened_spans}

-- ---- the fields of a footer

front_reads : (n x : ℕ) (rest : List ℕ) → x < 256 ^ n → number_at n 0 (little_bytes n x ++ rest) ≡ x
unfolding number_at
front_reads n x rest small = little_number-reads_back n x rest small

later_reads : (n x at : ℕ) (pre rest : List ℕ) → length pre ≡ at → x < 256 ^ n → number_at n at (pre ++ (little_bytes n x ++ rest)) ≡ x
unfolding number_at
later_reads n x at pre rest starts small = ap (little_number n) (drop_at pre (little_bytes n x ++ rest) at (omega arith)) ∙ little_number-reads_back n x rest small

pub length-footer : (a b c d : ℕ) → length (footer a b c d) ≡ 40
length-footer a b c d =
    let e = little_bytes 8 1 in
    omega (
      arith,
      length-append (little_bytes 8 a) (little_bytes 4 b ++ (little_bytes 8 c ++ (little_bytes 4 d ++ ending 1))),
      length-append (little_bytes 4 b) (little_bytes 8 c ++ (little_bytes 4 d ++ ending 1)),
      length-append (little_bytes 8 c) (little_bytes 4 d ++ ending 1),
      length-append (little_bytes 4 d) (ending 1),
      length-append e name,
      length-bytes_low_first 0 8 a,
      length-bytes_low_first 0 4 b,
      length-bytes_low_first 0 8 c,
      length-bytes_low_first 0 4 d,
      length-bytes_low_first 0 8 1,
    )

module _ (a b c d : ℕ) (sa : a < 2 ^ 64) (sb : b < 2 ^ 32) (sc : c < 2 ^ 64) (sd : d < 2 ^ 32) where
  abbrev A : List ℕ
  A = little_bytes 8 a

  abbrev B : List ℕ
  B = little_bytes 4 b

  abbrev C : List ℕ
  C = little_bytes 8 c

  abbrev D : List ℕ
  D = little_bytes 4 d

  la : length A ≡ 8
  la = length-bytes_low_first 0 8 a

  lab : length (A ++ B) ≡ 12
  lab = omega (arith, length-append A B, length-bytes_low_first 0 8 a, length-bytes_low_first 0 4 b)

  labc : length ((A ++ B) ++ C) ≡ 20
  labc = omega (arith, length-append (A ++ B) C, lab, length-bytes_low_first 0 8 c)

  labcd : length (((A ++ B) ++ C) ++ D) ≡ 24
  labcd = omega (arith, length-append ((A ++ B) ++ C) D, labc, length-bytes_low_first 0 4 d)

  ab : footer a b c d ≡ (A ++ B) ++ (C ++ (D ++ ending 1))
  ab = sym (append_assoc A B (C ++ (D ++ ending 1)))

  abc : footer a b c d ≡ ((A ++ B) ++ C) ++ (D ++ ending 1)
  abc = ab ∙ sym (append_assoc (A ++ B) C (D ++ ending 1))

  abcd : footer a b c d ≡ (((A ++ B) ++ C) ++ D) ++ ending 1
  abcd = abc ∙ sym (append_assoc ((A ++ B) ++ C) D (ending 1))

  format_at : number_at 8 24 (footer a b c d) ≡ 1
  format_at = ap (number_at 8 24) abcd ∙ later_reads 8 1 24 (((A ++ B) ++ C) ++ D) name labcd (omega arith)

  name_at : drop 32 (footer a b c d) ≡ name
  name_at =
      ap (drop 32) (abcd ∙ sym (append_assoc (((A ++ B) ++ C) ++ D) (little_bytes 8 1) name))
      ∙ drop_at ((((A ++ B) ++ C) ++ D) ++ little_bytes 8 1) name 32 (omega (arith, length-append (((A ++ B) ++ C) ++ D) (little_bytes 8 1), labcd, length-bytes_low_first 0 8 1))

  ending_is : is_ending (footer a b c d) ≡ true
  ending_is = and_from _ _ (eq-eqb _ 1 format_at) (ap (λ x. is_eq (key_cmp x name)) name_at ∙ ap is_eq (tied_itself key_total name))

  fields : parts_at (footer a b c d) ≡ layout (part a b) (part c d)
  fields =
      let fa = front_reads 8 a (B ++ (C ++ (D ++ ending 1))) (omega arith) in
      let fb = later_reads 4 b 8 A (C ++ (D ++ ending 1)) la (omega arith) in
      let fc = ap (number_at 8 12) ab ∙ later_reads 8 c 12 (A ++ B) (D ++ ending 1) lab (omega arith) in
      let fd = ap (number_at 4 20) abc ∙ later_reads 4 d 20 ((A ++ B) ++ C) (ending 1) labc (omega arith) in
      λ i. layout (part (fa i) (fb i)) (part (fc i) (fd i))

  pub footer_reads : (end : ℕ) → is_laid end (layout (part a b) (part c d)) ≡ true → layout_at end (footer a b c d) ≡ Some (layout (part a b) (part c d))
  footer_reads end laid =
      ap (λ l. cond (is_ending (footer a b c d) && is_laid end l) (Some l) None) fields
      ∙ ap (λ t. cond t (Some (layout (part a b) (part c d))) None) (and_from _ _ ending_is laid)

-- ---- the layout of a table file

abbrev lay : ℕ → List Row → List Row → Layout
lay p spans rows = layout (part (place_of p spans) (len_of 16 spans)) (part (place_of (p + length (part_of 16 spans)) rows) (len_of 16 rows))

some_len : (r : Row) (rs : List Row) → eqb (len_of 16 (r ∷ rs)) 0 ≡ false
some_len r rs = not_zero (len_of 16 (r ∷ rs)) (let some = some_bytes (r ∷ rs) in omega arith)

end_is : (p : ℕ) (spans rows : List Row) → 1 ≤ length rows + length spans → (rows ≡ [] → p ≡ 0) → points_end (lay p spans rows) ≡ p
end_is p [] [] some none = absurd (omega arith)
end_is p [] (x ∷ xs) some none = omega arith
end_is p (r ∷ rs) rows some none = ap (λ t. cond t (place_of (p + length (part_of 16 (r ∷ rs))) rows) p) (some_len r rs)

laid_is : (p end : ℕ) (spans rows : List Row) → 1 ≤ length rows + length spans → (rows ≡ [] → p ≡ 0) → p + length (part_of 16 spans) + length (part_of 16 rows) ≡ end → is_laid end (lay p spans rows) ≡ true
laid_is p end [] [] some none is = absurd (omega arith)
laid_is p end (r ∷ rs) [] some none is =
    let size = length-part (r ∷ rs) in
    and_from _ _ (and_from _ _ (ap not (some_len r rs)) (eq-eqb p 0 (none refl))) (eq-eqb _ end (omega arith))
laid_is p end [] (x ∷ xs) some none is =
    let size = length-part (x ∷ xs) in
    let l = lay p [] (x ∷ xs) in
    ap (λ t. cond t (eqb l.index.at 0 && not (eqb l.spans.len 0) && eqb l.spans.at 0 && eqb (behind l.spans) end) (eqb (behind l.index) end && cond (eqb l.spans.len 0) (eqb l.spans.at 0) (eqb (behind l.spans) l.index.at))) (some_len x xs)
    ∙ and_from _ _ (eq-eqb (behind l.index) end (omega arith)) refl
laid_is p end (r ∷ rs) (x ∷ xs) some none is =
    let size = length-part (x ∷ xs) in
    let first = length-part (r ∷ rs) in
    let l = lay p (r ∷ rs) (x ∷ xs) in
    ap (λ t. cond t (eqb l.index.at 0 && not (eqb l.spans.len 0) && eqb l.spans.at 0 && eqb (behind l.spans) end) (eqb (behind l.index) end && cond (eqb l.spans.len 0) (eqb l.spans.at 0) (eqb (behind l.spans) l.index.at))) (some_len x xs)
    ∙ and_from _ _ (eq-eqb (behind l.index) end (omega arith)) (ap (λ t. cond t (eqb l.spans.at 0) (eqb (behind l.spans) l.index.at)) (some_len r rs) ∙ eq-eqb (behind l.spans) l.index.at (omega arith))

-- ---- blocks

rows_again : (kind : BlockKind) (rows : List Row) (pre post file : List ℕ) (at : ℕ) → file ≡ pre ++ (part_of 16 rows ++ post) → length pre ≡ at → (1 ≤ length rows → IsBlock 16 kind rows) → rows_at kind (part (place_of at rows) (len_of 16 rows)) file ≡ Ok rows
rows_again kind [] pre post file at is starts h = rows_none kind (part 0 0) file refl
rows_again kind (r ∷ rs) pre post file at is starts h =
    let len = length (block_bytes 16 (r ∷ rs)) in
    let size = length-part (r ∷ rs) in
    let some = some_bytes (r ∷ rs) in
    let range : slice_range file at (behind (part at len)) ≡ part_bytes 16 (r ∷ rs) = ap (λ y. slice_range y at (at + len + 1)) is ∙ range_mid pre (part_bytes 16 (r ∷ rs)) post at (at + len + 1) starts (omega arith) in
    rows_some kind (part at len) file (omega arith) ∙ part_reads kind (r ∷ rs) file at (h (omega arith)) range

index_by : (l : Layout) (file : List ℕ) (rows : List Row) → rows_at kinds.Index l.index file ≡ Ok rows → follow_on 0 (points_end l) rows ≡ true → index_at l file ≡ Ok rows
unfolding index_at
index_by l file rows e f = ap (λ r. r >>= tiled l.index.at (points_end l)) e ∙ ap (λ t. cond t (Ok rows) (Err l.index.at)) f

spans_by : (p : Part) (file : List ℕ) (rows : List Row) → rows_at kinds.Spans p file ≡ Ok rows → spans_at p file ≡ Ok (tombstones rows)
unfolding spans_at
spans_by p file rows e = ap (λ r. r >>= λ rs. Ok (tombstones rs)) e

-- ---- the whole file

rows_there : (blocks : List (List Row)) (points : List Row) (n : ℕ) → joined blocks ≡ points → 1 ≤ length points + n → 1 ≤ length (index 16 blocks) + n
rows_there [] points n is some = let none = ap length is in omega arith
rows_there (b ∷ bs) points n is some = omega arith

no_blocks : (blocks : List (List Row)) → index 16 blocks ≡ [] → length (parts 16 blocks) ≡ 0
no_blocks [] e = refl
no_blocks (b ∷ bs) e = absurd (cc)

place_small : (p : ℕ) (rows : List Row) → place_of p rows ≤ p
place_small p [] = omega arith
place_small p (r ∷ rs) = omega arith

pub opened_again : (bytes : List ℕ) (c : Content) (t : IsTable 16 bytes c) → length bytes < 2 ^ 63 → opened_at bytes ≡ Ok (opened (tombstones c.spans) (index 16 t.blocks) (length (parts 16 t.blocks)))
opened_again bytes c t small =
    let blocks = t.blocks in
    let front = parts 16 blocks in
    let middle = part_of 16 c.spans in
    let rows = index 16 blocks in
    let back = part_of 16 rows in
    let p = length front in
    let foot = footer (place_of p c.spans) (len_of 16 c.spans) (place_of (p + length middle) rows) (len_of 16 rows) in
    let l = lay p c.spans rows in
    let some = rows_there blocks c.points (length c.spans) t.is_joined t.some in
    let none = no_blocks blocks in
    let before_foot : bytes ≡ ((front ++ middle) ++ back) ++ foot = t.spelled in
    let behind_spans : bytes ≡ (front ++ middle) ++ (back ++ foot) = before_foot ∙ append_assoc (front ++ middle) back foot in
    let behind_points : bytes ≡ front ++ (middle ++ (back ++ foot)) = behind_spans ∙ append_assoc front middle (back ++ foot) in
    let two = length-append front middle in
    let three = length-append (front ++ middle) back in
    let forty = length-footer (place_of p c.spans) (len_of 16 c.spans) (place_of (p + length middle) rows) (len_of 16 rows) in
    let size = ap length before_foot ∙ length-append ((front ++ middle) ++ back) foot in
    let end = length bytes - 40 in
    let end_at : p + length middle + length back ≡ end = omega arith in
    let range : foot ≡ slice_range bytes end (length bytes) = sym (range_to_end bytes end (length bytes) refl ∙ ap (drop end) before_foot ∙ drop_at ((front ++ middle) ++ back) foot end (omega arith)) in
    let first = place_small p c.spans in
    let second = place_small (p + length middle) rows in
    let laid = laid_is p end c.spans rows some none end_at in
    let read = footer_reads (place_of p c.spans) (len_of 16 c.spans) (place_of (p + length middle) rows) (len_of 16 rows) (omega arith) t.spans_len (omega arith) t.index_len end laid in
    let is_footer : footer_at bytes ≡ Ok l = footer_is bytes foot (length bytes) (Some l) refl (omega arith) range read in
    let count = length-index 16 0 blocks in
    let index_rows = rows_again kinds.Index rows (front ++ middle) foot bytes (p + length middle) behind_spans two (λ n. t.index_block (omega arith)) in
    let is_end = end_is p c.spans rows some none in
    let follow : follow_on 0 (points_end l) rows ≡ true = ap (λ n. follow_on 0 n rows) is_end ∙ tiles 0 p blocks (omega arith) (omega arith) in
    let span_rows = rows_again kinds.Spans c.spans front (back ++ foot) bytes p behind_points refl t.spans in
    opened_spans bytes l rows (Ok (tombstones c.spans)) is_footer (index_by l bytes rows index_rows follow) (spans_by l.spans bytes c.spans span_rows) ∙ ap (λ n. Ok (opened (tombstones c.spans) rows n)) is_end

pub all_points_again : (bytes : List ℕ) (c : Content) (t : IsTable 16 bytes c) → length bytes < 2 ^ 63 → points_at (index 16 t.blocks) bytes ≡ Ok c.points
all_points_again bytes c t small =
    let blocks = t.blocks in
    let front = parts 16 blocks in
    let middle = part_of 16 c.spans in
    let back = part_of 16 (index 16 blocks) in
    let foot = footer (place_of (length front) c.spans) (len_of 16 c.spans) (place_of (length front + length middle) (index 16 blocks)) (len_of 16 (index 16 blocks)) in
    let first : bytes ≡ ((front ++ middle) ++ back) ++ foot = t.spelled in
    let split : bytes ≡ front ++ (middle ++ (back ++ foot)) = first ∙ append_assoc (front ++ middle) back foot ∙ append_assoc front middle (back ++ foot) in
    let size = ap length split ∙ length-append front (middle ++ (back ++ foot)) in
    points_again bytes [] (middle ++ (back ++ foot)) 0 None None blocks split refl t.points t.cut (subst (Follow kinds.Point None) (sym t.is_joined) t.order) tt (omega arith) ∙ ap Ok t.is_joined
