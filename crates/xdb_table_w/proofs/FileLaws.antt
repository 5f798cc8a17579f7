-- The file, part by part.
use Rattle.std.proofs.Common.{◌≡◌, ℕ, ◌+◌, List, [], ◌∷◌, ◌++◌, length, All, sym, ap, ◌∙◌, arith}
use Rattle.std.proofs.lemmas.List.{append-nil, length-append, map-append}
use Rattle.std.proofs.lemmas.Grind.{flat_map-append}
use Rattle.std.proofs.lemmas.List.Elements.{All-push}
use Rattle.xdb_block.specs.declared.kind.BlockKind.TheVariants.{Point}
use Rattle.xdb_block.specs.Kept.{Draft, draft, last_key}
use Rattle.xdb_block.specs.Rows.{Row, row}
use Rattle.xdb_block.specs.Spelling.{block_bytes, IsBlock}
use Rattle.xdb_table_w.specs.Files.{part, parts, part_of, place_of, len_of, handle, index, footer, table_bytes}
use Rattle.xdb_table_w.specs.Halves.{rows_in}
use Rattle.xdb_table_w.proofs.FollowLaws.{index_more}

rows_more : (blocks : List Draft) (d : Draft) → rows_in (blocks ++ d ∷ []) ≡ rows_in blocks ++ d.rows ∷ []
rows_more blocks d = map-append (λ (x : Draft). x.rows) blocks (d ∷ [])

pub parts_more : (blocks : List Draft) (d : Draft) → parts 16 (rows_in (blocks ++ d ∷ [])) ≡ parts 16 (rows_in blocks) ++ part 16 d.rows
parts_more blocks d =
    ap (parts 16) (rows_more blocks d) ∙ flat_map-append (part 16) (rows_in blocks) (d.rows ∷ []) ∙ ap (λ x. parts 16 (rows_in blocks) ++ x) (append-nil (part 16 d.rows))

pub listed_more : (blocks : List Draft) (d : Draft) → index 16 (rows_in (blocks ++ d ∷ [])) ≡ index 16 (rows_in blocks) ++ row (last_key [] d.rows) (handle (length (parts 16 (rows_in blocks))) (length (block_bytes 16 d.rows))) ∷ []
listed_more blocks d =
    let place : 0 + length (parts 16 (rows_in blocks)) ≡ length (parts 16 (rows_in blocks)) = omega arith in
    ap (index 16) (rows_more blocks d) ∙ index_more 16 0 (rows_in blocks) d.rows
    ∙ ap (λ n. index 16 (rows_in blocks) ++ row (last_key [] d.rows) (handle n (length (block_bytes 16 d.rows))) ∷ []) place

-- the file is made of what was put one behind the other
pub file_is : (blocks : List (List Row)) (spans rows : List Row) (out1 out2 out3 out4 : List ℕ) (spans_at spans_len index_at index_len : ℕ) → rows ≡ index 16 blocks → out1 ≡ parts 16 blocks → out2 ≡ out1 ++ part_of 16 spans → out3 ≡ out2 ++ part_of 16 rows
    → spans_at ≡ place_of (length out1) spans → spans_len ≡ len_of 16 spans → index_at ≡ place_of (length out2) rows → index_len ≡ len_of 16 rows → out4 ≡ out3 ++ footer spans_at spans_len index_at index_len → out4 ≡ table_bytes 16 blocks spans
file_is blocks spans rows out1 out2 out3 out4 spans_at spans_len index_at index_len rows_are is1 is2 is3 at1 len1 at2 len2 is4 =
    let second : out2 ≡ parts 16 blocks ++ part_of 16 spans = is2 ∙ ap (λ x. x ++ part_of 16 spans) is1 in
    let third : out3 ≡ (parts 16 blocks ++ part_of 16 spans) ++ part_of 16 (index 16 blocks) = is3 ∙ (λ i. second i ++ part_of 16 (rows_are i)) in
    let spans_place : spans_at ≡ place_of (length (parts 16 blocks)) spans = at1 ∙ ap (λ (x : List ℕ). place_of (length x) spans) is1 in
    let size : length out2 ≡ length (parts 16 blocks) + length (part_of 16 spans) = ap length second ∙ length-append (parts 16 blocks) (part_of 16 spans) in
    let index_place : index_at ≡ place_of (length (parts 16 blocks) + length (part_of 16 spans)) (index 16 blocks) = at2 ∙ (λ i. place_of (size i) (rows_are i)) in
    is4 ∙ (λ i. third i ++ footer (spans_place i) (len1 i) (index_place i) ((len2 ∙ ap (len_of 16) rows_are) i))

-- ---- point block after point block

pub record Put (blocks : List Draft) (out : List ℕ) (listed : Draft) : Type 0 where
  pub put : out ≡ parts 16 (rows_in blocks)
  pub listed_is : listed ≡ draft 16 (index 16 (rows_in blocks))
  pub each : All (λ d. IsBlock 16 Point d.rows) blocks

pub put_more : (blocks : List Draft) (d : Draft) (out out' : List ℕ) (listed listed' : Draft) → Put blocks out listed → IsBlock 16 Point d.rows → out' ≡ out ++ part 16 d.rows
    → listed' ≡ draft listed.interval (listed.rows ++ row (last_key [] d.rows) (handle (length out) (length (block_bytes 16 d.rows))) ∷ []) → Put (blocks ++ d ∷ []) out' listed'
put_more blocks d out out' listed listed' k block out_is listed_is = record {
  put = out_is ∙ ap (λ x. x ++ part 16 d.rows) k.put ∙ sym (parts_more blocks d);
  listed_is = listed_is ∙ (λ i. draft (k.listed_is i).interval ((k.listed_is i).rows ++ row (last_key [] d.rows) (handle (length (k.put i)) (length (block_bytes 16 d.rows))) ∷ [])) ∙ ap (draft 16) (sym (listed_more blocks d));
  each = All-push (λ (x : Draft). IsBlock 16 Point x.rows) blocks d k.each block;
}
