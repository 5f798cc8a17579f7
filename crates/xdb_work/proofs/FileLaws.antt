-- A table file has bytes: its footer at least.
use Rattle.std.proofs.Common.{ℕ, ◌+◌, ◌≤◌, List, ◌++◌, length, sym, subst, arith}
use Rattle.std.proofs.lemmas.List.{length-append}
use Rattle.xdb_block.specs.Rows.{Row}
use Rattle.xdb_table_w.specs.Content.{Content}
use Rattle.xdb_table_w.specs.Files.{parts, part_of, index, footer, place_of, len_of, table_bytes, IsTable}

footer_some : (a b c d : ℕ) → 1 ≤ length (footer a b c d)
footer_some a b c d = omega arith

bytes_some : (blocks : List (List Row)) (spans : List Row) → 1 ≤ length (table_bytes 16 blocks spans)
bytes_some blocks spans =
    let at = length (parts 16 blocks) in
    let index_at = at + length (part_of 16 spans) in
    let rows = index 16 blocks in
    let end = footer (place_of at spans) (len_of 16 spans) (place_of index_at rows) (len_of 16 rows) in
    last_part (parts 16 blocks) (part_of 16 spans) (part_of 16 rows) end (footer_some (place_of at spans) (len_of 16 spans) (place_of index_at rows) (len_of 16 rows))
  where
    last_part : (a b c end : List ℕ) → 1 ≤ length end → 1 ≤ length (a ++ b ++ c ++ end)
    last_part a b c end some = omega (arith, length-append (a ++ b ++ c) end)

pub file_some : (bytes : List ℕ) (c : Content) → IsTable 16 bytes c → 1 ≤ length bytes
file_some bytes c t = subst (λ bs. 1 ≤ length bs) (sym t.spelled) (bytes_some t.blocks c.spans)
