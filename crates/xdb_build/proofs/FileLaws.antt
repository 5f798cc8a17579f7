-- A table file that was written, read as its bytes: it has the content that was written.
use Rattle.std.proofs.Common.{◌≡◌, ℕ, ◌^◌, ◌<◌, List, length, map, All, Ok, ap, ◌∙◌, arith}
use Rattle.xdb_key.specs.Entries.{Point, Tombstone, IsPoint}
use Rattle.xdb_key.specs.Reading.{◌>>=◌}
use Rattle.xdb_merge.specs.Tables.{shown}
use Rattle.xdb_rangedel.specs.Content.{content_of}
use Rattle.xdb_table_w.specs.Content.{Content, content, point_row, span_row}
use Rattle.xdb_table_w.specs.Files.{IsTable}
use Rattle.xdb_table_r.proofs.FooterLaws.{opened_again, all_points_again}
use Rattle.xdb_table_r.specs.Contents.{content_in}
use Rattle.xdb_table_r.specs.Opening.{tombstones}
use Rattle.xdb_table_r.specs.Points.{points_at}
use Rattle.xdb_build.proofs.RowLaws.{points_back, spans_back}
use Rattle.xdb_build.specs.Outputs.{file_content}

read_again : (bytes : List ℕ) (c : Content) → IsTable 16 bytes c → length bytes < 2 ^ 63 → file_content bytes ≡ content_in c.points (tombstones c.spans)
read_again bytes c t small =
    ap (λ r. shown (r >>= λ o. points_at o.index bytes >>= λ rows. Ok (content_in rows o.spans))) (opened_again bytes c t small)
    ∙ ap (λ r. shown (r >>= λ rows. Ok (content_in rows (tombstones c.spans)))) (all_points_again bytes c t small)

pub content_again : (bytes : List ℕ) (ps : List Point) (ts : List Tombstone) → IsTable 16 bytes (content (map point_row ps) (map span_row ts)) → length bytes < 2 ^ 56 → All IsPoint ps → All (λ t. t.seq < 2 ^ 56) ts
    → file_content bytes ≡ content_of ps ts
content_again bytes ps ts t small points spans =
    read_again bytes (content (map point_row ps) (map span_row ts)) t (omega (arith, small))
    ∙ (λ i. content_of (points_back ps points i) (spans_back ts spans i))
