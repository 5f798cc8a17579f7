-- A table file has one content.
use Rattle.std.proofs.Common.{◌≡◌, ℕ, ◌^◌, ◌<◌, List, length, Result, Ok, sym, ap, ◌∙◌}
use Rattle.xdb_table_w.specs.Content.{Content}
use Rattle.xdb_table_w.specs.Files.{parts, index, IsTable}
use Rattle.xdb_table_r.specs.Opening.{tombstones, Opened, opened}
use Rattle.xdb_table_r.specs.Points.{points_at}
use Rattle.xdb_table_r.proofs.FooterLaws.{opened_again, all_points_again}

abbrev done : {A : Type 0} → A → Result A ℕ
done x = Ok x

ok_is : {A : Type 0} (x y : A) → done x ≡ done y → x ≡ y
ok_is x y e = cc

opens_alike : (bytes : List ℕ) (c d : Content) (t : IsTable 16 bytes c) (u : IsTable 16 bytes d) → length bytes < 2 ^ 63
    → opened (tombstones c.spans) (index 16 t.blocks) (length (parts 16 t.blocks)) ≡ opened (tombstones d.spans) (index 16 u.blocks) (length (parts 16 u.blocks))
opens_alike bytes c d t u small = ok_is _ _ (sym (opened_again bytes c t small) ∙ opened_again bytes d u small)

pub one_points : (bytes : List ℕ) (c d : Content) → IsTable 16 bytes c → IsTable 16 bytes d → length bytes < 2 ^ 63 → c.points ≡ d.points
one_points bytes c d t u small =
    let same : index 16 t.blocks ≡ index 16 u.blocks = ap (λ (o : Opened). o.index) (opens_alike bytes c d t u small) in
    ok_is c.points d.points (sym (all_points_again bytes c t small) ∙ ap (λ rows. points_at rows bytes) same ∙ all_points_again bytes d u small)

pub one_spans : (bytes : List ℕ) (c d : Content) → IsTable 16 bytes c → IsTable 16 bytes d → length bytes < 2 ^ 63 → tombstones c.spans ≡ tombstones d.spans
one_spans bytes c d t u small = ap (λ (o : Opened). o.spans) (opens_alike bytes c d t u small)
