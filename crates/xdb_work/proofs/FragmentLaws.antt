-- Fragments, written one after the other behind a table's points.
use Rattle.std.proofs.Common.{◌≡◌, ℕ, ◌+◌, ◌^◌, ◌<◌, true, List, [], ◌∷◌, ◌++◌, length, get_or, take, drop, map, None, sym, ap, ◌∙◌, subst, take-append-drop}
use Rattle.std.proofs.lemmas.List.{take_more, drop_more, map-append}
use Rattle.std.specs.List.{All}
use Rattle.xdb_key.specs.Entries.{Tombstone}
use Rattle.xdb_block.specs.Rows.{Row}
use Rattle.xdb_rangedel.specs.Pieces.{AreFragments}
use Rattle.xdb_table_w.proofs.FragmentRows.{in_order as fragments_in_order}
use Rattle.xdb_table_w.specs.Content.{Content, content, span_row, last_of, lies_behind}

pub fragment_behind : (fs : List Tombstone) (i : ℕ) (t : Tombstone) → i < length fs → t ≡ get_or fs i t → AreFragments fs → All (λ s. s.seq < 2 ^ 56) fs → lies_behind (last_of None (map span_row (take i fs))) (span_row t) ≡ true
fragment_behind fs i t inside e h small =
    let split : fs ≡ take i fs ++ t ∷ drop (i + 1) fs = sym (take-append-drop i fs) ∙ ap (λ r. take i fs ++ r) (drop_more fs i t inside ∙ ap (λ s. s ∷ drop (i + 1) fs) (sym e)) in
    fragments_in_order (take i fs) t (drop (i + 1) fs) (subst AreFragments split h) (subst (All (λ s. s.seq < 2 ^ 56)) split small)

pub fragment_written : (fs : List Tombstone) (i : ℕ) (t : Tombstone) (points : List Row) (old new : Content) → i < length fs → t ≡ get_or fs i t → old ≡ content points (map span_row (take i fs)) → new ≡ content old.points (old.spans ++ span_row t ∷ [])
    → new ≡ content points (map span_row (take (i + 1) fs))
fragment_written fs i t points old new inside e was made =
    made
    ∙ ap (λ c. content c.points (c.spans ++ span_row t ∷ [])) was
    ∙ ap (content points) (sym (ap (map span_row) (take_more fs i t inside ∙ ap (λ s. take i fs ++ s ∷ []) (sym e)) ∙ map-append span_row (take i fs) (t ∷ [])))
