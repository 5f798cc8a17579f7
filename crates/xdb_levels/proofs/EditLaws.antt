-- The levels that an edit names, and what holds of the levels after it.
use Rattle.std.proofs.Common.{◌≡◌, ◌≤◌, ℕ, true, ◌&&◌, List, [], ◌∷◌, ◌++◌, map, length, replicate, None, ltb, refl, sym, ap, ◌∙◌}
use Rattle.std.specs.List.{list_all}
use Rattle.std.proofs.lemmas.Bool.{and_parts, and_from}
use Rattle.std.proofs.lemmas.List.{length-replicate}
use Rattle.std.proofs.lemmas.List.Folds.{list_all-append}
use Rattle.xdb_meta.specs.Table.{Table}
use Rattle.xdb_edit.specs.Changes.{Changes}
use Rattle.xdb_edit.specs.Records.{IsEdit, fits}
use Rattle.xdb_edit.specs.declared.record.Record.TheVariants.{Removed, NewBacking, Added}
use Rattle.xdb_edit.specs.Versions.{LevelLists, edited, overlap, are_sorted, has_range, have_ranges}
use Rattle.xdb_edit.proofs.VersionLaws.{sorted_kept, ranges_kept, disjoint_where_apart}
use Rattle.xdb_levels.specs.Levels.{IsLevels}
use Rattle.xdb_levels.specs.Applying.{names_below}
use Rattle.xdb_levels.proofs.LevelLaws.{length-edited, empty_sorted, empty_ranges, empty_disjoint}

removed_below : (rs : List (ℕ × ℕ)) → list_all fits (map (λ p. Removed p.0 p.1) rs) ≡ true → list_all (λ r. ltb r.0 7) rs ≡ true
removed_below [] h = refl
removed_below (r ∷ rs) h =
    let parts = and_parts (fits (Removed r.0 r.1)) (list_all fits (map (λ p. Removed p.0 p.1) rs)) h in
    and_from _ _ (and_parts (ltb r.0 7) _ parts.0).0 (removed_below rs parts.1)

added_below : (adds : List (ℕ × Table)) → list_all fits (map (λ p. Added p.0 p.1) adds) ≡ true → list_all (λ a. ltb a.0 7) adds ≡ true
added_below [] h = refl
added_below (a ∷ adds) h =
    let parts = and_parts (fits (Added a.0 a.1)) (list_all fits (map (λ p. Added p.0 p.1) adds)) h in
    and_from _ _ parts.0 (added_below adds parts.1)

pub edit_names_below : (e : Changes) → IsEdit e → names_below 7 e ≡ true
edit_names_below e is =
    let removed = map (λ p. Removed p.0 p.1) e.removed in
    let backings = map NewBacking e.new_backings in
    let added = map (λ p. Added p.0 p.1) e.added in
    let all : (list_all fits (removed ++ backings) && list_all fits added) ≡ true = sym (list_all-append fits (removed ++ backings) added) ∙ is.ranges in
    let parts = and_parts (list_all fits (removed ++ backings)) (list_all fits added) all in
    let front : (list_all fits removed && list_all fits backings) ≡ true = sym (list_all-append fits removed backings) ∙ parts.0 in
    and_from _ _ (removed_below e.removed (and_parts (list_all fits removed) (list_all fits backings) front).0) (added_below e.added parts.1)

-- ---- what holds of levels

pub empty_levels : (n : ℕ) → 1 ≤ n → n ≤ 16 → IsLevels n (replicate n [])
empty_levels n some few = record {
  some = some;
  few = few;
  count = length-replicate n [];
  ranges = empty_ranges n;
  sorted = empty_sorted 0 n;
  disjoint = empty_disjoint n;
}

pub edited_levels : (n : ℕ) (levels : LevelLists) (e : Changes) (made : LevelLists) → IsLevels n levels → list_all (λ a. has_range a.1) e.added ≡ true → made ≡ edited levels e → None ≡ overlap made → IsLevels n made
edited_levels n levels e made is ranges same apart =
    let range = ap have_ranges same ∙ ranges_kept levels e ranges is.ranges in
    let sorted = ap are_sorted same ∙ sorted_kept levels e is.sorted in
    record {
      some = is.some;
      few = is.few;
      count = ap length same ∙ length-edited 0 e levels ∙ is.count;
      ranges = range;
      sorted = sorted;
      disjoint = disjoint_where_apart made sorted range (sym apart);
    }
