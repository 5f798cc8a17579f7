-- The small span is taken out of the small content, part by part.
use Rattle.std.proofs.Common.{rules, ◌≡◌, ℕ, List, [], ◌∷◌, ◌++◌, Some, true, inl, refl}
use Rattle.xdb_key.specs.Bounds.{holds}
use Rattle.xdb_rangedel.specs.Layers.{IsSilentAt}
use Rattle.xdb_laws.specs.Excises.{Excised, KeepsTo, keys_before, keys_behind, AreHalfBounds}
use Rattle.xdb_laws.specs.Small.{letters}
use Rattle.xdb_laws.specs.SmallLoad.{small_span, small_file, small_shown, small_left, small_right, left_half, right_half, small_groups, small_mem, small_other, small_before, small_rest}
use Rattle.xdb_laws.proofs.ExciseLaws.{excised-joined, excised-silent, excised-beside, excised-halves, keeps-view}
use Rattle.xdb_laws.proofs.TouchLaws.{silent-untouched}

pub is_left : AreHalfBounds small_file (keys_before small_shown small_span) 0 (Some small_left)
is_left = search rules

pub is_right : AreHalfBounds small_file (keys_behind small_shown small_span) 0 (Some small_right)
is_right = search rules

pub silent : (k : List ℕ) → holds small_span k ≡ true → IsSilentAt k small_mem
silent k held = silent-untouched (small_span ∷ []) small_groups small_span k refl (inl refl) held

pub keeps : KeepsTo (letters 107 108) small_other
keeps = keeps-view small_other (letters 107 108) 0

pub halves : Excised (Some small_span) small_file (left_half ++ right_half)
halves = excised-halves small_file small_shown small_span 0 (Some small_left) (Some small_right) refl is_left is_right

pub excised : Excised (Some small_span) small_before small_rest
excised =
    excised-joined (Some small_span) small_mem small_mem (small_file ++ small_other) ((left_half ++ right_half) ++ small_other)
    (excised-silent (Some small_span) small_mem silent)
    (excised-joined (Some small_span) small_file (left_half ++ right_half) small_other small_other halves (excised-beside small_span (letters 107 108) small_other keeps refl))
