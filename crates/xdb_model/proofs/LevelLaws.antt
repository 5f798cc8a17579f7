-- Seven levels, each in its order.
use Rattle.std.proofs.Common.{◌≡◌, ℕ, List, [], ◌∷◌, length, Option, Some, None, refl, ap, ◌∙◌, suc, IsTrue}
use Rattle.xdb_edit.specs.Changes.{Changes}
use Rattle.xdb_edit.specs.Versions.{LevelLists, edited_from, are_sorted}
use Rattle.xdb_plain.specs.Changes.{after}
use Rattle.xdb_plain.specs.Holds.{version_after}
use Rattle.xdb_plain.specs.Legal.{after_all}
use Rattle.xdb_plain.specs.State.{Plain, opening}
use Rattle.xdb_plain.specs.declared.note.Note.{Note}
use Rattle.xdb_model.specs.Numbered.{LevelsFit}
use Rattle.xdb_edit.proofs.VersionLaws.{sorted_kept}

pub as-many : (level : ℕ) (e : Changes) (levels : LevelLists) → length (edited_from level e levels) ≡ length levels
as-many level e [] = refl
as-many level e (ts ∷ rest) = ap suc (as-many (suc level) e rest)

levels-by : (p : Plain) (edit : Option Changes) → LevelsFit p → (length (version_after p.current edit).levels ≡ 7) × IsTrue (are_sorted (version_after p.current edit).levels)
levels-by p None fit = (fit.seven, fit.sorted)
levels-by p (Some e) fit = (as-many 0 e p.current.levels ∙ fit.seven, sorted_kept p.current.levels e fit.sorted)

levels-all : (p : Plain) (notes : List Note) → LevelsFit p → LevelsFit (after_all p notes)
levels-all p [] fit = fit
levels-all p (note ∷ notes) fit =
    let next = levels-by p note.edit fit in
    levels-all (after p note) notes (record { seven = next.0; sorted = next.1 })

pub levels-fit : (first_seq first_file : ℕ) (notes : List Note) → LevelsFit (after_all (opening first_seq first_file) notes)
levels-fit first_seq first_file notes = levels-all (opening first_seq first_file) notes (record { seven = refl; sorted = refl })
