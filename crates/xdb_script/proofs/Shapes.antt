-- The shapes of operations, of words behind references.
use Rattle.std.proofs.Common.{◌≡◌, ℕ, ◌≤◌, ◌<◌, Bool, true, false, cond, ◌&&◌, leb, List, length, map, Ok, Err, refl, sym, ap, ◌∙◌}
use Rattle.std.proofs.lemmas.Simd.{map-map}
use Rattle.std.proofs.lemmas.Bool.{le-leb, lt-leb}
use Rattle.std.proofs.lemmas.List.{length-map}
use Rattle.std.proofs.lemmas.List.Folds.{list_all-map}
use Rattle.std.specs.Borrow.{Bor}
use Rattle.std.specs.List.{list_all, slice_split}
use Rattle.xdb_script.proofs.Each.{split-texts}
use Rattle.xdb_script.specs.Answers.{texts}
use Rattle.xdb_script.specs.Reading.{is_op_shape, is_semicolon, ops_shape}
use Rattle.xdb_script.specs.declared.error.Why.TheVariants as why

-- the parts as lists of words
abbrev pub part_texts : List (Bor (List (Bor (List ℕ)))) → List (List (List ℕ))
part_texts parts = map (λ part. texts part.now) parts

parts-are : (words : List (Bor (List ℕ))) (parts : List (Bor (List (Bor (List ℕ))))) → map (λ part. part.now) parts ≡ slice_split (λ word. is_semicolon word.now) words → slice_split is_semicolon (texts words) ≡ part_texts parts
parts-are words parts h = sym (split-texts is_semicolon words) ∙ ap (map texts) (sym h) ∙ map-map texts (λ part. part.now) parts

shape-by : (words : List (Bor (List ℕ))) (parts : List (Bor (List (Bor (List ℕ))))) (t u : Bool) → map (λ part. part.now) parts ≡ slice_split (λ word. is_semicolon word.now) words → list_all (λ part. is_op_shape (texts part.now)) parts ≡ t → leb (length parts) 4096 ≡ u → ops_shape (texts words) ≡ cond (t && u) (Ok (part_texts parts)) (Err why.Shape)
shape-by words parts t u h shaped few =
    let shapes : list_all is_op_shape (part_texts parts) ≡ t = list_all-map is_op_shape (λ part. texts part.now) parts ∙ shaped in
    let count : leb (length (part_texts parts)) 4096 ≡ u = ap (λ n. leb n 4096) (length-map parts (λ part. texts part.now)) ∙ few in
    ap (λ ps. cond (list_all is_op_shape ps && leb (length ps) 4096) (Ok ps) (Err why.Shape)) (parts-are words parts h)
    ∙ (λ i. cond (shapes i && count i) (Ok (part_texts parts)) (Err why.Shape))

pub shape-so : (words : List (Bor (List ℕ))) (parts : List (Bor (List (Bor (List ℕ))))) → map (λ part. part.now) parts ≡ slice_split (λ word. is_semicolon word.now) words → list_all (λ part. is_op_shape (texts part.now)) parts ≡ true → length parts ≤ 4096 → ops_shape (texts words) ≡ Ok (part_texts parts)
shape-so words parts h shaped few = shape-by words parts true true h shaped (le-leb (length parts) 4096 few)

pub shape-not : (words : List (Bor (List ℕ))) (parts : List (Bor (List (Bor (List ℕ))))) → map (λ part. part.now) parts ≡ slice_split (λ word. is_semicolon word.now) words → list_all (λ part. is_op_shape (texts part.now)) parts ≡ false → ops_shape (texts words) ≡ Err why.Shape
shape-not words parts h shaped = shape-by words parts false (leb (length parts) 4096) h shaped refl

pub shape-many : (words : List (Bor (List ℕ))) (parts : List (Bor (List (Bor (List ℕ))))) → map (λ part. part.now) parts ≡ slice_split (λ word. is_semicolon word.now) words → list_all (λ part. is_op_shape (texts part.now)) parts ≡ true → 4096 < length parts → ops_shape (texts words) ≡ Err why.Shape
shape-many words parts h shaped many = shape-by words parts true false h shaped (lt-leb (length parts) 4096 many)
